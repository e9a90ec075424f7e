-- `verify` computed (document 02, Q-2): paths whose hash is their object's index, one whose isn't, and one that is unknown; packages whose id is
-- that of their name, and others. The hashes were computed by a program apart from these definitions. Assumes nothing.
use Rattle.std.specs.Prelude.{refl}
use Rattle.base.specs.Output.{over}
use Rattle.meaning.specs.Call.{buffer_after}
use Rattle.meaning.specs.Bytes.{part_bytes, packages_bytes, corpus_rest, corpus_bytes}
use Rattle.meaning.specs.Computed.{asked}
use Rattle.meaning.specs.Verify.{path_hash, counts_of, package_flag, output_with, output_of, output_fits, verify_answer, verified}
pub use Rattle.meaning.specs.VerifyExamples.{VerifyExamples, accent_index, actor_index, empty_index, engine, engine_index, gone_index, named, packed, part_index, six, twice}

pub verify_examples : VerifyExamples
unfolding asked corpus_bytes corpus_rest packages_bytes part_bytes buffer_after over path_hash counts_of package_flag output_with output_of output_fits verify_answer verified
verify_examples = record {
  separators = refl;
  as_slashes = refl;
  counts-and-flags = refl;
  buffer-short = refl;
  least-output = refl;
  least-refused = refl;
  version_2 = refl;
  no_block = refl;
  key_twice = refl;
}
