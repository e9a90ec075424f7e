-- An accepted package as layer 3 reads it: what was read of its block, and where its parts are. Assumes nothing.
use Rattle.std.specs.Prelude.{◌≡◌, List, [], ℕ, length}
use Rattle.base.specs.Reading.{Out, refused, gives, run_block}
use Rattle.batch.specs.declared.names.Names.{Names}
use Rattle.zen.specs.Answers.{export_count, hash_count}
use Rattle.zen.specs.Zen.{Read, package_block}
use Rattle.zen.specs.declared.summary.Summary.{Summary}
use Rattle.zen.specs.declared.zen.Layout.{Layout}
use Rattle.meaning.specs.Reference.{Package}
use Rattle.packages.specs.declared.package.Parts.{Parts}

-- nothing read: what stands for a block that is refused
abbrev no_names : Names
no_names = record { count = 0; headers = 0; strings = 0; «end» = 0 }

abbrev no_summary : Summary
no_summary = record { index = 0; number = 0; hashes = 0; imports = 0; exports = 0; bundles = 0; headers = 0; entries = 0; imported = 0 }

abbrev no_read : Read
no_read = record {
  layout = record { size = 0; summary = no_summary; names = no_names; imported = no_names };
  names = [];
  hashes = [];
  exports = [];
  imported = [];
  numbers = [];
}

abbrev read_of : Out Read → Read
read_of (refused e) = no_read
read_of (gives r) = r

-- what was read of a block that is accepted
unfoldable pub read_in : List ℕ → Read
read_in b = read_of (run_block package_block b)

-- and as a package, with its id in the corpus
abbrev pub package_in : ℕ → List ℕ → Package
package_in id b = record { id = id; read = read_in b }

-- where its parts are, from what was read, and from its layout
unfoldable pub parts_of : Read → Parts
parts_of r = record {
  exports = r.layout.summary.exports;
  count = length r.exports;
  hashes = r.layout.summary.hashes;
  publics = length r.hashes;
  names = r.layout.names;
  imported = r.layout.imported;
}

unfoldable pub parts_at : Layout → Parts
parts_at l = record {
  exports = l.summary.exports;
  count = export_count l;
  hashes = l.summary.hashes;
  publics = hash_count l;
  names = l.names;
  imported = l.imported;
}

-- block b is accepted, and p are its parts: the premise of all that looks into a package
pub record PackageIn (b : List ℕ) (p : Parts) : Type 0 where
  pub is : run_block package_block b ≡ gives (read_in b)
  pub parts : p ≡ parts_of (read_in b)
