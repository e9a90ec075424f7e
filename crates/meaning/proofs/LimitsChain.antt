-- Within limits of which neither is smaller (document 02, Q-5), where the class table holds all classes that it held and no key twice: the class of
-- a key, each chain, a reference's class and its native class stay.
use Rattle.std.specs.Prelude.{◌≡◌, ℕ}
use Rattle.std.proofs.Math.Path.{refl}
use mathlib.Core.List.{List, Memᴰ}
use Rattle.std.proofs.Math.Option.{Option, none, some}
use Rattle.std.proofs.Common.{le_trans}
use Rattle.base.specs.FindLaws.{none-some, find-some}
use Rattle.scriptblock.specs.Script.{Objects}
use Rattle.scriptblock.specs.ScriptGood.{Good}
use Rattle.meaning.specs.Key.{Key, same_key}
use Rattle.meaning.specs.KeyLaws.{same_key→eq}
use Rattle.meaning.specs.Path.{Path, path_of}
use Rattle.meaning.specs.Reference.{Ref, script, import, export, null, bad}
use Rattle.meaning.specs.Scan.{Class}
use Rattle.meaning.specs.Resolve.{Limits, look, native_of, found_or, path_text, class_text, resolve}
use Rattle.meaning.specs.Chain.{Chain, empty, listed, NativeKnown}
use Rattle.meaning.specs.OwnChain.{OneEach}
use Rattle.meaning.proofs.OwnChain.{look-member}
use Rattle.meaning.proofs.Native.{native-known}
use Rattle.meaning.proofs.LimitsTable.{path_stays}
pub use Rattle.meaning.specs.LimitsChain.{NoSmaller}

module _ (t₁ t₂ : List Class) (held : (c : Class) → Memᴰ c t₁ → Memᴰ c t₂) where
  -- a chain is one
  pub chain_stays : {r last : Ref} {cs : List Class} → Chain t₁ r cs last → Chain t₂ r cs last
  chain_stays empty = empty
  chain_stays (listed {c = c} m means ch) = listed (held c m) means (chain_stays ch)

  module _ (one₂ : OneEach t₂) where
    -- the class that has a key has it
    pub look_stays : (k : Key) (c : Class) → look t₁ k ≡ some c → look t₂ k ≡ some c
    look_stays k c e =
        let (m, same) = find-some (λ d. same_key d.key k) t₁ c e in
        rw (← same_key→eq c.key k same) (look-member t₂ one₂ c (held c m))

    found_stays : (kind : ℕ) (k : Key) (t : List ℕ) → (found_or kind (class_text (look t₁ k))).class ≡ some t
        → found_or kind (class_text (look t₂ k)) ≡ found_or kind (class_text (look t₁ k))
    found_stays kind k t = go (look t₁ k) (look_stays k)
      where
        go : (x : Option Class) → ((c : Class) → x ≡ some c → look t₂ k ≡ some c) → (found_or kind (class_text x)).class ≡ some t
            → found_or kind (class_text (look t₂ k)) ≡ found_or kind (class_text x)
        go none stays e = none-some e
        go (some c) stays e = rw (stays c refl)

    module _ (m₁ m₂ : Limits) (more : NoSmaller m₁ m₂) (o : Objects) (good : Good o) where
      -- what is found is found, with the same text and kind
      pub resolve_stays : (r : Ref) (t : List ℕ) → (resolve m₁ (look t₁) o r).class ≡ some t → resolve m₂ (look t₂) o r ≡ resolve m₁ (look t₁) o r
      unfolding resolve
      resolve_stays (script g) t e = go (path_of m₁.objects o g) (path_stays o good more.objects g) e
        where
          go : (x : Option Path) → ((p : Path) → x ≡ some p → path_of m₂.objects o g ≡ some p) → (found_or 0 (path_text x)).class ≡ some t
              → found_or 0 (path_text (path_of m₂.objects o g)) ≡ found_or 0 (path_text x)
          go none stays e = none-some e
          go (some p) stays e = rw (stays p refl)
      resolve_stays (import k name hash) t e = found_stays 2 k t e
      resolve_stays (export k name) t e = found_stays 4 k t e
      resolve_stays null t e = refl
      resolve_stays (bad text) t e = refl

      module _ (r : Ref) where
        native-known_stays : NativeKnown m₁ t₁ o r → NativeKnown m₂ t₂ o r
        native-known_stays k = record {
          classes = k.classes;
          index = k.index;
          objects = k.objects;
          chain = chain_stays k.chain;
          lookups = le_trans k.lookups more.lookups;
          outers = k.outers;
          few = le_trans k.few more.objects;
        }

        -- a native class that is known is known, with the same path
        pub native_stays : (p : Path) → native_of m₁ (look t₁) o r ≡ some p → native_of m₂ (look t₂) o r ≡ some p
        unfolding native-known_stays
        native_stays p e =
            let one₁ : OneEach t₁ = λ c d m n. one₂ c d (held c m) (held d n) in
            let (k, is) = (native-known m₁ t₁ o one₁ good r p).0 e in
            (native-known m₂ t₂ o one₂ good r p).1 (native-known_stays k, is)
