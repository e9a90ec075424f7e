-- The check by its stages: what each test says of the whole description. Assumes nothing.
use mathlib.Core.Path.{◌≡◌, sym, ◌∙◌, ap}
use mathlib.Core.Bool.{Bool, true, false}
use mathlib.Core.List.{List}
use Prim.Native.Nat.{ℕ, ◌+◌, ◌*◌, ◌-◌, ◌^◌, ◌≤◌, ◌<◌}
use native.Mathlib.Omega.{arith}
use lib.ListN.{length, get_or}
use Rattle.base.specs.Never.{never}
use Rattle.base.specs.Number.{be_at}
use Rattle.base.specs.ReadingRows.{cells}
use Rattle.written.specs.HeaderBytes.{longest_header}
use Rattle.zen.specs.Zen.{named}
use Rattle.header.specs.Places.{export_in}
use Rattle.header.specs.Places.{text_count, exports_place, export_count, hashes_place, hash_count, imported_place, imported_count, form_end}
use Rattle.header.specs.Parts.{strings_from, sized_texts, exports_in}
use Rattle.header.specs.Parts.{parts_of, Says, Begun, Tabled, Listed, Small, regions_of}
use Rattle.header.specs.PartsLaws.{sized-all, sized-none, strings_bound, place_bound}
use Rattle.header.specs.RegionLaws.{starts}
use Rattle.std.specs.Prelude.{Some, None}
use Rattle.std.specs.Bool.{then_some}
use Rattle.header.specs.declared.check.Extent.{Extent}
use Rattle.header.specs.declared.check.Parts.{Parts}
use Rattle.header.specs.declared.check.Regions.{Regions}

-- ---- the texts

module _ (s : List ℕ) (front : 17 ≤ length s) (n : ℕ) (n-is : n ≡ be_at 4 s 13) where
  count-is : n ≡ text_count s
  count-is = n-is

  pub texts-bad : sized_texts 0 0 s 17 n ≡ None → Says s None
  texts-bad e w = sized-none 0 s 17 n e (rw count-is w.texts)

  pub texts-begun : n < 2 ^ 32 → be_at 4 s 0 + 4 ≡ length s → get_or s 4 0 ≡ 1 → {t : Extent} → sized_texts 0 0 s 17 n ≡ Some t → Begun s t.next t.size
  unfolding exports_place
  texts-begun few said version e =
      let (f, p, q) = sized-all 0 s 17 n e in
      record {
        front = front;
        said = said;
        version = version;
        texts = rw (← count-is) f;
        end_is = rw (← count-is) p;
        strings-is = rw (← count-is) q;
        within = rw p (place_bound 0 s 17 n front f);
        few = rw (← count-is) few;
      }

-- ---- exports and hashes

module _ (s : List ℕ) (at strings : ℕ) (b : Begun s at strings) (n : ℕ) (n-is : n ≡ be_at 4 s at) where
  exports_end : at + (40 * n + 4) ≡ hashes_place s
  unfolding hashes_place
  exports_end = rw (n-is, b.end_is) (omega arith)

  pub exports-short : 4 ≤ length s - at → length s - at < 40 * n + 4 + 4 → Says s None
  exports-short h g w = omega (arith, exports_end, w.hashes, b.within)

  module _ (h : 40 * n + 4 + 4 ≤ length s - at) (m : ℕ) (m-is : m ≡ be_at 4 s (at + (40 * n + 4))) where
    hashes_end : at + (40 * n + 4) + (8 * m + 4) ≡ imported_place s
    unfolding imported_place
    hashes_end = rw (m-is, exports_end) (omega arith)

    pub hashes-short : length s - (at + (40 * n + 4)) < 8 * m + 4 + 4 → Says s None
    hashes-short g w = omega (arith, hashes_end, w.imported, b.within)

    pub tabled : 8 * m + 4 + 4 ≤ length s - (at + (40 * n + 4))
        → Tabled s at strings (at + (40 * n + 4)) (at + (40 * n + 4) + (8 * m + 4))
    tabled g = record { begun = b; hashes-are = exports_end; stop_is = hashes_end; low = omega arith; mid = omega arith; imported = omega (arith, b.within) }

-- ---- imported names

module _ (s : List ℕ) (at strings hashes stop : ℕ) (t : Tabled s at strings hashes stop) (n : ℕ) (n-is : n ≡ be_at 4 s stop) where
  names-are : n ≡ imported_count s
  names-are = rw (← t.stop_is) n-is

  pub names-bad : sized_texts 0 4 s (stop + 4) n ≡ None → Says s None
  names-bad e w = sized-none 4 s (stop + 4) n e (rw (names-are, t.stop_is) w.names)

  module _ {x : Extent} (e : sized_texts 0 4 s (stop + 4) n ≡ Some x) where
    last-is : x.next ≡ form_end s
    unfolding form_end
    last-is = rw (names-are, t.stop_is) at (sized-all 4 s (stop + 4) n e).1

    pub names-left : (x.next ≡ length s → ⊥) → Says s None
    names-left ne w = ne (last-is ∙ w.whole)

    module _ (whole : x.next ≡ length s) (few : n < 2 ^ 32) (texts entries keys : ℕ) (texts-are : texts ≡ be_at 4 s 13)
        (entries-are : entries ≡ be_at 4 s at) (keys-are : keys ≡ be_at 4 s hashes) (few-entries : entries < 2 ^ 32) (few-keys : keys < 2 ^ 32) where
      abbrev made : Parts
      made = record {
        texts = texts;
        strings = strings;
        exports = at + 4;
        entries = entries;
        hashes = hashes + 4;
        keys = keys;
        imported = stop + 4;
        names = n;
        spelt = x.size;
      }

      entries-is : entries ≡ export_count s
      entries-is = rw (← t.begun.end_is) entries-are

      keys-is : keys ≡ hash_count s
      keys-is = rw (← t.hashes-are) keys-are

      texts-is : texts ≡ text_count s
      texts-is = texts-are

      size_is : x.size ≡ strings_from 4 s (imported_place s + 4) (imported_count s)
      size_is = rw (names-are, t.stop_is) at (sized-all 4 s (stop + 4) n e).2

      made-is : made ≡ parts_of s
      unfolding parts_of
      made-is = rw (texts-is, t.begun.strings-is, t.begun.end_is, entries-is, t.hashes-are, keys-is, t.stop_is, names-are, size_is)

      pub listed : Listed s made
      listed = record {
        parts = made-is;
        front = t.begun.front;
        said = t.begun.said;
        version = t.begun.version;
        texts = t.begun.texts;
        imported = rw (← t.stop_is) t.imported;
        names = rw (names-are, t.stop_is) at (sized-all 4 s (stop + 4) n e).0;
        whole = sym last-is ∙ whole;
        few = t.begun.few;
        few-exports = rw (← entries-is) few-entries;
        few-hashes = rw (← keys-is) few-keys;
        few-imported = rw (← names-are) few;
      }

-- ---- the whole

module _ (s : List ℕ) (p : Parts) (l : Listed s p) where
  texts-are : p.texts ≡ text_count s
  unfolding parts_of
  texts-are = ap (λ (p : Parts). p.texts) l.parts

  exports-are : cells (export_in s) 40 p.exports p.entries ≡ exports_in s
  unfolding parts_of
  exports-are = ap (λ (p : Parts). cells (export_in s) 40 p.exports p.entries) l.parts

  pub exports-room : p.exports + 40 * p.entries ≤ length s
  unfolding parts_of hashes_place imported_place
  exports-room = rw l.parts (omega (arith, l.imported))

  pub name_out : (x : ℕ) → x ≡ be_at 4 s 5 → p.texts ≤ x → Says s None
  name_out x e h w = omega (arith, w.name, texts-are)

  pub small : Small p
  unfolding parts_of
  small = rw l.parts (record {
    texts = l.few;
    strings = strings_bound 0 s 17 (text_count s) l.texts;
    exports = l.few-exports;
    hashes = l.few-hashes;
    imported = l.few-imported;
    spelt = strings_bound 4 s (imported_place s + 4) (imported_count s) l.names;
  })

  module _ (g : Regions) (g-is : g ≡ regions_of p) where
    pub size-out : longest_header < g.size → Says s None
    size-out h w = omega (arith, w.size, (starts s).size, ap (λ (g : Regions). g.size) (g-is ∙ ap regions_of l.parts))

    -- the last test
    pub said-whole : g.size ≤ longest_header → (x : ℕ) → x ≡ be_at 4 s 5 → x < p.texts
        → (b : Bool) → b ≡ named p.texts (cells (export_in s) 40 p.exports p.entries) → Says s (then_some b p)
    unfolding parts_of hashes_place imported_place
    said-whole h x e n true f = (
      l.parts,
      record {
        front = l.front;
        said = l.said;
        version = l.version;
        texts = l.texts;
        exports = omega (arith, l.imported);
        hashes = omega (arith, l.imported);
        imported = l.imported;
        names = l.names;
        whole = l.whole;
        name = omega (arith, texts-are);
        named-all = rw (exports-are, texts-are) at (sym f);
        size = omega (arith, (starts s).size, ap (λ (g : Regions). g.size) (g-is ∙ ap regions_of l.parts));
      },
    )
    said-whole h x e n false f = λ w.
        let g : named p.texts (cells (export_in s) 40 p.exports p.entries) ≡ true = rw (exports-are, texts-are) w.named-all in
        never (cc)
