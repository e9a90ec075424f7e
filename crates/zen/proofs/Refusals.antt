-- Which questions a block can fail (document 01, "Questions in order"): a script block one of 3 to 13, a package one of 3 to 22. Assumes nothing.
use Rattle.std.specs.Prelude.{◌≡◌, List, [], ◌∷◌, ℕ, zero, suc, ◌+◌, ◌*◌, ◌-◌, ◌/◌, ◌%◌, ◌≤◌, leb, ltb, eqb}
use Rattle.std.proofs.Common.{lit≤}
use Rattle.std.specs.Int.Signed.{non_neg}
use Rattle.base.specs.Index.{kind}
use Rattle.text.specs.Name.{decoded, base}
use Rattle.base.specs.Number.{le}
use Rattle.base.specs.Reading.{refused, run, run_block}
use Rattle.base.specs.ReadingRefusals.{Within, within, Asks, none, after, bits, past, rest, spot, asks-run, asks-block, asks-question, asks-choose, asks-more}
use Rattle.base.specs.ReadingRefusals.{asks-last, asks-number, asks_bind, asks-rows}
use Rattle.base.specs.Signed.{twos}
use Rattle.text.specs.Utf16.{is_well}
use Rattle.batch.specs.Batch.{head, strings_on, strings, no_names, body, some_names, batch}
use Rattle.batch.specs.declared.names.Head.{Head}
use Rattle.scriptblock.specs.Script.{entry, fresh, entries_on, entries, opening, script}
use Rattle.scriptblock.specs.declared.script.Entry.{Entry}
use Rattle.zen.specs.Zen.{offset, summary, ordered, bulk, export, named, tables, imports, content, header, lead, package_block}
use Rattle.zen.specs.declared.summary.Summary.{Summary}

-- ---- a name batch: 3 to 7

strings-ask : (done : List (List ℕ)) (hs : List Head) (room : ℕ) → Asks 3 7 (strings_on done hs room)
strings-ask done [] room = asks-question (eqb room 0) 7 tt none
strings-ask done (h ∷ hs) room =
    asks-question (leb h.size room) 5 tt
    (after λ t. asks-question (is_well (decoded h.wide t)) 6 tt (strings-ask (base h.wide t ∷ done) hs (room - h.size)))

body-asks : (n room : ℕ) → Asks 3 7 (body n room)
unfolding body head strings
body-asks n room =
    past (spot λ h. asks_bind _ (asks-rows (after λ l. none) n) λ hs. spot λ p. rest λ l.
    asks-question (leb room l) 3 tt (asks_bind _ (strings-ask [] hs room) λ ts. spot λ e. none))

batch-asks : Asks 3 7 batch
unfolding batch no_names some_names
batch-asks =
    after λ n. asks-choose (eqb (le n) 0) (spot λ p. none)
    (after λ l. after λ v. asks-question (eqb (le v) 0xC1640000) 4 tt (body-asks (le n) (le l)))

batch-within : (last : ℕ) → 7 ≤ last → Asks 3 last batch
batch-within last h = asks-more h batch-asks

-- ---- a script block: 3 to 13

entry-asks : Asks 3 13 entry
unfolding entry
entry-asks = after λ a. bits λ b. after λ c. after λ d. after λ e. past none

entries-ask : (done : List Entry) (names n : ℕ) → Asks 3 13 (entries_on done names n)
entries-ask done names zero = none
entries-ask done names (suc n) =
    asks_bind _ entry-asks λ e. asks-question (ltb e.index names) 10 tt
    (asks-question (eqb (kind e.global) 1) 11 tt (asks-question (fresh e.global done) 12 tt (entries-ask (e ∷ done) names n)))

opening-asks : Asks 3 13 opening
unfolding opening
opening-asks =
    asks_bind _ (batch-within 13 (lit≤ tt)) λ b. after λ n.
    asks-question (non_neg (twos 32 (le n))) 8 tt (rest λ l. asks-question (leb (32 * le n) l) 9 tt (spot λ p. none))

script-asks : Asks 3 13 script
unfolding script entries
script-asks =
    asks_bind _ opening-asks λ o. asks_bind _ (entries-ask [] o.layout.names.count o.layout.count) λ es. rest λ l.
    asks-question (eqb l 0) 13 tt none

-- ---- a package: 3 to 22

offset-asks : Asks 3 22 offset
unfolding offset
offset-asks = after λ l. asks-question (non_neg (twos 32 (le l))) 16 tt none

summary-asks : Asks 3 22 summary
unfolding summary
summary-asks = after λ a. bits λ b. after λ c. past (past (asks_bind _ (asks-rows offset-asks 7) λ os. none))

bulk-asks : (stop : ℕ) → Asks 3 22 (bulk stop)
unfolding bulk
bulk-asks stop = after λ l. asks-question (non_neg (twos 64 (le l))) 18 tt (past (spot λ p. asks-last (eqb p stop) 19 tt))

export-asks : Asks 3 22 export
unfolding export
export-asks = past (after λ a. bits λ b. after λ c. after λ d. after λ e. after λ f. past (after λ g. past none))

tables-ask : (m : Summary) (n : ℕ) → Asks 3 22 (tables m n)
unfolding tables
tables-ask m n =
    asks-question (eqb ((m.imports - m.hashes) % 8) 0) 20 tt
    (asks_bind _ (asks-rows (asks-number 8) ((m.imports - m.hashes) / 8)) λ hs.
    asks-question (eqb ((m.exports - m.imports) % 8) 0) 20 tt
    (past (asks-question (eqb ((m.bundles - m.exports) % 72) 0) 21 tt
    (asks_bind _ (asks-rows export-asks ((m.bundles - m.exports) / 72)) λ es. asks-question (named n es) 10 tt (past none)))))

imports-ask : (index count : ℕ) → Asks 3 22 (imports index count)
unfolding imports
imports-ask index count =
    asks_bind _ (batch-within 22 (lit≤ tt)) λ is. asks_bind _ (asks-rows (asks-number 4) is.place.count) λ ks. rest λ l.
    asks-question (eqb l 0) 22 tt
    (asks-question (ltb index count) 10 tt none)

content-asks : (size : ℕ) (m : Summary) → Asks 3 22 (content size m)
unfolding content
content-asks size m =
    asks_bind _ (batch-within 22 (lit≤ tt)) λ ns. asks_bind _ (bulk-asks m.hashes) λ u.
    asks_bind _ (tables-ask m ns.place.count) λ t. asks_bind _ (imports-ask m.index ns.place.count) λ is. none

header-asks : (size : ℕ) → Asks 3 22 (header size)
unfolding header
header-asks size = asks_bind _ summary-asks λ m. asks-question (ordered m size) 17 tt (content-asks size m)

lead-asks : Asks 3 22 lead
unfolding lead
lead-asks =
    after λ f. asks-question (eqb (le f) 0) 14 tt (after λ z. rest λ l. asks-question (leb (le z) (8 + l)) 15 tt none)

-- ---- THE REFUSALS

pub script-refusal : (s : List ℕ) (q : ℕ) → run script 0 s ≡ refused q → Within 3 13 q
script-refusal s q e = asks-run 3 13 (within 3 13 3 tt) script-asks 0 s e

pub package_refusal : (b : List ℕ) (q : ℕ) → run_block package_block b ≡ refused q → Within 3 22 q
package_refusal b q e = asks-block 3 22 (within 3 22 3 tt) package_block lead-asks header-asks b e
