-- Of an accepted blob and the index that its check leaves, what `span_of` finds says of every record what the table's member says.
-- Assumes nothing.
use Prim.Native.Nat.{ℕ, zero, suc, ◌+◌, ◌-◌, ◌≤◌, ◌<◌}
use mathlib.Core.Path.{◌≡◌, refl, sym, ap, ap₂, ◌∙◌, subst}
use mathlib.Core.Bool.{Bool, true, false, cond}
use mathlib.Core.List.{List, [], ◌++◌}
use mathlib.Core.Option.{none}
use native.Mathlib.Omega.{arith}
use borrow.Author.Tests.{le-ltb, ltb-true, ltb-false}
use lib.Dec.{ltb}
use lib.ListN.{length, get_or, drop}
use lib.Seq.{get_or-append-add}
use Rattle.members.proofs.Places.{placeless-there}
use Rattle.members.specs.Looked.{places_in, view_in, shown_in, placeless, sought_at}
use Rattle.paper.proofs.Outcomes.{length-index_of, get_d-index_of}
use Rattle.paper.proofs.bytes.Blobs.{strings-table_of}
use Rattle.paper.proofs.bytes.Places.{length-places_of, place-low}
use Rattle.paper.proofs.bytes.Reading.{record_in-place}
use Rattle.paper.proofs.gates.Acceptance.{accepted-meets, accepted-good, accepted-header, accepted-walk}
use Rattle.paper.proofs.renaming.Rename.{rename-id}
use Rattle.paper.proofs.renaming.Renaming.{Renaming}
use Rattle.paper.specs.rules.Gate.{refusal, zeros, index_of}
use Rattle.paper.specs.rules.Header.{order_of, strings_in}
use Rattle.paper.specs.rules.Name.{name_in}
use Rattle.paper.specs.rules.Table.{Table, count, record_at}
use Rattle.paper.specs.rules.Walk.{table_of, places_of}
use Rattle.paper.specs.rules.Word.{same_order}
use Rattle.paper.specs.declared.Order.{Order}
use Rattle.paper.specs.declared.Order.TheVariants.{LowFirst, HighFirst}
use Rattle.paper.specs.terms.Fit.{Bytes}
use Rattle.paper.specs.terms.Good.{Good}
use Rattle.paper.specs.terms.Reading.{record_in}
use Rattle.values.proofs.Soughts.{read-sought, sought-rename}
use Rattle.values.proofs.Values.{read-21}
use Rattle.values.specs.Given.{Finding, read_found}
use Rattle.values.specs.Sought.{no_span, sought_in}
use Rattle.values.specs.Value.{read_member}
use Rattle.views.proofs.Shows.{get_d-else, holder-own, strings_in-none, table_by-count, table_by-record}
use Rattle.views.specs.Shown.{record_from, record_by, table_by}

-- ── the index that a check leaves ──

zeros-get_d : (k j : ℕ) → get_or (zeros k) j 0 ≡ 0
zeros-get_d zero j = refl
zeros-get_d (suc k) zero = refl
zeros-get_d (suc k) (suc j) = zeros-get_d k j

-- behind the last record it has no place
place-behind : (T : Table) (places t : ℕ) → count T ≤ t → get_or (index_of T places) (suc t) 0 ≡ 0
unfolding index_of
place-behind T places t h =
    let l = length-places_of T in
    let at : t ≡ length (places_of T) + (t - count T) = omega arith in
    ap (λ (k : ℕ). get_or (places_of T ++ zeros (places - (count T + 1))) k 0) at
    ∙ get_or-append-add (places_of T) (zeros (places - (count T + 1))) (t - count T) 0
    ∙ zeros-get_d (places - (count T + 1)) (t - count T)

module _ (b : List ℕ) (bytes : Bytes b) (places work : ℕ) (e : refusal b places work ≡ none) where
  abbrev A : Table
  A = table_of b

  abbrev index : List ℕ
  index = index_of A places

  abbrev B : Table
  B = shown_in b index

  enough : count A < places
  enough = (accepted-meets b places work e).readable.enough_places

  good : Good A
  good = accepted-good b places work e

  few : count A ≤ 16384
  few = (accepted-meets b places work e).readable.section.few_found

  more : count A ≤ places_in index
  more = let l = length-index_of A places enough in by-test (ltb (length index) 4294967296) (omega (arith, enough))
    where
      by-test : (t : Bool) → count A < length index → count A ≤ cond t (length index) 4294967295
      by-test true h = omega arith
      by-test false h = omega (arith, few)

  -- ── the table that it shows has the blob's records at their numbers ──

  shows : (t : ℕ) → t ≤ count A → record_at B t ≡ record_at A t
  unfolding record_by record_from
  shows zero h = refl
  shows (suc t) h =
      let l = length-index_of A places enough in
      let n = enough in
      table_by-record [] b index (view_in b index) (suc t) (omega arith) (omega (arith, more))
      ∙ ap (λ (s : List ℕ). record_in (order_of b) (drop (get_or index (suc t) (length s)) s)) (holder-own (view_in b index) (suc t) [] b (omega arith))
      ∙ ap (λ (p : ℕ). record_in (order_of b) (drop p b)) (get_d-else index (suc t) (length b) 0 (omega arith) ∙ get_d-index_of A places enough t h)
      ∙ record_in-place b bytes (accepted-header b places work e) A.records (accepted-walk b places work e) t h

  strings : B.strings ≡ A.strings
  unfolding table_by
  strings = ap (λ (s : List ℕ). s ++ strings_in b) strings_in-none ∙ sym (strings-table_of b)

  shown : Renaming A B (λ n. n) (λ n. n)
  shown =
      record {
        type_zero = λ t. refl;
        name_zero = λ n. refl;
        same_record = λ t h. shows t h ∙ sym (rename-id (record_at A t));
        name_inside = λ n h. subst (λ (s : List ℕ). n < length s) (sym strings) h;
        same_name = λ n h. ap (λ (s : List ℕ). name_in s n) strings;
        fewer = subst (λ (n : ℕ). count A ≤ n) (sym (table_by-count [] b index (view_in b index))) more;
      }

  -- ── what is found ──

  placed : (t : ℕ) → t ≤ count A → placeless index t ≡ false
  placed zero h = refl
  placed (suc t) h =
      sym (placeless-there index {t = suc t} (λ z. omega arith))
      ∙ ap (λ (p : ℕ). ltb p 24) (get_d-index_of A places enough t h)
      ∙ le-ltb (get_or (places_of A) t 0) 24 (place-low A t h)

  unplaced : (t : ℕ) → count A < t → placeless index t ≡ true
  unplaced zero h = absurd (omega arith)
  unplaced (suc t) h =
      sym (placeless-there index {t = suc t} (λ z. omega arith)) ∙ ap (λ (p : ℕ). ltb p 24) (place-behind A places t (omega arith))

  -- by the two tests
  abbrev asked : ℕ → ℕ → Bool → Bool → Finding
  asked t m high lost = cond high (no_span 35 0) (cond lost (no_span 21 0) (sought_in B (record_at B t) m))

  -- a big-endian table has 35
  pub high-found : order_of b ≡ HighFirst → (t m : ℕ) → sought_at b index t m ≡ no_span 35 0
  unfolding sought_at
  high-found o t m = ap (λ (x : Order). asked t m (same_order x HighFirst) (placeless index t)) o

  -- of any other, what is found of a member says of every record what the member says
  module _ (o : order_of b ≡ LowFirst) (t m : ℕ) (s : List ℕ) where
    low-found : (lost : Bool) → placeless index t ≡ lost → sought_at b index t m ≡ asked t m false lost
    unfolding sought_at
    low-found lost d = ap₂ (λ (x : Order) (y : Bool). asked t m (same_order x HighFirst) y) o d

    pub found-member : read_found (sought_at b index t m) s ≡ read_member A t m s
    unfolding read_member read_found
    found-member = go (ltb (count A) t) refl
      where
        go : (z : Bool) → ltb (count A) t ≡ z → read_found (sought_at b index t m) s ≡ read_member A t m s
        go true z =
            let above = ltb-true (count A) t z in
            ap (λ (f : Finding). read_found f s) (low-found true (unplaced t above)) ∙ sym (read-21 A t (record_at A t) m s above)
        go false z =
            let high = ltb-false (count A) t z in
            ap (λ (f : Finding). read_found f s) (low-found false (placed t high) ∙ sought-rename shown good t m high) ∙ read-sought A good t m s high
