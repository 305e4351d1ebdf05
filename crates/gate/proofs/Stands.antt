-- Laws of `Standing`: where a type's record begins, and that the bytes from there on are that record.
-- Assumes nothing.
use Prim.Native.Nat.{ℕ, zero, suc, ◌-◌, ◌<◌}
use mathlib.Core.Path.{◌≡◌, refl, sym, ap, ◌∙◌}
use mathlib.Core.Bool.{Bool, true, false}
use mathlib.Core.List.{List, [], ◌++◌}
use mathlib.Core.Option.{none}
use native.Mathlib.Omega.{arith}
use borrow.Author.Tests.{ltb-true, ltb-false}
use lib.Dec.{ltb}
use lib.ListN.{length, get_or, drop, get_or-eq_default}
use Rattle.gate.specs.Standing.{Standing}
use Rattle.paper.proofs.Outcomes.{gate-accepted, get_d-index_of, length-index_of}
use Rattle.paper.proofs.gates.Acceptance.{accepted-meets, readable-walk}
use Rattle.paper.proofs.bytes.Blobs.{strings-table_of}
use Rattle.paper.proofs.bytes.Headers.{facts-header_report}
use Rattle.paper.proofs.bytes.Places.{length-places_of}
use Rattle.paper.proofs.bytes.Reading.{record_in-place}
use Rattle.paper.specs.rules.Header.{order_of, strings_in}
use Rattle.paper.specs.terms.Reading.{record_in}
use Rattle.paper.specs.rules.Table.{count, nothing}
use Rattle.paper.specs.terms.Fit.{Bytes}
use Rattle.paper.specs.rules.Walk.{table_of, places_of, place_at}
use Rattle.views.proofs.Shows.{get_d-else, holder-own, strings_in-none, table_by-is, place_by-void, place_by-above, place_by-there}
use Rattle.paper.specs.rules.Gate.{Outcome, gate, index_of, over_types, refusal, table_report}
use Rattle.phases.proofs.Judging.{judged-over}
use Rattle.phases.specs.Said.{judged}
use Rattle.views.specs.Shown.{record_from, record_by, table_by, place_by}
use Rattle.views.specs.declared.View.{View}

module _ {b index : List ℕ} {n : ℕ} (s : Standing b index n) where
  -- ── the table that the index shows, of a table that stands alone, is the table that the blob holds ──

  shows-record : (v : View) → v.order ≡ order_of b → v.before ≡ 0 → (t : ℕ) → t < n → record_by [] b index v (suc t) ≡ get_or (table_of b).records t nothing
  unfolding record_by record_from
  shows-record v o alone t h =
      let c = s.counted in
      let r = s.readable in
      (λ i. record_in (o i) (drop (get_or index (suc t) (length (holder-own v (suc t) [] b (omega arith) i))) (holder-own v (suc t) [] b (omega arith) i)))
      ∙ ap (λ (p : ℕ). record_in (order_of b) (drop p b)) (get_d-else index (suc t) (length b) 0 (omega (arith, r.enough_places)) ∙ s.placed t h)
      ∙ record_in-place b s.bytes (facts-header_report b r.header) (table_of b).records (readable-walk b (length index) (suc n) r) t (omega arith)

  pub stands-shows : (v : View) → v.n ≡ n → v.order ≡ order_of b → v.before ≡ 0 → table_by [] b index v ≡ table_of b
  stands-shows v e o alone =
      table_by-is [] b index v (table_of b) (e ∙ s.counted) (λ t h. shows-record v o alone t (omega arith))
      (ap (λ (x : List ℕ). x ++ strings_in b) strings_in-none ∙ sym (strings-table_of b))

  pub stands-place : (v : View) → v.n ≡ n → (t : ℕ) → place_by index v t ≡ place_at (table_of b) t
  unfolding place_at
  stands-place v e zero = sym (place_by-void index v {t = 0} refl)
  stands-place v e (suc t) = go (ltb v.n (suc t)) refl
    where
      go : (z : Bool) → ltb v.n (suc t) ≡ z → place_by index v (suc t) ≡ get_or (places_of (table_of b)) t 0
      go true x =
          let h = ltb-true v.n (suc t) x in
          let c = s.counted in
          let l = length-places_of (table_of b) in
          sym (place_by-above index v {t = suc t} (λ z. omega arith) h) ∙ sym (get_or-eq_default (places_of (table_of b)) 0 (omega arith))
      go false x =
          let h = ltb-false v.n (suc t) x in
          sym (place_by-there index v {t = suc t} (λ z. omega arith) h) ∙ s.placed t (omega arith)

  -- what is said of it is what is said of the blob's own table
  pub stands-judged : (v : View) → v.n ≡ n → v.order ≡ order_of b → v.before ≡ 0 → {room : ℕ} → n < room → judged [] b index v room ≡ table_report (table_of b)
  unfolding table_report over_types
  stands-judged v e o alone {room} enough =
      judged-over [] b index v room (stands-shows v e o alone) (stands-place v e) (λ i. get_or (strings_in-none i) (length (strings_in-none i) - 1) 0)
      (omega (arith, s.counted, s.readable.section.few_found)) (omega arith)

-- ── behind a check that has accepted ──

-- the index that the gate leaves of an accepted table has the places of its records
pub gate-standing : (b index : List ℕ) (places work : ℕ) → refusal b places work ≡ none → Bytes b → index ≡ (gate b places work).index
    → {n : ℕ} → n ≡ count (table_of b) → Standing b index n
gate-standing b index places work accepted bytes left counted =
    let m = accepted-meets b places work accepted in
    let enough = m.readable.enough_places in
    let is : index ≡ index_of (table_of b) places = left ∙ ap (λ (o : Outcome). o.index) (gate-accepted b places work accepted) in
    let long = ap length is ∙ length-index_of (table_of b) places enough in
    record {
      bytes = bytes;
      readable = record { header = m.readable.header; section = m.readable.section; enough_places = omega arith; enough_work = omega arith };
      counted = counted;
      placed = λ t h. ap (λ (i : List ℕ). get_or i (suc t) 0) is ∙ get_d-index_of (table_of b) places enough t (omega arith);
    }
