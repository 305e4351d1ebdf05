-- The table that a pair's index shows is the table of both, at the places of both.
-- Assumes nothing.
use Prim.Native.Nat.{ℕ, zero, suc, ◌+◌, ◌-◌, ◌<◌}
use mathlib.Core.Path.{◌≡◌, refl, sym, ap, ◌∙◌, subst}
use mathlib.Core.Bool.{Bool, true, false}
use mathlib.Core.List.{List, ◌++◌}
use native.Mathlib.Omega.{arith}
use borrow.Author.Tests.{leb-true, leb-false, ltb-true, ltb-false}
use lib.Dec.{leb, ltb}
use lib.ListN.{length, get_or, drop, get_or-eq_default}
use Rattle.pairs.proofs.Pairs.{count-over, base-good}
use Rattle.pairs.proofs.Places.{length-places_over, length-index_over, get_d-index_over, base_there, own-there}
use Rattle.pairs.specs.Lean.{table_over, places_over, place_over, index_over, lean_table_report, over_both}
use Rattle.pairs.specs.Leaning.{PairReadable}
use Rattle.paper.proofs.bytes.Blobs.{strings-table_of}
use Rattle.paper.proofs.gates.Acceptance.{accepted-meets}
use Rattle.paper.specs.declared.Order.{Order}
use Rattle.paper.specs.rules.Header.{order_of, strings_in}
use Rattle.paper.specs.rules.Table.{Table, count, nothing}
use Rattle.paper.specs.rules.Walk.{table_of}
use Rattle.paper.specs.terms.Fit.{Bytes}
use Rattle.paper.specs.terms.Reading.{record_in}
use Rattle.phases.proofs.Judging.{judged-over}
use Rattle.phases.specs.Said.{judged}
use Rattle.views.proofs.Shows.{get_d-else, holder-base, holder-own, table_by-is, place_by-void, place_by-above, place_by-there}
use Rattle.views.specs.Shown.{holder, place_by, record_from, record_by, table_by}
use Rattle.views.specs.declared.View.{View}

module _ (base own : List ℕ) (places work : ℕ) (r : PairReadable base own places work) (bytes-base : Bytes base) (bytes-own : Bytes own)
    (v : View) (many : v.n ≡ count (table_over base own)) (ordered : v.order ≡ order_of own) (before : v.before ≡ count (table_of base)) where
  abbrev A : Table
  A = table_of base

  abbrev T : Table
  T = table_over base own

  abbrev index : List ℕ
  index = index_over base own places

  -- the place of a type, by its index and by the definition
  listed : (t : ℕ) → t < count T → (d : ℕ) → get_or index (suc t) d ≡ get_or (places_over base own) t 0
  listed t h d =
      let l = length-index_over base own places r.enough_places in
      let e = r.enough_places in
      get_d-else index (suc t) d 0 (omega arith) ∙ get_d-index_over base own places r.enough_places t h

  -- a record read from the blob that holds it
  held : (t : ℕ) → t < count T → {s : List ℕ} {o : Order} → holder v (suc t) base own ≡ s → v.order ≡ o
      → record_by base own index v (suc t) ≡ record_in o (drop (get_or (places_over base own) t 0) s)
  unfolding record_by record_from
  held t h {s} {o} e q =
      (λ i. record_in (q i) (drop (get_or index (suc t) (length (e i))) (e i))) ∙ ap (λ (p : ℕ). record_in o (drop p s)) (listed t h (length s))

  shows-record : (t : ℕ) → t < count T → record_by base own index v (suc t) ≡ get_or T.records t nothing
  shows-record t h = go (leb (suc t) (count A)) refl
    where
      go : (z : Bool) → leb (suc t) (count A) ≡ z → record_by base own index v (suc t) ≡ get_or T.records t nothing
      go true e =
          let low = leb-true (suc t) (count A) e in
          held t h (holder-base v (suc t) base own (omega arith)) (ordered ∙ r.one-order) ∙ base_there base own places work r bytes-base bytes-own t low
      go false e =
          let past = leb-false (suc t) (count A) e in
          let c = count-over base own in
          let same : count A + (t - count A) ≡ t = omega arith in
          held t h (holder-own v (suc t) base own (omega arith)) ordered
          ∙ subst (λ (k : ℕ). record_in (order_of own) (drop (get_or (places_over base own) k 0) own) ≡ get_or T.records k nothing) same
          (own-there base own places work r bytes-base bytes-own (t - count A) (omega arith))

  pub pair-shows : table_by base own index v ≡ T
  unfolding table_over
  pair-shows =
      table_by-is base own index v T many (λ t h. shows-record t (omega arith))
      (ap (λ (s : List ℕ). s ++ strings_in own) (sym (strings-table_of base)))

  pub pair_place : (t : ℕ) → place_by index v t ≡ place_over base own t
  unfolding place_over
  pair_place zero = sym (place_by-void index v {t = 0} refl)
  pair_place (suc t) = go (ltb v.n (suc t)) refl
    where
      go : (z : Bool) → ltb v.n (suc t) ≡ z → place_by index v (suc t) ≡ get_or (places_over base own) t 0
      go true x =
          let h = ltb-true v.n (suc t) x in
          let l = length-places_over base own in
          sym (place_by-above index v {t = suc t} (λ z. omega arith) h) ∙ sym (get_or-eq_default (places_over base own) 0 (omega arith))
      go false x =
          let h = ltb-false v.n (suc t) x in
          sym (place_by-there index v {t = suc t} (λ z. omega arith) h) ∙ listed t (omega arith) 0

  -- what is judged is what the phases over both say
  pub pair-judged : judged base own index v work ≡ lean_table_report base own
  unfolding lean_table_report over_both
  pair-judged =
      let c = count-over base own in
      let few = r.section.few_found in
      let base-few = (accepted-meets base places work r.base-accepted).readable.section.few_found in
      judged-over base own index v work pair-shows pair_place
      (ap (λ (s : List ℕ). get_or s (length s - 1) 0) (sym (strings-table_of base)) ∙ (base-good base own places work r).closed.last)
      (omega (arith, many)) (omega (arith, many, r.enough_work))
