-- Demand 2's second form, of the code: what it means that `check_leaning` has answered of a base and a table that leans on it.
-- Each from its contract alone. Assumes nothing.
use Rattle.std.specs.Prelude.{Err, Ok, Result, ℕ}
use Rattle.paper.specs.declared.LeanError.TheVariants.{BaseRefused, OrdersDiffer, Refused}
use Rattle.paper.specs.declared.LeanError.{LeanError}
use Prim.Native.Nat.{ℕ, suc, ◌+◌, ◌*◌, ◌≤◌, ◌<◌}
use mathlib.Core.Path.{◌≡◌, refl, sym, ap, ◌∙◌}
use mathlib.Core.List.{List}
use mathlib.Core.Logic.{◌⊎◌}
use mathlib.Core.Option.{none, some}
use native.Mathlib.Omega.{arith}
use lib.ListN.{length, get_or, take, drop}
use Rattle.lean.proofs.Leans.{lean-work}
use Rattle.lean.specs.Leans.{LeanOf}
use Rattle.pairs.proofs.Acceptance.{pair-meets, meets-pair}
use Rattle.pairs.proofs.Numbers.{answer-accepted, answer-refused}
use Rattle.pairs.proofs.Pairs.{count-over, base-size, base-name}
use Rattle.pairs.proofs.Places.{length-index_over, get_d-index_over, base-place, own-place, size_over-exact}
use Rattle.pairs.proofs.Standing.{standing-accepted, standing-table}
use Rattle.pairs.specs.Lean.{own_records, table_over, index_over, lean_refusal, lean_outcome, lean_gate, size_over}
use Rattle.pairs.specs.Leaning.{PairMeets}
use Rattle.paper.proofs.basics.Answers.{leaned-one, report-number}
use Rattle.paper.proofs.walks.Insides.{no-chain, sound-refs, sound-ends}
use Rattle.paper.specs.rules.Answer.{Answer, inside, report, report_as_paper, leaned_as_paper, sized_as_paper}
use Rattle.paper.specs.rules.Chain.{held_by, pointed_by, Chain}
use Rattle.paper.specs.rules.Gate.{refusal, zeros, Outcome}
use Rattle.paper.specs.rules.Header.{order_of}
use Rattle.paper.specs.rules.Name.{name_in}
use Rattle.paper.specs.rules.Size.{exact_size, answer_of}
use Rattle.paper.specs.rules.Table.{Table, count, record_at, words_of}
use Rattle.paper.specs.rules.Walk.{table_of, bytes_of}
use Rattle.paper.specs.rules.Word.{bytes_of_words}
use Rattle.paper.specs.declared.Report.{Report}
use Rattle.paper.specs.declared.Sized.{Sized}
use Rattle.paper.specs.terms.Fit.{Bytes}

module _ {l : Result ℕ LeanError} {base own : List ℕ} {places work : ℕ} {index left : List ℕ} (h : LeanOf l base own places work index left) where
  abbrev A : Table
  A = table_of base

  -- the table of both: the base's types, then the others
  abbrev T : Table
  T = table_over base own

  answers : leaned_as_paper l ≡ (lean_gate base own places work).answer
  answers = h.told.answers

  -- the work slice is all 0 after every call
  pub lean-cleared : left ≡ zeros work
  lean-cleared = h.cleared ∙ sym (lean-work base own places work)

  -- ── a refused pair: its number, type and place, and an index all 0 ──

  refused : ((leaned_as_paper l).number ≡ 0 → ⊥) → (lean_refusal base own places work ≡ some (leaned_as_paper l)) × (index ≡ zeros places)
  unfolding lean_gate
  refused bad =
      let e = answer-refused base own places work answers bad in
      (e, h.told.indexes ∙ ap (λ (o : Outcome). o.index) (ap (lean_outcome base own places work) e))

  -- a report of the leaning table itself
  pub lean-refused : (r : Report) → l ≡ Err (Refused r) → (lean_refusal base own places work ≡ some (report_as_paper r)) × (index ≡ zeros places)
  unfolding leaned_as_paper
  lean-refused r p =
      let told = ap leaned_as_paper p in
      let s = refused (λ z. report-number r (sym (ap (λ (a : Answer). a.number) told) ∙ z)) in
      (s.0 ∙ ap some told, s.1)

  -- 25, with the base's own report inside
  pub lean-base-refused : (r : Report) → l ≡ Err (BaseRefused r) → (lean_refusal base own places work ≡ some (inside 25 (report_as_paper r))) × (index ≡ zeros places)
  unfolding leaned_as_paper
  lean-base-refused r p =
      let told = ap leaned_as_paper p in
      let s = refused (λ z. let e = ap (λ (a : Answer). a.number) told in omega arith) in
      (s.0 ∙ ap some told, s.1)

  pub lean-orders-differ : l ≡ Err OrdersDiffer → (lean_refusal base own places work ≡ some (report 26 0)) × (index ≡ zeros places)
  unfolding leaned_as_paper
  lean-orders-differ p =
      let told = ap leaned_as_paper p in
      let s = refused (λ z. let e = ap (λ (a : Answer). a.number) told in omega arith) in
      (s.0 ∙ ap some told, s.1)

  -- ── an accepted one ──

  module _ (n : ℕ) (p : l ≡ Ok n) where
    told : (lean_refusal base own places work ≡ none) × (n ≡ count T)
    unfolding leaned_as_paper
    told =
        let s = answer-accepted base own places work (ap leaned_as_paper (sym p) ∙ answers) refl in
        (s.0, ap (λ (a : Answer). a.t) s.1)

    -- the pair meets the rules over both together, and n counts the types of both
    pub lean-meets : PairMeets base own places work
    lean-meets = pair-meets base own places work told.0

    pub lean-count : n ≡ count T
    lean-count = told.1

    -- no chain of either sort can be followed for ever, across both
    pub lean-finite : (t : ℕ) → Chain (held_by T) t ⊎ Chain (pointed_by T) t → ⊥
    lean-finite = let s = lean-meets.sound in no-chain T (sound-refs s) (sound-ends s)

    indexed : index ≡ index_over base own places
    unfolding lean_gate
    indexed = h.told.indexes ∙ ap (λ (o : Outcome). o.index) (ap (lean_outcome base own places work) told.0)

    module _ (bytes-base : Bytes base) (bytes-own : Bytes own) where
      -- the index gives every type's place, in the blob that holds its record
      pub lean-places-base : (t : ℕ) → t < count A → let ws = words_of (record_at T (suc t)) in
          take (4 * length ws) (drop (get_or index (suc t) 0) base) ≡ bytes_of_words (order_of base) ws
      lean-places-base t high =
          let m = lean-meets.readable in
          let c = count-over base own in
          let ws = words_of (record_at T (suc t)) in
          ap (λ (i : List ℕ). take (4 * length ws) (drop (get_or i (suc t) 0) base)) indexed
          ∙ ap (λ (q : ℕ). take (4 * length ws) (drop q base)) (get_d-index_over base own places m.enough_places t (omega arith))
          ∙ base-place base own places work m bytes-base bytes-own t high

      pub lean-places-own : (t : ℕ) → t < length (own_records base own) → let ws = words_of (record_at T (suc (count A + t))) in
          take (4 * length ws) (drop (get_or index (suc (count A + t)) 0) own) ≡ bytes_of_words (order_of own) ws
      lean-places-own t high =
          let m = lean-meets.readable in
          let c = count-over base own in
          let ws = words_of (record_at T (suc (count A + t))) in
          ap (λ (i : List ℕ). take (4 * length ws) (drop (get_or i (suc (count A + t)) 0) own)) indexed
          ∙ ap (λ (q : ℕ). take (4 * length ws) (drop q own)) (get_d-index_over base own places m.enough_places (count A + t) (omega arith))
          ∙ own-place base own places work m bytes-base bytes-own t high

      -- what `size_leaning` then answers, with the base's count: the exact size in the table of both, no size, or that it passes 4,294,967,295
      pub lean-sizes : (t : ℕ) → t ≤ n → (s : Sized) → sized_as_paper s ≡ size_over base (count A) own index t → sized_as_paper s ≡ answer_of (exact_size T t)
      lean-sizes t high s e =
          let m = lean-meets.readable in
          let long = length-index_over base own places m.enough_places in
          let enough = m.enough_places in
          e
          ∙ ap (λ (i : List ℕ). size_over base (count A) own i t) indexed
          ∙ size_over-exact base own places work m bytes-base bytes-own (index_over base own places) (omega arith)
          (λ u less. get_d-index_over base own places m.enough_places u less) lean-meets.sound t (omega (arith, told.1))

      -- a type of the base has the size that it has alone
      pub lean-base-sizes : (t : ℕ) → t ≤ count A → (s : Sized) → sized_as_paper s ≡ size_over base (count A) own index t
          → sized_as_paper s ≡ answer_of (exact_size A t)
      lean-base-sizes t high s e =
          let c = count-over base own in
          lean-sizes t (omega (arith, told.1)) s e ∙ ap answer_of (base-size base own places work lean-meets.readable t high)

      -- and the name
      pub lean-base-names : (off : ℕ) → off < length A.strings → name_in T.strings off ≡ name_in A.strings off
      lean-base-names = base-name base own places work lean-meets.readable

      -- the one standing table that holds both is accepted, and is that table
      pub lean-standing : let both = bytes_of (order_of base) T in (refusal both places work ≡ none) × (table_of both ≡ T)
      lean-standing =
          let m = lean-meets.readable in
          (standing-accepted base own places work m bytes-base bytes-own told.0, standing-table base own places work m bytes-base bytes-own)

  -- ── exactly ──

  -- a pair that meets the rules over both together is accepted, with the count of both
  pub meets-lean : PairMeets base own places work → l ≡ Ok (count T)
  unfolding leaned_as_paper lean_gate
  meets-lean m =
      leaned-one l (Ok (count T))
      (answers ∙ ap (λ (o : Outcome). o.answer) (ap (lean_outcome base own places work) (meets-pair base own places work m)))

-- any two results that the contract allows are the same, slice by slice
pub lean-one : {l l' : Result ℕ LeanError} {base own : List ℕ} {places work : ℕ} {index index' left left' : List ℕ} → LeanOf l base own places work index left
    → LeanOf l' base own places work index' left'
    → (l ≡ l') × (index ≡ index') × (left ≡ left')
lean-one {l} {l'} h k =
    (leaned-one l l' (h.told.answers ∙ sym k.told.answers), h.told.indexes ∙ sym k.told.indexes, h.cleared ∙ sym k.cleared)
