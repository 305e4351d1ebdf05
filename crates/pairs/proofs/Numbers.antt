-- Which numbers a leaning check says: 1 to 15, 25 and 26, so that 0 is acceptance; and from an answer back to what it says of a pair.
-- Assumes nothing.
use Prim.Native.Nat.{ℕ, suc, ◌-◌, ◌≤◌}
use mathlib.Core.Path.{◌≡◌, refl, sym, ap}
use mathlib.Core.List.{List, [], ◌∷◌}
use mathlib.Core.Logic.{◌⊎◌, inl, inr}
use mathlib.Core.Option.{Option, none, some}
use native.Mathlib.Omega.{arith}
use lib.ListN.{length}
use Rattle.pairs.specs.Lean.{behind_rules, behind_report, walk_behind, other_opening, table_over, place_over, over_both, lean_table_report, lean_refusal}
use Rattle.pairs.specs.Lean.{lean_outcome, lean_gate}
use Rattle.paper.proofs.gates.Numbers.{Says, Numbers, says-or_else, says-naming, says-first_of, says-inside, says-walk, says-short_slices}
use Rattle.paper.specs.rules.Answer.{Answer, accepted}
use Rattle.paper.specs.rules.Choice.{Rule, ◌when◌, first_due}
use Rattle.paper.specs.rules.Gate.{naming, walk_report, short_slices, phase3, phase4, phase5, phase6, refusal}
use Rattle.paper.specs.rules.Header.{header_length}
use Rattle.paper.specs.rules.Join.{refused_inside}
use Rattle.paper.specs.rules.Limits.{type_limit}
use Rattle.paper.specs.rules.Table.{Table, count}
use Rattle.paper.specs.rules.Walk.{type_words, table_of}

-- a report of the leaning table itself, or 25, or 26
abbrev pub Leans : ℕ → Type 0
Leans n = (1 ≤ n) × ((n ≤ 15) ⊎ ((25 ≤ n) × (n ≤ 26)))

low : (n : ℕ) → 1 ≤ n → n ≤ 15 → Leans n
low n one few = (one, inl few)

module _ (base own : List ℕ) where
  says_both : (phase : Table → ℕ → List Rule) → ((t : ℕ) → Numbers Leans (phase (table_over base own) t)) → Says Leans (over_both base own phase)
  unfolding over_both
  says_both phase h = says-first_of Leans (place_over base own) (phase (table_over base own)) h (count (table_over base own)) 1

  says-table : Says Leans (lean_table_report base own)
  unfolding lean_table_report phase3 phase4 phase5 phase6
  says-table =
      says-or_else Leans (over_both base own phase3) _
      (says_both phase3 (λ t. (low 10 (omega arith) (omega arith), (low 11 (omega arith) (omega arith), (low 12 (omega arith) (omega arith), tt)))))
      (says-or_else Leans (over_both base own phase4) _ (says_both phase4 (λ t. (low 13 (omega arith) (omega arith), tt)))
      (says-or_else Leans (over_both base own phase5) _ (says_both phase5 (λ t. (low 14 (omega arith) (omega arith), tt)))
      (says_both phase6 (λ t. (low 15 (omega arith) (omega arith), tt)))))

  says-behind : Says Leans (naming 0 (behind_report (length base) own))
  unfolding behind_report
  says-behind =
      says-naming Leans 0 (behind_rules (length base) own) (
        low 1 (omega arith) (omega arith),
        (
          low 2 (omega arith) (omega arith),
          (
            low 3 (omega arith) (omega arith),
            (
              low 4 (omega arith) (omega arith),
              (low 5 (omega arith) (omega arith), tt),
            ),
          ),
        ),
      )

  says-walked : Says Leans (walk_report (walk_behind (count (table_of base)) own))
  unfolding walk_behind
  says-walked =
      let n = count (table_of base) in
      says-walk Leans (low 6 (omega arith) (omega arith)) (low 7 (omega arith) (omega arith)) (low 8 (omega arith) (omega arith))
      (type_limit - n) (suc n) header_length (type_words own)

  module _ (places work : ℕ) where
    pub lean_refusal-number : Says Leans (lean_refusal base own places work)
    unfolding lean_refusal
    lean_refusal-number =
        says-or_else Leans (refused_inside 25 (refusal base places work)) _
        (says-inside Leans 25 (omega arith, inr (omega arith, omega arith)) (refusal base places work))
        (says-or_else Leans (naming 0 (first_due (26 when other_opening base own ∷ []))) _
        (says-naming Leans 0 (26 when other_opening base own ∷ []) ((omega arith, inr (omega arith, omega arith)), tt))
        (says-or_else Leans (naming 0 (behind_report (length base) own)) _ says-behind
        (says-or_else Leans (walk_report (walk_behind (count (table_of base)) own)) _ says-walked
        (says-or_else Leans (short_slices (count (table_over base own)) places work) _
        (says-short_slices Leans (count (table_over base own)) places work (low 9 (omega arith) (omega arith))) says-table))))

    -- an answer of number 0 is acceptance, with the count of both
    pub answer-accepted : {x : Answer} → x ≡ (lean_gate base own places work).answer → x.number ≡ 0
        → (lean_refusal base own places work ≡ none) × (x ≡ accepted (count (table_over base own)))
    unfolding lean_gate
    answer-accepted {x} e z = go (lean_refusal base own places work) lean_refusal-number e
      where
        go : (o : Option Answer) → Says Leans o → x ≡ (lean_outcome base own places work o).answer → (o ≡ none) × (x ≡ accepted (count (table_over base own)))
        go none h q = (refl, q)
        go (some a) h q = absurd (omega (arith, h.0, ap (λ (y : Answer). y.number) q, z))

    -- any other is the refusal
    pub answer-refused : {x : Answer} → x ≡ (lean_gate base own places work).answer → (x.number ≡ 0 → ⊥) → lean_refusal base own places work ≡ some x
    unfolding lean_gate
    answer-refused {x} e h = go (lean_refusal base own places work) e
      where
        go : (o : Option Answer) → x ≡ (lean_outcome base own places work o).answer → o ≡ some x
        go none q = absurd (h (ap (λ (y : Answer). y.number) q))
        go (some a) q = ap {B = Option Answer} some (sym q)
