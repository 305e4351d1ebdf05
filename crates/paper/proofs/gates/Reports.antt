-- A report of phases 3 to 6 is the smallest: which phase has spoken, of which type, and what report 14 means.
-- Assumes nothing.
use Prim.Native.Nat.{ℕ, ◌≤◌, ◌<◌}
use mathlib.Core.Path.{◌≡◌, refl, sym, ap, subst}
use mathlib.Core.List.{List, [], ◌∷◌}
use mathlib.Core.Logic.{◌⊎◌, ⊎_elim}
use mathlib.Core.Option.{Option, none, some}
use native.Mathlib.Omega.{arith}
use borrow.Author.Tests.{not-false}
use Rattle.paper.proofs.gates.Acceptance.{silent-readable}
use Rattle.paper.proofs.gates.Gates.{or_else-some, over_types-silent, over_types-some}
use Rattle.paper.proofs.walks.Insides.{chain-at}
use Rattle.paper.proofs.gates.Numbers.{Says, Numbers, says-phase1, says-phase2, says-short_slices}
use Rattle.paper.specs.rules.Answer.{Answer}
use Rattle.paper.specs.rules.Chain.{held_by, pointed_by, Chain}
use Rattle.paper.specs.rules.Choice.{Rule, ◌when◌, or_else}
use Rattle.paper.specs.rules.Gate.{phase1, phase2, short_slices, phase3, phase4, phase5, phase6, over_types, table_report, refusal}
use Rattle.paper.specs.terms.Good.{Readable}
use Rattle.paper.specs.rules.References.{refs_ok, ref_bad}
use Rattle.paper.specs.terms.Smallest.{DueFirst, Spoken, third, fourth, fifth, sixth}
use Rattle.paper.specs.rules.Table.{Table, count, record_at}
use Rattle.paper.specs.rules.Walk.{table_of}

-- ── "The earliest phase speaks", "the smallest type, then the smallest number" ──

pub table_report-spoken : (T : Table) (a : Answer) → table_report T ≡ some a → Spoken T a
unfolding table_report
table_report-spoken T a e =
    ⊎_elim (λ p. third (over_types-some T phase3 a p))
    (λ n₃. ⊎_elim (λ p. fourth (over_types-silent T phase3 n₃.0) (over_types-some T phase4 a p))
    (λ n₄. ⊎_elim (λ p. fifth (over_types-silent T phase3 n₃.0) (over_types-silent T phase4 n₄.0) (over_types-some T phase5 a p))
    (λ n₅. sixth (over_types-silent T phase3 n₃.0) (over_types-silent T phase4 n₄.0)
    (over_types-silent T phase5 n₅.0) (over_types-some T phase6 a n₅.1))
    (or_else-some (over_types phase5 T) (over_types phase6 T) n₄.1))
    (or_else-some (over_types phase4 T) _ n₃.1))
    (or_else-some (over_types phase3 T) _ e)

abbrev Early : ℕ → Type 0
Early n = n < 10

abbrev number_in : Option Answer → ℕ
number_in none = 0
number_in (some a) = a.number

-- an answer of 10 or more is not that of an early phase
past : (o p : Option Answer) (a : Answer) → 10 ≤ a.number → Says Early o → or_else o p ≡ some a → (o ≡ none) × (p ≡ some a)
past none p a late h e = (refl, e)
past (some x) p a late h e = let same : x.number ≡ a.number = ap number_in e in absurd (omega arith)

-- a report of 10 or more: phases 1 and 2 are silent, there are places enough, and it is the smallest
pub refusal-spoken : (b : List ℕ) (places work : ℕ) (a : Answer) → refusal b places work ≡ some a → 10 ≤ a.number
    → Readable b places work × Spoken (table_of b) a
unfolding refusal
refusal-spoken b places work a e late =
    let n = count (table_of b) in
    let one = past (phase1 b) _ a late (says-phase1 Early b (omega arith) (omega arith) (omega arith) (omega arith) (omega arith)) e in
    let two = past (phase2 b) _ a late (says-phase2 Early (omega arith) (omega arith) (omega arith) b) one.1 in
    let nine = past (short_slices n places work) _ a late (says-short_slices Early n places work (omega arith)) two.1 in
    (silent-readable b places work one.0 two.0 nine.0, table_report-spoken (table_of b) a nine.1)

-- ── report 14 is given where a chain can be followed for ever ──

-- the number of a rule that is due has what all of the rules' numbers have
due-number : (P : ℕ → Type 0) (n : ℕ) (rules : List Rule) → Numbers P rules → DueFirst n rules → P n
due-number P n [] h d = absurd d
due-number P n (m when due ∷ rules) h d =
    ⊎_elim (λ p. subst P (sym p.0) h.0) (λ q. due-number P n rules h.1 q.1) d

abbrev Not14 : ℕ → Type 0
Not14 n = n ≡ 14 → ⊥

module _ (T : Table) (a : Answer) (n : a.number ≡ 14) where
  spoken-chain : Spoken T a → Chain (held_by T) a.t ⊎ Chain (pointed_by T) a.t
  unfolding phase3 phase4 phase5 phase6 ref_bad
  spoken-chain (third s) = absurd (due-number Not14 a.number (phase3 T a.t) (λ e. omega arith, (λ e. omega arith, (λ e. omega arith, tt))) s.due n)
  spoken-chain (fourth q s) = absurd (due-number Not14 a.number (phase4 T a.t) (λ e. omega arith, tt) s.due n)
  spoken-chain (fifth q r s) =
      chain-at T (λ t low high. not-false (refs_ok T (record_at T t)) (r t low high).0) a.t s.low s.high
      (⊎_elim (λ p. p.1) (λ q. absurd q.1) s.due)
  spoken-chain (sixth q r v s) = absurd (due-number Not14 a.number (phase6 T a.t) (λ e. omega arith, tt) s.due n)

-- report 14 names a type from which a by-value chain, or one of the second sort, can be followed for ever
pub report-14 : (b : List ℕ) (places work : ℕ) (a : Answer) → refusal b places work ≡ some a → a.number ≡ 14
    → Chain (held_by (table_of b)) a.t ⊎ Chain (pointed_by (table_of b)) a.t
report-14 b places work a e n = spoken-chain (table_of b) a n (refusal-spoken b places work a e (omega arith)).1
