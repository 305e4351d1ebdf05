-- What phases 3 and 6 say of one type, from what is said of its record.
-- Assumes nothing.
use Rattle.std.specs.Prelude.{Option as RustOption}
use Rattle.rules.specs.declared.phase.Due.{Due}
use Prim.Native.Nat.{ℕ}
use mathlib.Core.Path.{◌≡◌, ap, ap₂, sym, ◌∙◌}
use mathlib.Core.Bool.{Bool, not}
use mathlib.Core.List.{List, [], ◌∷◌}
use Rattle.paper.specs.rules.Choice.{◌when◌, first_due}
use Rattle.layout.specs.Told.{layout_told}
use Rattle.paper.specs.rules.Gate.{naming_at}
use Rattle.paper.specs.rules.Table.{Record, Table, record_at}
use Rattle.phases.specs.Said.{phase3_by, phase6_told}
use Rattle.rules.specs.Phase.{due_as_paper, rules_of}

-- phase 3, from what is due of its record
pub heads-due : (T : Table) (t : ℕ) {d : RustOption Due} (x : RustOption Due) {before before' strings strings' : List ℕ} {r : Record} {p q : ℕ}
    → d ≡ x → due_as_paper d ≡ first_due (rules_of before strings r) → before ≡ before' → strings ≡ strings' → r ≡ record_at T t → p ≡ q
    → naming_at t p (due_as_paper x) ≡ naming_at t q (first_due (phase3_by before' strings' T t))
unfolding phase3_by
heads-due T t x is e b s r at = ap₂ (naming_at t) at (ap due_as_paper (sym is) ∙ e ∙ (λ i. first_due (rules_of (b i) (s i) (r i))))

-- phase 6, from whether its layout is good
pub layout-due : (memo : List ℕ) (T : Table) (t : ℕ) {z : Bool} {p q : ℕ} → z ≡ layout_told (record { table = T; memo = memo }) (record_at T t) → p ≡ q
    → naming_at t p (first_due (15 when not z ∷ [])) ≡ naming_at t q (first_due (phase6_told memo T t))
unfolding phase6_told
layout-due memo T t e at = ap₂ (λ (p : ℕ) (b : Bool). naming_at t p (first_due (15 when not b ∷ []))) at e
