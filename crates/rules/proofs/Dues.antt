-- Laws of phase 3 of one record: the first test that fails names the report.
-- Assumes nothing.
use Rattle.std.specs.Prelude.{None, Option as RustOption, Some}
use Rattle.rules.specs.declared.phase.Due.TheVariants.{Head, Named, Tail}
use Rattle.rules.specs.declared.phase.Due.{Due}
use mathlib.Core.Path.{◌≡◌, refl, sym, ap, ◌∙◌}
use mathlib.Core.Bool.{Bool, true, false, not, cond}
use mathlib.Core.List.{List}
use mathlib.Core.Option.{Option, none, some}
use Prim.Native.Nat.{ℕ}
use borrow.Author.Tests.{not-true, not-false}
use lib.Dec.{eqb}
use Rattle.paper.specs.rules.Choice.{first_due}
use Rattle.paper.specs.rules.Heads.{head_ok}
use Rattle.pairs.specs.Lean.{names_over}
use Rattle.paper.specs.rules.Table.{Record}
use Rattle.paper.specs.rules.Tails.{tail_ok}
use Rattle.rules.specs.Phase.{due_as_paper, rules_of}

module _ (base strings : List ℕ) (r : Record) {a : Bool} (head : a ≡ head_ok r) where
  pub due-head : not a ≡ true → some 10 ≡ first_due (rules_of base strings r)
  due-head n = rw (sym head ∙ not-true a n) refl

  module _ (good : not a ≡ false) {b : Bool} (named : b ≡ names_over base strings r) where
    pub due-named : not b ≡ true → some 11 ≡ first_due (rules_of base strings r)
    due-named n = rw (sym head ∙ not-false a good, sym named ∙ not-true b n) refl

    module _ (fair : not b ≡ false) {c : Bool} (tail : c ≡ tail_ok r) where
      pub due-tail : not c ≡ true → some 12 ≡ first_due (rules_of base strings r)
      due-tail n = rw (sym head ∙ not-false a good, sym named ∙ not-false b fair, sym tail ∙ not-true c n) refl

      pub due-none : not c ≡ false → none ≡ first_due (rules_of base strings r)
      due-none n = rw (sym head ∙ not-false a good, sym named ∙ not-false b fair, sym tail ∙ not-false c n) refl

-- ── answers ──

abbrev due_of : Option ℕ → RustOption Due
due_of none = None
due_of (some n) = cond (eqb n 10) (Some Head) (cond (eqb n 11) (Some Named) (Some Tail))

due_of-due_as_paper : (d : RustOption Due) → due_of (due_as_paper d) ≡ d
due_of-due_as_paper None = refl
due_of-due_as_paper (Some Head) = refl
due_of-due_as_paper (Some Named) = refl
due_of-due_as_paper (Some Tail) = refl

-- two answers with the same number are one
pub due-one : (x y : RustOption Due) → due_as_paper x ≡ due_as_paper y → x ≡ y
due-one x y e = sym (due_of-due_as_paper x) ∙ ap due_of e ∙ due_of-due_as_paper y
