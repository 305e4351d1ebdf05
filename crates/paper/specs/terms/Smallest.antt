-- "The earliest phase speaks", "later, the smallest type, then the smallest number": what a report of phases 3 to 6 tells of all the rules.
use Rattle.std.specs.Prelude.{ℕ, ◌≤◌, ◌<◌, ◌≡◌, true, false, List, [], ◌∷◌, ◌⊎◌}
use Rattle.paper.specs.rules.Answer.{Answer}
use Rattle.paper.specs.rules.Choice.{Rule, ◌when◌}
use Rattle.paper.specs.rules.Gate.{phase3, phase4, phase5, phase6}
use Rattle.paper.specs.rules.Table.{Table, count}
use Rattle.paper.specs.rules.Walk.{place_at}

-- none of some rules is due
abbrev pub NoneDue : List Rule → Type 0
NoneDue [] = Unit {0}
NoneDue (n when due ∷ rules) = (due ≡ false) × NoneDue rules

-- the rule of this number is due, and none before it is
abbrev pub DueFirst : ℕ → List Rule → Type 0
DueFirst n [] = ⊥
DueFirst n (m when due ∷ rules) = ((n ≡ m) × (due ≡ true)) ⊎ ((due ≡ false) × DueFirst n rules)

-- a phase is silent: none of its rules is due at any type
abbrev pub Silent : (Table → ℕ → List Rule) → Table → Type 0
Silent phase T = (t : ℕ) → 1 ≤ t → t ≤ count T → NoneDue (phase T t)

-- in a phase the report's number is the smallest that is due at the type that it names, no smaller type has a rule due, and its
-- place is that of the type's record
pub record Smallest (phase : Table → ℕ → List Rule) (T : Table) (a : Answer) : Type 0 where
  pub low : 1 ≤ a.t
  pub high : a.t ≤ count T
  pub due : DueFirst a.number (phase T a.t)
  pub smaller : (t : ℕ) → 1 ≤ t → t < a.t → NoneDue (phase T t)
  pub placed : a.p ≡ place_at T a.t

-- which phase has spoken: every earlier one is silent
pub data Spoken (T : Table) (a : Answer) : Type 0 where
  third : Smallest phase3 T a → Spoken T a
  fourth : Silent phase3 T → Smallest phase4 T a → Spoken T a
  fifth : Silent phase3 T → Silent phase4 T → Smallest phase5 T a → Spoken T a
  sixth : Silent phase3 T → Silent phase4 T → Silent phase5 T → Smallest phase6 T a → Spoken T a
