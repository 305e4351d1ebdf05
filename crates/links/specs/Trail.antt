-- Phase 5, the second sort, in the work slice: a type's mark is the root that came to it first; 0 is a type not yet seen.
use Rattle.std.specs.Prelude.{ℕ, ◌+◌, ◌≤◌, ◌<◌, ◌≡◌, Bool, true, false, List, get_or}
use Rattle.links.specs.Search.{Followable}
use Rattle.paper.specs.rules.Chain.{pointed_by, walks}
use Rattle.paper.specs.rules.Table.{Table}

-- every mark is of a root below this one, and no type that was seen leads to an endless walk
pub record Passed (step : ℕ → List ℕ) (n root : ℕ) (work : List ℕ) : Type 0 where
  pub marks : (x : ℕ) → 1 ≤ x → x ≤ n → get_or work x 0 < root
  pub ended : (x : ℕ) → 1 ≤ x → x ≤ n → (get_or work x 0 ≡ 0 → ⊥) → walks step n x ≡ false

-- a type is to be taken as a root
pub record AtTrail (T : Table) (n root : ℕ) (work : List ℕ) : Type 0 where
  pub ready : Followable T n work
  pub passed : Passed (pointed_by T) n root work
  pub low : 1 ≤ root
  pub high : root ≤ n

-- a root has an endless walk, or has none, and neither has any type that was seen
abbrev pub Trailed : (ℕ → List ℕ) → ℕ → ℕ → List ℕ → Bool → Type 0
Trailed step n root work true = walks step n root ≡ true
Trailed step n root work false = (walks step n root ≡ false) × Passed step n (root + 1) work
