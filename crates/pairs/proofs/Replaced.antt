-- A search over the types finds the same type and number whatever the places are that it tells.
-- Assumes nothing.
use Prim.Native.Nat.{ℕ, zero, suc}
use mathlib.Core.Path.{◌≡◌, refl}
use mathlib.Core.List.{List}
use mathlib.Core.Option.{Option, none, some}
use Rattle.paper.specs.rules.Answer.{Answer, report_at}
use Rattle.paper.specs.rules.Choice.{Rule, first_due, or_else}
use Rattle.paper.specs.rules.Gate.{naming_at, first_of}

-- what is said, at other places
abbrev pub replaced : (ℕ → ℕ) → Option Answer → Option Answer
replaced place none = none
replaced place (some a) = some (report_at a.number a.t (place a.t))

pub replaced-first_of : (place place' : ℕ → ℕ) (rules : ℕ → List Rule) (left t : ℕ)
    → first_of place' rules left t ≡ replaced place' (first_of place rules left t)
replaced-first_of place place' rules zero t = refl
replaced-first_of place place' rules (suc left) t = go (first_due (rules t)) _ (replaced-first_of place place' rules left (suc t))
  where
    go : (o : Option ℕ) {x : Option Answer} (y : Option Answer) → x ≡ replaced place' y
        → or_else (naming_at t (place' t) o) x ≡ replaced place' (or_else (naming_at t (place t) o) y)
    go none y e = e
    go (some n) y e = refl

pub replaced-or_else : (place : ℕ → ℕ) (x y : Option Answer) → or_else (replaced place x) (replaced place y) ≡ replaced place (or_else x y)
replaced-or_else place none y = refl
replaced-or_else place (some a) y = refl
