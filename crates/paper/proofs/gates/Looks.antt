-- A phase over the types in order: what it says from here on is what it says at all, since it said nothing of the types passed.
-- Assumes nothing.
use Prim.Native.Nat.{ℕ, suc, ◌+◌, ◌-◌, ◌≤◌, ◌<◌}
use mathlib.Core.Path.{◌≡◌, sym, ap, ap₂, ◌∙◌}
use mathlib.Core.List.{List}
use mathlib.Core.Option.{Option, none, some}
use native.Mathlib.Omega.{arith}
use Rattle.paper.specs.rules.Answer.{Answer}
use Rattle.paper.specs.rules.Choice.{Rule, first_due, or_else}
use Rattle.paper.specs.rules.Gate.{naming_at, first_of}

pub record Looking (place : ℕ → ℕ) (rules : ℕ → List Rule) (n t : ℕ) : Type 0 where
  pub inside : t ≤ n
  pub rest : first_of place rules n 1 ≡ first_of place rules (n - t) (suc t)

pub looking-start : (place : ℕ → ℕ) (rules : ℕ → List Rule) (n : ℕ) → Looking place rules n 0
looking-start place rules n =
    let all : n ≡ n - 0 = omega arith in
    record { inside = omega arith; rest = ap (λ (m : ℕ). first_of place rules m 1) all }

module _ {place : ℕ → ℕ} {rules : ℕ → List Rule} {n t : ℕ} (l : Looking place rules n t) where
  pub looking-done : n ≤ t → none ≡ first_of place rules n 1
  looking-done h = let none_left : n - t ≡ 0 = omega arith in sym (l.rest ∙ ap (λ (m : ℕ). first_of place rules m (suc t)) none_left)

  -- what is said of the next type
  module _ (more : t < n) {o : Option Answer} (said : o ≡ naming_at (t + 1) (place (t + 1)) (first_due (rules (t + 1)))) where
    abbrev with-later : Option Answer → Option Answer
    with-later x = or_else x (first_of place rules (n - (t + 1)) (suc (t + 1)))

    here : {x : Option Answer} → o ≡ x → first_of place rules n 1 ≡ with-later x
    here e =
        let left : n - t ≡ suc (n - (t + 1)) = omega arith in
        let next : suc t ≡ t + 1 = omega arith in
        l.rest ∙ ap₂ (λ (m k : ℕ). first_of place rules m k) left next ∙ ap with-later (sym said ∙ e)

    pub looking-next : o ≡ none → Looking place rules n (t + 1)
    looking-next e = record { inside = omega arith; rest = here e }

    pub looking-says : {a : Answer} → o ≡ some a → o ≡ first_of place rules n 1
    looking-says e = e ∙ sym (here e)
