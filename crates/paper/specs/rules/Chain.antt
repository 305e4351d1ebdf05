-- Report 14: the two sorts of step, walks over steps of any sort, and chains that are followed for ever.
use Rattle.std.specs.Prelude.{ℕ, zero, suc, ◌≡◌, Bool, true, cond, ◌||◌, eqb}
use mathlib.Core.List.{List, [], ◌∷◌, Memᴰ}
use Rattle.paper.specs.rules.Choice.{member, any}
use Rattle.paper.specs.rules.Kind.{Role, names, refers, holds, number}
use Rattle.paper.specs.rules.KindNo.{PTR}
use Rattle.paper.specs.rules.Span.{aliases}
use Rattle.paper.specs.rules.Table.{Table, count, record_at, kind_at, roles_of, words_of}

-- a step's end in front of the others: "void not counted as a step's end"
abbrev pub step_to : ℕ → List ℕ → List ℕ
step_to w us = cond (eqb w 0) us (w ∷ us)

-- one word's reference in front of the others: only a by-value one that is not void
abbrev pub held_word : Role → ℕ → List ℕ → List ℕ
held_word (names rule) w us = us
held_word (refers rule) w us = us
held_word (holds rule) w us = step_to w us
held_word number w us = us

abbrev pub held_in : List Role → List ℕ → List ℕ
held_in [] ws = []
held_in (ρ ∷ ρs) [] = []
held_in (ρ ∷ ρs) (w ∷ ws) = held_word ρ w (held_in ρs ws)

-- the types that a type holds by value
unfoldable pub held_by : Table → ℕ → List ℕ
held_by T t = held_in (roles_of (record_at T t)) (words_of (record_at T t))

-- "a walk over PTR, TYPEDEF, VOLATILE, CONST, RESTRICT and TYPE_TAG alone": the second sort
abbrev pub links : List ℕ
links = PTR ∷ aliases

abbrev pub is_link : ℕ → Bool
is_link k = member k links

-- the type that one of these leads to; it may be of any kind
unfoldable pub pointed_by : Table → ℕ → List ℕ
pointed_by T t = cond (is_link (kind_at T t)) (step_to (record_at T t).third []) []

-- a walk of m steps from t exists, where `step` gives the types that a type leads to
abbrev pub walks : (ℕ → List ℕ) → ℕ → ℕ → Bool
walks step zero t = true
walks step (suc m) t = any (walks step m) (step t)

-- a chain that is followed for ever: each type leads to the next
pub record Chain (step : ℕ → List ℕ) (first : ℕ) : Type 0 where
  pub at : ℕ → ℕ
  pub starts : at 0 ≡ first
  pub goes_on : (i : ℕ) → Memᴰ (at (suc i)) (step (at i))

-- "the smallest type from which a by-value walk, or a walk of this second sort, has n steps"
unfoldable pub endless : Table → ℕ → Bool
endless T t = walks (held_by T) (count T) t || walks (pointed_by T) (count T) t
