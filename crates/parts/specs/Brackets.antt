-- Longer joins: the ways of bracketing a list of blobs, what joining along one hands back, and how many records of a kind a table has.
use Rattle.std.specs.Prelude.{ℕ, ◌+◌, cond, List, [], ◌∷◌, ◌++◌, eqb}
use Rattle.std.proofs.Math.Option.{Option, some}
use Rattle.paper.specs.rules.Table.{Record, Table, kind_of}
use Rattle.paper.specs.terms.Fit.{Bytes}
use Rattle.paper.specs.terms.Full.{join_full, and_then}

-- "all ways of bracketing them": one blob, or two bracketings side by side
pub data Bracketing : Type 0 where
  leaf : List ℕ → Bracketing
  node : Bracketing → Bracketing → Bracketing

-- its blobs, from the first to the last
abbrev pub leaves : Bracketing → List (List ℕ)
leaves (leaf b) = b ∷ []
leaves (node l r) = leaves l ++ leaves r

abbrev pub EachBytes : List (List ℕ) → Type 0
EachBytes [] = Unit {0}
EachBytes (b ∷ bs) = Bytes b × EachBytes bs

-- ── joining along a bracketing ──

-- the join of what two sides hand back, into a lent output; none is made where a side hands back nothing
abbrev pub join_sides : List ℕ → Option (List ℕ) → Option (List ℕ) → Option (List ℕ)
join_sides out x y = and_then x (λ (a : List ℕ). and_then y (λ (b : List ℕ). join_full out a b))

-- one blob is handed back as it is; every join is lent the same output, since what one of full size held does not matter (`join_along-any`)
abbrev pub join_along : List ℕ → Bracketing → Option (List ℕ)
join_along out (leaf b) = some b
join_along out (node l r) = join_sides out (join_along out l) (join_along out r)

-- ── what is counted ──

module _ {A : Type 0} where
  -- the sum of a number for each element
  abbrev pub total : (A → ℕ) → List A → ℕ
  total f [] = 0
  total f (x ∷ xs) = f x + total f xs

-- how many records of a kind a table has
unfoldable pub of_kind : ℕ → Table → ℕ
of_kind k T = total (λ (r : Record). cond (eqb (kind_of r) k) 1 0) T.records
