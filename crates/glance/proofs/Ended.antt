-- Where references are good, walks that end after any number of steps end after as many as there are types.
-- Assumes nothing.
use Prim.Native.Nat.{ℕ, ◌≤◌}
use mathlib.Core.Path.{◌≡◌, refl, sym, ◌∙◌}
use mathlib.Core.Bool.{Bool, true, false, false≢true}
use mathlib.Core.List.{List, Memᴰ}
use Rattle.paper.proofs.walks.Endless.{chain-walks, walks-chain}
use Rattle.paper.proofs.walks.Insides.{held-inside, pointed-inside}
use Rattle.paper.specs.rules.Chain.{held_by, pointed_by, walks}
use Rattle.paper.specs.rules.References.{refs_ok}
use Rattle.paper.specs.rules.Table.{Table, count, record_at}

-- of steps of any sort that stay among the types 1 to n
walks-end : (step : ℕ → List ℕ) (n : ℕ) → ((t u : ℕ) → Memᴰ u (step t) → (1 ≤ u) × (u ≤ n)) → (k t : ℕ) → 1 ≤ t → t ≤ n
    → walks step k t ≡ false → walks step n t ≡ false
walks-end step n inside k t low high ended = go (walks step n t) refl
  where
    go : (b : Bool) → walks step n t ≡ b → b ≡ false
    go true e = absurd (false≢true (sym ended ∙ chain-walks (walks-chain step n inside t low high e) k))
    go false e = refl

module _ (T : Table) (refs : (t : ℕ) → 1 ≤ t → t ≤ count T → refs_ok T (record_at T t) ≡ true) where
  -- what a type holds by value is a type of the table
  pub held_types : (t u : ℕ) → Memᴰ u (held_by T t) → (1 ≤ u) × (u ≤ count T)
  held_types t u m = (held-inside T refs t u m).2

  -- and so is what it leads to by a link
  pub pointed-types : (t u : ℕ) → Memᴰ u (pointed_by T t) → (1 ≤ u) × (u ≤ count T)
  pointed-types t u m = (pointed-inside T refs t u m).2

  pub held-ended : (k : ℕ) → ((t : ℕ) → 1 ≤ t → t ≤ count T → walks (held_by T) k t ≡ false)
      → (t : ℕ) → 1 ≤ t → t ≤ count T → walks (held_by T) (count T) t ≡ false
  held-ended k ended t low high = walks-end (held_by T) (count T) held_types k t low high (ended t low high)

  pub pointed-ended : (k : ℕ) → ((t : ℕ) → 1 ≤ t → t ≤ count T → walks (pointed_by T) k t ≡ false)
      → (t : ℕ) → 1 ≤ t → t ≤ count T → walks (pointed_by T) (count T) t ≡ false
  pointed-ended k ended t low high = walks-end (pointed_by T) (count T) pointed-types k t low high (ended t low high)
