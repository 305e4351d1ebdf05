-- Longer joins of the code: runs of `join` along bracketings of the same blobs hand back the same. Each from the contract alone.
-- Assumes nothing.
use Rattle.std.specs.Prelude.{Result, ℕ}
use Rattle.paper.specs.declared.JoinError.{JoinError}
use Prim.Native.Nat.{ℕ}
use mathlib.Core.Path.{◌≡◌, refl, sym, ap, ap₂, ◌∙◌}
use mathlib.Core.List.{List}
use mathlib.Core.Option.{Option, none, some}
use lib.ListN.{length, length-replicate}
use Rattle.join.proofs.Demands.{FullJoin, handed-full}
use Rattle.join.specs.Joins.{handed_back}
use Rattle.paper.proofs.joins.FullJoins.{join_full-any}
use Rattle.paper.specs.rules.Gate.{zeros}
use Rattle.paper.specs.rules.Limits.{byte_limit}
use Rattle.paper.specs.rules.Table.{count}
use Rattle.paper.specs.rules.Walk.{table_of}
use Rattle.parts.proofs.Bracketing.{join_sides-none, join_along-leaves, join_along-kinds, join_along-count}
use Rattle.parts.specs.Brackets.{Bracketing, leaf, node, leaves, EachBytes, join_sides, join_along, total, of_kind}

-- a run along a bracketing and what it hands back: at each node one run of `join`, with slices of full size, on what its two sides handed
-- back, and none where a side handed back nothing
pub data RunAlong : Bracketing → Option (List ℕ) → Type 0 where
  given : (b : List ℕ) → RunAlong (leaf b) (some b)
  ran : {l r : Bracketing} {o a b output : List ℕ} {j : Result ℕ JoinError} → RunAlong l (some a) → RunAlong r (some b)
      → FullJoin o a b j output → RunAlong (node l r) (handed_back j output)
  no-first : {l r : Bracketing} → RunAlong l none → RunAlong (node l r) none
  no_second : {l r : Bracketing} → RunAlong r none → RunAlong (node l r) none

module _ (out : List ℕ) (full : length out ≡ byte_limit) where
  -- it hands back what the paper's joins along the bracketing do
  pub run_along : {t : Bracketing} {x : Option (List ℕ)} → RunAlong t x → x ≡ join_along out t
  run_along (given b) = refl
  run_along (ran {o} {a} {b} {j} p q f) =
      handed-full j f.joins ∙ join_full-any o out a b f.full full ∙ ap₂ (join_sides out) (run_along p) (run_along q)
  run_along (no-first {r} p) = ap (λ (x : Option (List ℕ)). join_sides out x (join_along out r)) (run_along p)
  run_along (no_second {l} q) = sym (join_sides-none out (join_along out l)) ∙ ap (join_sides out (join_along out l)) (run_along q)

-- an output of full size, which only the laws hold
lent : List ℕ
lent = zeros byte_limit

lent-full : length lent ≡ byte_limit
unfolding lent
lent-full = length-replicate {A = ℕ} byte_limit 0

-- any two runs along bracketings of the same blobs, however many they are, hand back the same bytes, or both hand back nothing
pub join-brackets : {t u : Bracketing} → EachBytes (leaves t) → leaves t ≡ leaves u → {x y : Option (List ℕ)} → RunAlong t x → RunAlong u y → x ≡ y
join-brackets {t} {u} bytes same p q =
    run_along lent lent-full p
    ∙ join_along-leaves lent lent lent-full lent-full t u bytes same
    ∙ sym (run_along lent lent-full q)

module _ {t : Bracketing} (bytes : EachBytes (leaves t)) {b : List ℕ} (p : RunAlong t (some b)) where
  -- where a blob is handed back, its records of each kind number the sum of those in the parts
  pub join-kinds : (k : ℕ) → of_kind k (table_of b) ≡ total (λ (s : List ℕ). of_kind k (table_of s)) (leaves t)
  join-kinds k = join_along-kinds lent t bytes (sym (run_along lent lent-full p)) k

  -- and so do all its types
  pub join-counts : count (table_of b) ≡ total (λ (s : List ℕ). count (table_of s)) (leaves t)
  join-counts = join_along-count lent t bytes (sym (run_along lent lent-full p))
