-- What a join with slices of full size hands back: the joined bytes where both tables are accepted, of one order, and the limits allow, else
-- nothing.
-- Assumes nothing.
use Prim.Native.Nat.{ℕ, ◌+◌, ◌≤◌}
use mathlib.Core.Path.{◌≡◌, refl, sym, ap, ap₂, ◌∙◌}
use mathlib.Core.Bool.{Bool, true, false, not, cond, ◌&&◌}
use mathlib.Core.List.{List, [], ◌∷◌}
use mathlib.Core.Logic.{◌⊎◌}
use mathlib.Core.Option.{Option, none, some}
use native.Mathlib.Omega.{arith}
use borrow.Author.Tests.{leb-true, le-ltb, lt-ltb, leb-false, ne_eqb}
use lib.Dec.{leb, ltb}
use lib.ListN.{length, take, drop}
use lib.Seq.{take-append_seam}
use Rattle.paper.proofs.basics.Orders.{same_order-same}
use Rattle.paper.proofs.joins.JoinRefusals.{join-16, join-17, join-24}
use Rattle.paper.proofs.joins.Joining.{count-join}
use Rattle.paper.proofs.gates.Gates.{some≢none}
use Rattle.paper.proofs.gates.Numbers.{Says, join_refusal-number}
use Rattle.paper.proofs.bytes.Tables.{length-bytes_of, order-bytes_of}
use Rattle.paper.specs.rules.Answer.{Answer}
use Rattle.paper.specs.rules.Choice.{◌when◌, first_due, or_else}
use Rattle.paper.specs.terms.Fit.{Accepted}
use Rattle.paper.specs.terms.Full.{handed, join_full, within_limits}
use Rattle.paper.specs.rules.Gate.{naming, refusal}
use Rattle.paper.specs.rules.Header.{order_of}
use Rattle.paper.specs.rules.Join.{join_tables, refused_inside, joined_bytes, limit_report, join_refusal, join_outcome, join}
use Rattle.paper.specs.rules.Limits.{type_limit, byte_limit, full_places}
use Rattle.paper.specs.rules.Table.{count}
use Rattle.paper.specs.rules.Walk.{table_of}
use Rattle.paper.specs.rules.Word.{same_order}

-- ── what a join of full size hands back ──

-- the bytes, unless something is said
abbrev unless : Option Answer → List ℕ → Option (List ℕ)
unless none bytes = some bytes
unless (some a) bytes = none

outcome-handed : (whole : List ℕ) (places work : ℕ) (out : List ℕ) (o : Option Answer) → Says (λ (n : ℕ). (16 ≤ n) × ((n ≤ 20) ⊎ (n ≡ 24))) o
    → handed (join_outcome whole places work out o) ≡ unless o whole
outcome-handed whole places work out none h = ap {B = Option (List ℕ)} some (take-append_seam whole (drop (length whole) out))
outcome-handed whole places work out (some a) h = ap (λ (t : Bool). cond t (some (take a.p out)) none) (ne_eqb a.number 0 (λ e. omega (arith, h.0)))

join_full-bytes : (out a b : List ℕ) → length out ≡ byte_limit
    → join_full out a b ≡ unless (join_refusal a b full_places full_places byte_limit) (joined_bytes a b)
unfolding join_full join
join_full-bytes out a b e =
    outcome-handed (joined_bytes a b) full_places full_places out (join_refusal a b full_places full_places (length out))
    (join_refusal-number a b full_places full_places (length out))
    ∙ ap (λ (room : ℕ). unless (join_refusal a b full_places full_places room) (joined_bytes a b)) e

-- so what an output of full size held before does not matter
pub join_full-any : (out out' a b : List ℕ) → length out ≡ byte_limit → length out' ≡ byte_limit → join_full out a b ≡ join_full out' a b
join_full-any out out' a b e e' = join_full-bytes out a b e ∙ sym (join_full-bytes out' a b e')

-- ── within the limits ──

not-above : (m n : ℕ) → leb m n ≡ not (ltb n m)
not-above m n = go (leb m n) refl
  where
    go : (t : Bool) → leb m n ≡ t → leb m n ≡ not (ltb n m)
    go true e = e ∙ sym (ap not (le-ltb n m (leb-true m n e)))
    go false e = e ∙ sym (ap not (lt-ltb n m (leb-false m n e)))

limits-unless : (x y : Bool) (bytes : List ℕ)
    → unless (naming 0 (first_due (24 when false ∷ 18 when x ∷ 19 when y ∷ 20 when y ∷ []))) bytes ≡ cond (not x && not y) (some bytes) none
limits-unless true y bytes = refl
limits-unless false true bytes = refl
limits-unless false false bytes = refl

-- two accepted tables of one order are joined unless the limits forbid it
joined-unless : (a b : List ℕ) → Accepted a → Accepted b → order_of a ≡ order_of b
    → unless (join_refusal a b full_places full_places byte_limit) (joined_bytes a b)
    ≡ cond (within_limits (join_tables (table_of a) (table_of b))) (some (joined_bytes a b)) none
unfolding join_refusal limit_report joined_bytes
joined-unless a b p q s =
    let A = table_of a in
    let B = table_of b in
    ap₂ (λ (x y : Option Answer). unless (or_else (refused_inside 16 x) (or_else (refused_inside 17 y) (limit_report a b byte_limit))) (joined_bytes a b)) p q
    ∙ ap (λ (x : Bool). unless (naming 0 (first_due (24 when not x
    ∷ 18 when ltb type_limit (count A + count B)
    ∷ 19 when ltb byte_limit (length (joined_bytes a b))
    ∷ 20 when ltb byte_limit (length (joined_bytes a b))
    ∷ []))) (joined_bytes a b)) (same_order-same s)
    ∙ limits-unless (ltb type_limit (count A + count B)) (ltb byte_limit (length (joined_bytes a b))) (joined_bytes a b)
    ∙ ap₂ (λ (x y : Bool). cond (x && y) (some (joined_bytes a b)) none)
    (sym (ap (λ (n : ℕ). leb n type_limit) (count-join A B) ∙ not-above (count A + count B) type_limit))
    (sym (ap (λ (n : ℕ). leb n byte_limit) (sym (length-bytes_of (order_of a) (join_tables A B))) ∙ not-above (length (joined_bytes a b)) byte_limit))

module _ (out a b : List ℕ) (full : length out ≡ byte_limit) where
  pub joined-accepted : Accepted a → Accepted b → order_of a ≡ order_of b
      → join_full out a b ≡ cond (within_limits (join_tables (table_of a) (table_of b))) (some (joined_bytes a b)) none
  joined-accepted p q s = join_full-bytes out a b full ∙ joined-unless a b p q s

  pub first-refused : {x : Answer} → refusal a full_places full_places ≡ some x → join_full out a b ≡ none
  first-refused p =
      join_full-bytes out a b full ∙ ap (λ (o : Option Answer). unless o (joined_bytes a b)) (join-16 a b full_places full_places byte_limit p)

  pub second-refused : {x : Answer} → refusal b full_places full_places ≡ some x → join_full out a b ≡ none
  second-refused p = go (refusal a full_places full_places) refl
    where
      go : (o : Option Answer) → refusal a full_places full_places ≡ o → join_full out a b ≡ none
      go (some y) q = first-refused q
      go none q = join_full-bytes out a b full ∙ ap (λ (o : Option Answer). unless o (joined_bytes a b)) (join-17 a b full_places full_places byte_limit q p)

  -- two orders are refused, whatever the tables are
  pub mixed-refused : same_order (order_of a) (order_of b) ≡ false → join_full out a b ≡ none
  mixed-refused s = go (refusal a full_places full_places) refl (refusal b full_places full_places) refl
    where
      go : (x : Option Answer) → refusal a full_places full_places ≡ x → (y : Option Answer) → refusal b full_places full_places ≡ y → join_full out a b ≡ none
      go (some x) p y q = first-refused p
      go none p (some y) q = second-refused q
      go none p none q =
          join_full-bytes out a b full ∙ ap (λ (o : Option Answer). unless o (joined_bytes a b)) (join-24 a b full_places full_places byte_limit p q s)

  joined-order : order_of (joined_bytes a b) ≡ order_of a
  unfolding joined_bytes
  joined-order = order-bytes_of (order_of a) (join_tables (table_of a) (table_of b))

  -- what is handed back has the order of the first
  pub join_full-order : (c : List ℕ) → join_full out a b ≡ some c → order_of c ≡ order_of a
  join_full-order c e = go (join_refusal a b full_places full_places byte_limit) (sym (join_full-bytes out a b full) ∙ e)
    where
      go : (o : Option Answer) → unless o (joined_bytes a b) ≡ some c → order_of c ≡ order_of a
      go none h = let same : joined_bytes a b ≡ c = cc in ap order_of (sym same) ∙ joined-order
      go (some x) h = absurd (some≢none (sym h))
