-- "Joined unless": a join is made exactly where both tables are accepted, of one order, and the limits and the room allow it; else 16, 17, 24,
-- 18 to 20, in that order.
-- Assumes nothing.
use Prim.Native.Nat.{ℕ, ◌+◌, ◌≤◌, ◌<◌}
use mathlib.Core.Path.{◌≡◌, refl, ap, ap₂, ◌∙◌, subst}
use mathlib.Core.Bool.{Bool, false, not}
use mathlib.Core.List.{List, [], ◌∷◌}
use mathlib.Core.Option.{Option, none, some}
use native.Mathlib.Omega.{arith}
use borrow.Author.Tests.{ltb-false, not-false, le-ltb, lt-ltb}
use lib.Dec.{ltb}
use lib.ListN.{length}
use Rattle.paper.proofs.basics.Choices.{first_due-none, none-first_due}
use Rattle.paper.proofs.basics.Orders.{same_order-true, same_order-same}
use Rattle.paper.proofs.gates.Gates.{or_else-none, none-or_else, naming-none, refused_inside-none}
use Rattle.paper.proofs.gates.Numbers.{Says, says-or_else, says-naming, says-inside}
use Rattle.paper.specs.rules.Answer.{Answer, report, inside}
use Rattle.paper.specs.rules.Choice.{◌when◌, first_due, or_else}
use Rattle.paper.specs.rules.Gate.{naming, refusal}
use Rattle.paper.specs.terms.Good.{Joinable}
use Rattle.paper.specs.rules.Header.{order_of}
use Rattle.paper.specs.rules.Join.{refused_inside, joined_bytes, limit_rules, limit_report, join_refusal}
use Rattle.paper.specs.rules.Limits.{type_limit, byte_limit}
use Rattle.paper.specs.rules.Table.{count}
use Rattle.paper.specs.rules.Walk.{table_of}
use Rattle.paper.specs.rules.Word.{same_order}

module _ (a b : List ℕ) (places work room : ℕ) where
  -- ── no refusal, exactly where ──

  pub join_refusal-joinable : join_refusal a b places work room ≡ none → Joinable a b places work room
  unfolding join_refusal limit_report
  join_refusal-joinable e =
      let one = or_else-none (refused_inside 16 (refusal a places work)) _ e in
      let two = or_else-none (refused_inside 17 (refusal b places work)) _ one.1 in
      let due = first_due-none (limit_rules a b room) (naming-none 0 _ two.1) in
      record {
        first = refused_inside-none 16 (refusal a places work) one.0;
        second = refused_inside-none 17 (refusal b places work) two.0;
        one-order = same_order-true (order_of a) (order_of b) (not-false _ due.0);
        few = ltb-false _ _ due.1.0;
        short = ltb-false _ _ due.1.1.0;
        fits = ltb-false _ _ due.1.1.1.0;
      }

  pub joinable-join_refusal : Joinable a b places work room → join_refusal a b places work room ≡ none
  unfolding join_refusal limit_report
  joinable-join_refusal j =
      none-or_else (ap (refused_inside 16) j.first)
      (none-or_else (ap (refused_inside 17) j.second)
      (ap (naming 0) (none-first_due (limit_rules a b room)
      (ap not (same_order-same j.one-order), (le-ltb _ _ j.few, (le-ltb _ _ j.short, (le-ltb _ _ j.fits, tt)))))))

  -- ── the grounds, in their order ──

  -- 16: the first table is refused, whatever the second is
  pub join-16 : {x : Answer} → refusal a places work ≡ some x → join_refusal a b places work room ≡ some (inside 16 x)
  unfolding join_refusal
  join-16 e = ap (λ (o : Option Answer). or_else (refused_inside 16 o) (or_else (refused_inside 17 (refusal b places work)) (limit_report a b room))) e

  module _ (first : refusal a places work ≡ none) where
    -- 17: the second is
    pub join-17 : {x : Answer} → refusal b places work ≡ some x → join_refusal a b places work room ≡ some (inside 17 x)
    unfolding join_refusal
    join-17 e = ap₂ (λ (o p : Option Answer). or_else (refused_inside 16 o) (or_else (refused_inside 17 p) (limit_report a b room))) first e

    module _ (second : refusal b places work ≡ none) where
      -- the other grounds are asked when both are accepted
      pub join_refusal-limits : join_refusal a b places work room ≡ limit_report a b room
      unfolding join_refusal
      join_refusal-limits = ap₂ (λ (o p : Option Answer). or_else (refused_inside 16 o) (or_else (refused_inside 17 p) (limit_report a b room))) first second

      long : Bool
      long = ltb byte_limit (length (joined_bytes a b))

      roomless : Bool
      roomless = ltb room (length (joined_bytes a b))

      -- what is said where the orders are the same or not
      spoken : {s : Bool} → same_order (order_of a) (order_of b) ≡ s → join_refusal a b places work room
          ≡ naming 0 (first_due (24 when not s ∷ 18 when ltb type_limit (count (table_of a) + count (table_of b)) ∷ 19 when long ∷ 20 when roomless ∷ []))
      unfolding limit_report long roomless
      spoken e =
          join_refusal-limits
          ∙ ap (λ (s : Bool). naming 0 (first_due (24 when not s
          ∷ 18 when ltb type_limit (count (table_of a) + count (table_of b))
          ∷ 19 when long
          ∷ 20 when roomless
          ∷ []))) e

      -- 24: two orders, whatever the limits say
      pub join-24 : same_order (order_of a) (order_of b) ≡ false → join_refusal a b places work room ≡ some (report 24 0)
      join-24 e = spoken e

      module _ (one-order : order_of a ≡ order_of b) where
        abbrev limits : Bool → Bool → Bool → Option Answer
        limits x y z = naming 0 (first_due (18 when x ∷ 19 when y ∷ 20 when z ∷ []))

        within-order : join_refusal a b places work room ≡ limits (ltb type_limit (count (table_of a) + count (table_of b))) long roomless
        within-order = spoken (same_order-same one-order)

        -- 18: too many types together
        pub join-18 : type_limit < count (table_of a) + count (table_of b) → join_refusal a b places work room ≡ some (report 18 0)
        join-18 h = within-order ∙ ap (λ (x : Bool). limits x long roomless) (lt-ltb _ _ h)

        module _ (few : count (table_of a) + count (table_of b) ≤ type_limit) where
          few-test : ltb type_limit (count (table_of a) + count (table_of b)) ≡ false
          few-test = le-ltb _ _ few

          -- 19: too long
          pub join-19 : byte_limit < length (joined_bytes a b) → join_refusal a b places work room ≡ some (report 19 0)
          unfolding long
          join-19 h = within-order ∙ ap₂ (λ (x y : Bool). limits x y roomless) few-test (lt-ltb _ _ h)

          -- 20: too little room
          pub join-20 : length (joined_bytes a b) ≤ byte_limit → room < length (joined_bytes a b) → join_refusal a b places work room ≡ some (report 20 0)
          unfolding long roomless
          join-20 short h =
              within-order
              ∙ ap₂ (λ (x y : Bool). limits x y roomless) few-test (le-ltb _ _ short)
              ∙ ap (λ (z : Bool). limits false false z) (lt-ltb _ _ h)

-- ── the report inside is the refused table's own, with its type and its place ──

module _ (a b : List ℕ) (places work room : ℕ) {y : Answer} (e : join_refusal a b places work room ≡ some y) where
  -- a refusal with one of two tables, or a later ground
  within : (n : ℕ) (o rest : Option Answer) → or_else (refused_inside n o) rest ≡ some y → Says (λ (m : ℕ). n < m) rest → y.number ≡ n
      → (x : Answer) × (o ≡ some x) × (y ≡ inside n x)
  within n none rest q later is = absurd (let m = subst (Says (λ (m : ℕ). n < m)) q later in omega arith)
  within n (some x) rest q later is = (x, refl, cc)

  after-17 : Says (λ (m : ℕ). 17 < m) (limit_report a b room)
  unfolding limit_report
  after-17 = says-naming (λ (m : ℕ). 17 < m) 0 (limit_rules a b room) (omega arith, (omega arith, (omega arith, (omega arith, tt))))

  pub inside-16 : y.number ≡ 16 → (x : Answer) × (refusal a places work ≡ some x) × (y ≡ inside 16 x)
  unfolding join_refusal limit_report
  inside-16 is =
      let Later : ℕ → Type 0 = λ m. 16 < m in
      within 16 (refusal a places work) _ e
      (says-or_else Later (refused_inside 17 (refusal b places work)) _ (says-inside Later 17 (omega arith) (refusal b places work))
      (says-naming Later 0 (limit_rules a b room) (omega arith, (omega arith, (omega arith, (omega arith, tt)))))) is

  pub inside-17 : y.number ≡ 17 → (x : Answer) × (refusal b places work ≡ some x) × (y ≡ inside 17 x)
  unfolding join_refusal
  inside-17 is =
      within 17 (refusal b places work) (limit_report a b room) (past-16 (refusal a places work) e) after-17 is
    where
      past-16 : (o : Option Answer) → or_else (refused_inside 16 o) (or_else (refused_inside 17 (refusal b places work)) (limit_report a b room)) ≡ some y
          → or_else (refused_inside 17 (refusal b places work)) (limit_report a b room) ≡ some y
      past-16 none q = q
      past-16 (some x) q = absurd (let n : 16 ≡ y.number = cc in omega arith)
