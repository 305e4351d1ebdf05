-- What the join answers at each way out: the two refusals, two orders, the three limits, and the joined length.
-- Assumes nothing.
use denote.Enum.Bare.{sameb}
use Rattle.paper.specs.contracts.Order.{the_type}
use Rattle.paper.specs.declared.Order.TheVariants.{LowFirst, HighFirst}
use Rattle.std.specs.Prelude.{Err, Ok, Result, ℕ}
use Rattle.paper.specs.declared.JoinError.TheVariants.{FirstRefused, OrdersDiffer, OutputShort, SecondRefused, TooLong, TooMany}
use Rattle.paper.specs.declared.JoinError.{JoinError}
use Prim.Native.Nat.{ℕ, ◌+◌, ◌-◌, ◌≤◌, ◌<◌}
use mathlib.Core.Path.{◌≡◌, refl, sym, ap, ap₂, ◌∙◌}
use mathlib.Core.Bool.{Bool, true, false, not}
use mathlib.Core.List.{List, ◌++◌}
use mathlib.Core.Option.{Option, none, some}
use native.Mathlib.Omega.{arith}
use borrow.Author.Tests.{not-true, not-false}
use lib.ListN.{length, drop}
use Rattle.gate.specs.Check.{CheckOf}
use Rattle.join.specs.Joins.{BothAccepted, WriteAsk, limited, LimitedOf, JoinOf}
use Rattle.paper.proofs.basics.Orders.{same_order-true}
use Rattle.paper.proofs.Outcomes.{gate-refused, gate-accepted, join-refused}
use Rattle.paper.proofs.bytes.Tables.{length-bytes_of}
use Rattle.paper.proofs.gates.Acceptance.{accepted-meets, accepted-bytes, accepted-closed}
use Rattle.paper.proofs.gates.Answered.{checked-accepted, checked_refused}
use Rattle.paper.proofs.joins.Grouping.{length-join}
use Rattle.paper.proofs.joins.JoinRefusals.{join_refusal-limits, joinable-join_refusal, join-16, join-17, join-24, join-18, join-19, join-20}
use Rattle.paper.specs.rules.Answer.{Answer, value, joined_as_paper}
use Rattle.paper.specs.terms.Fit.{Bytes}
use Rattle.paper.specs.rules.Gate.{Outcome, refusal, zeros}
use Rattle.paper.specs.terms.Good.{Joinable}
use Rattle.paper.specs.rules.Header.{order_of}
use Rattle.paper.specs.rules.Join.{join_tables, joined_bytes, limit_report, join_refusal, JoinOutcome, join_outcome, join}
use Rattle.paper.specs.rules.Limits.{type_limit, byte_limit}
use Rattle.paper.specs.rules.Table.{count}
use Rattle.paper.specs.rules.Walk.{table_of}
use Rattle.paper.specs.rules.Word.{same_order}
use Rattle.paper.specs.declared.Order.{Order}
use Rattle.paper.specs.declared.Report.{Report}

-- ── two accepted tables ──

-- what a derived `!=` asks of two orders
pub same-as : (o q : Order) → sameb the_type o q ≡ same_order o q
same-as LowFirst LowFirst = refl
same-as LowFirst HighFirst = refl
same-as HighFirst LowFirst = refl
same-as HighFirst HighFirst = refl

module _ {a b : List ℕ} {n m : ℕ} (h : BothAccepted a b n m) where
  -- the joined length is both lengths less 25
  pub length-joined : length (joined_bytes a b) + 25 ≡ length a + length b
  unfolding joined_bytes
  length-joined =
      let A = table_of a in
      let B = table_of b in
      let j = length-bytes_of (order_of a) (join_tables A B) in
      let l = length-join A B (accepted-closed a _ _ h.first) (accepted-closed b _ _ h.second) in
      let la = ap length (sym (accepted-bytes a _ _ h.first h.first_bytes)) ∙ length-bytes_of (order_of a) A in
      let lb = ap length (sym (accepted-bytes b _ _ h.second h.second_bytes)) ∙ length-bytes_of (order_of b) B in
      omega arith

  -- no accepted table is over a limit, nor without a header and strings
  pub few-accepted : ((n ≤ type_limit) × (m ≤ type_limit)) × (25 ≤ length a + length b)
  few-accepted =
      let f = (accepted-meets a _ _ h.first).readable in
      let s = (accepted-meets b _ _ h.second).readable in (
        (omega (arith, f.section.few_found, h.first_count), omega (arith, s.section.few_found, h.second_count)),
        omega (arith, f.header.long, s.header.long),
      )

  -- the limits are asked in the paper's order
  module _ (out : List ℕ) where
    asked : limit_report a b (length out) ≡ join_refusal a b h.places h.work (length out)
    asked = sym (join_refusal-limits a b h.places h.work (length out) h.first h.second)

    -- a limit that is passed leaves the output as it was
    passed : (j : Result ℕ JoinError) → join_refusal a b h.places h.work (length out) ≡ some (joined_as_paper j) → LimitedOf j a b out out
    unfolding limited
    passed j e =
        let said = ap (join_outcome (joined_bytes a b) 0 0 out) (asked ∙ e) in
        record { answers = ap (λ (o : JoinOutcome). o.answer) (sym said); outputs = ap (λ (o : JoinOutcome). o.output) (sym said) }

    -- the test of both orders, from what the code asks
    pub two-orders : {s : Bool} {o q : Order} → s ≡ same_order o q → o ≡ order_of a → q ≡ order_of b → not s ≡ true → LimitedOf (Err OrdersDiffer) a b out out
    unfolding joined_as_paper
    two-orders {s} asked is-a is_b differ =
        passed (Err OrdersDiffer) (join-24 a b h.places h.work (length out) h.first h.second
        (sym (λ i. same_order (is-a i) (is_b i)) ∙ sym asked ∙ not-true s differ))

    pub one-order : {s : Bool} {o q : Order} → s ≡ same_order o q → o ≡ order_of a → q ≡ order_of b → not s ≡ false → order_of a ≡ order_of b
    one-order {s} {o} {q} asked is-a is_b same = sym is-a ∙ same_order-true o q (sym asked ∙ not-false s same) ∙ is_b

    module _ (ordered : order_of a ≡ order_of b) where
      pub limit-types : type_limit < n + m → LimitedOf (Err TooMany) a b out out
      unfolding joined_as_paper
      limit-types l =
          passed (Err TooMany) (join-18 a b h.places h.work (length out) h.first h.second ordered (omega (arith, h.first_count, h.second_count)))

      module _ (few : n + m ≤ type_limit) where
        few-types : count (table_of a) + count (table_of b) ≤ type_limit
        few-types = omega (arith, h.first_count, h.second_count)

        pub limit-bytes : {len : ℕ} → len ≡ length a + length b - 25 → byte_limit < len → LimitedOf (Err TooLong) a b out out
        unfolding joined_as_paper
        limit-bytes e l =
            passed (Err TooLong) (join-19 a b h.places h.work (length out) h.first h.second ordered few-types (omega (arith, length-joined)))

        module _ {len : ℕ} (e : len ≡ length a + length b - 25) (short : len ≤ byte_limit) where
          long : length (joined_bytes a b) ≡ len
          long = omega (arith, length-joined)

          pub limit-room : length out < len → LimitedOf (Err OutputShort) a b out out
          unfolding joined_as_paper
          limit-room l =
              let j = long in
              passed (Err OutputShort) (join-20 a b h.places h.work (length out) h.first h.second ordered few-types (omega arith) (omega arith))

          module _ (room : len ≤ length out) where
            pub write-ask : {size : ℕ} → size ≡ len → WriteAsk a b n m size
            write-ask s = let j = long in record { both = h; one-order = ordered; fits = omega arith; short = omega arith }

            -- nothing is in the way
            pub limit-none : {part : List ℕ} → part ≡ joined_bytes a b → LimitedOf (Ok len) a b out (part ++ drop len out)
            unfolding limited joined_as_paper
            limit-none {part} w =
                let j = long in
                let joinable : Joinable a b h.places h.work (length out) =
                record { first = h.first; second = h.second; one-order = ordered; few = few-types; short = omega arith; fits = omega arith } in
                let said = ap (join_outcome (joined_bytes a b) 0 0 out) (asked ∙ joinable-join_refusal a b h.places h.work (length out) joinable) in
                record {
                  answers = ap value (sym long) ∙ ap (λ (o : JoinOutcome). o.answer) (sym said);
                  outputs = ap₂ (λ (s : List ℕ) (k : ℕ). s ++ drop k out) w (sym long) ∙ ap (λ (o : JoinOutcome). o.output) (sym said);
                }

-- ── both tables checked ──

module _ (a b : List ℕ) (places work : ℕ) where
  -- 16: the first is refused
  pub first-refused : {r : Report} {index works : List ℕ} (out : List ℕ) → CheckOf (Err r) a places work index works
      → JoinOf (Err (FirstRefused r)) a b places work out index works out
  unfolding joined_as_paper
  first-refused {r} {index} {works} out c =
      let said = checked_refused a places work r c.told.answers in
      let left = gate-refused a places work said in
      let whole = join-refused a b places work out (join-16 a b places work (length out) said) in
      record {
        answers = ap (λ (o : JoinOutcome). o.answer) (sym whole);
        indexes = c.told.indexes ∙ ap (λ (o : Outcome). o.index) left ∙ ap (λ (o : JoinOutcome). o.index) (sym whole);
        works = c.cleared ∙ ap (λ (o : Outcome). o.work) left ∙ ap (λ (o : JoinOutcome). o.work) (sym whole);
        outputs = ap (λ (o : JoinOutcome). o.output) (sym whole);
      }

  module _ {n : ℕ} {index works : List ℕ} (c : CheckOf (Ok n) a places work index works) where
    first-none : refusal a places work ≡ none
    first-none = (checked-accepted a places work c.told.answers).0

    -- 17: the second is refused
    pub second-refused : {r : Report} {index₂ works₂ : List ℕ} (out : List ℕ) → CheckOf (Err r) b places work index₂ works₂
        → JoinOf (Err (SecondRefused r)) a b places work out index₂ works₂ out
    unfolding joined_as_paper
    second-refused {r} out d =
        let said = checked_refused b places work r d.told.answers in
        let left = gate-refused b places work said in
        let whole = join-refused a b places work out (join-17 a b places work (length out) first-none said) in
        record {
          answers = ap (λ (o : JoinOutcome). o.answer) (sym whole);
          indexes = d.told.indexes ∙ ap (λ (o : Outcome). o.index) left ∙ ap (λ (o : JoinOutcome). o.index) (sym whole);
          works = d.cleared ∙ ap (λ (o : Outcome). o.work) left ∙ ap (λ (o : JoinOutcome). o.work) (sym whole);
          outputs = ap (λ (o : JoinOutcome). o.output) (sym whole);
        }

    module _ {m : ℕ} {index₂ works₂ : List ℕ} (d : CheckOf (Ok m) b places work index₂ works₂) where
      second_none : refusal b places work ≡ none
      second_none = (checked-accepted b places work d.told.answers).0

      pub both-accepted : Bytes a → Bytes b → BothAccepted a b n m
      both-accepted x y =
          record {
            places = places;
            work = work;
            first = first-none;
            second = second_none;
            first_bytes = x;
            second_bytes = y;
            first_count = (checked-accepted a places work c.told.answers).1;
            second_count = (checked-accepted b places work d.told.answers).1;
          }

      -- then the limits decide, and both slices end all 0
      pub limits-decide : {j : Result ℕ JoinError} {out output index₃ : List ℕ} → index₃ ≡ zeros places → LimitedOf j a b out output
          → JoinOf j a b places work out index₃ works₂ output
      unfolding limited join
      limits-decide {j} {out} {output} cleared l =
          let said = join_refusal-limits a b places work (length out) first-none second_none in
          let left = gate-accepted b places work second_none in
          record {
            answers =
                l.answers
                ∙ (outcomes (limit_report a b (length out))).0
                ∙ ap (λ (o : Option Answer). (join_outcome (joined_bytes a b) places work out o).answer) (sym said);
            indexes =
                cleared
                ∙ (outcomes (limit_report a b (length out))).1
                ∙ ap (λ (o : Option Answer). (join_outcome (joined_bytes a b) places work out o).index) (sym said);
            works =
                d.cleared
                ∙ ap (λ (o : Outcome). o.work) left
                ∙ (outcomes (limit_report a b (length out))).2
                ∙ ap (λ (o : Option Answer). (join_outcome (joined_bytes a b) places work out o).work) (sym said);
            outputs =
                l.outputs
                ∙ (outcomes (limit_report a b (length out))).3
                ∙ ap (λ (o : Option Answer). (join_outcome (joined_bytes a b) places work out o).output) (sym said);
          }
        where
          -- the places lent count for nothing but the two slices
          outcomes : (o : Option Answer) → let x = join_outcome (joined_bytes a b) 0 0 out o in let y = join_outcome (joined_bytes a b) places work out o in
              (x.answer ≡ y.answer) × (zeros places ≡ y.index) × (zeros work ≡ y.work) × (x.output ≡ y.output)
          outcomes none = (refl, refl, refl, refl)
          outcomes (some x) = (refl, refl, refl, refl)
