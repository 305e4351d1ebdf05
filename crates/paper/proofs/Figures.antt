-- The limits in figures: what they allow, and what they refuse. The definitions and all other laws speak of a limit by its name.
-- Assumes nothing.
use Prim.Native.Nat.{ℕ, ◌+◌, ◌≤◌, ◌<◌}
use mathlib.Core.Path.{◌≡◌, refl, ap}
use mathlib.Core.Bool.{Bool, true, false, ◌||◌}
use mathlib.Core.List.{List, [], ◌∷◌}
use mathlib.Core.Logic.{◌⊎◌, ⊎_elim}
use mathlib.Core.Option.{Option, none, some}
use native.Mathlib.Omega.{arith}
use borrow.Author.Tests.{lt-ltb}
use lib.Dec.{ltb}
use lib.ListN.{length}
use Rattle.paper.proofs.gates.Acceptance.{good-accepted}
use Rattle.paper.proofs.gates.Earlies.{refusal-early}
use Rattle.paper.proofs.joins.JoinRefusals.{joinable-join_refusal, join-18, join-19}
use Rattle.paper.specs.rules.Answer.{Answer, report}
use Rattle.paper.specs.rules.Choice.{◌when◌, first_due, or_else}
use Rattle.paper.specs.rules.Gate.{naming, phase1, phase2, refusal, short_slices, table_report}
use Rattle.paper.specs.rules.Header.{header_length, order_of, header_report, length_bad, opening_bad, header_length_bad, sections_bad, strings_bad}
use Rattle.paper.specs.rules.Join.{joined_bytes, join_refusal}
use Rattle.paper.specs.rules.Limits.{byte_limit}
use Rattle.paper.specs.rules.Table.{Table, count}
use Rattle.paper.specs.rules.Walk.{blob_length, bytes_of, flat, table_of}
use Rattle.paper.specs.declared.Order.{Order}
use Rattle.paper.specs.terms.Early.{Fault, many, head-cut, no_kind, tail-cut, SpokenEarly, first, second, ninth}
use Rattle.paper.specs.terms.Fit.{Below, Bytes, Fits, word_bound}
use Rattle.paper.specs.terms.Good.{Good}

-- ── a table ──

-- a good table of at most 16,384 types and 262,144 bytes is accepted, with 16,385 places
pub most-accepted : (order : Order) (T : Table) → Good T → Below word_bound (flat T.records) → Bytes T.strings
    → count T ≤ 16384 → blob_length T ≤ 262144 → refusal (bytes_of order T) 16385 16385 ≡ none
most-accepted order T g words strings few short =
    let fits : Fits T = record {
      whole = g.whole;
      words-fit = words;
      bytes_fit = strings;
      section_fits = omega arith;
      strings-fit = omega arith;
      types_fit = omega arith;
    } in
    good-accepted order T g fits (omega arith) 16385 16385 (omega arith) (omega arith)

either_true : (x : Bool) {y : Bool} → y ≡ true → x || y ≡ true
either_true true e = refl
either_true false e = e

module _ (b : List ℕ) (places work : ℕ) where
  longest : 262144 < length b → phase1 b ≡ some (report 1 0)
  unfolding phase1 header_report length_bad
  longest h =
      let bad : length_bad b ≡ true = either_true (ltb (length b) header_length) (lt-ltb byte_limit (length b) (omega arith)) in
      ap (λ (x : Bool). naming 0 (first_due (1 when x
      ∷ 2 when opening_bad b
      ∷ 3 when header_length_bad b
      ∷ 4 when sections_bad b
      ∷ 5 when strings_bad b
      ∷ []))) bad

  -- over 262,144 bytes are report 1
  pub more_bytes : 262144 < length b → refusal b places work ≡ some (report 1 0)
  unfolding refusal
  more_bytes h =
      let T = table_of b in
      ap (λ (o : Option Answer). or_else o (or_else (phase2 b) (or_else (short_slices (count T) places work) (table_report T)))) (longest h)

  -- 8 names type 16,385
  pub eight-names : {a : Answer} → refusal b places work ≡ some a → a.number ≡ 8 → a.t ≡ 16385
  eight-names {a} e is = go (refusal-early b places work a e (omega arith))
    where
      faulty : {left : List ℕ} → Fault 16384 a.number a.t left → a.t ≡ 16385
      faulty (many number type) = type
      faulty (head-cut number low cut) = absurd (omega arith)
      faulty (no_kind number low room kind) = absurd (omega arith)
      faulty (tail-cut number low kind room cut) = absurd (omega arith)

      go : SpokenEarly b places work a → a.t ≡ 16385
      go (first due t p) =
          absurd (⊎_elim (λ d. omega (arith, d.0)) (λ r. ⊎_elim (λ d. omega (arith, d.0)) (λ s. ⊎_elim (λ d. omega (arith, d.0))
          (λ u. ⊎_elim (λ d. omega (arith, d.0)) (λ v. ⊎_elim (λ d. omega (arith, d.0)) (λ w. w.1) v.1) u.1) s.1) r.1) due)
      go (second header stands fault) = faulty fault
      go (ninth header whole short number t p) = absurd (omega arith)

-- ── a join ──

module _ (a b : List ℕ) (places work room : ℕ) (is-first : refusal a places work ≡ none) (is-second : refusal b places work ≡ none)
    (one-order : order_of a ≡ order_of b) where
  -- two accepted tables of one order, of at most 16,384 types and 262,144 bytes together are joined, where there is room
  pub most-joined : count (table_of a) + count (table_of b) ≤ 16384 → length (joined_bytes a b) ≤ 262144 → length (joined_bytes a b) ≤ room
      → join_refusal a b places work room ≡ none
  most-joined few short fits =
      joinable-join_refusal a b places work room
      (record { first = is-first; second = is-second; one-order = one-order; few = few; short = short; fits = fits })

  -- a type more is 18
  pub more-types-joined : 16384 < count (table_of a) + count (table_of b) → join_refusal a b places work room ≡ some (report 18 0)
  more-types-joined h = join-18 a b places work room is-first is-second one-order h

  -- a byte more is 19
  pub more-bytes-joined : count (table_of a) + count (table_of b) ≤ 16384 → 262144 < length (joined_bytes a b)
      → join_refusal a b places work room ≡ some (report 19 0)
  more-bytes-joined few h = join-19 a b places work room is-first is-second one-order few h
