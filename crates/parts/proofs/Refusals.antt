-- Which number a cut is refused with, in the order of the grounds, and that two answers with the same numbers are one.
-- Assumes nothing.
use Rattle.std.specs.Prelude.{Err, Ok, Result, ℕ}
use Rattle.parts.specs.declared.SplitError.TheVariants.{NoCut, OutputShort, Refused}
use Rattle.parts.specs.declared.SplitError.{SplitError}
use Prim.Native.Nat.{ℕ, ◌≤◌, ◌<◌}
use mathlib.Core.Path.{◌≡◌, refl, sym, ap, ◌∙◌, subst}
use mathlib.Core.Bool.{Bool, true, false, not, ◌||◌}
use mathlib.Core.List.{List, [], ◌∷◌}
use mathlib.Core.Logic.{◌⊎◌, inl, inr}
use mathlib.Core.Option.{Option, none, some}
use native.Mathlib.Omega.{arith}
use borrow.Author.Tests.{ltb-false, le-ltb, lt-ltb, not-false}
use lib.Dec.{ltb}
use lib.ListN.{length}
use Rattle.parts.specs.Cut.{cut_ok, first_bytes, second_bytes, cut_rules, cut_refusal, parted_as_paper}
use Rattle.paper.proofs.basics.Answers.{report-one}
use Rattle.paper.proofs.basics.Choices.{first_due-none, or_left, or_right, or-false, false-or}
use Rattle.paper.proofs.gates.Gates.{or_else-none, naming-none}
use Rattle.paper.proofs.gates.Numbers.{Says, refusal-number}
use Rattle.paper.specs.declared.Report.{Report}
use Rattle.paper.specs.declared.Report.TheVariants.{Length, Opening, HeaderLength, Sections, Strings, RecordCut, UnknownKind, ManyTypes, SlicesShort}
use Rattle.paper.specs.declared.Report.TheVariants.{Head, Named, Tail, Reference, Endless, Layout}
use Rattle.paper.specs.rules.Answer.{Answer, report, report_as_paper}
use Rattle.paper.specs.rules.Choice.{◌when◌, first_due, or_else}
use Rattle.paper.specs.rules.Gate.{naming, refusal}
use Rattle.paper.specs.rules.Walk.{table_of}

module _ (b : List ℕ) (n s places work room room' : ℕ) where
  abbrev short : Bool
  short = ltb room (length (first_bytes b n s)) || ltb room' (length (second_bytes b n s))

  -- ── the grounds, in their order ──

  pub cut-report : {x : Answer} → refusal b places work ≡ some x → cut_refusal b n s places work room room' ≡ some x
  unfolding cut_refusal
  cut-report e = ap (λ (o : Option Answer). or_else o (naming 0 (first_due (cut_rules b n s room room')))) e

  module _ (accepted : refusal b places work ≡ none) where
    by-cut : {ok : Bool} → cut_ok n s (table_of b) ≡ ok
        → cut_refusal b n s places work room room' ≡ naming 0 (first_due (60 when not ok ∷ 61 when short ∷ []))
    unfolding cut_refusal
    by-cut e =
        ap (λ (o : Option Answer). or_else o (naming 0 (first_due (cut_rules b n s room room')))) accepted
        ∙ ap (λ (ok : Bool). naming 0 (first_due (60 when not ok ∷ 61 when short ∷ []))) e

    pub cut-60 : cut_ok n s (table_of b) ≡ false → cut_refusal b n s places work room room' ≡ some (report 60 0)
    cut-60 e = by-cut e

    module _ (ok : cut_ok n s (table_of b) ≡ true) where
      by-room : {z : Bool} → short ≡ z → cut_refusal b n s places work room room' ≡ naming 0 (first_due (61 when z ∷ []))
      by-room e = by-cut ok ∙ ap (λ (z : Bool). naming 0 (first_due (61 when z ∷ []))) e

      pub cut-61-first : room < length (first_bytes b n s) → cut_refusal b n s places work room room' ≡ some (report 61 0)
      cut-61-first h = by-room (or_left (ltb room' (length (second_bytes b n s))) (lt-ltb _ _ h))

      pub cut-61-second : room' < length (second_bytes b n s) → cut_refusal b n s places work room room' ≡ some (report 61 0)
      cut-61-second h = by-room (or_right (ltb room (length (first_bytes b n s))) (lt-ltb _ _ h))

      pub cut-made : length (first_bytes b n s) ≤ room → length (second_bytes b n s) ≤ room' → cut_refusal b n s places work room room' ≡ none
      cut-made h k = by-room (false-or (le-ltb _ _ h) (le-ltb _ _ k))

  -- ── and back: what is known of a blob that is refused with nothing, with 60 ──

  pub made-cut : cut_refusal b n s places work room room' ≡ none
      → (refusal b places work ≡ none) × (cut_ok n s (table_of b) ≡ true) × (length (first_bytes b n s) ≤ room) × (length (second_bytes b n s) ≤ room')
  unfolding cut_refusal
  made-cut e =
      let both = or_else-none (refusal b places work) _ e in
      let due = first_due-none (cut_rules b n s room room') (naming-none 0 _ both.1) in
      let rooms = or-false (ltb room (length (first_bytes b n s))) (ltb room' (length (second_bytes b n s))) due.1.0 in
      (both.0, not-false _ due.0, ltb-false _ _ rooms.0, ltb-false _ _ rooms.1)

  pub refused-60 : {x : Answer} → cut_refusal b n s places work room room' ≡ some x → x.number ≡ 60
      → (refusal b places work ≡ none) × (cut_ok n s (table_of b) ≡ false)
  refused-60 {x} e is = go (refusal b places work) refl (cut_ok n s (table_of b)) refl
    where
      go : (o : Option Answer) → refusal b places work ≡ o → (ok : Bool) → cut_ok n s (table_of b) ≡ ok
          → (refusal b places work ≡ none) × (cut_ok n s (table_of b) ≡ false)
      go (some y) p ok q =
          let small = subst (Says (λ (m : ℕ). (1 ≤ m) × (m ≤ 15))) p (refusal-number b places work) in
          let same : some y ≡ some x = sym (cut-report p) ∙ e in
          let number : y.number ≡ x.number = cc in
          absurd (omega (arith, small.1))
      go none p false q = (p, q)
      go none p true q = absurd (other (short) refl)
        where
          other : (z : Bool) → short ≡ z → ⊥
          other true w = let same : some (report 61 0) ≡ some x = sym (by-room p q w) ∙ e in let number : 61 ≡ x.number = cc in omega arith
          other false w = let same : none ≡ some x = sym (by-room p q w) ∙ e in let z : ◌≡◌ {A = ℕ} 0 1 = cc in omega arith

-- ── two answers with the same numbers are one ──

report-range : (r : Report) → (1 ≤ (report_as_paper r).number) × ((report_as_paper r).number ≤ 15)
unfolding report_as_paper
report-range Length = (omega arith, omega arith)
report-range Opening = (omega arith, omega arith)
report-range HeaderLength = (omega arith, omega arith)
report-range Sections = (omega arith, omega arith)
report-range Strings = (omega arith, omega arith)
report-range (RecordCut t p) = (omega arith, omega arith)
report-range (UnknownKind t p) = (omega arith, omega arith)
report-range (ManyTypes p) = (omega arith, omega arith)
report-range SlicesShort = (omega arith, omega arith)
report-range (Head t p) = (omega arith, omega arith)
report-range (Named t p) = (omega arith, omega arith)
report-range (Tail t p) = (omega arith, omega arith)
report-range (Reference t p) = (omega arith, omega arith)
report-range (Endless t p) = (omega arith, omega arith)
report-range (Layout t p) = (omega arith, omega arith)

-- a report's number is no other's
apart-report : (r : Report) {k : ℕ} → (report_as_paper r).number ≡ k → (k ≡ 0) ⊎ (16 ≤ k) → ⊥
apart-report r e (inl h) = omega (arith, report-range r)
apart-report r e (inr h) = omega (arith, report-range r)

pub parted-one : (a b : Result (ℕ × ℕ) SplitError) → parted_as_paper a ≡ parted_as_paper b → a ≡ b
unfolding parted_as_paper
parted-one (Ok (m, k)) (Ok (m', k')) e = let x : m ≡ m' = ap (λ (a : Answer). a.t) e in let y : k ≡ k' = ap (λ (a : Answer). a.p) e in cc
parted-one (Ok (m, k)) (Err (Refused r)) e = absurd (apart-report r (ap (λ (a : Answer). a.number) (sym e)) (inl refl))
parted-one (Ok (m, k)) (Err NoCut) e = absurd (let z : ◌≡◌ {A = ℕ} 0 60 = ap (λ (a : Answer). a.number) e in omega arith)
parted-one (Ok (m, k)) (Err OutputShort) e = absurd (let z : ◌≡◌ {A = ℕ} 0 61 = ap (λ (a : Answer). a.number) e in omega arith)
parted-one (Err (Refused r)) (Ok (m, k)) e = absurd (apart-report r (ap (λ (a : Answer). a.number) e) (inl refl))
parted-one (Err (Refused r)) (Err (Refused q)) e = ap (λ (x : Report). Err (Refused x)) (report-one r q e)
parted-one (Err (Refused r)) (Err NoCut) e = absurd (apart-report r (ap (λ (a : Answer). a.number) e) (inr (omega arith)))
parted-one (Err (Refused r)) (Err OutputShort) e = absurd (apart-report r (ap (λ (a : Answer). a.number) e) (inr (omega arith)))
parted-one (Err NoCut) (Ok (m, k)) e = absurd (let z : ◌≡◌ {A = ℕ} 60 0 = ap (λ (a : Answer). a.number) e in omega arith)
parted-one (Err NoCut) (Err (Refused r)) e = absurd (apart-report r (ap (λ (a : Answer). a.number) (sym e)) (inr (omega arith)))
parted-one (Err NoCut) (Err NoCut) e = refl
parted-one (Err NoCut) (Err OutputShort) e = absurd (let z : ◌≡◌ {A = ℕ} 60 61 = ap (λ (a : Answer). a.number) e in omega arith)
parted-one (Err OutputShort) (Ok (m, k)) e = absurd (let z : ◌≡◌ {A = ℕ} 61 0 = ap (λ (a : Answer). a.number) e in omega arith)
parted-one (Err OutputShort) (Err (Refused r)) e = absurd (apart-report r (ap (λ (a : Answer). a.number) (sym e)) (inr (omega arith)))
parted-one (Err OutputShort) (Err NoCut) e = absurd (let z : ◌≡◌ {A = ℕ} 61 60 = ap (λ (a : Answer). a.number) e in omega arith)
parted-one (Err OutputShort) (Err OutputShort) e = refl
