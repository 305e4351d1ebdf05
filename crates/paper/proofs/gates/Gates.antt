-- Laws of the gate's search: a table gets no report exactly where no rule is due at any of its types.
-- Assumes nothing.
use Prim.Native.Nat.{ℕ, zero, suc, ◌+◌, ◌≤◌, ◌<◌}
use mathlib.Core.Path.{◌≡◌, refl, sym, ap, ap₂, ◌∙◌, subst}
use mathlib.Core.Bool.{Bool, true, false, not}
use mathlib.Core.List.{List}
use mathlib.Core.Logic.{◌⊎◌, inl, inr}
use mathlib.Core.Option.{Option, none, some}
use native.Mathlib.Omega.{arith}
use borrow.Author.Tests.{eqb-true, eqb-false, not-false}
use lib.Dec.{eqb}
use Rattle.paper.proofs.basics.Choices.{first_due-none, none-first_due, first_due-some}
use Rattle.paper.specs.rules.Answer.{Answer, report_at}
use Rattle.paper.specs.rules.Choice.{Rule, first_due, or_else}
use Rattle.paper.specs.rules.Gate.{naming_at, naming, first_of, over_types, phase3, phase4, phase5, phase6, table_report}
use Rattle.paper.specs.terms.Good.{Sound}
use Rattle.paper.specs.rules.Heads.{head_bad}
use Rattle.paper.specs.rules.Join.{refused_inside}
use Rattle.paper.specs.rules.Layout.{layout_bad}
use Rattle.paper.specs.rules.Names.{name_bad}
use Rattle.paper.specs.rules.References.{ref_bad}
use Rattle.paper.specs.terms.Smallest.{Silent, Smallest}
use Rattle.paper.specs.rules.Table.{Table, count}
use Rattle.paper.specs.rules.Tails.{tail_bad}
use Rattle.paper.specs.rules.Walk.{place_at}

-- ── answers that may be missing ──

pub some≢none : {A : Type 0} {a : A} → ◌≡◌ {A = Option A} (some a) none → ⊥
some≢none {A} {a} e = let z : ◌≡◌ {A = ℕ} 0 1 = ap {A = Option A} is_none e in omega arith
  where
    is_none : Option A → ℕ
    is_none none = 1
    is_none (some x) = 0

pub some_one : {A : Type 0} {x y : A} → ◌≡◌ {A = Option A} (some x) (some y) → x ≡ y
some_one e = cc

module _ {A : Type 0} where
  pub or_else-none : (a b : Option A) → or_else a b ≡ none → (a ≡ none) × (b ≡ none)
  or_else-none none b e = (refl, e)
  or_else-none (some x) b e = absurd (some≢none e)

  -- an answer is the first's, or the first has none and it is the second's
  pub or_else-some : (a b : Option A) {x : A} → or_else a b ≡ some x → (a ≡ some x) ⊎ ((a ≡ none) × (b ≡ some x))
  or_else-some none b e = inr (refl, e)
  or_else-some (some y) b e = inl e

  pub none-or_else : {a b : Option A} → a ≡ none → b ≡ none → or_else a b ≡ none
  none-or_else p q = ap₂ or_else p q

naming_at-none : (t p : ℕ) (o : Option ℕ) → naming_at t p o ≡ none → o ≡ none
naming_at-none t p none e = refl
naming_at-none t p (some n) e = absurd (some≢none e)

pub naming-none : (t : ℕ) (o : Option ℕ) → naming t o ≡ none → o ≡ none
naming-none t o e = naming_at-none t 0 o e

pub refused_inside-none : (number : ℕ) (o : Option Answer) → refused_inside number o ≡ none → o ≡ none
refused_inside-none number none e = refl
refused_inside-none number (some a) e = absurd (some≢none e)

-- ── over types ──

module _ (place : ℕ → ℕ) (rules : ℕ → List Rule) where
  first_of-none : (left k : ℕ) → first_of place rules left k ≡ none → (t : ℕ) → k ≤ t → t < k + left → first_due (rules t) ≡ none
  first_of-none zero k e t low high = absurd (omega arith)
  first_of-none (suc left) k e t low high =
      let both = or_else-none (naming_at k (place k) (first_due (rules k))) (first_of place rules left (suc k)) e in
      go (naming_at-none k (place k) (first_due (rules k)) both.0) (eqb t k) refl
      (λ (p : suc k ≤ t). first_of-none left (suc k) both.1 t p (omega arith))
    where
      go : first_due (rules k) ≡ none → (z : Bool) → eqb t k ≡ z → (suc k ≤ t → first_due (rules t) ≡ none) → first_due (rules t) ≡ none
      go here true x later = ap (λ (u : ℕ). first_due (rules u)) (eqb-true t k x) ∙ here
      go here false x later = let ne = eqb-false t k x in later (omega arith)

  none-first_of : (left k : ℕ) → ((t : ℕ) → k ≤ t → t < k + left → first_due (rules t) ≡ none) → first_of place rules left k ≡ none
  none-first_of zero k h = refl
  none-first_of (suc left) k h =
      none-or_else (ap (naming_at k (place k)) (h k (omega arith) (omega arith)))
      (none-first_of left (suc k) (λ t low high. h t (omega arith) (omega arith)))

  -- a rule is due at a type from k on, of so many, at no smaller one, and the answer says which and where
  record DueAt (left k : ℕ) (a : Answer) : Type 0 where
    low : k ≤ a.t
    high : a.t < k + left
    due : first_due (rules a.t) ≡ some a.number
    smaller : (u : ℕ) → k ≤ u → u < a.t → first_due (rules u) ≡ none
    placed : a.p ≡ place a.t

  first_of-some : (left k : ℕ) (a : Answer) → first_of place rules left k ≡ some a → DueAt left k a
  first_of-some zero k a e = absurd (some≢none (sym e))
  first_of-some (suc left) k a e = go (first_due (rules k)) refl e (first_of-some left (suc k) a)
    where
      at-k : first_due (rules k) ≡ none → (u : ℕ) → (z : Bool) → eqb u k ≡ z → (suc k ≤ u → first_due (rules u) ≡ none) → k ≤ u → first_due (rules u) ≡ none
      at-k p u true x later low = ap (λ (v : ℕ). first_due (rules v)) (eqb-true u k x) ∙ p
      at-k p u false x later low = let ne = eqb-false u k x in later (omega arith)

      here : (n : ℕ) → first_due (rules k) ≡ some n → report_at n k (place k) ≡ a → DueAt (suc left) k a
      here n p q =
          subst (DueAt (suc left) k) q
          (record { low = omega arith; high = omega arith; due = p; smaller = λ u low less. absurd (omega arith); placed = refl })

      go : (o : Option ℕ) → first_due (rules k) ≡ o → or_else (naming_at k (place k) o) (first_of place rules left (suc k)) ≡ some a
          → (first_of place rules left (suc k) ≡ some a → DueAt left (suc k) a) → DueAt (suc left) k a
      go none p q later =
          let w = later q in
          record {
            low = omega (arith, w.low);
            high = omega (arith, w.high);
            due = w.due;
            smaller = λ u low less. at-k p u (eqb u k) refl (λ more. w.smaller u more less) low;
            placed = w.placed;
          }
      go (some n) p q later = here n p (cc)

-- ── a table of which nothing is said ──

module _ (T : Table) where
  over_types-none : (phase : Table → ℕ → List Rule) → over_types phase T ≡ none → (t : ℕ) → 1 ≤ t → t ≤ count T → first_due (phase T t) ≡ none
  unfolding over_types
  over_types-none phase e t low high = first_of-none (place_at T) (phase T) (count T) 1 e t low (omega arith)

  -- a phase's report names the smallest type at which one of its rules is due, by the smallest number
  pub over_types-some : (phase : Table → ℕ → List Rule) (a : Answer) → over_types phase T ≡ some a → Smallest phase T a
  unfolding over_types
  over_types-some phase a e =
      let d = first_of-some (place_at T) (phase T) (count T) 1 a e in
      record {
        low = d.low;
        high = omega (arith, d.high);
        due = first_due-some (phase T a.t) a.number d.due;
        smaller = λ t low less. first_due-none (phase T t) (d.smaller t low less);
        placed = d.placed;
      }

  -- and where it has none, it is silent
  pub over_types-silent : (phase : Table → ℕ → List Rule) → over_types phase T ≡ none → Silent phase T
  over_types-silent phase e t low high = first_due-none (phase T t) (over_types-none phase e t low high)

  none-over_types : (phase : Table → ℕ → List Rule) → ((t : ℕ) → 1 ≤ t → t ≤ count T → first_due (phase T t) ≡ none) → over_types phase T ≡ none
  unfolding over_types
  none-over_types phase h = none-first_of (place_at T) (phase T) (count T) 1 (λ t low high. h t low (omega arith))

  pub table_report-sound : table_report T ≡ none → Sound T
  unfolding table_report phase3 phase4 phase5 phase6 head_bad name_bad tail_bad ref_bad layout_bad
  table_report-sound e =
      let p₃ = or_else-none (over_types phase3 T) _ e in
      let p₄ = or_else-none (over_types phase4 T) _ p₃.1 in
      let p₅ = or_else-none (over_types phase5 T) _ p₄.1 in
      λ t low high.
      let due₃ = over_types-silent phase3 p₃.0 t low high in
      record {
        heads = not-false _ due₃.0;
        names = not-false _ due₃.1.0;
        tails = not-false _ due₃.1.1.0;
        refs = not-false _ (over_types-silent phase4 p₄.0 t low high).0;
        ends = (over_types-silent phase5 p₅.0 t low high).0;
        layouts = not-false _ (over_types-silent phase6 p₅.1 t low high).0;
      }

  pub sound-table_report : Sound T → table_report T ≡ none
  unfolding table_report phase3 phase4 phase5 phase6 head_bad name_bad tail_bad ref_bad layout_bad
  sound-table_report s =
      none-or_else
      (none-over_types phase3
      (λ t low high. none-first_due (phase3 T t) (ap not (s t low high).heads, (ap not (s t low high).names, (ap not (s t low high).tails, tt)))))
      (none-or_else (none-over_types phase4 (λ t low high. none-first_due (phase4 T t) (ap not (s t low high).refs, tt)))
      (none-or_else (none-over_types phase5 (λ t low high. none-first_due (phase5 T t) ((s t low high).ends, tt)))
      (none-over_types phase6 (λ t low high. none-first_due (phase6 T t) (ap not (s t low high).layouts, tt)))))
