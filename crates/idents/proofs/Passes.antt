-- Laws of `Passing` and `Past`: bytes that pass a test from a place on, many at a time, and the run that they are.
-- Assumes nothing.
use Prim.Native.Nat.{ℕ, zero, suc, ◌+◌, ◌-◌, ◌<◌, ◌≤◌}
use mathlib.Core.Path.{◌≡◌, refl, sym, ap, ◌∙◌, subst}
use mathlib.Core.Bool.{Bool, true, false, not, ◌&&◌, false≢true}
use mathlib.Core.List.{List}
use mathlib.Core.Option.{Option, none}
use native.Mathlib.Omega.{arith}
use borrow.Author.Tests.{eqb-true, eqb-false, ltb-true, ltb-false}
use lib.Dec.{eqb, ltb}
use lib.ListN.{length, get_or, drop}
use Rattle.paper.proofs.basics.Choices.{and_left, and_right}
use Rattle.idents.specs.Spelling.{Begun, Lower, Names, Passing, Past, Surely, identifier_byte, left_at, run_length}
use Rattle.idents.proofs.Runs.{Running, running-start, running-end, running-stop, running-bad, running-full, running-next}

-- ── bytes that pass ──

module _ {f : ℕ → Bool} {s : List ℕ} {from : ℕ} where
  pub passing-start : from ≤ length s → Passing f s from from
  passing-start h = record { starts = omega arith; ends = h; each = λ j l b. absurd (omega arith) }

  pub passing-next : {i next : ℕ} → Passing f s from i → next ≡ suc i → i < length s → f (get_or s i 0) ≡ true → Passing f s from next
  passing-next {i} {next} p n inside e =
      let low = p.starts in
      record { starts = omega arith; ends = omega arith; each = λ j l b. go j l b (eqb j i) refl }
    where
      go : (j : ℕ) → from ≤ j → j < next → (t : Bool) → eqb j i ≡ t → f (get_or s j 0) ≡ true
      go j l b true same = ap (λ (k : ℕ). f (get_or s k 0)) (eqb-true j i same) ∙ e
      go j l b false other = let differ = eqb-false j i other in p.each j l (omega arith)

  pub passing-join : {i end : ℕ} → Passing f s from i → Passing f s i end → Passing f s from end
  passing-join {i} {end} p q =
      let low = p.starts in
      let high = q.starts in
      record { starts = omega arith; ends = q.ends; each = λ j l b. go j l b (ltb j i) refl }
    where
      go : (j : ℕ) → from ≤ j → j < end → (t : Bool) → ltb j i ≡ t → f (get_or s j 0) ≡ true
      go j l b true before = p.each j l (ltb-true j i before)
      go j l b false behind = q.each j (ltb-false j i behind) b

-- what passes one test passes a wider one
pub passing-wider : {f g : ℕ → Bool} {s : List ℕ} {from to : ℕ} → ((c : ℕ) → g c ≡ true → f c ≡ true) → Passing g s from to → Passing f s from to
passing-wider {f} {g} {s} wide p = record { starts = p.starts; ends = p.ends; each = λ j l b. wide (get_or s j 0) (p.each j l b) }

-- a run is begun with no byte
pub begun-start : {set s : List ℕ} {from : ℕ} → Names set → from < 4294967296 → from ≤ length s → Begun set s from from
begun-start n low h = record { offset = low; short = omega arith; names = n; passing = passing-start h }

-- ── how far they go ──

module _ {f : ℕ → Bool} {s : List ℕ} {from : ℕ} where
  -- on from a place up to which they pass, as far as a bound or the end, whichever is lower
  pub past-on : {at to most bound end : ℕ} → Passing f s from at → Lower (length s) most to → most ≡ bound → Past f s at to end → Past f s from bound end
  past-on {at} {to} {most} {bound} {end} p l same q =
      let reach = q.within in
      let low = l.right in
      record {
        passing = passing-join p q.passing;
        within = omega arith;
        stops = λ b inside. q.stops (l.most (suc end) inside (omega arith)) inside;
      }

  -- where they stop below a bound, they stop below a higher one
  pub past-before : {to bound end : ℕ} → Past f s from to end → end < to → to ≤ bound → Past f s from bound end
  past-before q b h = record { passing = q.passing; within = omega arith; stops = λ _ inside. q.stops b inside }

-- ── sixteen in a row ──

pub surely-start : {s : List ℕ} {from to : ℕ} → from ≡ to → to ≤ length s → Surely s from to true
surely-start {s} {from} {to} e h = record { passing = λ _. subst (λ (k : ℕ). Passing identifier_byte s from k) e (passing-start (omega arith)) }

pub surely-next : {s : List ℕ} {from i next : ℕ} {all t : Bool} → Surely s from i all → next ≡ suc i → i < length s
    → t ≡ identifier_byte (get_or s i 0) → Surely s from next (all && t)
surely-next {s} {from} {i} {next} {all} {t} p n inside is =
    record { passing = λ e. passing-next (p.passing (and_left all t e)) n inside (sym is ∙ and_right all t e) }

-- ── the run that they are ──

module _ {f : ℕ → Bool} {s : List ℕ} {from : ℕ} (most : ℕ) (zero_ends : f 0 ≡ false) where
  counted : (k : ℕ) → k ≤ most → Passing f s from (from + k) → Running f s from most (from + k) k
  counted zero h p = subst (λ (i : ℕ). Running f s from most i 0) same (running-start zero_ends refl)
    where
      same : from ≡ from + 0
      same = omega arith
  counted (suc k) h p =
      let ends = p.ends in
      subst (λ (i : ℕ). Running f s from most i (suc k)) place
      (subst (λ (n : ℕ). Running f s from most (from + k + 1) n) number
      (running-next
      (counted k (omega arith) (record { starts = omega arith; ends = omega arith; each = λ j l b. p.each j l (omega arith) }))
      (omega arith)
      refl
      (ap not (p.each (from + k) (omega arith) (omega arith)))
      (λ e. omega arith)))
    where
      place : from + k + 1 ≡ from + suc k
      place = omega arith

      number : k + 1 ≡ suc k
      number = omega arith

  module _ {i : ℕ} (p : Past f s from (from + most) i) where
    so_far : Running f s from most i (i - from)
    so_far =
        let low = p.passing.starts in
        let high = p.within in
        let place : from + (i - from) ≡ i = omega arith in
        subst (λ (k : ℕ). Running f s from most k (i - from)) place
        (counted (i - from) (omega arith) (subst (λ (k : ℕ). Passing f s from k) (sym place) p.passing))

    -- a byte that is not zero ends no run: it does not pass, or is one too many
    refused : i < length s → (get_or s i 0 ≡ 0 → ⊥) → none ≡ run_length f most (drop from s)
    refused inside n = go (f (get_or s i 0)) refl
      where
        go : (t : Bool) → f (get_or s i 0) ≡ t → none ≡ run_length f most (drop from s)
        go false e = running-bad so_far inside refl (ap not e) n
        go true e = running-full so_far inside refl (ap not e) (full (ltb i (from + most)) refl)
          where
            full : (t : Bool) → ltb i (from + most) ≡ t → i - from ≡ most
            full true below = absurd (false≢true (sym (p.stops (ltb-true i (from + most) below) inside) ∙ e))
            full false end =
                let low = p.passing.starts in
                let high = p.within in
                let bound = ltb-false i (from + most) end in
                omega arith

    left_is : left_at s from i ≡ run_length f most (drop from s)
    unfolding left_at
    left_is = go (ltb i (length s)) (eqb (get_or s i 0) 0) refl refl
      where
        go : (t z : Bool) → ltb i (length s) ≡ t → eqb (get_or s i 0) 0 ≡ z → left_at s from i ≡ run_length f most (drop from s)
        go false z e _ = rw e (running-end so_far (ltb-false i (length s) e))
        go true true e z = rw (e, z) (running-stop so_far (ltb-true i (length s) e) {t = f (get_or s i 0)} refl (eqb-true (get_or s i 0) 0 z))
        go true false e z = rw (e, z) (refused (ltb-true i (length s) e) (eqb-false (get_or s i 0) 0 z))

pub left-run : {f : ℕ → Bool} {s : List ℕ} {from i : ℕ} (most : ℕ) → Past f s from (from + most) i → f 0 ≡ false
    → {o : Option ℕ} → o ≡ left_at s from i → o ≡ run_length f most (drop from s)
left-run most p zero_ends d = d ∙ left_is most zero_ends p
