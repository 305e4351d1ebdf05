-- Laws of `runs` and `run_length`: a run of bytes up to the first zero byte, one byte at a time.
-- Assumes nothing.
use Rattle.std.specs.Prelude.{None, Option as RustOption, Some, ℕ}
use Prim.Native.Nat.{ℕ, suc, ◌+◌, ◌-◌, ◌<◌, ◌≤◌}
use mathlib.Core.Path.{◌≡◌, refl, sym, ap, ◌∙◌}
use mathlib.Core.Bool.{Bool, true, false, not, cond, ◌&&◌, false≢true}
use mathlib.Core.List.{List, [], ◌∷◌}
use mathlib.Core.Option.{Option, none, some}
use native.Mathlib.Numerals.{add-one}
use native.Mathlib.Omega.{arith}
use borrow.Author.Tests.{eq-eqb, ne_eqb, le-leb, lt-leb, leb-true, leb-false, not-true, not-false}
use lib.Dec.{leb}
use lib.ListN.{length, get_or, drop, drop_of_length-le}
use lib.Seq.{drop-cons}
use Rattle.paper.proofs.basics.Choices.{and-false}
use Rattle.paper.specs.rules.Choice.{every, is_some}
use Rattle.paper.specs.rules.Name.{until_zero}
use Rattle.idents.specs.Spelling.{runs, run_length, spelt_as_paper}

-- ── tests ──

-- one more on both sides is the same test
leb-suc : (m n : ℕ) → leb (suc m) (suc n) ≡ leb m n
leb-suc m n = go (leb m n) refl
  where
    go : (t : Bool) → leb m n ≡ t → leb (suc m) (suc n) ≡ t
    go true e = let l = leb-true m n e in le-leb (suc m) (suc n) (omega arith)
    go false e = let l = leb-false m n e in lt-leb (suc m) (suc n) (omega arith)

-- ── one byte ──

module _ (f : ℕ → Bool) where
  runs-nothing : (most : ℕ) → runs f most [] ≡ true
  unfolding runs
  runs-nothing most = le-leb 0 most (omega arith)

  runs-zero : (most c : ℕ) (cs : List ℕ) → c ≡ 0 → runs f most (c ∷ cs) ≡ true
  unfolding runs
  runs-zero most c cs e = rw (eq-eqb c 0 e) (le-leb 0 most (omega arith))

  runs-full : (c : ℕ) (cs : List ℕ) → (c ≡ 0 → ⊥) → runs f 0 (c ∷ cs) ≡ false
  unfolding runs
  runs-full c cs n =
      rw (ne_eqb c 0 n)
      (ap (λ (t : Bool). every f (c ∷ until_zero cs) && t) (lt-leb (suc (length (until_zero cs))) 0 (omega arith))
      ∙ and-false (every f (c ∷ until_zero cs)))

  runs-bad : (most c : ℕ) (cs : List ℕ) → (c ≡ 0 → ⊥) → f c ≡ false → runs f most (c ∷ cs) ≡ false
  unfolding runs
  runs-bad most c cs n e = rw (ne_eqb c 0 n, e) refl

  runs-next : (most c : ℕ) (cs : List ℕ) → (c ≡ 0 → ⊥) → f c ≡ true → runs f (suc most) (c ∷ cs) ≡ runs f most cs
  unfolding runs
  runs-next most c cs n e =
      rw (ne_eqb c 0 n, e) (ap (λ (t : Bool). every f (until_zero cs) && t) (leb-suc (length (until_zero cs)) most))

-- ── how many bytes ──

module _ (f : ℕ → Bool) (most : ℕ) (cs : List ℕ) where
  run_length-some : {n : ℕ} → runs f most cs ≡ true → n ≡ length (until_zero cs) → some n ≡ run_length f most cs
  unfolding run_length
  run_length-some e h = rw e (ap some h)

  run_length-none : runs f most cs ≡ false → none ≡ run_length f most cs
  unfolding run_length
  run_length-none e = rw e refl

  -- a run is one that has a length
  pub run_length-runs : is_some (run_length f most cs) ≡ runs f most cs
  unfolding run_length
  run_length-runs = go (runs f most cs)
    where
      go : (t : Bool) → is_some (cond t (some (length (until_zero cs))) none) ≡ t
      go true = refl
      go false = refl

-- ── a scan ──

-- so many bytes of a run are counted: the run from here, of the bytes that may still come, is the run from the start; no zero byte passes the test
pub record Running (f : ℕ → Bool) (s : List ℕ) (from most i n : ℕ) : Type 0 where
  pub zero_ends : f 0 ≡ false
  pub within : n ≤ most
  pub rest : runs f most (drop from s) ≡ runs f (most - n) (drop i s)
  pub counted : length (until_zero (drop from s)) ≡ n + length (until_zero (drop i s))

pub running-start : {f : ℕ → Bool} {s : List ℕ} {from most n : ℕ} → f 0 ≡ false → n ≡ 0 → Running f s from most from n
running-start {f} {s} {from} {most} {n} e z =
    let all : most ≡ most - n = omega arith in
    record {
      zero_ends = e;
      within = omega arith;
      rest = ap (λ (k : ℕ). runs f k (drop from s)) all;
      counted = omega arith;
    }

module _ {f : ℕ → Bool} {s : List ℕ} {from most i n : ℕ} (run : Running f s from most i n) where
  -- where nothing is left, what is counted is the run
  done : runs f (most - n) (drop i s) ≡ true → until_zero (drop i s) ≡ [] → some n ≡ run_length f most (drop from s)
  done e none_left =
      let all = run.counted in
      let over : length (until_zero (drop i s)) ≡ 0 = ap length none_left in
      run_length-some f most (drop from s) (run.rest ∙ e) (omega arith)

  pub running-end : length s ≤ i → some n ≡ run_length f most (drop from s)
  running-end h =
      let over : drop i s ≡ [] = drop_of_length-le s h in
      done (ap (runs f (most - n)) over ∙ runs-nothing f (most - n)) (ap until_zero over)

  module _ (inside : i < length s) {t : Bool} (e : t ≡ f (get_or s i 0)) where
    here : drop i s ≡ get_or s i 0 ∷ drop (suc i) s
    here = drop-cons s i 0 inside

    -- the first byte that does not pass is the end, or refused
    pub running-stop : get_or s i 0 ≡ 0 → some n ≡ run_length f most (drop from s)
    running-stop z =
        done (ap (runs f (most - n)) here ∙ runs-zero f (most - n) (get_or s i 0) (drop (suc i) s) z)
        (ap until_zero here ∙ ap (λ (b : Bool). cond b [] (get_or s i 0 ∷ until_zero (drop (suc i) s))) (eq-eqb (get_or s i 0) 0 z))

    pub running-bad : not t ≡ true → (get_or s i 0 ≡ 0 → ⊥) → none ≡ run_length f most (drop from s)
    running-bad stops z =
        run_length-none f most (drop from s)
        (run.rest
        ∙ ap (runs f (most - n)) here
        ∙ runs-bad f (most - n) (get_or s i 0) (drop (suc i) s) z (sym e ∙ not-true t stops))

    module _ (passes : not t ≡ false) where
      more : get_or s i 0 ≡ 0 → ⊥
      more z = false≢true (sym run.zero_ends ∙ ap f (sym z) ∙ sym e ∙ not-false t passes)

      pub running-full : n ≡ most → none ≡ run_length f most (drop from s)
      running-full l =
          let full : most - n ≡ 0 = omega arith in
          run_length-none f most (drop from s)
          (run.rest ∙ (λ j. runs f (full j) (here j)) ∙ runs-full f (get_or s i 0) (drop (suc i) s) more)

      pub running-next : (n ≡ most → ⊥) → Running f s from most (i + 1) (n + 1)
      running-next room =
          let w = run.within in
          let one : most - n ≡ suc (most - (n + 1)) = omega arith in
          record {
            zero_ends = run.zero_ends;
            within = omega arith;
            rest =
                run.rest
                ∙ (λ j. runs f (one j) (here j))
                ∙ runs-next f (most - (n + 1)) (get_or s i 0) (drop (suc i) s) more (sym e ∙ not-false t passes)
                ∙ ap (λ (j : ℕ). runs f (most - (n + 1)) (drop j s)) (sym (add-one i));
            counted = run.counted ∙ ap (λ (k : ℕ). n + k) longer ∙ sum;
          }
        where
          longer : length (until_zero (drop i s)) ≡ suc (length (until_zero (drop (i + 1) s)))
          longer =
              ap (λ (cs : List ℕ). length (until_zero cs)) here
              ∙ ap (λ (b : Bool). length (cond b [] (get_or s i 0 ∷ until_zero (drop (suc i) s)))) (ne_eqb (get_or s i 0) 0 more)
              ∙ ap (λ (j : ℕ). suc (length (until_zero (drop j s)))) (sym (add-one i))

          sum : n + suc (length (until_zero (drop (i + 1) s))) ≡ (n + 1) + length (until_zero (drop (i + 1) s))
          sum = omega arith

-- ── answers ──

abbrev spelt_of : Option ℕ → RustOption ℕ
spelt_of none = None
spelt_of (some n) = Some n

spelt_of-spelt_as_paper : (x : RustOption ℕ) → spelt_of (spelt_as_paper x) ≡ x
spelt_of-spelt_as_paper (Some n) = refl
spelt_of-spelt_as_paper None = refl

-- two answers with the same number are one
pub spelt-one : (x y : RustOption ℕ) → spelt_as_paper x ≡ spelt_as_paper y → x ≡ y
spelt-one x y e = sym (spelt_of-spelt_as_paper x) ∙ ap spelt_of e ∙ spelt_of-spelt_as_paper y
