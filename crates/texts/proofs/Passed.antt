-- Laws of `Line`: how far a line's bytes are passed, and how many lines.
-- Assumes nothing.
use Prim.Native.Nat.{ℕ, zero, suc, ◌+◌, ◌-◌, ◌<◌, ◌≤◌}
use mathlib.Core.Path.{◌≡◌, refl, sym, ap, ◌∙◌}
use mathlib.Core.Bool.{Bool, true, false, cond}
use mathlib.Core.List.{List, [], ◌∷◌}
use native.Mathlib.Omega.{arith}
use borrow.Author.Tests.{eq-eqb, ne_eqb}
use lib.Dec.{eqb}
use lib.ListN.{length, get_or, take, drop, length-drop, drop_of_length-le}
use lib.Seq.{drop-drop}
use Rattle.paper.proofs.bytes.Bytes.{part-rest}
use Rattle.texts.specs.Line.{first_line, after_line, after_lines, EndOf, StartOf}

-- ── a line's bytes ──

-- the first newline is where a line ends
first_line-found : (s : List ℕ) (n : ℕ) → n < length s → get_or s n 0 ≡ 10 → ((k : ℕ) → k < n → get_or s k 0 ≡ 10 → ⊥) → length (first_line s) ≡ n
unfolding first_line
first_line-found [] n h e before = absurd (omega arith)
first_line-found (c ∷ s) zero h e before = rw (eq-eqb c 10 e) refl
first_line-found (c ∷ s) (suc n) h e before =
    rw (ne_eqb c 10 (before zero (omega arith)))
    (ap suc (first_line-found s n (omega arith) e (λ k l. before (suc k) (omega arith))))

-- without one, all bytes are one line
first_line-all : (s : List ℕ) → ((k : ℕ) → k < length s → get_or s k 0 ≡ 10 → ⊥) → length (first_line s) ≡ length s
unfolding first_line
first_line-all [] before = refl
first_line-all (c ∷ s) before =
    rw (ne_eqb c 10 (before zero (omega arith))) (ap suc (first_line-all s (λ k l. before (suc k) (omega arith))))

module _ {s : List ℕ} {from : ℕ} (h : from ≤ length s) where
  pub end-found : {r : List ℕ} {n : ℕ} → get_or r n 0 ≡ 10 → n < length r → ((k : ℕ) → k < n → get_or r k 0 ≡ 10 → ⊥) → r ≡ take (length s - from) (drop from s)
      → EndOf s from (from + n)
  end-found {r} {n} e l before is =
      let rest : r ≡ drop from s = is ∙ part-rest s from in
      let ended : length (first_line (drop from s)) ≡ n = ap (λ (t : List ℕ). length (first_line t)) (sym rest) ∙ first_line-found r n l e before in
      record { inside = omega (arith, length-drop from s, ap length rest); ends = ap (λ (k : ℕ). from + k) (sym ended) }

  pub end-last : {r : List ℕ} → ((k : ℕ) → k < length r → get_or r k 0 ≡ 10 → ⊥) → r ≡ take (length s - from) (drop from s) → EndOf s from (length s)
  end-last {r} before is =
      let rest : r ≡ drop from s = is ∙ part-rest s from in
      let ended : length (first_line (drop from s)) ≡ length r = ap (λ (t : List ℕ). length (first_line t)) (sym rest) ∙ first_line-all r before in
      record { inside = omega arith; ends = omega (arith, length-drop from s, ap length rest, ended) }

-- ── lines ──

take-line : (s : List ℕ) → take (length (first_line s)) s ≡ first_line s
unfolding first_line
take-line [] = refl
take-line (c ∷ s) = go (eqb c 10) (take-line s)
  where
    go : (b : Bool) → take (length (first_line s)) s ≡ first_line s
        → take (length (cond b [] (c ∷ first_line s))) (c ∷ s) ≡ cond b [] (c ∷ first_line s)
    go true e = refl
    go false e = ap (λ (r : List ℕ). c ∷ r) e

after_line-drop : (s : List ℕ) → after_line s ≡ drop (suc (length (first_line s))) s
unfolding first_line after_line
after_line-drop [] = refl
after_line-drop (c ∷ s) = go (eqb c 10) (after_line-drop s)
  where
    go : (b : Bool) → after_line s ≡ drop (suc (length (first_line s))) s
        → cond b s (after_line s) ≡ drop (suc (length (cond b [] (c ∷ first_line s)))) (c ∷ s)
    go true e = refl
    go false e = e

-- so many lines of k are passed: what is left of them is behind the place
pub record Skipping (s : List ℕ) (k at i : ℕ) : Type 0 where
  pub inside : at ≤ length s
  pub below : i ≤ k
  pub rest : after_lines (k - i) (drop at s) ≡ after_lines k s

pub skipping-start : (s : List ℕ) (k : ℕ) → Skipping s k 0 0
skipping-start s k =
    let all : k - 0 ≡ k = omega arith in
    record { inside = omega arith; below = omega arith; rest = ap (λ (n : ℕ). after_lines n s) all }

module _ {s : List ℕ} {k at i e : ℕ} (g : Skipping s k at i) (h : i < k) (f : EndOf s at e) where
  behind : after_line (drop at s) ≡ drop (at + suc (length (first_line (drop at s)))) s
  behind = after_line-drop (drop at s) ∙ drop-drop (suc (length (first_line (drop at s)))) at s

  skipped : {next : ℕ} → next ≤ length s → after_line (drop at s) ≡ drop next s → Skipping s k next (i + 1)
  unfolding after_lines
  skipped {next} l b =
      let one : k - i ≡ suc (k - (i + 1)) = omega arith in
      record {
        inside = l;
        below = omega arith;
        rest = ap (after_lines (k - (i + 1))) (sym b) ∙ ap (λ (n : ℕ). after_lines n (drop at s)) (sym one) ∙ g.rest;
      }

  pub skipping-newline : e < length s → {next : ℕ} → next ≡ e + 1 → Skipping s k next (i + 1)
  skipping-newline l {next} n =
      let far : at + suc (length (first_line (drop at s))) ≡ next = omega (arith, f.ends) in
      skipped (omega arith) (behind ∙ ap (λ (n : ℕ). drop n s) far)

  pub skipping-last : length s ≤ e → {next : ℕ} → next ≡ e → Skipping s k next (i + 1)
  skipping-last l {next} n =
      let far : length s ≤ at + suc (length (first_line (drop at s))) = omega (arith, f.ends) in
      let out : length s ≤ next = omega arith in
      skipped (omega (arith, f.inside)) (behind ∙ drop_of_length-le s far ∙ sym (drop_of_length-le s out))

pub skipping-done : {s : List ℕ} {k at i : ℕ} → Skipping s k at i → k ≤ i → StartOf s k at
unfolding after_lines
skipping-done {s} {k} {at} {i} g h =
    let none : 0 ≡ k - i = omega arith in
    record { inside = g.inside; rest = ap (λ (n : ℕ). after_lines n (drop at s)) none ∙ g.rest }

-- ── a line ──

module _ {s : List ℕ} {k from end : ℕ} (g : StartOf s k from) (f : EndOf s from end) where
  pub line-bytes : take (end - from) (drop from s) ≡ first_line (after_lines k s)
  line-bytes =
      let n : end - from ≡ length (first_line (drop from s)) = omega (arith, f.ends) in
      ap (λ (m : ℕ). take m (drop from s)) n ∙ take-line (drop from s) ∙ ap first_line g.rest

  pub line-place : from ≡ length s - length (after_lines k s)
  line-place = let l = ap length (sym g.rest) ∙ length-drop from s in omega (arith, g.inside, l)
