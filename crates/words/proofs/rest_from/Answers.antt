-- `words::rest_from` meets its contract: past the end there is nothing, at the first byte.
use Prim.Native.Nat.{ℕ, ◌+◌, ◌-◌, ◌≤◌, ◌<◌}
use mathlib.Core.Path.{◌≡◌, sym, ap, ◌∙◌}
use mathlib.Core.Bool.{Bool, cond}
use mathlib.Core.List.{List, []}
use native.Mathlib.Omega.{arith}
use borrow.Author.Tests.{lt-ltb, le-ltb}
use denote.Ref.{Bor}
use lib.ListN.{length, drop}
use lib.Seq.{drop-length, drop-nil, drop-drop}
use Rattle.words.specs.Rest.{rest_start}
use Rattle.paper.proofs.bytes.Bytes.{part-rest}
use Rattle.words.proofs.rest_from.Goals as goal

past : (s : List ℕ) (p : ℕ) → length s ≤ p → [] ≡ drop p s
past s p h =
    let whole : length s + (p - length s) ≡ p = omega arith in
    let beyond = ap (drop (p - length s)) (drop-length s) ∙ drop-nil (p - length s) in
    sym (ap (λ (k : ℕ). drop k s) (sym whole) ∙ sym (drop-drop (p - length s) (length s) s) ∙ beyond)

-- a part's pointer, by where the part begins
starts : (s : Bor (List ℕ)) (n : ℕ) {m : ℕ} → m ≡ n + s.ref_ptr.1 → ◌≡◌ {A = ℕ × ℕ} (s.ref_ptr.0, m) (s.ref_ptr.0, n + s.ref_ptr.1)
starts s n e = ap {B = ℕ × ℕ} (λ (k : ℕ). (s.ref_ptr.0, k)) e

start-past : (s : List ℕ) (p : ℕ) → length s < p → rest_start s p ≡ 0
unfolding rest_start
start-past s p h = ap (λ (t : Bool). cond t 0 p) (lt-ltb (length s) p h)

start-inside : (s : List ℕ) (p : ℕ) → p ≤ length s → rest_start s p ≡ p
unfolding rest_start
start-inside s p h = ap (λ (t : Bool). cond t 0 p) (le-ltb (length s) p h)

pub returns-then-s-at : goal.returns-then-s-at
returns-then-s-at c =
    let a = c.args in
    let h : length a.s.now < a.at = omega (arith, c.if-s-at.true) in
    record {
      bytes = past a.s.now a.at (omega arith);
      place = starts a.s (rest_start a.s.now a.at) (omega (arith, start-past a.s.now a.at h));
    }

pub returns : goal.returns
returns c =
    let a = c.args in
    let h : a.at ≤ length a.s.now = omega (arith, c.if-s-at.false) in
    record {
      bytes = part-rest a.s.now a.at;
      place = starts a.s (rest_start a.s.now a.at) (omega (arith, start-inside a.s.now a.at h));
    }
