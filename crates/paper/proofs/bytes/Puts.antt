-- Laws of `put` and `laid`: the length, one run put behind another, bytes stored or copied one behind the other.
-- Assumes nothing.
use Prim.Native.Nat.{ℕ, suc, ◌+◌, ◌≤◌, ◌<◌}
use mathlib.Core.Path.{◌≡◌, refl, sym, ap, ap₂, ◌∙◌}
use mathlib.Core.List.{List, [], ◌++◌, append_assoc, append-nil}
use native.Mathlib.Omega.{arith}
use borrow.Author.Tests.{le-leb, lt-leb}
use lib.ListN.{length, get_or, take, drop, set, length-append, length-drop, length-set}
use lib.Seq.{length-take-le, take_at, drop_at, drop-drop, drop-length, take-length, paste, paste-zero, paste-suc, sets, sets-eq}
use Rattle.paper.specs.terms.Put.{put, laid}

-- nothing put changes nothing
pub put-none : (out : List ℕ) (p : ℕ) → out ≡ put out p []
unfolding put
put-none out p = paste-zero out p []

-- bytes stored one after the other
pub put-stores : (out : List ℕ) (p : ℕ) (s : List ℕ) → p + length s ≤ length out → sets out p s ≡ put out p s
unfolding put
put-stores out p s h = sets-eq s out p h

-- a piece that fits, and one that does not
pub laid-fits : (out : List ℕ) (p : ℕ) (s : List ℕ) → p + length s ≤ length out → put out p s ≡ laid out p s
unfolding laid
laid-fits out p s h = rw (le-leb (p + length s) (length out) h) refl

pub laid-short : (out : List ℕ) (p : ℕ) (s : List ℕ) → length out < p + length s → out ≡ laid out p s
unfolding laid
laid-short out p s h = rw (lt-leb (p + length s) (length out) h) refl

module _ (out : List ℕ) (p : ℕ) (s : List ℕ) (h : p + length s ≤ length out) where
  head-length : length (take p out ++ s) ≡ p + length s
  head-length = let l = length-take-le p out (omega arith) in length-append (take p out) s ∙ omega arith

  pub length-put : length (put out p s) ≡ length out
  unfolding put
  length-put =
      let l = head-length in
      let r = length-drop (p + length s) out in
      length-append (take p out ++ s) (drop (p + length s) out) ∙ omega arith

  -- what is put behind what was put
  pub put-put : {q : ℕ} → q ≡ p + length s → (t : List ℕ) → put (put out p s) q t ≡ put out p (s ++ t)
  unfolding put
  put-put {q} e t =
      let head : List ℕ = take p out ++ s in
      let rest : List ℕ = drop (p + length s) out in
      let long : length head ≡ q = head-length ∙ sym e in
      let far : q + length t ≡ p + length (s ++ t) = let l = length-append s t in omega arith in
      ap₂ (λ (x y : List ℕ). x ++ t ++ y) (take_at head rest q long)
      (sym (drop-drop (length t) q (head ++ rest))
      ∙ ap (drop (length t)) (drop_at head rest q long)
      ∙ ap (λ (n : ℕ). drop (length t) (drop n out)) (sym e)
      ∙ drop-drop (length t) q out)
      ∙ ap₂ (λ (x : List ℕ) (n : ℕ). x ++ drop n out) (append_assoc (take p out) s t) far

-- what is put at the front of some bytes stands before the rest of them, and all of them where it is as long
pub put_front : (out s : List ℕ) → put out 0 s ≡ s ++ drop (length s) out
unfolding put
put_front out s = let far : 0 + length s ≡ length s = omega arith in ap (λ (n : ℕ). s ++ drop n out) far

pub put_whole : (out s : List ℕ) → length s ≡ length out → put out 0 s ≡ s
put_whole out s e = put_front out s ∙ ap (λ (n : ℕ). s ++ drop n out) e ∙ ap (λ (t : List ℕ). s ++ t) (drop-length out) ∙ append-nil s

-- what is put at the front of the bytes from a place on is put at that place
pub put-behind : (out : List ℕ) (p : ℕ) (s : List ℕ) → take p out ++ put (drop p out) 0 s ≡ put out p s
unfolding put
put-behind out p s =
    ap (λ (t : List ℕ). take p out ++ t) (put_front (drop p out) s)
    ∙ sym (append_assoc (take p out) s (drop (length s) (drop p out)))
    ∙ ap (λ (t : List ℕ). take p out ++ s ++ t) (drop-drop (length s) p out)

-- ── a run that is copied byte by byte ──

-- so many bytes of it are copied
pub record Copying (before : List ℕ) (p : ℕ) (s after : List ℕ) (i : ℕ) : Type 0 where
  pub inside : i ≤ length s
  pub kept : length after ≡ length before
  pub bytes : after ≡ paste before p s i

pub copying-start : (out : List ℕ) (p : ℕ) (s : List ℕ) → Copying out p s out 0
copying-start out p s = record { inside = omega arith; kept = refl; bytes = paste-zero out p s }

module _ {before : List ℕ} {p : ℕ} {s after : List ℕ} {i : ℕ} (g : Copying before p s after i) where
  pub copying-next : p + length s ≤ length before → i < length s → Copying before p s (set after (p + i) (get_or s i 0)) (i + 1)
  copying-next room more =
      let next : suc i ≡ i + 1 = omega arith in
      record {
        inside = omega arith;
        kept = length-set after (p + i) (get_or s i 0) ∙ g.kept;
        bytes =
            ap (λ (o : List ℕ). set o (p + i) (get_or s i 0)) g.bytes
            ∙ paste-suc before p s i 0 (omega arith) more
            ∙ ap (paste before p s) next;
      }

  pub copying-done : length s ≤ i → after ≡ put before p s
  unfolding put
  copying-done h =
      let all : i ≡ length s = omega (arith, g.inside) in
      g.bytes
      ∙ ap (paste before p s) all
      ∙ ap (λ (t : List ℕ). take p before ++ t ++ drop (p + length s) before) (take-length s)
