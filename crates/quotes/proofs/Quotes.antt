-- Laws of `Quote`: how far a quoting has come, and each way that a text is put into an output.
-- Assumes nothing.
use Prim.Native.Nat.{ℕ, ◌+◌, ◌*◌, ◌<◌, ◌≤◌}
use mathlib.Core.Path.{◌≡◌, refl, sym, ap, ◌∙◌}
use mathlib.Core.Bool.{Bool, true, false}
use mathlib.Core.List.{List, [], ◌∷◌, ◌++◌}
use native.Mathlib.Numerals.{add-one}
use native.Mathlib.Omega.{arith}
use borrow.Author.Tests.{le-leb, lt-leb}
use lib.ListN.{length, get_or, take, set, length-append, length-set}
use lib.Seq.{take-suc, take-length}
use Rattle.paper.specs.terms.Put.{put}
use Rattle.paper.proofs.bytes.Puts.{put-none, put-put}
use Rattle.quotes.specs.Escape.{Appended, escaped, escaped_byte}
use Rattle.quotes.specs.Quote.{Quoted, TextIn, fits, quoted, text_of}
use Rattle.quotes.proofs.Layers.{put_1}
use Rattle.quotes.proofs.Printable.{escaped-more}

-- ── all bytes of a text ──

-- so many bytes are escaped behind the first quote, in so many places of the output
pub record Quoting (s before out : List ℕ) (at : ℕ) (i : ℕ) : Type 0 where
  pub inside : i ≤ length s
  pub kept : length out ≡ length before
  pub room : at ≤ 1 + 4 * i
  pub count : at ≡ 1 + length (escaped (take i s))
  pub bytes : out ≡ put before 1 (escaped (take i s))

pub quoting-start : (s out : List ℕ) → Quoting s out out 1 0
unfolding escaped
quoting-start s out = record { inside = omega arith; kept = refl; room = omega arith; count = refl; bytes = put-none out 1 }

module _ {s before out after : List ℕ} {at i r : ℕ} (g : Quoting s before out at i) (h : i < length s) (space : 4 * length s + 2 ≤ length before) where
  pub quoting-next : Appended out at (escaped_byte (get_or s i 0)) r after → length after ≡ length out → Quoting s before after r (i + 1)
  quoting-next a k =
      let done : List ℕ = escaped (take i s) in
      let piece : List ℕ = escaped_byte (get_or s i 0) in
      let more : escaped (take (i + 1) s) ≡ done ++ piece = rw (add-one, take-suc s i 0 h) (escaped-more (take i s) (get_or s i 0)) in
      let long = length-append done piece in
      let c : length done ≤ 4 * i = omega (arith, g.room, g.count) in
      record {
        inside = omega arith;
        kept = k ∙ g.kept;
        room = omega (arith, a.room, g.room);
        count = omega (arith, a.end, g.count, ap length more);
        bytes =
            a.bytes
            ∙ ap (λ (o : List ℕ). put o at piece) g.bytes
            ∙ put-put before 1 done (omega arith) g.count piece
            ∙ ap (put before 1) (sym more);
      }

module _ {s before out : List ℕ} {at i : ℕ} (g : Quoting s (set before 0 34) out at i) (h : length s ≤ i) where
  pub quoting-done : 4 * length s + 2 ≤ length before → Quoted s before (at + 1) (set out at 34)
  unfolding quoted
  quoting-done k =
      let all : i ≡ length s = omega (arith, g.inside) in
      let done : List ℕ = escaped (take i s) in
      let whole : done ≡ escaped s = rw all (ap escaped (take-length s)) in
      let long = length-append done (34 ∷ []) in
      let same : length (set before 0 34) ≡ length before = simp length-set in
      let c : length done ≤ 4 * i = omega (arith, g.room, g.count) in
      record {
        within = omega (arith, g.room);
        count = omega (arith, g.count, long, ap (λ (e : List ℕ). length (e ++ (34 ∷ []))) whole);
        bytes =
            put_1 out at 34 (omega (arith, g.kept, g.room))
            ∙ ap (λ (o : List ℕ). put o at (34 ∷ [])) g.bytes
            ∙ put-put (set before 0 34) 1 done (omega arith) g.count (34 ∷ [])
            ∙ ap (λ (o : List ℕ). put o 1 (done ++ (34 ∷ []))) (put_1 before 0 34 (omega arith))
            ∙ put-put before 0 (34 ∷ []) (omega arith) refl (done ++ (34 ∷ []))
            ∙ ap (λ (e : List ℕ). put before 0 (34 ∷ (e ++ (34 ∷ [])))) whole;
      }

-- ── an output of any length ──

module _ {bare : Bool} {s before : List ℕ} where
  pub text-short : length before < 4 * length s + 2 → TextIn bare s before 0 before
  unfolding fits
  text-short h =
      let short = lt-leb (4 * length s + 2) (length before) h in
      record { within = omega arith; count = rw short refl; bytes = rw short refl }

  module _ (h : 4 * length s + 2 ≤ length before) where
    pub text-bare : {after : List ℕ} → bare ≡ true → after ≡ put before 0 s → TextIn bare s before (length s) after
    unfolding fits text_of
    text-bare e b =
        let room = le-leb (4 * length s + 2) (length before) h in
        record { within = omega arith; count = rw (room, e) refl; bytes = rw (room, e) b }

    pub text-quoted : {after : List ℕ} {r : ℕ} → bare ≡ false → Quoted s before r after → TextIn bare s before r after
    unfolding fits text_of
    text-quoted e q =
        let room = le-leb (4 * length s + 2) (length before) h in
        record { within = q.within; count = rw (room, e) q.count; bytes = rw (room, e) q.bytes }

-- ── a test that is what it is promised to be ──

pub text-by : {t u : Bool} {s before after : List ℕ} {r : ℕ} → t ≡ u → TextIn t s before r after → TextIn u s before r after
text-by e x = record { within = x.within; count = rw e at x.count; bytes = rw e at x.bytes }
