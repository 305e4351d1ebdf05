-- Words as what is put: one, cut to its last 32 bits, and three behind a run.
-- Assumes nothing.
use Prim.Native.Nat.{ℕ, ◌+◌, ◌*◌, ◌/◌, ◌%◌, ◌≤◌}
use mathlib.Core.Path.{◌≡◌, sym, ap, ◌∙◌}
use mathlib.Core.List.{List, [], ◌∷◌, ◌++◌, append_assoc}
use mathlib.Core.Bool.{cond}
use native.Mathlib.Omega.{arith}
use lib.Dec.{leb}
use lib.ListN.{length, take, drop, length-append}
use Rattle.paper.specs.terms.Fit.{word_bound}
use Rattle.paper.specs.terms.Put.{put}
use Rattle.paper.specs.declared.Order.{Order}
use Rattle.paper.specs.declared.Order.TheVariants.{LowFirst, HighFirst}
use Rattle.paper.specs.rules.Word.{word_bytes, bytes_of_words, put_word}
use Rattle.paper.proofs.bytes.Words.{put_word-inside}
use Rattle.paper.proofs.bytes.Puts.{length-put, put-put}

-- a word that is wholly inside
pub put-word : (order : Order) (out : List ℕ) (p w : ℕ) → p + 4 ≤ length out → put_word order out p w ≡ put out p (word_bytes order w)
unfolding put
put-word order out p w h = put_word-inside order out p w h ∙ sym (append_assoc (take p out) (word_bytes order w) (drop (p + 4) out))

-- ── a word's bytes are those of its last 32 bits ──

byte-first : (x r : ℕ) → r / 1 % 256 ≡ (x * 4294967296 + r) / 1 % 256
byte-first x r = omega arith

byte-second : (x r : ℕ) → r / 256 % 256 ≡ (x * 4294967296 + r) / 256 % 256
byte-second x r = let q : (x * 4294967296 + r) / 256 ≡ x * 16777216 + r / 256 = omega arith in omega arith

quotient-third : (x r : ℕ) → (x * 4294967296 + r) / 65536 ≡ x * 65536 + r / 65536
quotient-third x r = omega arith

low-third : (x y : ℕ) → y % 256 ≡ (x * 65536 + y) % 256
low-third x y = omega arith

quotient-fourth : (x r : ℕ) → (x * 4294967296 + r) / 16777216 ≡ x * 256 + r / 16777216
quotient-fourth x r = omega arith

low-fourth : (x y : ℕ) → y % 256 ≡ (x * 256 + y) % 256
low-fourth x y = omega arith

byte-third : (x r : ℕ) → r / 65536 % 256 ≡ (x * 4294967296 + r) / 65536 % 256
byte-third x r = low-third x (r / 65536) ∙ ap (λ (n : ℕ). n % 256) (sym (quotient-third x r))

byte-fourth : (x r : ℕ) → r / 16777216 % 256 ≡ (x * 4294967296 + r) / 16777216 % 256
byte-fourth x r = low-fourth x (r / 16777216) ∙ ap (λ (n : ℕ). n % 256) (sym (quotient-fourth x r))

bytes-above : (order : Order) (x r : ℕ) → word_bytes order r ≡ word_bytes order (x * word_bound + r)
bytes-above LowFirst x r = λ i. byte-first x r i ∷ byte-second x r i ∷ byte-third x r i ∷ byte-fourth x r i ∷ []
bytes-above HighFirst x r = λ i. byte-fourth x r i ∷ byte-third x r i ∷ byte-second x r i ∷ byte-first x r i ∷ []

pub word_bytes-cut : (order : Order) (w : ℕ) → word_bytes order (w % word_bound) ≡ word_bytes order w
word_bytes-cut order w =
    let whole : w / word_bound * word_bound + w % word_bound ≡ w = omega arith in
    bytes-above order (w / word_bound) (w % word_bound) ∙ ap (word_bytes order) whole

pub put_word-cut : (order : Order) (out : List ℕ) (p w : ℕ) → put_word order out p (w % word_bound) ≡ put_word order out p w
unfolding put_word
put_word-cut order out p w = ap (λ (s : List ℕ). cond (leb (p + 4) (length out)) (take p out ++ (s ++ drop (p + 4) out)) out) (word_bytes-cut order w)

-- three words behind a run
pub put_three : (order : Order) (out s : List ℕ) (p x y z : ℕ) → p + (length s + 12) ≤ length out → {out₁ out₂ out₃ out₄ : List ℕ} {q₁ q₂ q₃ : ℕ}
    → out₁ ≡ put out p s
    → out₂ ≡ put_word order out₁ q₁ x → q₁ ≡ p + length s
    → out₃ ≡ put_word order out₂ q₂ y → q₂ ≡ p + length s + 4
    → out₄ ≡ put_word order out₃ q₃ z → q₃ ≡ p + length s + 8
    → out₄ ≡ put out p (s ++ bytes_of_words order (x ∷ y ∷ z ∷ []))
put_three order out s p x y z room {out₁} {out₂} {out₃} e p₁ e₁ p₂ e₂ p₃ e₃ =
    let a = next out s p x (omega arith) e p₁ e₁ in
    let la = length-append s (word_bytes order x) in
    let b = next out (s ++ word_bytes order x) p y (omega arith) a p₂ (omega arith) in
    let lb = length-append (s ++ word_bytes order x) (word_bytes order y) in
    let c = next out (s ++ word_bytes order x ++ word_bytes order y) p z (omega arith) b p₃ (omega arith) in
    c
    ∙ ap (put out p) (append_assoc (s ++ word_bytes order x) (word_bytes order y) (word_bytes order z))
    ∙ ap (put out p) (append_assoc s (word_bytes order x) (word_bytes order y ++ word_bytes order z))
  where
    next : (out s : List ℕ) (p w : ℕ) → p + (length s + 4) ≤ length out → {out₁ out₂ : List ℕ} {q : ℕ} → out₁ ≡ put out p s
        → out₂ ≡ put_word order out₁ q w → q ≡ p + length s
        → out₂ ≡ put out p (s ++ word_bytes order w)
    next out s p w room {out₁} {out₂} {q} e f far =
        let same = ap length e ∙ length-put out p s (omega arith) in
        f ∙ put-word order out₁ q w (omega arith) ∙ ap (λ (o : List ℕ). put o q (word_bytes order w)) e ∙ put-put out p s (omega arith) far (word_bytes order w)
