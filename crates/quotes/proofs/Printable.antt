-- Laws of `Escape`: one byte, one byte more behind others, and that all it gives is printable.
-- Assumes nothing.
use Prim.Native.Nat.{ℕ, ◌+◌, ◌/◌, ◌%◌, ◌<◌, ◌≤◌}
use mathlib.Core.Path.{◌≡◌, refl, sym, ap, ◌∙◌}
use mathlib.Core.Bool.{Bool, true, false, cond, ◌&&◌}
use mathlib.Core.List.{List, [], ◌∷◌, ◌++◌, append_assoc, append-nil}
use native.Mathlib.Omega.{arith}
use borrow.Author.Tests.{eqb-true, ltb-true, leb-true}
use lib.Dec.{eqb, leb, ltb}
use lib.ListN.{length, set}
use Rattle.paper.specs.terms.Fit.{Bytes}
use Rattle.paper.proofs.basics.Choices.{and_left, and_right, or_cases}
use Rattle.quotes.specs.Escape.{Appended, escaped, escaped_byte, hex_digit, is_printable, is_special}
use Rattle.quotes.proofs.Layers.{put_1, put_2, put_4}

-- ── one byte ──

module _ (l : List ℕ) (p b : ℕ) (room : p + 4 ≤ length l) {t : Bool} (special : t ≡ is_special b) where
  pub appended-special : t ≡ true → Appended l p (escaped_byte b) (p + 2) (set (set l p 92) (p + 1) b)
  unfolding escaped_byte
  appended-special e =
      rw (sym special ∙ e) record { end = refl; room = omega arith; bytes = put_2 l p 92 b (omega arith) }

  module _ (e : t ≡ false) {u : Bool} (printable : u ≡ is_printable b) where
    pub appended-plain : u ≡ true → Appended l p (escaped_byte b) (p + 1) (set l p b)
    unfolding escaped_byte
    appended-plain f =
        rw (sym special ∙ e, sym printable ∙ f) record { end = refl; room = omega arith; bytes = put_1 l p b (omega arith) }

    pub appended-hex : {x y : ℕ} → u ≡ false → x ≡ hex_digit (b / 16) → y ≡ hex_digit (b % 16)
        → Appended l p (escaped_byte b) (p + 4) (set (set (set (set l p 92) (p + 1) 120) (p + 2) x) (p + 3) y)
    unfolding escaped_byte
    appended-hex {x} {y} f ex ey =
        rw (sym special ∙ e, sym printable ∙ f, sym ex, sym ey)
        record { end = refl; room = omega arith; bytes = put_4 l p 92 120 x y (omega arith) }

-- ── all of them ──

-- one byte more behind others
pub escaped-more : (s : List ℕ) (b : ℕ) → escaped (s ++ (b ∷ [])) ≡ escaped s ++ escaped_byte b
unfolding escaped
escaped-more [] b = append-nil (escaped_byte b)
escaped-more (x ∷ s) b = ap (λ (r : List ℕ). escaped_byte x ++ r) (escaped-more s b) ∙ sym (append_assoc (escaped_byte x) (escaped s) (escaped_byte b))

-- ── every byte is printable ──

pub data AllPrintable : List ℕ → Type 0 where
  none : AllPrintable []
  more : {b : ℕ} {s : List ℕ} → 32 ≤ b → b ≤ 126 → AllPrintable s → AllPrintable (b ∷ s)

pub printable-append : {s t : List ℕ} → AllPrintable s → AllPrintable t → AllPrintable (s ++ t)
printable-append none q = q
printable-append (more l h p) q = more l h (printable-append p q)

within : (x y b : ℕ) → leb x b && leb b y ≡ true → (x ≤ b) × (b ≤ y)
within x y b h =
    (leb-true x b (and_left (leb x b) (leb b y) h), leb-true b y (and_right (leb x b) (leb b y) h))

is_printable-within : (b : ℕ) → is_printable b ≡ true → (32 ≤ b) × (b ≤ 126)
unfolding is_printable
is_printable-within b h = let w = within _ _ b h in (omega arith, omega arith)

is_special-within : (b : ℕ) → is_special b ≡ true → (32 ≤ b) × (b ≤ 126)
unfolding is_special
is_special-within b h =
    or_cases (eqb b 34) (eqb b 92) h (λ e. let w = eqb-true b 34 e in (omega arith, omega arith)) (λ e. let w = eqb-true b 92 e in (omega arith, omega arith))

hex_digit-within : (d : ℕ) → d < 16 → (32 ≤ hex_digit d) × (hex_digit d ≤ 126)
unfolding hex_digit
hex_digit-within d h = go (ltb d 10) refl
  where
    go : (t : Bool) → ltb d 10 ≡ t → (32 ≤ cond t (48 + d) (87 + d)) × (cond t (48 + d) (87 + d) ≤ 126)
    go true e = (omega arith, omega (arith, ltb-true d 10 e))
    go false e = (omega arith, omega (arith, h))

escaped_byte-printable : (b : ℕ) → b < 256 → AllPrintable (escaped_byte b)
unfolding escaped_byte
escaped_byte-printable b h = go (is_special b) (is_printable b) refl refl
  where
    slash : {s : List ℕ} → AllPrintable s → AllPrintable (92 ∷ s)
    slash p = more {b = 92} (omega arith) (omega arith) p

    hex : {d : ℕ} {s : List ℕ} → d < 16 → AllPrintable s → AllPrintable (hex_digit d ∷ s)
    hex {d} k p = more (hex_digit-within d k).0 (hex_digit-within d k).1 p

    go : (t u : Bool) → is_special b ≡ t → is_printable b ≡ u
        → AllPrintable (cond t (92 ∷ b ∷ []) (cond u (b ∷ []) (92 ∷ 120 ∷ hex_digit (b / 16) ∷ hex_digit (b % 16) ∷ [])))
    go true u d e = slash (more (is_special-within b d).0 (is_special-within b d).1 none)
    go false true d e = more (is_printable-within b e).0 (is_printable-within b e).1 none
    go false false d e =
        slash (more {b = 120} (omega arith) (omega arith) (hex {d = b / 16} (omega arith) (hex {d = b % 16} (omega arith) none)))

-- no byte of what is written can do anything to a terminal
pub escaped-printable : (s : List ℕ) → Bytes s → AllPrintable (escaped s)
unfolding escaped
escaped-printable [] g = none
escaped-printable (b ∷ s) g = printable-append (escaped_byte-printable b g.0) (escaped-printable s g.1)
