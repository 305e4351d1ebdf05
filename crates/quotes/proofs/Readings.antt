-- Laws of reading: what stands between quotes says the name, whatever follows; so no name ends its own quotes, and no two names
-- look alike.
-- Assumes nothing.
use Prim.Native.Nat.{ℕ, ◌+◌, ◌*◌, ◌-◌, ◌/◌, ◌%◌, ◌<◌}
use mathlib.Core.Path.{◌≡◌, refl, sym, ap, ◌∙◌}
use mathlib.Core.Bool.{Bool, true, false, cond}
use mathlib.Core.List.{List, [], ◌∷◌, ◌++◌, append_assoc}
use native.Mathlib.Omega.{arith}
use borrow.Author.Tests.{eqb-true, lt-ltb, le-ltb, ltb-true, ltb-false}
use lib.Dec.{eqb, ltb}
use Rattle.paper.specs.terms.Fit.{Bytes}
use Rattle.paper.proofs.basics.Choices.{or_cases, or-false}
use Rattle.quotes.specs.Escape.{escaped, escaped_byte, hex_digit, is_printable, is_special}
use Rattle.quotes.specs.Quote.{Said, and_then, digit_value, plain, quoted, said, upper}

-- ── one byte ──

-- a digit is read as what it was written for
digit-back : (d : ℕ) → d < 16 → digit_value (hex_digit d) ≡ d
unfolding hex_digit digit_value
digit-back d h = go (ltb d 10) refl
  where
    go : (t : Bool) → ltb d 10 ≡ t → cond (ltb (cond t (48 + d) (87 + d)) 58) (cond t (48 + d) (87 + d) - 48) (cond t (48 + d) (87 + d) - 87) ≡ d
    go true e = let l = ltb-true d 10 e in rw (lt-ltb (48 + d) 58 (omega arith)) (omega arith)
    go false e = let l = ltb-false d 10 e in rw (le-ltb (87 + d) 58 (omega arith)) (omega arith)

hex-back : (b : ℕ) → b < 256 → 16 * digit_value (hex_digit (b / 16)) + digit_value (hex_digit (b % 16)) ≡ b
hex-back b h =
    let high : digit_value (hex_digit (b / 16)) ≡ b / 16 = digit-back (b / 16) (omega arith) in
    let units : digit_value (hex_digit (b % 16)) ≡ b % 16 = digit-back (b % 16) (omega arith) in
    omega arith

module _ (b : ℕ) (fit : b < 256) (t : List ℕ) where
  special-back : is_special b ≡ true → said (92 ∷ b ∷ t) plain ≡ and_then b (said t plain)
  unfolding is_special said
  special-back e =
      or_cases (eqb b 34) (eqb b 92) e
      (λ q. ap (λ (c : ℕ). cond (eqb c 120) (said t upper) (and_then b (said t plain))) (eqb-true b 34 q))
      (λ q. ap (λ (c : ℕ). cond (eqb c 120) (said t upper) (and_then b (said t plain))) (eqb-true b 92 q))

  plain_back : is_special b ≡ false → said (b ∷ t) plain ≡ and_then b (said t plain)
  unfolding is_special said
  plain_back e = let both = or-false (eqb b 34) (eqb b 92) e in rw (both.0, both.1) refl

  hex-read : said (92 ∷ 120 ∷ hex_digit (b / 16) ∷ hex_digit (b % 16) ∷ t) plain ≡ and_then b (said t plain)
  unfolding said
  hex-read = ap (λ (c : ℕ). and_then c (said t plain)) (hex-back b fit)

  pub byte-back : said (escaped_byte b ++ t) plain ≡ and_then b (said t plain)
  unfolding escaped_byte
  byte-back = go (is_special b) (is_printable b) refl
    where
      go : (x y : Bool) → is_special b ≡ x
          → said (cond x (92 ∷ b ∷ []) (cond y (b ∷ []) (92 ∷ 120 ∷ hex_digit (b / 16) ∷ hex_digit (b % 16) ∷ [])) ++ t) plain ≡ and_then b (said t plain)
      go true y e = special-back e
      go false true e = plain_back e
      go false false e = hex-read

-- ── a whole name ──

-- what is read between the quotes is the name, byte for byte, and what stands behind is left
pub said-escaped : (s : List ℕ) → Bytes s → (t : List ℕ) → said (escaped s ++ (34 ∷ t)) plain ≡ record { name = s; rest = t }
unfolding escaped said
said-escaped [] g t = refl
said-escaped (b ∷ s) g t =
    ap (λ (r : List ℕ). said r plain) (append_assoc (escaped_byte b) (escaped s) (34 ∷ t))
    ∙ byte-back b g.0 (escaped s ++ (34 ∷ t))
    ∙ ap (and_then b) (said-escaped s g.1 t)

-- two names that are written alike, whatever follows each, are one, and so is what follows
pub quoted-one : (s s' : List ℕ) → Bytes s → Bytes s' → (t t' : List ℕ) → quoted s ++ t ≡ quoted s' ++ t' → (s ≡ s') × (t ≡ t')
unfolding quoted
quoted-one s s' g g' t t' e = (ap (λ (r : Said). r.name) all, ap (λ (r : Said). r.rest) all)
  where
    behind : List ℕ → List ℕ
    behind [] = []
    behind (c ∷ r) = r

    text : (s t : List ℕ) → (escaped s ++ (34 ∷ [])) ++ t ≡ escaped s ++ (34 ∷ t)
    text s t = append_assoc (escaped s) (34 ∷ []) t

    all : ◌≡◌ {A = Said} (record { name = s; rest = t }) (record { name = s'; rest = t' })
    all =
        sym (said-escaped s g t)
        ∙ ap (λ (r : List ℕ). said r plain) (sym (text s t) ∙ ap behind e ∙ text s' t')
        ∙ said-escaped s' g' t'
