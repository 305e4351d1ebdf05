-- Laws of what stands bare: all of some bytes are an identifier, and every byte is one of a file's name.
-- Assumes nothing.
use Rattle.std.specs.Prelude.{None, Option as RustOption, Some, ℕ}
use Prim.Native.Nat.{ℕ, suc, ◌+◌, ◌<◌, ◌≤◌, zero}
use mathlib.Core.Logic.{◌↔◌}
use mathlib.Core.Path.{◌≡◌, refl, sym, ap, ◌∙◌}
use mathlib.Core.Bool.{Bool, true, false, cond, ◌&&◌, ◌||◌, false≢true}
use mathlib.Core.List.{List, [], ◌∷◌}
use mathlib.Core.Option.{none, some}
use native.Mathlib.Omega.{arith}
use borrow.Author.Tests.{ne_eqb, eqb-true, eqb-false}
use lib.Dec.{eqb, leb}
use lib.ListN.{length, get_or}
use Rattle.paper.proofs.basics.Choices.{and_left, and_right}
use Rattle.paper.specs.rules.Choice.{every, is_empty, is_some}
use Rattle.paper.specs.rules.Name.{until_zero, name_in, between, is_digit, is_letter, identifier_length, is_identifier}
use Rattle.idents.specs.Spelling.{spelt_as_paper}
use Rattle.quotes.specs.Quote.{is_path, is_path_byte}

-- ── an identifier has no zero byte ──

abbrev is_word : ℕ → Bool
is_word c = is_letter c || is_digit c

zero-no-word : is_word 0 ≡ false
unfolding is_letter is_digit
zero-no-word = refl

zero-no-letter : is_letter 0 ≡ false
unfolding is_letter
zero-no-letter = refl

word-not-zero : (c : ℕ) → is_word c ≡ true → eqb c 0 ≡ false
word-not-zero c w = ne_eqb c 0 (λ z. false≢true (sym zero-no-word ∙ ap is_word (sym z) ∙ w))

letter-not-zero : (c : ℕ) → is_letter c ≡ true → eqb c 0 ≡ false
letter-not-zero c w = ne_eqb c 0 (λ z. false≢true (sym zero-no-letter ∙ ap is_letter (sym z) ∙ w))

words-whole : (s : List ℕ) → every is_word s ≡ true → until_zero s ≡ s
words-whole [] h = refl
words-whole (c ∷ s) h =
    ap (λ (t : Bool). cond t [] (c ∷ until_zero s)) (word-not-zero c (and_left (is_word c) (every is_word s) h))
    ∙ ap (λ (r : List ℕ). c ∷ r) (words-whole s (and_right (is_word c) (every is_word s) h))

-- how long an identifier is: all of it, and it is one
length-by : (t : Bool) (k n : ℕ) → cond t (some k) none ≡ some n → n ≡ k
length-by true k n e = cc
length-by false k n e = cc

identifier-length : (s : List ℕ) {n : ℕ} → identifier_length s ≡ some n → n ≡ length s
identifier-length [] e = cc
identifier-length (c ∷ s) {n} e = length-by (is_letter c && every is_word s && leb (suc (length s)) 127) (suc (length s)) n e

some-by : (t : Bool) (k : ℕ) → is_some (cond t (some k) none) ≡ true → t ≡ true
some-by true k e = refl
some-by false k e = e

identifier-whole : (s : List ℕ) → is_identifier s ≡ true → until_zero s ≡ s
identifier-whole [] h = refl
identifier-whole (c ∷ s) h =
    let all = some-by (is_letter c && every is_word s && leb (suc (length s)) 127) (suc (length s)) h in
    let both = and_left (is_letter c && every is_word s) (leb (suc (length s)) 127) all in
    ap (λ (t : Bool). cond t [] (c ∷ until_zero s)) (letter-not-zero c (and_left (is_letter c) (every is_word s) both))
    ∙ ap (λ (r : List ℕ). c ∷ r) (words-whole s (and_right (is_letter c) (every is_word s) both))

-- a name that no zero byte cuts
until_zero-short : (s : List ℕ) → length (until_zero s) ≤ length s
until_zero-short [] = omega arith
until_zero-short (c ∷ s) = go (eqb c 0) (until_zero-short s)
  where
    go : (t : Bool) → length (until_zero s) ≤ length s → length (cond t [] (c ∷ until_zero s)) ≤ suc (length s)
    go true h = omega arith
    go false h = omega arith

until_zero-whole : (s : List ℕ) → length (until_zero s) ≡ length s → until_zero s ≡ s
until_zero-whole [] e = refl
until_zero-whole (c ∷ s) e = go (eqb c 0) e (until_zero-whole s)
  where
    go : (t : Bool) → length (cond t [] (c ∷ until_zero s)) ≡ suc (length s) → (length (until_zero s) ≡ length s → until_zero s ≡ s)
        → cond t [] (c ∷ until_zero s) ≡ c ∷ s
    go true h k = absurd (omega arith)
    go false h k = ap (λ (r : List ℕ). c ∷ r) (k (omega arith))

-- ── each way that a name is judged ──

module _ (s : List ℕ) where
  pub bare-whole : {n : ℕ} → some n ≡ identifier_length (until_zero s) → n ≡ length s → true ≡ is_identifier s
  bare-whole {n} e l =
      let m : n ≡ length (until_zero s) = identifier-length (until_zero s) (sym e) in
      let same : length (until_zero s) ≡ length s = sym m ∙ l in
      ap is_some e ∙ ap is_identifier (until_zero-whole s same)

  pub bare-cut : {n : ℕ} → some n ≡ identifier_length (until_zero s) → (n ≡ length s → ⊥) → false ≡ is_identifier s
  bare-cut {n} e l = go (is_identifier s) refl
    where
      go : (t : Bool) → is_identifier s ≡ t → false ≡ t
      go false h = refl
      go true h = absurd (l (identifier-length (until_zero s) (sym e) ∙ ap length (identifier-whole s h)))

  pub bare-none : none ≡ identifier_length (until_zero s) → false ≡ is_identifier s
  bare-none e = go (is_identifier s) refl
    where
      go : (t : Bool) → is_identifier s ≡ t → false ≡ t
      go false h = refl
      go true h = ap is_some e ∙ ap is_identifier (identifier-whole s h) ∙ h

-- by what is told of the bytes up to the first zero byte
pub spelt-whole : (s : List ℕ) {x : RustOption ℕ} {n : ℕ} → x ≡ Some n → spelt_as_paper x ≡ identifier_length (name_in s 0) → eqb n (length s) ≡ is_identifier s
unfolding name_in
spelt-whole s {x} {n} e h = go (eqb n (length s)) refl
  where
    told : some n ≡ identifier_length (until_zero s)
    told = ap spelt_as_paper (sym e) ∙ h

    go : (t : Bool) → eqb n (length s) ≡ t → t ≡ is_identifier s
    go true l = bare-whole s told (eqb-true n (length s) l)
    go false l = bare-cut s told (eqb-false n (length s) l)

pub spelt-none : (s : List ℕ) {x : RustOption ℕ} → x ≡ None → spelt_as_paper x ≡ identifier_length (name_in s 0) → false ≡ is_identifier s
unfolding name_in
spelt-none s e h = bare-none s (ap spelt_as_paper (sym e) ∙ h)

-- ── a file's name ──

module _ (c : ℕ) {t : Bool} (first : t ≡ between 45 57 c) where
  pub byte_low : t ≡ true → true ≡ is_path_byte c
  unfolding is_path_byte
  byte_low e = sym (rw (sym first ∙ e) refl)

  module _ (e : t ≡ false) {u : Bool} (second : u ≡ between 64 90 c) where
    pub byte-upper : u ≡ true → true ≡ is_path_byte c
    unfolding is_path_byte
    byte-upper f = sym (rw (sym first ∙ e, sym second ∙ f) refl)

    module _ (f : u ≡ false) {v : Bool} (third : v ≡ between 97 122 c) where
      pub byte-lower : v ≡ true → true ≡ is_path_byte c
      unfolding is_path_byte
      byte-lower g = sym (rw (sym first ∙ e, sym second ∙ f, sym third ∙ g) refl)

      pub byte_last : v ≡ false → eqb c 95 ≡ is_path_byte c
      unfolding is_path_byte
      byte_last g = sym (rw (sym first ∙ e, sym second ∙ f, sym third ∙ g) refl)

filled-from : (s : List ℕ) → (length s ≡ 0 → ⊥) → is_empty s ≡ false
filled-from [] h = absurd (h refl)
filled-from (c ∷ s) h = refl

pub path_empty : (s : List ℕ) → length s ≡ 0 → false ≡ is_path s
unfolding is_path
path_empty [] e = refl
path_empty (c ∷ s) e = absurd (omega (arith, e))

all-every : (f : ℕ → Bool) (s : List ℕ) → ((k : ℕ) → k < length s → f (get_or s k 0) ≡ true) → every f s ≡ true
all-every f [] h = refl
all-every f (c ∷ s) h = rw (h zero (omega arith)) (all-every f s (λ k l. h (suc k) (omega arith)))

every-at : (f : ℕ → Bool) (s : List ℕ) → every f s ≡ true → (k : ℕ) → k < length s → f (get_or s k 0) ≡ true
every-at f [] h k l = absurd (omega arith)
every-at f (c ∷ s) h zero l = and_left (f c) (every f s) h
every-at f (c ∷ s) h (suc k) l = every-at f s (and_right (f c) (every f s) h) k (omega arith)

same_by : (t u : Bool) → (t ≡ true → u ≡ true) → (u ≡ true → t ≡ true) → t ≡ u
same_by true u f g = sym (f refl)
same_by false true f g = g refl
same_by false false f g = refl

-- a test that passes where every byte is one of a file's name
pub path-by : {t : Bool} (s : List ℕ) → (length s ≡ 0 → ⊥) → ((t ≡ true) ↔ ((k : ℕ) → k < length s → is_path_byte (get_or s k 0) ≡ true)) → t ≡ is_path s
unfolding is_path
path-by {t} s h e =
    rw (filled-from s h)
    (same_by t (every is_path_byte s) (λ p. all-every is_path_byte s (e.0 p)) (λ p. e.1 (every-at is_path_byte s p)))
