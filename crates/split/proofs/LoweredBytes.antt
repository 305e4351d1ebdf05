-- Records raised by what is missing to 2^32 have the bytes of lowered ones; raised by nothing they have their own.
-- Assumes nothing.
use Prim.Native.Nat.{ℕ, zero, suc, ◌+◌, ◌-◌, ◌%◌, ◌≤◌, ◌<◌}
use mathlib.Core.Path.{◌≡◌, refl, sym, ap, ap₂, ◌∙◌}
use mathlib.Core.Bool.{true}
use mathlib.Core.List.{List, [], ◌∷◌, ◌++◌, map}
use mathlib.Core.Logic.{◌⊎◌, inl, inr}
use native.Mathlib.Omega.{arith}
use Rattle.paper.proofs.basics.Choices.{and_left, and_right}
use Rattle.paper.proofs.bytes.Bytes.{bytes_of_words-append}
use Rattle.paper.proofs.joins.Neutral.{map_same, raised-none}
use Rattle.paper.proofs.renaming.Rename.{raise_zero, raise-other}
use Rattle.paper.specs.declared.Order.{Order}
use Rattle.paper.specs.rules.Choice.{every}
use Rattle.paper.specs.rules.Kind.{Role, names, refers, holds, number}
use Rattle.paper.specs.rules.Rename.{rename_word, rename_words, rename, raise}
use Rattle.paper.specs.rules.Table.{Record, roles_of, tail_roles, words_of, every_roled, every_word}
use Rattle.paper.specs.rules.Walk.{flat}
use Rattle.paper.specs.rules.Word.{word_bytes, bytes_of_words}
use Rattle.parts.proofs.Lowering.{behind-type, behind-name}
use Rattle.parts.specs.Cut.{points_behind, lowered}
use Rattle.shift.specs.Raising.{records_bytes}
use Rattle.shift.specs.declared.groups.Shift.{Shift}
use Rattle.words.proofs.PutWords.{word_bytes-cut}

-- what is missing to 2^32
abbrev pub missing : ℕ → ℕ
missing n = (4294967296 - n) % 4294967296

-- ── a word ──

cut-same : (n w : ℕ) → n < w → n < 4294967296 → (w + missing n) % 4294967296 ≡ (w - n) % 4294967296
cut-same zero w h small = let z : missing 0 ≡ 0 = refl in omega arith
cut-same (suc n) w h small =
    let m : missing (suc n) ≡ 4294967295 - n = omega arith in
    let a : w + missing (suc n) ≡ w - suc n + 4294967296 = omega arith in
    omega arith

word-lowered : (order : Order) (n w : ℕ) → n < 4294967296 → (w ≡ 0) ⊎ (n < w) → word_bytes order (raise (missing n) w) ≡ word_bytes order (w - n)
word-lowered order n w small (inl e) = let z : w - n ≡ 0 = omega arith in ap (word_bytes order) (raise_zero (missing n) e ∙ sym z)
word-lowered order n w small (inr h) =
    ap (word_bytes order) (raise-other (missing n) w (λ z. omega arith))
    ∙ sym (word_bytes-cut order (w + missing n))
    ∙ ap (word_bytes order) (cut-same n w h small)
    ∙ word_bytes-cut order (w - n)

-- ── a record whose words point behind the cut ──

module _ (order : Order) (n s : ℕ) (few : n < 4294967296) (filled : 1 ≤ s) (short : s < 4294967296) where
  role-lowered : (ρ : Role) (w : ℕ) → points_behind n s ρ w ≡ true
      → word_bytes order (rename_word (raise (missing n)) (raise (missing (s - 1))) ρ w) ≡ word_bytes order (rename_word (λ v. v - n) (λ v. v - (s - 1)) ρ w)
  role-lowered (names rule) w h = word-lowered order (s - 1) w (omega arith) (behind-name n s w filled h)
  role-lowered (refers rule) w h = word-lowered order n w few (behind-type n s w h)
  role-lowered (holds rule) w h = word-lowered order n w few (behind-type n s w h)
  role-lowered number w h = refl

  words-lowered : (ρs : List Role) (ws : List ℕ) → every_roled (points_behind n s) ρs ws ≡ true
      → bytes_of_words order (rename_words (raise (missing n)) (raise (missing (s - 1))) ρs ws)
      ≡ bytes_of_words order (rename_words (λ v. v - n) (λ v. v - (s - 1)) ρs ws)
  words-lowered [] ws h = refl
  words-lowered (ρ ∷ ρs) [] h = refl
  words-lowered (ρ ∷ ρs) (w ∷ ws) h =
      ap₂ (λ (x y : List ℕ). x ++ y) (role-lowered ρ w (and_left (points_behind n s ρ w) _ h))
      (words-lowered ρs ws (and_right (points_behind n s ρ w) _ h))

  record-lowered : (r : Record) → every_word (points_behind n s) r ≡ true
      → bytes_of_words order (words_of (rename (raise (missing n)) (raise (missing (s - 1))) r)) ≡ bytes_of_words order (words_of (lowered n s r))
  unfolding lowered rename tail_roles
  record-lowered r h = words-lowered (roles_of r) (words_of r) h

  flat-lowered : (rs : List Record) → every (every_word (points_behind n s)) rs ≡ true
      → bytes_of_words order (flat (map (rename (raise (missing n)) (raise (missing (s - 1)))) rs)) ≡ bytes_of_words order (flat (map (lowered n s) rs))
  flat-lowered [] h = refl
  flat-lowered (r ∷ rs) h =
      let up = rename (raise (missing n)) (raise (missing (s - 1))) in
      bytes_of_words-append order (words_of (up r)) (flat (map up rs))
      ∙ ap₂ (λ (x y : List ℕ). x ++ y) (record-lowered r (and_left (every_word (points_behind n s) r) _ h))
      (flat-lowered rs (and_right (every_word (points_behind n s) r) _ h))
      ∙ sym (bytes_of_words-append order (words_of (lowered n s r)) (flat (map (lowered n s) rs)))

  -- so many records, raised in code
  pub lowered-bytes : (by : Shift) → by.order ≡ order → by.types.0 ≡ missing n → by.names.0 ≡ missing (s - 1) → (rs : List Record)
      → every (every_word (points_behind n s)) rs ≡ true → records_bytes by rs ≡ bytes_of_words order (flat (map (lowered n s) rs))
  unfolding records_bytes
  lowered-bytes by o t m rs h =
      (λ i. bytes_of_words (o i) (flat (map (rename (raise (t i)) (raise (m i))) rs))) ∙ flat-lowered rs h

-- ── raised by nothing ──

pub same_bytes : (by : Shift) → by.types.0 ≡ 0 → by.names.0 ≡ 0 → (rs : List Record) → records_bytes by rs ≡ bytes_of_words by.order (flat rs)
unfolding records_bytes
same_bytes by t m rs =
    (λ i. bytes_of_words by.order (flat (map (rename (raise (t i)) (raise (m i))) rs)))
    ∙ ap (λ (qs : List Record). bytes_of_words by.order (flat qs)) (map_same (rename (raise 0) (raise 0)) raised-none rs)
