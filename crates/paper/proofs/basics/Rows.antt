-- Laws of the rows: a test that all of them pass, computed once, holds of the row of any kind.
-- Assumes nothing.
use Prim.Native.Nat.{ℕ}
use mathlib.Core.Path.{◌≡◌, refl, ap}
use mathlib.Core.Bool.{Bool, true, false, ◌&&◌, false≢true}
use mathlib.Core.List.{◌++◌}
use lib.ListN.{get_or}
use Rattle.paper.proofs.basics.Choices.{every-get_d, and_left, member-every}
use Rattle.paper.specs.rules.Chain.{links, is_link}
use Rattle.paper.specs.rules.Choice.{every, times}
use Rattle.paper.specs.rules.Heads.{allowed}
use Rattle.paper.specs.rules.Kind.{Row, RefRule, Role, names, refers, holds, number, Values, free, one_of}
use Rattle.paper.specs.rules.Kind.{SizeRule, eight, size_word, count_times, referent, no_size, rows, row_of}
use Rattle.paper.specs.rules.Rename.{rename_word}

-- the first row is that of a kind that is not known, so the test need not be asked of it again
pub row_of-every : (f : Row → Bool) → every f rows ≡ true → (k : ℕ) → f (row_of k) ≡ true
unfolding row_of rows
row_of-every f h k = every-get_d f rows _ h (and_left _ _ h) k

-- ── roles under renaming ──

abbrev pub is_number : Role → Bool
is_number (names rule) = false
is_number (refers rule) = false
is_number (holds rule) = false
is_number number = true

abbrev pub is_held : Role → Bool
is_held (names rule) = false
is_held (refers rule) = false
is_held (holds rule) = true
is_held number = false

-- a reference, by value or not
abbrev pub is_reference : Role → Bool
is_reference (names rule) = false
is_reference (refers rule) = true
is_reference (holds rule) = true
is_reference number = false

-- what is true of both sorts of reference is true of a role that is one
pub each-reference : (P : Role → Type 0) → ((rule : RefRule) → P (refers rule)) → ((rule : RefRule) → P (holds rule))
    → (ρ : Role) → is_reference ρ ≡ true → P ρ
each-reference P f g (names rule) e = absurd (false≢true e)
each-reference P f g (refers rule) e = f rule
each-reference P f g (holds rule) e = g rule
each-reference P f g number e = absurd (false≢true e)

module _ (type name : ℕ → ℕ) where
  pub number-kept : (ρ : Role) (w : ℕ) → is_number ρ ≡ true → rename_word type name ρ w ≡ w
  number-kept (names rule) w h = absurd (false≢true h)
  number-kept (refers rule) w h = absurd (false≢true h)
  number-kept (holds rule) w h = absurd (false≢true h)
  number-kept number w h = refl

  pub held-renamed : (ρ : Role) (w : ℕ) → is_held ρ ≡ true → rename_word type name ρ w ≡ type w
  held-renamed (names rule) w h = absurd (false≢true h)
  held-renamed (refers rule) w h = absurd (false≢true h)
  held-renamed (holds rule) w h = refl
  held-renamed number w h = absurd (false≢true h)

  pub reference-renamed : (ρ : Role) (w : ℕ) → is_reference ρ ≡ true → rename_word type name ρ w ≡ type w
  reference-renamed ρ w = each-reference (λ (ρ : Role). rename_word type name ρ w ≡ type w) (λ rule. refl) (λ rule. refl) ρ

-- ── a third word of which only some values are allowed is no reference ──

abbrev third_kept : Values → Role → Bool
third_kept free ρ = true
third_kept (one_of ws) ρ = is_number ρ

allowed-kept : (type name : ℕ → ℕ) (vs : Values) (ρ : Role) (w : ℕ) → third_kept vs ρ ≡ true → allowed vs (rename_word type name ρ w) ≡ allowed vs w
allowed-kept type name free ρ w h = refl
allowed-kept type name (one_of ws) ρ w h = ap (allowed (one_of ws)) (number-kept type name ρ w h)

pub allowed-third : (type name : ℕ → ℕ) (k w : ℕ)
    → allowed (row_of k).third_values (rename_word type name (row_of k).third_role w) ≡ allowed (row_of k).third_values w
allowed-third type name k w =
    allowed-kept type name (row_of k).third_values (row_of k).third_role w
    (row_of-every (λ (r : Row). third_kept r.third_values r.third_role) (unfold rows in refl) k)

-- ── what a size rests on: a size word is no reference, an element and a referent are held by value ──

-- of the third word and the first and third word of the tail
abbrev pub size_roles : SizeRule → Role → Role → Role → Bool
size_roles eight ρ₃ ρ₀ ρ₂ = true
size_roles size_word ρ₃ ρ₀ ρ₂ = is_number ρ₃
size_roles count_times ρ₃ ρ₀ ρ₂ = is_held ρ₀ && is_number ρ₂
size_roles referent ρ₃ ρ₀ ρ₂ = is_held ρ₃
size_roles no_size ρ₃ ρ₀ ρ₂ = true

-- a role of the tail's words, by place
abbrev tail_role : Row → ℕ → ℕ → Role
tail_role row v i = get_or (row.once ++ times v row.each) i number

pub row_of-size_roles : (k v : ℕ) → size_roles (row_of k).size (row_of k).third_role (tail_role (row_of k) v 0) (tail_role (row_of k) v 2) ≡ true
row_of-size_roles k v =
    row_of-every (λ (r : Row). size_roles r.size r.third_role (tail_role r v 0) (tail_role r v 2)) (unfold rows in refl) k

-- ── the third word of a kind that the second sort of step starts at is a reference ──

pub link-third : (k : ℕ) → is_link k ≡ true → is_reference (row_of k).third_role ≡ true
unfolding row_of rows
link-third k e = member-every (λ (k : ℕ). is_reference (row_of k).third_role) k links e refl
