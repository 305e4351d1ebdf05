-- Laws of states that a later look may change: nothing is told, or no more than that the type is plain.
-- Assumes nothing.
use Prim.Native.Nat.{ℕ, ◌+◌, ◌*◌, ◌/◌, ◌%◌}
use native.Mathlib.Omega.{arith}
use mathlib.Core.Path.{◌≡◌, refl, sym, ap, ◌∙◌}
use mathlib.Core.Bool.{Bool, true, false, cond, ◌&&◌, ◌||◌, false≢true}
use borrow.Author.Tests.{eqb-true}
use lib.Dec.{eqb, leb}
use Rattle.glance.specs.Glance.{whole, integer, is_integer, enumerated, is_bytes, is_number, field_fits, named, stored, awaiting, is_sized, is_open, Open}
use Rattle.glance.specs.Glance.{through, fits}
use Rattle.paper.proofs.basics.Choices.{and_left, or_left, or_right, or_cases}

pub open-cases : {C : Type 0} (s : ℕ) → Open s → (s ≡ 0 → C) → (s ≡ awaiting → C) → C
open-cases s o f g = or_cases (eqb s 0) (eqb s awaiting) o (λ p. f (eqb-true s 0 p)) (λ p. g (eqb-true s awaiting p))

-- what is open is so through an alias
pub open-through : (s : ℕ) → Open s → Open (through s)
open-through s o = open-cases s o (λ e. ap (λ (s : ℕ). is_open (through s)) e) (λ e. ap (λ (s : ℕ). is_open (through s)) e)

-- a member that fits has a type that has a size
pub fits-sized : (s o z : ℕ) → fits s o z ≡ true → is_sized (s % 16) ≡ true
fits-sized s o z h =
    let i = is_integer (s % 16) in
    let w = is_bytes (s % 16) in
    or_cases i (w && eqb (o % 8) 0) (and_left (i || (w && eqb (o % 8) 0)) (leb (o + 8 * (s / 16)) (8 * z)) h) (λ p. or_left w p)
    (λ q. or_right i (and_left w (eqb (o % 8) 0) q))

-- and so has a field
pub field-sized : (s w o z : ℕ) → field_fits s w o z ≡ true → is_sized (s % 16) ≡ true
field-sized s w o z h = go (eqb w 0) h
  where
    byte : Bool
    byte = eqb (o % 8) 0

    few : Bool
    few = leb w (8 * (s / 16))

    go : (b : Bool) → cond b ((is_sized (s % 16) && byte) && leb (o + 8 * (s / 16)) (8 * z)) ((is_number (s % 16) && few) && leb (o + w) (8 * z)) ≡ true
        → is_sized (s % 16) ≡ true
    go true h = and_left (is_sized (s % 16)) byte (and_left (is_sized (s % 16) && byte) (leb (o + 8 * (s / 16)) (8 * z)) h)
    go false h =
        or_cases (is_integer (s % 16)) (eqb (s % 16) enumerated)
        (and_left (is_number (s % 16)) few (and_left (is_number (s % 16) && few) (leb (o + w) (8 * z)) h))
        (λ p. or_left (is_bytes (s % 16)) p) (λ p. or_right (is_integer (s % 16)) (or_right (eqb (s % 16) whole) p))

-- ── classes that are not open ──

pub sized-told : (s : ℕ) → is_sized (s % 16) ≡ true → Open s → ⊥
sized-told s h o =
    let no : (n : ℕ) → s ≡ n → is_sized (n % 16) ≡ false → ⊥ = λ n e f. false≢true (sym f ∙ sym (ap (λ (s : ℕ). is_sized (s % 16)) e) ∙ h) in
    open-cases s o (λ e. no 0 e refl) (λ e. no awaiting e refl)

pub integer-told : (s : ℕ) → s % 16 ≡ integer → Open s → ⊥
integer-told s h o = open-cases s o (λ e. omega arith) (λ e. omega arith)

pub stored-told : (s : ℕ) → s % 16 ≡ stored → Open s → ⊥
stored-told s h o = open-cases s o (λ e. omega arith) (λ e. omega arith)

pub named-told : (s : ℕ) → s ≡ named → Open s → ⊥
named-told s h o = open-cases s o (λ e. omega arith) (λ e. omega arith)

pub fits_told : (s o z : ℕ) → fits s o z ≡ true → Open s → ⊥
fits_told s o z h = sized-told s (fits-sized s o z h)

pub field_told : (s w o z : ℕ) → field_fits s w o z ≡ true → Open s → ⊥
field_told s w o z h = sized-told s (field-sized s w o z h)
