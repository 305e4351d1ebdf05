-- Where a state says what is so of a member's type, a member that fits has a span that ends inside.
-- Assumes nothing.
use Prim.Native.Nat.{ℕ, ◌+◌, ◌*◌, ◌/◌, ◌%◌}
use native.Mathlib.Omega.{arith}
use mathlib.Core.Path.{◌≡◌, sym, ap, ◌∙◌}
use mathlib.Core.Bool.{Bool, true, false, not, cond, ◌&&◌, ◌||◌, false≢true}
use mathlib.Core.List.{[], ◌∷◌}
use mathlib.Core.Logic.{◌⊎◌, inl, inr}
use mathlib.Core.Option.{Option, none, some}
use borrow.Author.Tests.{eqb-true}
use lib.Dec.{eqb, leb}
use Rattle.glance.specs.Glance.{integer, integer_alias, enumerated, is_integer, is_bytes, is_sized, is_number, fits, field_fits, enum_kinds}
use Rattle.glance.proofs.Opens.{fits-sized, field-sized}
use Rattle.glance.proofs.States.{Says, bytes, bits, storage, nothing}
use Rattle.paper.proofs.basics.Choices.{and_left, and_right, and-true, or_left, or_right, or_cases}
use Rattle.paper.specs.rules.Choice.{member}
use Rattle.paper.specs.rules.KindNo.{INT}
use Rattle.paper.specs.rules.Size.{small_size}
use Rattle.paper.specs.rules.Span.{Member, Span, is_regular, is_regular_word, base_of, bit_offset, field_width, whole_span, plain_span, field_span, span_of_size}
use Rattle.paper.specs.rules.Span.{span_of, span_if, ends_by}
use Rattle.paper.specs.rules.Table.{Record, Table, kind_of}
use Rattle.paper.specs.rules.Tails.{int_word, offset_in, width_in}

-- ── a member that fits ──

module _ (s o z : ℕ) (ok : fits s o z ≡ true) where
  fits-ends : leb (o + 8 * (s / 16)) (8 * z) ≡ true
  fits-ends = and_right (is_integer (s % 16) || (is_bytes (s % 16) && eqb (o % 8) 0)) _ ok

  -- an INT of all its bits at any place, or whole bytes at a byte's
  fits-class : (is_integer (s % 16) ≡ true) ⊎ ((is_bytes (s % 16) ≡ true) × (eqb (o % 8) 0 ≡ true))
  fits-class =
      or_cases (is_integer (s % 16)) (is_bytes (s % 16) && eqb (o % 8) 0)
      (and_left (is_integer (s % 16) || (is_bytes (s % 16) && eqb (o % 8) 0)) _ ok)
      (λ p. inl p)
      (λ q. inr (and_left (is_bytes (s % 16)) (eqb (o % 8) 0) q, and_right (is_bytes (s % 16)) (eqb (o % 8) 0) q))

integer-bytes : (c : ℕ) → is_integer c ≡ true → is_bytes c ≡ true → ⊥
integer-bytes c i b =
    or_cases (eqb c integer) (eqb c integer_alias) i
    (λ p. false≢true (sym (ap is_bytes (eqb-true c integer p)) ∙ b)) (λ p. false≢true (sym (ap is_bytes (eqb-true c integer_alias p)) ∙ b))

-- a regular INT begins at its first bit
module _ (r : Record) (regular : is_regular r ≡ true) where
  regular-kind : eqb (kind_of r) INT ≡ true
  unfolding is_regular
  regular-kind = and_left (eqb (kind_of r) INT) (is_regular_word (int_word r)) regular

  regular-first : offset_in (int_word r) ≡ 0
  unfolding is_regular is_regular_word
  regular-first =
      let w = int_word r in
      eqb-true (offset_in w) 0
      (and_left (eqb (offset_in w) 0) (member (width_in w) (8 ∷ 16 ∷ 32 ∷ 64 ∷ 128 ∷ [])) (and_right (eqb (kind_of r) INT) (is_regular_word w) regular))

module _ (T : Table) (z : ℕ) (m : Member) where
  abbrev o : ℕ
  o = m.offset

  abbrev base : Record
  base = base_of T m.type

  -- so its span ends inside
  pub span-ends : {s : ℕ} → Says T m.type s → fits s o z ≡ true → ends_by (8 * z) (span_of T 0 m) ≡ true
  unfolding span_of plain_span whole_span
  span-ends {s} (bytes c size other enum) ok = go (fits-class s o z ok)
    where
      go : (is_integer (s % 16) ≡ true) ⊎ ((is_bytes (s % 16) ≡ true) × (eqb (o % 8) 0 ≡ true)) → ends_by (8 * z) (span_of T 0 m) ≡ true
      go (inl p) = absurd (integer-bytes (s % 16) p c)
      go (inr p) =
          ap (λ (x : Option ℕ). ends_by (8 * z) (span_of_size T 0 m x)) size
          ∙ ap (λ (b : Bool). ends_by (8 * z) (cond b (span_if true (o + offset_in (int_word base)) (width_in (int_word base))) (whole_span o (s / 16)))) other
          ∙ ap (λ (b : Bool). ends_by (8 * z) (span_if b o (8 * (s / 16)))) p.1
          ∙ fits-ends s o z ok
  span-ends {s} (bits c size regular width) ok =
      let kind = eqb-true (kind_of base) INT (regular-kind base regular) in
      let from = regular-first base regular in
      ap (λ (x : Option ℕ). ends_by (8 * z) (span_of_size T 0 m x)) size
      ∙ ap (λ (k : ℕ). ends_by (8 * z) (cond (eqb k INT) (span_if true (o + offset_in (int_word base)) (width_in (int_word base))) (whole_span o (s / 16)))) kind
      ∙ ap (λ (n : ℕ). leb n (8 * z)) (let e : o + offset_in (int_word base) + width_in (int_word base) ≡ o + 8 * (s / 16) = omega (arith, from, width) in e)
      ∙ fits-ends s o z ok
  span-ends {s} (storage c size) ok = absurd (false≢true (sym (ap is_sized c) ∙ fits-sized s o z ok))
  span-ends {s} (nothing c n) ok = absurd (false≢true (sym c ∙ fits-sized s o z ok))

  -- ── with bit fields ──

  abbrev from : ℕ
  from = bit_offset 1 m

  abbrev w : ℕ
  w = field_width m

  -- a base that a member of a record with bit fields may have
  abbrev taken : Bool
  taken = not (eqb (kind_of base) INT) || is_regular base

  abbrev spanned : ℕ → Bool → Bool → Option Span
  spanned size b c =
      cond b (cond (eqb w 0) (whole_span from size) (span_if (c && leb w (8 * size)) from w)) none

  -- its span, where its base may be taken, and is a number where it has a width
  lies : (s : ℕ) → small_size T m.type ≡ some (s / 16) → taken ≡ true → (is_number (s % 16) ≡ true → member (kind_of base) (INT ∷ enum_kinds) ≡ true)
      → field_fits s w from z ≡ true → ends_by (8 * z) (span_of T 1 m) ≡ true
  unfolding span_of field_span whole_span
  lies s size ok number fit =
      ap (λ (x : Option ℕ). ends_by (8 * z) (span_of_size T 1 m x)) size
      ∙ ap (λ (b : Bool). ends_by (8 * z) (spanned (s / 16) b (member (kind_of base) (INT ∷ enum_kinds)))) ok
      ∙ go (eqb w 0) fit
    where
      go : (b : Bool) → cond b ((is_sized (s % 16) && eqb (from % 8) 0) && leb (from + 8 * (s / 16)) (8 * z))
          ((is_number (s % 16) && leb w (8 * (s / 16))) && leb (from + w) (8 * z)) ≡ true
          → ends_by (8 * z) (cond b (whole_span from (s / 16)) (span_if (member (kind_of base) (INT ∷ enum_kinds) && leb w (8 * (s / 16))) from w)) ≡ true
      go true h =
          let first = and_left (is_sized (s % 16) && eqb (from % 8) 0) (leb (from + 8 * (s / 16)) (8 * z)) h in
          ap (λ (b : Bool). ends_by (8 * z) (span_if b from (8 * (s / 16)))) (and_right (is_sized (s % 16)) (eqb (from % 8) 0) first)
          ∙ and_right (is_sized (s % 16) && eqb (from % 8) 0) (leb (from + 8 * (s / 16)) (8 * z)) h
      go false h =
          let few = leb w (8 * (s / 16)) in
          let first = and_left (is_number (s % 16) && few) (leb (from + w) (8 * z)) h in
          ap (λ (b : Bool). ends_by (8 * z) (span_if b from w))
          (and-true (number (and_left (is_number (s % 16)) few first)) (and_right (is_number (s % 16)) few first))
          ∙ and_right (is_number (s % 16) && few) (leb (from + w) (8 * z)) h

  pub field-ends : {s : ℕ} → Says T m.type s → field_fits s w from z ≡ true → ends_by (8 * z) (span_of T 1 m) ≡ true
  field-ends {s} (bytes c size other enum) ok =
      lies s size (or_left (is_regular base) (ap not other))
      (λ n. or_right (eqb (kind_of base) INT)
      (or_cases (is_integer (s % 16)) (eqb (s % 16) enumerated) n (λ i. absurd (integer-bytes (s % 16) i c)) (λ p. enum (eqb-true (s % 16) enumerated p)))) ok
  field-ends {s} (bits c size regular width) ok =
      lies s size (or_right (not (eqb (kind_of base) INT)) regular) (λ n. or_left (member (kind_of base) enum_kinds) (regular-kind base regular)) ok
  field-ends {s} (storage c size) ok = absurd (false≢true (sym (ap is_sized c) ∙ field-sized s w from z ok))
  field-ends {s} (nothing c n) ok = absurd (false≢true (sym c ∙ field-sized s w from z ok))
