-- Laws of spans as code tests them: each test that fails decides, and what is left is where the span lies.
-- Assumes nothing.
use Rattle.std.specs.Prelude.{None, Option as RustOption, Some, ℕ}
use Prim.Native.Nat.{ℕ, ◌+◌, ◌-◌, ◌*◌, ◌/◌, ◌%◌, ◌<◌, ◌≤◌}
use mathlib.Core.Path.{◌≡◌, refl, sym, ap, ◌∙◌}
use mathlib.Core.Bool.{Bool, true, false, not, cond, ◌&&◌, ◌||◌}
use mathlib.Core.List.{[], ◌∷◌}
use mathlib.Core.Option.{Option, none, some}
use native.Mathlib.Omega.{arith}
use borrow.Author.Tests.{eq-eqb, ne_eqb, le-leb, lt-leb, leb-true, leb-false, not-true, not-false}
use lib.Dec.{eqb, leb}
use Rattle.spans.specs.Spanned.{typed, with_offset, span_with, span_as_paper}
use Rattle.paper.specs.rules.Choice.{member}
use Rattle.paper.specs.rules.KindNo.{INT, ENUM, ENUM64}
use Rattle.paper.specs.rules.Span.{Member, Span, is_regular_word, is_regular, bit_offset, span_if, whole_span, plain_span, field_span, span_of_size, span_of, base_of, ends_by}
use Rattle.paper.specs.rules.Size.{small_size}
use Rattle.paper.specs.rules.Table.{Record, Table, kind_of, bits}
use Rattle.paper.specs.rules.Tails.{int_word, offset_in, width_in}

-- the low bits of a word
low-8 : (w : ℕ) → w % 256 ≡ bits 0 7 w
low-8 w = omega arith

low-24 : (w : ℕ) → w % 16777216 ≡ bits 0 23 w
low-24 w = omega arith

-- ── regular INTs ──

pub word-irregular : (w : ℕ) → (w / 65536 % 256 ≡ 0 → ⊥) → false ≡ is_regular_word w
unfolding is_regular_word
word-irregular w n = rw (ne_eqb (offset_in w) 0 n) refl

pub word-regular : (w : ℕ) → w / 65536 % 256 ≡ 0 → {r : Bool} → r ≡ member (w % 256) (8 ∷ 16 ∷ 32 ∷ 64 ∷ 128 ∷ []) → r ≡ is_regular_word w
unfolding is_regular_word
word-regular w z d =
    d
    ∙ ap (λ (x : ℕ). member x (8 ∷ 16 ∷ 32 ∷ 64 ∷ 128 ∷ [])) (low-8 w)
    ∙ ap (λ (t : Bool). t && member (width_in w) (8 ∷ 16 ∷ 32 ∷ 64 ∷ 128 ∷ [])) (sym (eq-eqb (offset_in w) 0 z))

module _ (r : Record) {k : ℕ} (kind : k ≡ kind_of r) where
  pub regular-other : (k ≡ INT → ⊥) → false ≡ is_regular r
  unfolding is_regular
  regular-other n = sym (ap (λ (t : Bool). t && is_regular_word (int_word r)) (ne_eqb (kind_of r) INT (λ e. n (kind ∙ e))))

  pub regular-int : k ≡ INT → {w : ℕ} → w ≡ int_word r → {x : Bool} → x ≡ is_regular_word w → x ≡ is_regular r
  unfolding is_regular
  regular-int e word d =
      d ∙ ap is_regular_word word ∙ sym (ap (λ (t : Bool). t && is_regular_word (int_word r)) (eq-eqb (kind_of r) INT (sym kind ∙ e)))

  pub either-other : (k ≡ INT → ⊥) → true ≡ not (eqb (kind_of r) INT) || is_regular r
  either-other n = sym (ap (λ (t : Bool). not t || is_regular r) (ne_eqb (kind_of r) INT (λ e. n (kind ∙ e))))

  pub either-int : k ≡ INT → {x : Bool} → x ≡ is_regular r → x ≡ not (eqb (kind_of r) INT) || is_regular r
  either-int e d = d ∙ sym (ap (λ (t : Bool). not t || is_regular r) (eq-eqb (kind_of r) INT (sym kind ∙ e)))

-- ── bit offsets ──

pub offset-field : {flag : ℕ} (o : ℕ) → flag ≡ 1 → o % 16777216 ≡ bit_offset flag (with_offset o)
offset-field {flag} o e = low-24 o ∙ sym (ap (λ (t : Bool). cond t (bits 0 23 o) o) (eq-eqb flag 1 e))

pub offset-plain : {flag : ℕ} (o : ℕ) → (flag ≡ 1 → ⊥) → o ≡ bit_offset flag (with_offset o)
offset-plain {flag} o n = sym (ap (λ (t : Bool). cond t (bits 0 23 o) o) (ne_eqb flag 1 n))

-- a span
abbrev lies : ℕ → ℕ → Option Span
lies from bits = some (record { from = from; size = bits })

-- ── whole spans ──

module _ (from size : ℕ) where
  pub whole-off : (from % 8 ≡ 0 → ⊥) → none ≡ whole_span from size
  unfolding whole_span
  whole-off n = sym (ap (λ (t : Bool). span_if t from (8 * size)) (ne_eqb (from % 8) 0 n))

  pub whole-on : from % 8 ≡ 0 → lies from (8 * size) ≡ whole_span from size
  unfolding whole_span
  whole-on e = sym (ap (λ (t : Bool). span_if t from (8 * size)) (eq-eqb (from % 8) 0 e))

-- ── with kind_flag 0 ──

module _ (base : Record) {k : ℕ} (kind : k ≡ kind_of base) (o size : ℕ) where
  abbrev plain : Bool → Option Span
  plain t = cond t (span_if true (o + offset_in (int_word base)) (width_in (int_word base))) (whole_span o size)

  pub plain_other : (k ≡ INT → ⊥) → {x : Option Span} → x ≡ whole_span o size → x ≡ plain_span base (with_offset o) size
  unfolding plain_span
  plain_other n d = d ∙ sym (ap plain (ne_eqb (kind_of base) INT (λ e. n (kind ∙ e))))

  pub plain_int : k ≡ INT → {w : ℕ} → w ≡ int_word base → lies (o + w / 65536 % 256) (w % 256) ≡ plain_span base (with_offset o) size
  unfolding plain_span
  plain_int e {w} word =
      ap (lies (o + w / 65536 % 256)) (low-8 w)
      ∙ ap (λ (x : ℕ). lies (o + offset_in x) (width_in x)) word
      ∙ sym (ap plain (eq-eqb (kind_of base) INT (sym kind ∙ e)))

-- ── with kind_flag 1 ──

module _ (base : Record) (o size : ℕ) {t : Bool} (either : t ≡ not (eqb (kind_of base) INT) || is_regular base) where
  -- the field's width
  abbrev w : ℕ
  w = o / 16777216 % 256

  -- by the four tests: a base that may be, no width, a kind that has fields, a width that fits
  abbrev field : Bool → Bool → Bool → Bool → Option Span
  field a b c d = cond a (cond b (whole_span (bits 0 23 o) size) (span_if (c && d) (bits 0 23 o) w)) none

  abbrev span : Option Span
  span = field_span base (with_offset o) size

  abbrev fielded : Bool
  fielded = member (kind_of base) (INT ∷ ENUM ∷ ENUM64 ∷ [])

  pub field-irregular : not t ≡ true → none ≡ span
  unfolding field_span
  field-irregular e = sym (ap (λ (a : Bool). field a (eqb w 0) fielded (leb w (8 * size))) (sym either ∙ not-true t e))

  module _ (regular : not t ≡ false) where
    with-base : field true (eqb w 0) fielded (leb w (8 * size)) ≡ span
    unfolding field_span
    with-base = sym (ap (λ (a : Bool). field a (eqb w 0) fielded (leb w (8 * size))) (sym either ∙ not-false t regular))

    pub field-whole : w ≡ 0 → {x : Option Span} → x ≡ whole_span (o % 16777216) size → x ≡ span
    field-whole z d =
        d
        ∙ ap (λ (from : ℕ). whole_span from size) (low-24 o)
        ∙ sym (ap (λ (b : Bool). field true b fielded (leb w (8 * size))) (eq-eqb w 0 z))
        ∙ with-base

    module _ (wide : w ≡ 0 → ⊥) {k : ℕ} (kind : k ≡ kind_of base) {f : Bool} (test : f ≡ member k (INT ∷ ENUM ∷ ENUM64 ∷ [])) where
      with-width : field true false f (leb w (8 * size)) ≡ span
      with-width =
          ap (λ (c : Bool). field true false c (leb w (8 * size))) (test ∙ ap (λ (i : ℕ). member i (INT ∷ ENUM ∷ ENUM64 ∷ [])) kind)
          ∙ sym (ap (λ (b : Bool). field true b fielded (leb w (8 * size))) (ne_eqb w 0 wide))
          ∙ with-base

      pub field-kind : not f ≡ true → none ≡ span
      field-kind e = sym (ap (λ (c : Bool). field true false c (leb w (8 * size))) (not-true f e)) ∙ with-width

      module _ (has : not f ≡ false) where
        with-kind : field true false true (leb w (8 * size)) ≡ span
        with-kind = sym (ap (λ (c : Bool). field true false c (leb w (8 * size))) (not-false f has)) ∙ with-width

        pub field-wide : 8 * size < w → none ≡ span
        field-wide h = sym (ap (field true false true) (lt-leb w (8 * size) h)) ∙ with-kind

        pub field-on : w ≤ 8 * size → lies (o % 16777216) w ≡ span
        field-on h =
            ap (λ (from : ℕ). lies from w) (low-24 o)
            ∙ sym (ap (field true false true) (le-leb w (8 * size) h))
            ∙ with-kind

-- ── by kind_flag ──

module _ (base : Record) (flag o size : ℕ) where
  abbrev by : Bool → Option Span
  by t = cond t (field_span base (with_offset o) size) (plain_span base (with_offset o) size)

  pub span-field : flag ≡ 1 → {x : Option Span} → x ≡ field_span base (with_offset o) size → x ≡ span_with flag base o size
  span-field e d = d ∙ sym (ap by (eq-eqb flag 1 e))

  pub span-plain : (flag ≡ 1 → ⊥) → {x : Option Span} → x ≡ plain_span base (with_offset o) size → x ≡ span_with flag base o size
  span-plain n d = d ∙ sym (ap by (ne_eqb flag 1 n))

-- ── of a member ──

module _ (T : Table) (flag o t : ℕ) where
  -- a member of no size, or of one that overflows, has no span
  pub span_none : none ≡ small_size T t → none ≡ span_of T flag (typed t o)
  unfolding span_of
  span_none e = ap (span_of_size T flag (typed t o)) e

  -- any other has the span that its base, its offset word and its size say
  pub span_small : {z : ℕ} → some z ≡ small_size T t → (base : Record) → base ≡ base_of T t → {x : Option Span}
      → x ≡ span_with flag base o z → x ≡ span_of T flag (typed t o)
  unfolding span_of field_span plain_span
  span_small {z} e base is d = d ∙ ap (λ (r : Record). span_with flag r o z) is ∙ ap (span_of_size T flag (typed t o)) e

-- a name says nothing of a span
typed-size : (T : Table) (flag : ℕ) (m : Member) (size : Option ℕ) → span_of_size T flag (typed m.type m.offset) size ≡ span_of_size T flag m size
unfolding field_span plain_span
typed-size T flag m none = refl
typed-size T flag m (some z) = refl

pub span-typed : (T : Table) (flag : ℕ) (m : Member) → span_of T flag (typed m.type m.offset) ≡ span_of T flag m
unfolding span_of
span-typed T flag m = typed-size T flag m (small_size T m.type)

-- ── where it ends ──

pub ends_nowhere : (end : ℕ) {l : RustOption (ℕ × ℕ)} → l ≡ None → false ≡ ends_by end (span_as_paper l)
ends_nowhere end is = sym (ap (λ (l : RustOption (ℕ × ℕ)). ends_by end (span_as_paper l)) is)

module _ (end : ℕ) {l : RustOption (ℕ × ℕ)} {from bits : ℕ} (is : l ≡ Some (from, bits)) where
  lies_so : ends_by end (span_as_paper l) ≡ leb (from + bits) end
  lies_so = ap (λ (l : RustOption (ℕ × ℕ)). ends_by end (span_as_paper l)) is

  pub ends-late : end < bits → false ≡ ends_by end (span_as_paper l)
  ends-late h = sym (lies_so ∙ lt-leb (from + bits) end (omega arith))

  -- as a difference, which cannot wrap
  less-bits : bits ≤ end → (t : Bool) → leb from (end - bits) ≡ t → t ≡ leb (from + bits) end
  less-bits h true e = let l = leb-true from (end - bits) e in sym (le-leb (from + bits) end (omega arith))
  less-bits h false e = let l = leb-false from (end - bits) e in sym (lt-leb (from + bits) end (omega arith))

  pub ends-by : bits ≤ end → leb from (end - bits) ≡ ends_by end (span_as_paper l)
  ends-by h = less-bits h (leb from (end - bits)) refl ∙ sym lies_so
