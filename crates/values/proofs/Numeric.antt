-- Laws of `Value` for an accepted table: a numeric base has the size of its own word, so a numeric member's span has 1 to 128 bits.
-- Assumes nothing.
use Prim.Native.Nat.{ℕ, zero, suc, ◌+◌, ◌*◌, ◌%◌, ◌≤◌, ◌<◌}
use mathlib.Core.Path.{◌≡◌, refl, sym, ap, ◌∙◌, subst}
use mathlib.Core.Bool.{Bool, true, false, not, cond, ◌&&◌, ◌||◌, false≢true}
use mathlib.Core.List.{List, [], ◌∷◌}
use mathlib.Core.Option.{Option, none, some}
use native.Mathlib.Omega.{arith}
use borrow.Author.Tests.{eqb-true, eqb-false, leb-true, leb-false, le-leb}
use lib.Dec.{eqb, leb}
use lib.ListN.{get_or}
use Rattle.paper.proofs.basics.Choices.{and_left, and_right, differ-equal, Each, member-each}
use Rattle.paper.proofs.walks.Insides.{record_at-outside, sound-ends}
use Rattle.paper.proofs.walks.Sizes.{size_by-enough, never-far}
use Rattle.paper.specs.rules.Choice.{member}
use Rattle.paper.specs.rules.Heads.{allowed, spare_zero, head_ok}
use Rattle.paper.specs.rules.Kind.{rows, row_of}
use Rattle.paper.specs.rules.KindNo.{INT, ENUM, ENUM64}
use Rattle.paper.specs.rules.Limits.{size_limit}
use Rattle.paper.specs.rules.Size.{Step, is, many_of, exactly, step_by, scale, go_on, size_by, step_in, size_found, exact_size, within, small_size}
use Rattle.paper.specs.rules.Span.{Member, Span, aliases, is_alias, base_from, base_of, is_regular, bit_offset, field_width, span_if, whole_span, plain_span, field_span, span_of_size, span_of}
use Rattle.paper.specs.rules.Table.{Record, Table, count, nothing, record_at, bits, kind_at, kind_of, vlen_of, flag_of, row_in}
use Rattle.paper.specs.rules.Tails.{width_in, offset_in, encoding_in, int_word, int_word_ok, tail_ok}
use Rattle.values.specs.Value.{is_numeric}
use Rattle.paper.specs.terms.Good.{Good}

module _ (T : Table) where
  step_as : ℕ → ℕ → Step
  step_as t c = step_by (row_of c).size (record_at T t).third (get_or (record_at T t).tail 0 0) (get_or (record_at T t).tail 2 0)

  numeric-is : (t : ℕ) → is_numeric (record_at T t) ≡ true → step_in T t ≡ is (record_at T t).third
  unfolding is_numeric step_in step_as row_of rows
  numeric-is t e =
      member-each (λ (c : ℕ). kind_at T t ≡ c → step_in T t ≡ is (record_at T t).third) (kind_at T t) (INT ∷ ENUM ∷ ENUM64 ∷ []) e
      ((λ k. ap (step_as t) k), ((λ k. ap (step_as t) k), ((λ k. ap (step_as t) k), tt))) refl

  alias-of : (t : ℕ) → is_alias (kind_at T t) ≡ true → step_in T t ≡ many_of 1 (record_at T t).third
  unfolding step_in step_as row_of rows
  alias-of t e =
      member-each (λ (c : ℕ). kind_at T t ≡ c → step_in T t ≡ many_of 1 (record_at T t).third) (kind_at T t) aliases e
      ((λ k. ap (step_as t) k), ((λ k. ap (step_as t) k), ((λ k. ap (step_as t) k), ((λ k. ap (step_as t) k), ((λ k. ap (step_as t) k), tt))))) refl

  -- a walk over names and qualifiers finds the size word of a numeric base
  numeric-found : (k t : ℕ) → is_numeric (record_at T (base_from T k t)) ≡ true → size_by (step_in T) (suc k) t ≡ exactly (record_at T (base_from T k t)).third
  unfolding is_numeric
  numeric-found zero zero e = absurd (false≢true e)
  numeric-found zero (suc t) e = ap (λ (s : Step). go_on s (size_by (step_in T) 0)) (numeric-is (suc t) e)
  numeric-found (suc k) zero e = absurd (false≢true e)
  numeric-found (suc k) (suc t) e = go (numeric-found k (record_at T (suc t)).third) (is_alias (kind_at T (suc t))) refl
    where
      go : (is_numeric (record_at T (base_from T k (record_at T (suc t)).third)) ≡ true
          → size_by (step_in T) (suc k) (record_at T (suc t)).third ≡ exactly (record_at T (base_from T k (record_at T (suc t)).third)).third)
          → (b : Bool) → is_alias (kind_at T (suc t)) ≡ b
          → size_by (step_in T) (suc (suc k)) (suc t) ≡ exactly (record_at T (base_from T (suc k) (suc t))).third
      go below true a =
          let u = (record_at T (suc t)).third in
          let on = ap (λ (b : Bool). cond b (base_from T k u) (suc t)) a in
          let rest = below (ap (λ (x : ℕ). is_numeric (record_at T x)) (sym on) ∙ e) in
          ap (λ (s : Step). go_on s (size_by (step_in T) (suc k))) (alias-of (suc t) a)
          ∙ ap (scale 1) rest
          ∙ ap exactly (omega arith)
          ∙ ap (λ (x : ℕ). exactly (record_at T x).third) (sym on)
      go below false a =
          let on = ap (λ (b : Bool). cond b (base_from T k (record_at T (suc t)).third) (suc t)) a in
          ap (λ (s : Step). go_on s (size_by (step_in T) (suc k))) (numeric-is (suc t) (ap (λ (x : ℕ). is_numeric (record_at T x)) (sym on) ∙ e))
          ∙ ap (λ (x : ℕ). exactly (record_at T x).third) (sym on)

  -- a type with a numeric base has its base's size
  pub numeric-size : Good T → (t : ℕ) → t ≤ count T → is_numeric (base_of T t) ≡ true → exact_size T t ≡ some (base_of T t).third
  unfolding exact_size base_of
  numeric-size g t h e =
      ap size_found (sym (size_by-enough (step_in T) {k = count T} {m = suc (count T)} t (omega arith) (never-far T (sound-ends g.sound) t h)) ∙ numeric-found (count T) t e)

-- ── how many bits ──

-- a span of 1 to 128 bits, or none
abbrev pub Few : Option Span → Type 0
Few none = Unit
Few (some p) = (1 ≤ p.size) × (p.size ≤ 128)

few-if : (ok : Bool) (from size : ℕ) → (ok ≡ true → (1 ≤ size) × (size ≤ 128)) → Few (span_if ok from size)
few-if true from size h = h refl
few-if false from size h = tt

few-cond : (b : Bool) (x y : Option Span) → (b ≡ true → Few x) → (b ≡ false → Few y) → Few (cond b x y)
few-cond true x y f g = f refl
few-cond false x y f g = g refl

numeric-third : (r : Record) → head_ok r ≡ true → is_numeric r ≡ true → (1 ≤ r.third) × (r.third ≤ 16)
unfolding head_ok is_numeric row_of rows
numeric-third r h e =
    let third : (c : ℕ) → kind_of r ≡ c → allowed (row_of c).third_values r.third ≡ true =
    λ c k. ap (λ (c : ℕ). allowed (row_of c).third_values r.third) (sym k) ∙ and_right (spare_zero r.info && allowed (row_in r).flag (flag_of r) && allowed (row_in r).vlen (vlen_of r)) _ h in
    let enum : (ws : List ℕ) → Each (λ (w : ℕ). (1 ≤ w) × (w ≤ 16)) ws → member r.third ws ≡ true → (1 ≤ r.third) × (r.third ≤ 16) =
    λ ws each e. member-each (λ (w : ℕ). (1 ≤ w) × (w ≤ 16)) r.third ws e each in
    member-each (λ (c : ℕ). kind_of r ≡ c → (1 ≤ r.third) × (r.third ≤ 16)) (kind_of r) (INT ∷ ENUM ∷ ENUM64 ∷ []) e (
      (λ k. enum (1 ∷ 2 ∷ 4 ∷ 8 ∷ 16 ∷ []) ((omega arith, omega arith), ((omega arith, omega arith), ((omega arith, omega arith), ((omega arith, omega arith), ((omega arith, omega arith), tt))))) (third INT k)),
      (
        (λ k. enum (1 ∷ 2 ∷ 4 ∷ 8 ∷ []) ((omega arith, omega arith), ((omega arith, omega arith), ((omega arith, omega arith), ((omega arith, omega arith), tt)))) (third ENUM k)),
        ((λ k. enum (1 ∷ 2 ∷ 4 ∷ 8 ∷ []) ((omega arith, omega arith), ((omega arith, omega arith), ((omega arith, omega arith), ((omega arith, omega arith), tt)))) (third ENUM64 k)), tt),
      ),
    )
    refl

-- an INT's width, where its word is as 12 asks
int-width : (r : Record) → tail_ok r ≡ true → r.third ≤ 16 → kind_of r ≡ INT → (1 ≤ width_in (int_word r)) × (width_in (int_word r) ≤ 128)
unfolding tail_ok int_word_ok
int-width r h small k =
    let word : int_word_ok (int_word r) r.third ≡ true =
    sym (ap (λ (b : Bool). b || int_word_ok (int_word r) r.third) (differ-equal (kind_of r) INT k)) ∙ and_left _ _ (and_left _ _ h) in
    let w = int_word r in
    let front = eqb (bits 8 15 w) 0 && eqb (bits 28 31 w) 0 && member (encoding_in w) (0 ∷ 1 ∷ 2 ∷ 4 ∷ []) in
    let ends = leb-true (offset_in w + width_in w) (8 * r.third) (and_right (front && leb 1 (width_in w)) _ word) in
    (leb-true 1 (width_in w) (and_right front _ (and_left (front && leb 1 (width_in w)) _ word)), omega arith)

module _ (base : Record) (m : Member) (heads : head_ok base ≡ true) (tails : tail_ok base ≡ true) (numeric : is_numeric base ≡ true) where
  small : (1 ≤ base.third) × (base.third ≤ 16)
  small = numeric-third base heads numeric

  few-whole : (from : ℕ) → Few (whole_span from base.third)
  unfolding whole_span
  few-whole from = few-if (eqb (from % 8) 0) from (8 * base.third) (λ e. (omega (arith, small), omega (arith, small)))

  few-plain : Few (plain_span base m base.third)
  unfolding plain_span
  few-plain =
      few-cond (eqb (kind_of base) INT) (span_if true (bit_offset 0 m + offset_in (int_word base)) (width_in (int_word base))) (whole_span (bit_offset 0 m) base.third)
      (λ e. int-width base tails small.1 (eqb-true _ _ e))
      (λ e. few-whole (bit_offset 0 m))

  few-field : Few (field_span base m base.third)
  unfolding field_span is_numeric
  few-field =
      let whole = whole_span (bit_offset 1 m) base.third in
      let fits = member (kind_of base) (INT ∷ ENUM ∷ ENUM64 ∷ []) && leb (field_width m) (8 * base.third) in
      let part = span_if fits (bit_offset 1 m) (field_width m) in
      few-cond (not (eqb (kind_of base) INT) || is_regular base) (cond (eqb (field_width m) 0) whole part) none
      (λ e. few-cond (eqb (field_width m) 0) whole part (λ z. few-whole (bit_offset 1 m))
      (λ z. few-if fits (bit_offset 1 m) (field_width m)
      (λ o. let wide = leb-true (field_width m) (8 * base.third) (and_right (is_numeric base) _ o) in (ge-one (eqb-false _ _ z), omega (arith, small)))))
      (λ e. tt)
    where
      ge-one : {w : ℕ} → (w ≡ 0 → ⊥) → 1 ≤ w
      ge-one {w = zero} h = absurd (h refl)
      ge-one {w = suc w} h = omega arith

-- ── in an accepted table ──

module _ (T : Table) where
  -- a numeric type is one of the table's, and so is a type with a numeric base
  numeric-inside : (t : ℕ) → is_numeric (record_at T t) ≡ true → (1 ≤ t) × (t ≤ count T)
  unfolding is_numeric
  numeric-inside zero e = absurd (false≢true e)
  numeric-inside (suc t) e = (omega arith, go (leb (suc t) (count T)) refl)
    where
      go : (b : Bool) → leb (suc t) (count T) ≡ b → suc t ≤ count T
      go true l = leb-true _ _ l
      go false l = absurd (false≢true (ap is_numeric (sym (record_at-outside T (suc t) (leb-false _ _ l))) ∙ e))

  outside-base : (k t : ℕ) → count T < t → record_at T (base_from T k t) ≡ nothing
  outside-base zero t h = record_at-outside T t h
  outside-base (suc k) t h =
      ap (λ (r : Record). record_at T (cond (is_alias (kind_of r)) (base_from T k (record_at T t).third) t)) (record_at-outside T t h)
      ∙ record_at-outside T t h

  numeric-type : (t : ℕ) → is_numeric (base_of T t) ≡ true → t ≤ count T
  unfolding is_numeric base_of
  numeric-type t e = go (leb t (count T)) refl
    where
      go : (b : Bool) → leb t (count T) ≡ b → t ≤ count T
      go true l = leb-true _ _ l
      go false l = absurd (false≢true (ap is_numeric (sym (outside-base (count T) t (leb-false _ _ l))) ∙ e))

  -- a numeric member's span has 1 to 128 bits
  pub span-few : Good T → (flag : ℕ) (m : Member) → is_numeric (base_of T m.type) ≡ true → Few (span_of T flag m)
  unfolding span_of small_size base_of
  span-few g flag m e =
      let base = base_of T m.type in
      let at = numeric-inside (base_from T (count T) m.type) e in
      let sound = g.sound (base_from T (count T) m.type) at.0 at.1 in
      let size = numeric-size T g m.type (numeric-type m.type e) e in
      let third = numeric-third base sound.heads e in
      let fits = ap (λ (b : Bool). cond b (some base.third) none) (le-leb base.third size_limit (omega arith)) in
      subst Few (sym (ap (λ (s : Option ℕ). span_of_size T flag m (within s)) size ∙ ap (span_of_size T flag m) fits))
      (few-cond (eqb flag 1) (field_span base m base.third) (plain_span base m base.third)
      (λ x. few-field base m sound.heads sound.tails e) (λ x. few-plain base m sound.heads sound.tails e))
