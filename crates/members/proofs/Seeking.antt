-- Laws of members as code looks for them: each test that fails decides, and what is left is where the bits lie.
-- Assumes nothing.
use Rattle.std.specs.Prelude.{None, Option as RustOption, Some, ℕ}
use Prim.Native.Nat.{ℕ, zero, suc, ◌-◌, ◌/◌, ◌%◌, ◌≤◌, ◌<◌}
use mathlib.Core.Path.{◌≡◌, refl, sym, ap, ap₂, ◌∙◌}
use mathlib.Core.Bool.{Bool, true, false, not, cond, ◌&&◌, ◌||◌}
use mathlib.Core.List.{[], ◌∷◌}
use mathlib.Core.Option.{Option, some}
use native.Mathlib.Omega.{arith}
use borrow.Author.Tests.{eq-eqb, ne_eqb, le-leb, lt-leb, not-true, not-false}
use lib.Dec.{eqb, leb}
use Rattle.paper.specs.rules.Choice.{member}
use Rattle.paper.specs.rules.KindNo.{INT, STRUCT, UNION, ENUM, ENUM64}
use Rattle.paper.specs.rules.Span.{Span, base_of, span_of}
use Rattle.paper.specs.rules.Table.{Record, Table, kind_of, vlen_of, flag_of}
use Rattle.paper.specs.rules.Tails.{int_word}
use Rattle.spans.proofs.SpanTests.{span-typed}
use Rattle.spans.specs.Spanned.{typed, span_as_paper}
use Rattle.values.specs.Given.{Finding}
use Rattle.values.specs.Sought.{no_span, span_found, sought_in}
use Rattle.values.specs.Value.{is_numeric, is_signed, member_of}

-- ── kinds ──

module _ (k : ℕ) where
  pub struct-first : k ≡ STRUCT → true ≡ member k (STRUCT ∷ UNION ∷ [])
  struct-first e = sym (ap (λ (b : Bool). b || (eqb k UNION || false)) (eq-eqb k STRUCT e))

  pub struct-second : (k ≡ STRUCT → ⊥) → eqb k UNION ≡ member k (STRUCT ∷ UNION ∷ [])
  struct-second n = last (eqb k UNION) ∙ sym (ap (λ (b : Bool). b || (eqb k UNION || false)) (ne_eqb k STRUCT n))
    where
      last : (b : Bool) → b ≡ false || (b || false)
      last true = refl
      last false = refl

module _ (r : Record) {k : ℕ} (kind : k ≡ kind_of r) where
  pub signed-int : k ≡ INT → {w : ℕ} → w ≡ int_word r → eqb (w / 16777216 % 16) 1 ≡ is_signed r
  unfolding is_signed
  signed-int e word =
      ap (λ (w : ℕ). eqb (w / 16777216 % 16) 1) word
      ∙ sym (ap (λ (b : Bool). cond b (eqb (int_word r / 16777216 % 16) 1) (eqb (flag_of r) 1)) (eq-eqb (kind_of r) INT (sym kind ∙ e)))

  pub signed-enum : (k ≡ INT → ⊥) → {f : ℕ} → f ≡ flag_of r → eqb f 1 ≡ is_signed r
  unfolding is_signed
  signed-enum n flag =
      ap (λ (f : ℕ). eqb f 1) flag
      ∙ sym (ap (λ (b : Bool). cond b (eqb (int_word r / 16777216 % 16) 1) (eqb (flag_of r) 1)) (ne_eqb (kind_of r) INT (λ e. n (kind ∙ e))))

-- ── the bits of a number ──

module _ (size : ℕ) (signed : Bool) where
  pub found_nowhere : {f : Finding} → f ≡ no_span 33 size → {l : RustOption (ℕ × ℕ)} → l ≡ None → f ≡ span_found size signed (span_as_paper l)
  found_nowhere d is = d ∙ sym (ap (λ (l : RustOption (ℕ × ℕ)). span_found size signed (span_as_paper l)) is)

  module _ {l : RustOption (ℕ × ℕ)} {from bits : ℕ} (is : l ≡ Some (from, bits)) where
    -- by the test of its bits
    abbrev tested : Bool → Finding
    tested few = cond few (record { number = cond signed 1 0; size = size; from = from; bits = bits }) (no_span 33 size)

    by-test : (low high : Bool) → leb 1 bits ≡ low → leb bits 128 ≡ high → span_found size signed (span_as_paper l) ≡ tested (low && high)
    by-test low high e d =
        ap (λ (l : RustOption (ℕ × ℕ)). span_found size signed (span_as_paper l)) is ∙ ap₂ (λ (a b : Bool). tested (a && b)) e d

    pub found_none : {f : Finding} → f ≡ no_span 33 size → bits ≡ 0 → f ≡ span_found size signed (span_as_paper l)
    found_none d e = d ∙ sym (by-test false (leb bits 128) (lt-leb 1 bits (omega arith)) refl)

    module _ (some : bits ≡ 0 → ⊥) where
      low : leb 1 bits ≡ true
      low = le-leb 1 bits (positive bits some)
        where
          positive : (n : ℕ) → (n ≡ 0 → ⊥) → 1 ≤ n
          positive zero z = absurd (z refl)
          positive (suc n) z = omega arith

      pub found-many : {f : Finding} → f ≡ no_span 33 size → 128 < bits → f ≡ span_found size signed (span_as_paper l)
      found-many d h = d ∙ sym (by-test true false low (lt-leb bits 128 h))

      pub found-bits : bits ≤ 128 → (b : Bool) → signed ≡ b → record { number = cond b 1 0; size = size; from = from; bits = bits } ≡ span_found size signed (span_as_paper l)
      found-bits h b e =
          ap (λ (x : Bool). record { number = cond x 1 0; size = size; from = from; bits = bits }) (sym e) ∙ sym (by-test true true low (le-leb bits 128 h))

-- ── a member by its type and its offset word ──

module _ (T : Table) (flag size t o : ℕ) (base : Record) (is : base ≡ base_of T t) {k : ℕ} (kind : k ≡ kind_of base)
    {n : Bool} (test : n ≡ member k (INT ∷ ENUM ∷ ENUM64 ∷ [])) where
  abbrev chosen : Bool → Record → Finding
  chosen numeric under = cond numeric (span_found size (is_signed under) (span_of T flag (typed t o))) (no_span 33 size)

  numeric : n ≡ is_numeric (base_of T t)
  unfolding is_numeric
  numeric = test ∙ ap (λ (i : ℕ). member i (INT ∷ ENUM ∷ ENUM64 ∷ [])) kind ∙ ap (λ (r : Record). member (kind_of r) (INT ∷ ENUM ∷ ENUM64 ∷ [])) is

  pub numbered-none : {f : Finding} → not n ≡ true → f ≡ no_span 33 size → f ≡ chosen (is_numeric (base_of T t)) (base_of T t)
  numbered-none e d = d ∙ sym (ap (λ (b : Bool). chosen b (base_of T t)) (sym numeric ∙ not-true n e))

  pub numbered-some : {f : Finding} → not n ≡ false → {signed : Bool} → signed ≡ is_signed base → (l : RustOption (ℕ × ℕ)) → span_as_paper l ≡ span_of T flag (typed t o)
      → f ≡ span_found size signed (span_as_paper l) → f ≡ chosen (is_numeric (base_of T t)) (base_of T t)
  numbered-some e sign l lies d =
      d
      ∙ ap₂ (span_found size) (sign ∙ ap is_signed is) lies
      ∙ sym (ap (λ (b : Bool). chosen b (base_of T t)) (sym numeric ∙ not-false n e))

-- ── a member of a record ──

pub struct-so : (r : Record) {k : ℕ} → k ≡ kind_of r → {x : Bool} → x ≡ member k (STRUCT ∷ UNION ∷ []) → not x ≡ false → member (kind_of r) (STRUCT ∷ UNION ∷ []) ≡ true
struct-so r kind {x} test e = ap (λ (i : ℕ). member i (STRUCT ∷ UNION ∷ [])) (sym kind) ∙ sym test ∙ not-false x e

module _ (T : Table) (r : Record) (m : ℕ) {k : ℕ} (kind : k ≡ kind_of r) {x : Bool} (test : x ≡ member k (STRUCT ∷ UNION ∷ [])) where
  abbrev base : Record
  base = base_of T (member_of r m).type

  -- by the tests of its kind and its number
  abbrev sought : Bool → Bool → Finding
  sought struct far =
      cond struct (cond far (no_span 32 r.third) (cond (is_numeric base) (span_found r.third (is_signed base) (span_of T (flag_of r) (member_of r m))) (no_span 33 r.third)))
      (no_span 31 0)

  struct_is : x ≡ member (kind_of r) (STRUCT ∷ UNION ∷ [])
  struct_is = test ∙ ap (λ (i : ℕ). member i (STRUCT ∷ UNION ∷ [])) kind

  pub sought-no-struct : {f : Finding} → not x ≡ true → f ≡ no_span 31 0 → f ≡ sought_in T r m
  unfolding sought_in
  sought-no-struct e d = d ∙ sym (ap (λ (b : Bool). sought b (leb (vlen_of r) m)) (sym struct_is ∙ not-true x e))

  module _ (struct : not x ≡ false) {z v : ℕ} (size : z ≡ r.third) (vlen : v ≡ vlen_of r) where
    pub sought-no-member : {f : Finding} → v ≤ m → f ≡ no_span 32 z → f ≡ sought_in T r m
    unfolding sought_in
    sought-no-member h d =
        d
        ∙ ap (no_span 32) size
        ∙ sym (ap₂ sought (sym struct_is ∙ not-false x struct) (le-leb (vlen_of r) m (omega (arith, vlen))))

    pub sought-member : {f : Finding} → m < v → {g u o : ℕ} → g ≡ flag_of r → u ≡ (member_of r m).type → o ≡ (member_of r m).offset
        → f ≡ cond (is_numeric (base_of T u)) (span_found z (is_signed (base_of T u)) (span_of T g (typed u o))) (no_span 33 z) → f ≡ sought_in T r m
    unfolding sought_in
    sought-member h flag type offset d =
        d
        ∙ (λ i. cond (is_numeric (base_of T (type i))) (span_found (size i) (is_signed (base_of T (type i))) (span_of T (flag i) (typed (type i) (offset i)))) (no_span 33 (size i)))
        ∙ ap (λ (o : Option Span). cond (is_numeric base) (span_found r.third (is_signed base) o) (no_span 33 r.third)) (span-typed T (flag_of r) (member_of r m))
        ∙ sym (ap₂ sought (sym struct_is ∙ not-false x struct) (lt-leb (vlen_of r) m (omega (arith, vlen))))
