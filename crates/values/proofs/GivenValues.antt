-- Laws of `Given`: the value and the bytes of a span inside the record, and the refusal of a number.
-- Assumes nothing.
use Prim.Native.Nat.{ℕ, ◌+◌, ◌*◌, ◌≤◌, ◌<◌}
use mathlib.Core.Path.{◌≡◌, refl, sym, ap, ◌∙◌, subst}
use mathlib.Core.Bool.{Bool, true, false, cond}
use mathlib.Core.List.{List}
use mathlib.Core.Option.{Option, none, some}
use borrow.Author.Tests.{le-leb, lt-leb}
use lib.Dec.{leb, eqb}
use lib.IntN.{ℤ, pos}
use lib.ListN.{length}
use Rattle.paper.proofs.basics.Choices.{member-each}
use Rattle.paper.specs.rules.Answer.{report}
use Rattle.paper.specs.rules.Choice.{first_due, member}
use Rattle.paper.specs.rules.Span.{Span}
use Rattle.values.proofs.Bits.{bits-span_bits}
use Rattle.values.proofs.SignNumbers.{value-number}
use Rattle.values.proofs.Spans.{length-span_bits}
use Rattle.values.specs.Given.{Finding, Given, found_span, found_rules, read_found, no_bytes, bytes_in, refused_as, given_bits, given, valued_answer, valued_number, given_as_paper}
use Rattle.values.specs.Promised.{number_at, signed_number, refusal, refusals, ValueOf}
use Rattle.values.specs.Value.{value_of, filled_up, span_bits, reads, read_unless}
use Rattle.values.specs.declared.Valued.{Valued}

-- ── a span inside the record ──

module _ (s : List ℕ) (from bits : ℕ) where
  abbrev span : Span
  span = record { from = from; size = bits }

  xs : List ℕ
  xs = span_bits span s

  abbrev short : Bool → Given
  short signed = record { answer = report (cond signed 1 0) 0; from = from; bits = bits; value = value_of signed xs; bytes = no_bytes }

  abbrev long : Bool → Given
  long signed = record { answer = report 2 0; from = from; bits = bits; value = pos 0; bytes = bytes_in 16 (filled_up signed xs) }

  module _ (signed : Bool) (many : 64 < bits) where
    is-long : long signed ≡ given_bits span signed (span_bits span s)
    unfolding xs
    is-long = sym (ap (λ (b : Bool). cond b (short signed) (long signed)) (lt-leb bits 64 many))

    pub longer-value : ValueOf (given_bits span signed (span_bits span s)) Valued.Longer
    unfolding valued_answer valued_number
    longer-value = record { answers = ap (λ (g : Given). g.answer) is-long; numbers = ap (λ (g : Given). g.value) is-long }

    pub longer-bytes : {bytes : List ℕ} → bytes ≡ bytes_in 16 (filled_up signed (span_bits span s)) → bytes ≡ (given_bits span signed (span_bits span s)).bytes
    unfolding xs
    longer-bytes e = e ∙ ap (λ (g : Given). g.bytes) is-long

  module _ (few : bits ≤ 64) where
    is-short : (signed : Bool) → short signed ≡ given_bits span signed (span_bits span s)
    unfolding xs
    is-short signed = sym (ap (λ (b : Bool). cond b (short signed) (long signed)) (le-leb bits 64 few))

    pub short-bytes : (signed : Bool) → no_bytes ≡ (given_bits span signed (span_bits span s)).bytes
    short-bytes signed = ap (λ (g : Given). g.bytes) (is-short signed)

    pub unsigned-value : {n : ℕ} (signed : Bool) → signed ≡ false → n ≡ number_at from bits s → ValueOf (given_bits span signed (span_bits span s)) (Valued.Unsigned n)
    unfolding xs valued_answer valued_number number_at span_bits value_of
    unsigned-value {n} signed off e =
        subst (λ (b : Bool). ValueOf (given_bits span b (span_bits span s)) (Valued.Unsigned n)) (sym off)
        (record { answers = ap (λ (g : Given). g.answer) (is-short false); numbers = ap pos e ∙ ap (λ (g : Given). g.value) (is-short false) })

    pub signed-value : {n : ℕ} {z : ℤ} (signed : Bool) → signed ≡ true → 1 ≤ bits → from + bits ≤ 8 * length s → n ≡ number_at from bits s → z ≡ signed_number bits n
        → ValueOf (given_bits span signed (span_bits span s)) (Valued.Signed z)
    unfolding xs valued_answer valued_number number_at span_bits
    signed-value {n} {z} signed on least inside e v =
        subst (λ (b : Bool). ValueOf (given_bits span b (span_bits span s)) (Valued.Signed z)) (sym on) (
        record {
          answers = ap (λ (g : Given). g.answer) (is-short true);
          numbers =
              v ∙ ap (signed_number bits) e
              ∙ sym (value-number bits xs (bits-span_bits span s) (length-span_bits span s inside) least)
              ∙ ap (λ (g : Given). g.value) (is-short true);
        }
        )

  -- made of its parts
  span-kept : (b : Bool) (signed : Bool)
      → record { answer = (cond b (short signed) (long signed)).answer; from = from; bits = bits; value = (cond b (short signed) (long signed)).value; bytes = (cond b (short signed) (long signed)).bytes }
      ≡ cond b (short signed) (long signed)
  span-kept true signed = refl
  span-kept false signed = refl

  pub given-parts : {v : Valued} {bytes : List ℕ} (signed : Bool) → ValueOf (given_bits span signed (span_bits span s)) v
      → bytes ≡ (given_bits span signed (span_bits span s)).bytes
      → given_as_paper (record { value = v; from = from; bits = bits; bytes = bytes }) ≡ given_bits span signed (span_bits span s)
  unfolding xs
  given-parts signed is made =
      (λ i. record { answer = is.answers i; from = from; bits = bits; value = is.numbers i; bytes = made i }) ∙ span-kept (leb bits 64) signed

-- ── by the number of the rule that is due ──

module _ (f : Finding) (s : List ℕ) where
  abbrev unless : Option ℕ → Given
  unless o = given (read_unless o (reads (found_span f) (eqb f.number 1) (span_bits (found_span f) s)))

  pub given-none : {number : ℕ} → (first_due (found_rules f (length s)) ≡ none) × (number ≡ f.number)
      → given_bits (found_span f) (eqb number 1) (span_bits (found_span f) s) ≡ given (read_found f s)
  unfolding read_found given
  given-none e = ap (λ (n : ℕ). given_bits (found_span f) (eqb n 1) (span_bits (found_span f) s)) e.1 ∙ ap unless (sym e.0)

  pub given-due : {number : ℕ} → first_due (found_rules f (length s)) ≡ some number → refused_as (report number 0) ≡ given (read_found f s)
  unfolding read_found given
  given-due e = ap unless (sym e)

-- a rule's number
module _ {number : ℕ} where
  pub refused-21 : number ≡ 21 → given_as_paper (refusal Valued.NoType) ≡ refused_as (report number 0)
  unfolding valued_answer valued_number
  refused-21 e = ap (λ (n : ℕ). refused_as (report n 0)) (sym e)

  pub refused-30 : number ≡ 30 → given_as_paper (refusal Valued.RecordShort) ≡ refused_as (report number 0)
  unfolding valued_answer valued_number
  refused-30 e = ap (λ (n : ℕ). refused_as (report n 0)) (sym e)

  pub refused-31 : number ≡ 31 → given_as_paper (refusal Valued.NoStruct) ≡ refused_as (report number 0)
  unfolding valued_answer valued_number
  refused-31 e = ap (λ (n : ℕ). refused_as (report n 0)) (sym e)

  pub refused-32 : number ≡ 32 → given_as_paper (refusal Valued.NoMember) ≡ refused_as (report number 0)
  unfolding valued_answer valued_number
  refused-32 e = ap (λ (n : ℕ). refused_as (report n 0)) (sym e)

  pub refused-35 : number ≡ 35 → given_as_paper (refusal Valued.HighFirst) ≡ refused_as (report number 0)
  unfolding valued_answer valued_number
  refused-35 e = ap (λ (n : ℕ). refused_as (report n 0)) (sym e)

-- the one that is left is 33
pub refused-33 : (number : ℕ) → member number refusals ≡ true
    → (number ≡ 21 → ⊥) → (number ≡ 30 → ⊥) → (number ≡ 31 → ⊥) → (number ≡ 32 → ⊥) → (number ≡ 35 → ⊥)
    → given_as_paper (refusal Valued.NoNumber) ≡ refused_as (report number 0)
unfolding valued_answer valued_number
refused-33 number one n21 n30 n31 n32 n35 =
    member-each (λ (k : ℕ). number ≡ k → given_as_paper (refusal Valued.NoNumber) ≡ refused_as (report number 0)) number refusals one
    ((λ e. absurd (n21 e)), ((λ e. absurd (n30 e)), ((λ e. absurd (n31 e)), ((λ e. absurd (n32 e)), ((λ e. ap (λ (n : ℕ). refused_as (report n 0)) (sym e)), ((λ e. absurd (n35 e)), tt))))))
    refl
