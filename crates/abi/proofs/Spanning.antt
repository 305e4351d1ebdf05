-- Laws of a span in five places: they hold it again, so that check, span and value together are the member.
-- Assumes nothing.
use Rattle.std.specs.Prelude.{Err, Ok, Result, ℕ}
use Prim.Native.Nat.{ℕ, ◌+◌, ◌*◌, ◌/◌, ◌%◌, ◌≤◌}
use mathlib.Core.Path.{◌≡◌, refl, sym, ap, ◌∙◌, subst}
use mathlib.Core.List.{List, [], ◌∷◌}
use native.Mathlib.Omega.{arith}
use lib.ListN.{length, replicate}
use Rattle.gate.specs.Check.{CheckOf}
use Rattle.members.specs.Looked.{sought_at}
use Rattle.paper.proofs.gates.Answered.{checked-accepted, checked_refused}
use Rattle.record.proofs.Giving.{gives-34, gives_found}
use Rattle.abi.specs.Told.{told_wide, span_in, given_in, ValueTold, MemberTold}
use Rattle.handed.specs.Places.{known_number, found_in}
use Rattle.paper.specs.rules.Answer.{inside, report_as_paper, checked_as_paper}
use Rattle.paper.specs.declared.Report.{Report}
use Rattle.paper.specs.terms.Fit.{Bytes}
use Rattle.values.specs.Given.{Finding, Given, sort_number, found_as_paper, read_found, refused_as, given}
use Rattle.values.specs.declared.MemberSpan.{MemberSpan}
use Rattle.values.specs.declared.Sort.{Sort}
use Rattle.values.specs.declared.Sort.TheVariants.{Unsigned, Signed, HighFirst, NoType, NoStruct, NoMember, NoNumber}

-- the number of every sort is known
known : (x : Sort) → known_number (sort_number x) ≡ sort_number x
unfolding sort_number
known Unsigned = refl
known Signed = refl
known HighFirst = refl
known NoType = refl
known NoStruct = refl
known NoMember = refl
known NoNumber = refl

-- five places or more that a span is told in hold it again
pub span-held : (places : List ℕ) → 5 ≤ length places → (m : MemberSpan) → found_in (span_in (found_as_paper m) places) ≡ found_as_paper m
unfolding told_wide found_in
span-held [] h m = absurd (omega arith)
span-held (a ∷ []) h m = absurd (omega arith)
span-held (a ∷ b ∷ []) h m = absurd (omega arith)
span-held (a ∷ b ∷ c ∷ []) h m = absurd (omega arith)
span-held (a ∷ b ∷ c ∷ d ∷ []) h m = absurd (omega arith)
span-held (a ∷ b ∷ c ∷ d ∷ e ∷ s) h m =
    let whole : m.from % 4294967296 + 4294967296 * (m.from / 4294967296) ≡ m.from = omega arith in
    λ i. record { number = known m.sort i; size = m.size; from = whole i; bits = m.bits }

-- what is told of an answer is told of any that is the same
pub told_same : {g g' : Given} {told room answer value : List ℕ} → g ≡ g' → ValueTold g told room answer value → ValueTold g' told room answer value
told_same {told = told} {room = room} {answer = answer} {value = value} e h = subst (λ (g : Given). ValueTold g told room answer value) e h

-- ── a member by its parts ──

module _ {c : Result ℕ Report} {b : List ℕ} {places work : ℕ} {index left : List ℕ} (h : CheckOf c b places work index left) (t m : ℕ) (s : List ℕ)
    {told room answer value : List ℕ} where
  pub member-34 : (r : Report) → c ≡ Err r → ValueTold (refused_as (inside 34 (report_as_paper r))) told room answer value
      → MemberTold b places work t m s told room index left answer value
  member-34 r p gives =
      record {
        indexes = h.told.indexes;
        works = h.cleared;
        gives = told_same (gives-34 b places work t m s (report_as_paper r) (checked_refused b places work r (ap checked_as_paper (sym p) ∙ h.told.answers))) gives;
      }

  -- the check, the span in five places, the value of what they hold
  pub member-parts : Bytes b → (n : ℕ) → c ≡ Ok n → (f : MemberSpan) → found_as_paper f ≡ sought_at b index t m
      → {span : List ℕ} → span ≡ span_in (found_as_paper f) (replicate 5 0) → ValueTold (given_in span s) told room answer value
      → MemberTold b places work t m s told room index left answer value
  member-parts bytes n p f found at gives =
      record {
        indexes = h.told.indexes;
        works = h.cleared;
        gives =
            told_same
            (ap (λ (x : Finding). given (read_found x s))
            (ap found_in at ∙ span-held (replicate 5 0) (omega arith) f ∙ found ∙ ap (λ (i : List ℕ). sought_at b i t m) h.told.indexes)
            ∙ gives_found b places work t m s bytes (checked-accepted b places work (ap checked_as_paper (sym p) ∙ h.told.answers)).0)
            gives;
      }
