-- Laws of `member_gives`, by what the check of the blob says.
-- Assumes nothing.
use Rattle.std.specs.Prelude.{Err, Ok, Result, ℕ}
use Prim.Native.Nat.{ℕ}
use mathlib.Core.Path.{◌≡◌, refl, sym, ap, ◌∙◌}
use mathlib.Core.List.{List}
use mathlib.Core.Option.{Option, none, some}
use Rattle.gate.specs.Check.{CheckOf}
use Rattle.members.proofs.AcceptedSpans.{high-found, found-member}
use Rattle.members.specs.Looked.{sought_at}
use Rattle.paper.proofs.Outcomes.{gate-accepted}
use Rattle.paper.proofs.gates.Answered.{checked-accepted, checked_refused}
use Rattle.paper.specs.rules.Answer.{Answer, inside, report_as_paper, checked_as_paper}
use Rattle.paper.specs.rules.Gate.{refusal, Outcome, gate}
use Rattle.paper.specs.rules.Header.{order_of}
use Rattle.paper.specs.rules.Walk.{table_of}
use Rattle.paper.specs.declared.Order.{Order}
use Rattle.paper.specs.declared.Order.TheVariants.{LowFirst, HighFirst}
use Rattle.paper.specs.declared.Report.{Report}
use Rattle.paper.specs.terms.Fit.{Bytes}
use Rattle.record.specs.Gives.{unless_refused, member_gives, MemberOf}
use Rattle.values.specs.Given.{Finding, found_as_paper, read_found, no_bytes, refused_as, given, valued_answer, valued_number, given_as_paper}
use Rattle.values.specs.Value.{read_member}
use Rattle.values.specs.declared.MemberSpan.{MemberSpan}
use Rattle.values.specs.declared.MemberValue.{MemberValue}
use Rattle.values.specs.declared.Valued.TheVariants.{TableRefused}

module _ (b : List ℕ) (places work t m : ℕ) (s : List ℕ) where
  -- a refused table is 34
  pub gives-34 : (a : Answer) → refusal b places work ≡ some a → refused_as (inside 34 a) ≡ member_gives b places work t m s
  unfolding member_gives
  gives-34 a e = by_order (order_of b) ∙ sym (ap (λ (o : Option Answer). unless_refused o (order_of b) (read_member (table_of b) t m s)) e)
    where
      by_order : (o : Order) → refused_as (inside 34 a) ≡ unless_refused (some a) o (read_member (table_of b) t m s)
      by_order LowFirst = refl
      by_order HighFirst = refl

  module _ (bytes : Bytes b) (e : refusal b places work ≡ none) where
    abbrev index : List ℕ
    index = (gate b places work).index

    by_order : (o : Order) → order_of b ≡ o → given (read_found (sought_at b index t m) s) ≡ unless_refused none o (read_member (table_of b) t m s)
    unfolding given read_found
    by_order HighFirst o =
        ap (λ (x : Outcome). given (read_found (sought_at b x.index t m) s)) (gate-accepted b places work e)
        ∙ ap (λ (f : Finding). given (read_found f s)) (high-found b bytes places work e o t m)
    by_order LowFirst o =
        ap (λ (x : Outcome). given (read_found (sought_at b x.index t m) s)) (gate-accepted b places work e)
        ∙ ap given (found-member b bytes places work e o t m s)

    -- of an accepted one, what is found by the index that the check leaves gives what the member gives
    pub gives_found : given (read_found (sought_at b index t m) s) ≡ member_gives b places work t m s
    unfolding member_gives
    gives_found = by_order (order_of b) refl ∙ sym (ap (λ (o : Option Answer). unless_refused o (order_of b) (read_member (table_of b) t m s)) e)

module _ {c : Result ℕ Report} {b : List ℕ} {places work : ℕ} {index left : List ℕ} (h : CheckOf c b places work index left) (t m : ℕ) (s : List ℕ) where
  pub member-refused : (r : Report) → c ≡ Err r
      → MemberOf (record { value = TableRefused r; from = 0; bits = 0; bytes = no_bytes }) b places work t m s index left
  unfolding valued_answer valued_number
  member-refused r p =
      record {
        answers = gives-34 b places work t m s (report_as_paper r) (checked_refused b places work r (ap checked_as_paper (sym p) ∙ h.told.answers));
        indexes = h.told.indexes;
        works = h.cleared;
      }

  pub member-accepted : Bytes b → (n : ℕ) → c ≡ Ok n → (f : MemberSpan) → found_as_paper f ≡ sought_at b index t m
      → (v : MemberValue) → given_as_paper v ≡ given (read_found (found_as_paper f) s) → MemberOf v b places work t m s index left
  member-accepted bytes n p f found v gives =
      record {
        answers =
            gives
            ∙ ap (λ (x : Finding). given (read_found x s)) (found ∙ ap (λ (i : List ℕ). sought_at b i t m) h.told.indexes)
            ∙ gives_found b places work t m s bytes (checked-accepted b places work (ap checked_as_paper (sym p) ∙ h.told.answers)).0;
        indexes = h.told.indexes;
        works = h.cleared;
      }
