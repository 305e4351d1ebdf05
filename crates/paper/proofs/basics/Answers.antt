-- Laws of `Answer`: the paper's numbers give each answer back, so two different answers never have the same numbers.
-- Assumes nothing.
use Rattle.paper.specs.declared.LeanError.TheVariants as leaned
use Rattle.std.specs.Prelude.{Err, Ok, Result, ℕ}
use Rattle.paper.specs.declared.JoinError.TheVariants.{FirstRefused, OrdersDiffer, OutputShort, SecondRefused, TooLong, TooMany}
use Rattle.paper.specs.declared.JoinError.{JoinError}
use Rattle.paper.specs.declared.LeanError.{LeanError}
use Prim.Native.Nat.{ℕ, ◌-◌}
use mathlib.Core.Path.{◌≡◌, refl, sym, ap, ◌∙◌}
use mathlib.Core.List.{[], ◌∷◌}
use native.Mathlib.Omega.{arith}
use lib.ListN.{get_or}
use Rattle.paper.specs.rules.Answer.{Answer, report_as_paper, checked_as_paper, sized_as_paper, joined_as_paper, leaned_as_paper}
use Rattle.paper.specs.declared.Report.{Report}
use Rattle.paper.specs.declared.Report.TheVariants.{Length, Opening, HeaderLength, Sections, Strings, RecordCut, UnknownKind, ManyTypes, SlicesShort}
use Rattle.paper.specs.declared.Report.TheVariants.{Head, Named, Tail, Reference, Endless, Layout}
use Rattle.paper.specs.declared.Sized.{Sized}
use Rattle.paper.specs.declared.Sized.TheVariants.{Exact, NoSize, Overflow, Lost, TooFar}

-- a map that another undoes sends no two things to one
module _ {A : Type 0} (f : A → Answer) (back : Answer → A) (undoes : (a : A) → back (f a) ≡ a) where
  one-to-one : (a b : A) → f a ≡ f b → a ≡ b
  one-to-one a b e = sym (undoes a) ∙ ap back e ∙ undoes b

-- ── a check's answer ──

-- what number n, type t and place p mean: 0 the count, else the report
checked_of : ℕ → ℕ → ℕ → Result ℕ Report
checked_of n t p =
    get_or
    (Ok t
    ∷ Err Length
    ∷ Err Opening
    ∷ Err HeaderLength
    ∷ Err Sections
    ∷ Err Strings
    ∷ Err (RecordCut (record { 0 = t }) (record { 0 = p }))
    ∷ Err (UnknownKind (record { 0 = t }) (record { 0 = p }))
    ∷ Err (ManyTypes (record { 0 = p }))
    ∷ Err SlicesShort
    ∷ Err (Head (record { 0 = t }) (record { 0 = p }))
    ∷ Err (Named (record { 0 = t }) (record { 0 = p }))
    ∷ Err (Tail (record { 0 = t }) (record { 0 = p }))
    ∷ Err (Reference (record { 0 = t }) (record { 0 = p }))
    ∷ Err (Endless (record { 0 = t }) (record { 0 = p }))
    ∷ Err (Layout (record { 0 = t }) (record { 0 = p }))
    ∷ [])
    n (Ok t)

checked_back : Answer → Result ℕ Report
checked_back a = checked_of a.number a.t a.p

refused-back : (r : Report) → checked_back (report_as_paper r) ≡ Err r
unfolding report_as_paper checked_back checked_of
refused-back Length = refl
refused-back Opening = refl
refused-back HeaderLength = refl
refused-back Sections = refl
refused-back Strings = refl
refused-back (RecordCut t p) = refl
refused-back (UnknownKind t p) = refl
refused-back (ManyTypes p) = refl
refused-back SlicesShort = refl
refused-back (Head t p) = refl
refused-back (Named t p) = refl
refused-back (Tail t p) = refl
refused-back (Reference t p) = refl
refused-back (Endless t p) = refl
refused-back (Layout t p) = refl

checked-back : (c : Result ℕ Report) → checked_back (checked_as_paper c) ≡ c
unfolding checked_as_paper checked_back checked_of
checked-back (Ok n) = refl
checked-back (Err r) = refused-back r

-- no report has the number 0, which is acceptance
pub report-number : (r : Report) → (report_as_paper r).number ≡ 0 → ⊥
unfolding checked_back checked_of
report-number r e =
    let a = report_as_paper r in
    let back : Ok a.t ≡ Err r = sym (ap (λ (n : ℕ). checked_of n a.t a.p) e) ∙ refused-back r in
    let z : ◌≡◌ {A = ℕ} 0 1 = cc in
    omega arith

-- ── a report ──

abbrev report_in : Result ℕ Report → Report
report_in (Ok n) = Length
report_in (Err r) = r

report_back : Answer → Report
report_back a = report_in (checked_back a)

report-back : (r : Report) → report_back (report_as_paper r) ≡ r
unfolding report_back
report-back r = ap report_in (refused-back r)

-- ── a size ──

sized_back : Answer → Sized
sized_back a = get_or (Exact a.p ∷ NoSize ∷ Overflow ∷ []) a.number (get_or (Lost ∷ []) (a.number - 21) TooFar)

sized-back : (s : Sized) → sized_back (sized_as_paper s) ≡ s
unfolding sized_as_paper sized_back
sized-back (Exact n) = refl
sized-back NoSize = refl
sized-back Overflow = refl
sized-back Lost = refl
sized-back TooFar = refl

-- ── a join ──

-- the report inside, from the inner number, the type and the place
report_inside : Answer → Report
report_inside a = report_in (checked_of a.inner a.t a.p)

joined_back : Answer → Result ℕ JoinError
joined_back a =
    get_or (Ok a.p ∷ []) a.number
    (get_or
    (Err (FirstRefused (report_inside a)) ∷ Err (SecondRefused (report_inside a)) ∷ Err TooMany ∷ Err TooLong ∷ Err OutputShort ∷ [])
    (a.number - 16) (Err OrdersDiffer))

joined-back : (j : Result ℕ JoinError) → joined_back (joined_as_paper j) ≡ j
unfolding joined_as_paper joined_back report_inside report_back checked_back
joined-back (Ok n) = refl
joined-back (Err (FirstRefused r)) = ap (λ (x : Report). Err (FirstRefused x)) (report-back r)
joined-back (Err (SecondRefused r)) = ap (λ (x : Report). Err (SecondRefused x)) (report-back r)
joined-back (Err OrdersDiffer) = refl
joined-back (Err TooMany) = refl
joined-back (Err TooLong) = refl
joined-back (Err OutputShort) = refl

-- ── a leaning check's answer ──

abbrev leaned_in : Result ℕ Report → Result ℕ LeanError
leaned_in (Ok n) = Ok n
leaned_in (Err r) = Err (leaned.Refused r)

-- 25 and 26 are past every report's number
leaned_back : Answer → Result ℕ LeanError
leaned_back a = get_or (leaned_in (checked_back a) ∷ Err (leaned.BaseRefused (report_inside a)) ∷ []) (a.number - 24) (Err leaned.OrdersDiffer)

report-small : (r : Report) → (report_as_paper r).number - 24 ≡ 0
unfolding report_as_paper
report-small Length = refl
report-small Opening = refl
report-small HeaderLength = refl
report-small Sections = refl
report-small Strings = refl
report-small (RecordCut t p) = refl
report-small (UnknownKind t p) = refl
report-small (ManyTypes p) = refl
report-small SlicesShort = refl
report-small (Head t p) = refl
report-small (Named t p) = refl
report-small (Tail t p) = refl
report-small (Reference t p) = refl
report-small (Endless t p) = refl
report-small (Layout t p) = refl

leaned-back : (l : Result ℕ LeanError) → leaned_back (leaned_as_paper l) ≡ l
unfolding leaned_as_paper leaned_back report_inside report_back checked_back checked_of
leaned-back (Ok n) = refl
leaned-back (Err (leaned.BaseRefused r)) = ap (λ (x : Report). Err (leaned.BaseRefused x)) (report-back r)
leaned-back (Err leaned.OrdersDiffer) = refl
leaned-back (Err (leaned.Refused r)) =
    let a = report_as_paper r in
    ap (λ (k : ℕ). get_or (leaned_in (checked_back a) ∷ Err (leaned.BaseRefused (report_inside a)) ∷ []) k (Err leaned.OrdersDiffer)) (report-small r)
    ∙ ap leaned_in (refused-back r)

-- ── two answers with the same numbers are one ──

pub report-one : (a b : Report) → report_as_paper a ≡ report_as_paper b → a ≡ b
report-one = one-to-one report_as_paper report_back report-back

pub checked-one : (a b : Result ℕ Report) → checked_as_paper a ≡ checked_as_paper b → a ≡ b
checked-one = one-to-one checked_as_paper checked_back checked-back

pub sized-one : (a b : Sized) → sized_as_paper a ≡ sized_as_paper b → a ≡ b
sized-one = one-to-one sized_as_paper sized_back sized-back

pub joined-one : (a b : Result ℕ JoinError) → joined_as_paper a ≡ joined_as_paper b → a ≡ b
joined-one = one-to-one joined_as_paper joined_back joined-back

pub leaned-one : (a b : Result ℕ LeanError) → leaned_as_paper a ≡ leaned_as_paper b → a ≡ b
leaned-one = one-to-one leaned_as_paper leaned_back leaned-back
