-- Two answers of a member that have the same numbers are one answer, and so are two spans.
-- Assumes nothing.
use Prim.Native.Nat.{ℕ, ◌-◌}
use mathlib.Core.Path.{◌≡◌, refl, sym, ap, ap₂, ◌∙◌}
use mathlib.Core.List.{[], ◌∷◌}
use lib.IntN.{ℤ}
use lib.ListN.{get_or}
use lib.Signed.{mag}
use Rattle.paper.proofs.basics.Answers.{report-one}
use Rattle.paper.specs.rules.Answer.{Answer, inside, report_as_paper}
use Rattle.paper.specs.declared.Report.{Report}
use Rattle.paper.specs.declared.Report.TheVariants.{Length, Opening, HeaderLength, Sections, Strings, RecordCut, UnknownKind, ManyTypes, SlicesShort}
use Rattle.paper.specs.declared.Report.TheVariants.{Head, Named, Tail, Reference, Endless, Layout}
use Rattle.values.specs.Given.{Finding, Given, sort_number, found_as_paper, valued_answer, valued_number, given_as_paper}
use Rattle.values.specs.declared.MemberSpan.{MemberSpan}
use Rattle.values.specs.declared.MemberValue.{MemberValue}
use Rattle.values.specs.declared.Sort.{Sort}
use Rattle.values.specs.declared.Sort.TheVariants as sort
use Rattle.values.specs.declared.Valued.{Valued}
use Rattle.values.specs.declared.Valued.TheVariants.{Unsigned, Signed, Longer, TableRefused, HighFirst, NoType, NoStruct, RecordShort, NoMember, NoNumber}

-- ── a value ──

-- what a number means, with the integer and the report that are beside it
valued_of : ℕ → ℤ → Report → Valued
valued_of n z r =
    get_or (Unsigned (mag z) ∷ Signed z ∷ Longer ∷ []) n
    (get_or (NoType ∷ Longer ∷ Longer ∷ Longer ∷ Longer ∷ Longer ∷ Longer ∷ Longer ∷ Longer ∷ RecordShort ∷ NoStruct ∷ NoMember ∷ NoNumber ∷ TableRefused r ∷ [])
    (n - 21) HighFirst)

report_of : Valued → Report
report_of (Unsigned n) = Length
report_of (Signed z) = Length
report_of Longer = Length
report_of (TableRefused r) = r
report_of HighFirst = Length
report_of NoType = Length
report_of NoStruct = Length
report_of RecordShort = Length
report_of NoMember = Length
report_of NoNumber = Length

valued_back : (v : Valued) → valued_of (valued_answer v).number (valued_number v) (report_of v) ≡ v
unfolding valued_answer valued_number valued_of report_of
valued_back (Unsigned n) = refl
valued_back (Signed z) = refl
valued_back Longer = refl
valued_back (TableRefused r) = refl
valued_back HighFirst = refl
valued_back NoType = refl
valued_back NoStruct = refl
valued_back RecordShort = refl
valued_back NoMember = refl
valued_back NoNumber = refl

-- a report has none inside
bare : (r : Report) → record { number = (report_as_paper r).number; inner = 0; t = (report_as_paper r).t; p = (report_as_paper r).p } ≡ report_as_paper r
unfolding report_as_paper
bare Length = refl
bare Opening = refl
bare HeaderLength = refl
bare Sections = refl
bare Strings = refl
bare (RecordCut t p) = refl
bare (UnknownKind t p) = refl
bare (ManyTypes p) = refl
bare SlicesShort = refl
bare (Head t p) = refl
bare (Named t p) = refl
bare (Tail t p) = refl
bare (Reference t p) = refl
bare (Endless t p) = refl
bare (Layout t p) = refl

-- the report inside 34 from the answer
abbrev taken : Answer → Answer
taken a = record { number = a.inner; inner = 0; t = a.t; p = a.p }

module _ (w : Valued) where
  -- what an answer is, by the numbers of another
  by-numbers : {a : Answer} {z : ℤ} → valued_answer w ≡ a → valued_number w ≡ z → w ≡ valued_of a.number z (report_of w)
  by-numbers e d = sym (valued_back w) ∙ ap₂ (λ (a : Answer) (z : ℤ). valued_of a.number z (report_of w)) e d

  refused-one : (r : Report) → valued_answer w ≡ inside 34 (report_as_paper r) → w ≡ TableRefused (report_of w) → report_of w ≡ r
  unfolding valued_answer
  refused-one r e is =
      report-one (report_of w) r
      (sym (bare (report_of w)) ∙ ap taken (sym (ap valued_answer is) ∙ e) ∙ bare r)

  valued_one : (v : Valued) → valued_answer w ≡ valued_answer v → valued_number w ≡ valued_number v → w ≡ v
  unfolding valued_answer valued_number valued_of
  valued_one (Unsigned n) e d = by-numbers e d
  valued_one (Signed z) e d = by-numbers e d
  valued_one Longer e d = by-numbers e d
  valued_one (TableRefused r) e d = by-numbers e d ∙ ap TableRefused (refused-one r e (by-numbers e d))
  valued_one HighFirst e d = by-numbers e d
  valued_one NoType e d = by-numbers e d
  valued_one NoStruct e d = by-numbers e d
  valued_one RecordShort e d = by-numbers e d
  valued_one NoMember e d = by-numbers e d
  valued_one NoNumber e d = by-numbers e d

pub given-one : (v w : MemberValue) → given_as_paper v ≡ given_as_paper w → v ≡ w
given-one v w e =
    let same = valued_one v.value w.value (ap (λ (g : Given). g.answer) e) (ap (λ (g : Given). g.value) e) in
    λ i. record { value = same i; from = (e i).from; bits = (e i).bits; bytes = (e i).bytes }

-- ── a span ──

sort_of : ℕ → Sort
sort_of n =
    get_or (sort.Unsigned ∷ sort.Signed ∷ []) n
    (get_or (sort.NoType ∷ sort.NoType ∷ sort.NoType ∷ sort.NoType ∷ sort.NoType ∷ sort.NoType ∷ sort.NoType ∷ sort.NoType ∷ sort.NoType ∷ sort.NoType
    ∷ sort.NoStruct ∷ sort.NoMember ∷ sort.NoNumber ∷ [])
    (n - 21) sort.HighFirst)

sort-back : (s : Sort) → sort_of (sort_number s) ≡ s
unfolding sort_number sort_of
sort-back sort.Unsigned = refl
sort-back sort.Signed = refl
sort-back sort.HighFirst = refl
sort-back sort.NoType = refl
sort-back sort.NoStruct = refl
sort-back sort.NoMember = refl
sort-back sort.NoNumber = refl

pub found-one : (m n : MemberSpan) → found_as_paper m ≡ found_as_paper n → m ≡ n
found-one m n e =
    let same = sym (sort-back m.sort) ∙ ap (λ (f : Finding). sort_of f.number) e ∙ sort-back n.sort in
    λ i. record { sort = same i; size = (e i).size; from = (e i).from; bits = (e i).bits }
