-- What phase 1 in code finds, in the paper's words.
use Rattle.paper.specs.declared.Report.{Report}
use Rattle.std.specs.Prelude.{ℕ, ◌≡◌, Bool, not, List, [], ◌∷◌, take, Err, Ok, Result}
use Rattle.std.proofs.Math.Option.{Option, none, some}
use Rattle.header.specs.declared.first.Sections.{Sections}
use Rattle.paper.specs.rules.Answer.{report_as_paper}
use Rattle.paper.specs.rules.Choice.{same, Rule, ◌when◌, first_due}
use Rattle.paper.specs.rules.Gate.{naming, phase1}
use Rattle.paper.specs.rules.Header.{type_len, str_len, opening_bad, header_length_bad, sections_bad}

-- phase 1 has nothing to say, and how long the two sections are
pub record SectionsOf (s : Sections) (b : List ℕ) : Type 0 where
  pub silent : phase1 b ≡ none
  pub types : s.types ≡ type_len b
  pub strings : s.strings ≡ str_len b

-- report 2 by the two bytes of a magic
unfoldable pub opens_otherwise : List ℕ → ℕ → ℕ → Bool
opens_otherwise b first second = not (same (take 4 b) (first ∷ second ∷ 1 ∷ 0 ∷ []))

-- report 26 by the two bytes of a magic
unfoldable pub begins_with : List ℕ → ℕ → ℕ → Bool
begins_with b first second = same (take 2 b) (first ∷ second ∷ [])

abbrev pub HeaderOf : Result Sections Report → List ℕ → Type 0
HeaderOf (Ok s) b = SectionsOf s b
HeaderOf (Err r) b = phase1 b ≡ some (report_as_paper r)

-- ── by itself or behind a base ──

-- the rules of phase 1, told whether 1 and whether 5 is due
abbrev pub rules_by : Bool → Bool → List ℕ → List Rule
rules_by one five b =
    1 when one
    ∷ 2 when opening_bad b
    ∷ 3 when header_length_bad b
    ∷ 4 when sections_bad b
    ∷ 5 when five
    ∷ []

unfoldable pub report_by : Bool → Bool → List ℕ → Option ℕ
report_by one five b = first_due (rules_by one five b)

-- what phase 1 finds, by the number of the report that is due
pub record SectionsBy (due : Option ℕ) (s : Sections) (b : List ℕ) : Type 0 where
  pub silent : due ≡ none
  pub types : s.types ≡ type_len b
  pub strings : s.strings ≡ str_len b

abbrev pub HeaderBy : Option ℕ → Result Sections Report → List ℕ → Type 0
HeaderBy due (Ok s) b = SectionsBy due s b
HeaderBy due (Err r) b = naming 0 due ≡ some (report_as_paper r)
