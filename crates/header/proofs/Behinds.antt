-- Phase 1 by itself and behind a base are one: told whether 1 and whether 5 is due.
-- Assumes nothing.
use Rattle.std.specs.Prelude.{Err, Ok, Result}
use Rattle.paper.specs.declared.Report.{Report}
use Rattle.header.specs.declared.first.Sections.{Sections}
use Prim.Native.Nat.{ℕ, ◌+◌}
use mathlib.Core.Path.{◌≡◌, ap, ap₂, ◌∙◌, subst}
use mathlib.Core.Bool.{Bool, ◌||◌}
use mathlib.Core.List.{List}
use mathlib.Core.Option.{Option}
use native.Mathlib.Omega.{arith}
use lib.Dec.{ltb}
use lib.ListN.{length}
use Rattle.paper.specs.rules.Choice.{first_due}
use Rattle.paper.specs.rules.Gate.{naming, phase1}
use Rattle.paper.specs.rules.Header.{header_length, length_bad, strings_bad, header_report}
use Rattle.pairs.specs.Lean.{length_bad_behind, end_bad, behind_report}
use Rattle.paper.specs.rules.Limits.{byte_limit}
use Rattle.header.specs.Behind.{HeaderBehind}
use Rattle.header.specs.Header.{HeaderOf, rules_by, report_by, HeaderBy}

-- ── by what is due ──

-- no bytes before a table change nothing
length_bad-alone : (b : List ℕ) → length_bad_behind 0 b ≡ length_bad b
unfolding length_bad_behind length_bad
length_bad-alone b =
    let same : 0 + length b ≡ length b = omega arith in
    ap (λ (n : ℕ). ltb (length b) header_length || ltb byte_limit n) same

header_by-phase1 : (h : Result Sections Report) (b : List ℕ) → HeaderBy (header_report b) h b → HeaderOf h b
unfolding phase1
header_by-phase1 (Ok s) b e = record { silent = ap (naming 0) e.silent; types = e.types; strings = e.strings }
header_by-phase1 (Err r) b e = e

module _ (h : Result Sections Report) (b : List ℕ) {one five : Bool} (e : HeaderBy (report_by one five b) h b) where
  pub header-alone : one ≡ length_bad_behind 0 b → five ≡ strings_bad b → HeaderOf h b
  unfolding report_by header_report
  header-alone e₁ e₅ =
      let due : report_by one five b ≡ header_report b = ap₂ (λ (x y : Bool). first_due (rules_by x y b)) (e₁ ∙ length_bad-alone b) e₅ in
      header_by-phase1 h b (subst (λ (o : Option ℕ). HeaderBy o h b) due e)

  pub header-behind : (before : ℕ) → one ≡ length_bad_behind before b → five ≡ end_bad b → HeaderBehind h before b
  unfolding report_by behind_report
  header-behind before e₁ e₅ =
      let due : report_by one five b ≡ behind_report before b = ap₂ (λ (x y : Bool). first_due (rules_by x y b)) e₁ e₅ in
      subst (λ (o : Option ℕ). HeaderBy o h b) due e
