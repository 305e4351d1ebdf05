-- Laws of `Header`: phase 1 is silent exactly where the header's facts hold.
-- Assumes nothing.
use Prim.Native.Nat.{ℕ, ◌-◌}
use mathlib.Core.Path.{◌≡◌, ap, ◌∙◌}
use mathlib.Core.Bool.{false, not}
use mathlib.Core.List.{List}
use mathlib.Core.Option.{none}
use native.Mathlib.Omega.{arith}
use borrow.Author.Tests.{ltb-false, eqb-false, not-false, le-ltb, ne_eqb}
use lib.ListN.{take}
use Rattle.paper.proofs.basics.Choices.{or-false, false-or, differ-false, differ-equal, same_true, same_refl, first_due-none, none-first_due}
use Rattle.paper.specs.rules.Choice.{same}
use Rattle.paper.specs.terms.Good.{HeaderFacts}
use Rattle.paper.specs.rules.Header.{opening, order_of, str_len, length_bad, opening_bad, header_length_bad, sections_bad, strings_bad, header_rules, header_report}

-- phase 1 in silence says all of the facts
pub header_report-facts : (b : List ℕ) → header_report b ≡ none → HeaderFacts b
unfolding header_report length_bad opening_bad header_length_bad sections_bad strings_bad
header_report-facts b e =
    let due = first_due-none (header_rules b) e in
    let lengths = or-false _ _ due.0 in
    let sections = or-false _ _ due.1.1.1.0 in
    let offsets = or-false _ _ sections.0 in
    let types = or-false _ _ offsets.0 in
    let strings = or-false _ _ due.1.1.1.1.0 in
    let starts = or-false _ _ strings.0 in
    let filled : str_len b ≡ 0 → ⊥ = eqb-false (str_len b) 0 starts.0 in
    record {
      long = ltb-false _ _ lengths.0;
      short = ltb-false _ _ lengths.1;
      opens = same_true (take 4 b) (opening (order_of b)) (not-false _ due.1.0);
      header_length_is = differ-false _ _ due.1.1.0;
      type_off_is = differ-false _ _ types.0;
      type_len_is = differ-false _ _ types.1;
      str_off_is = differ-false _ _ offsets.1;
      sum = differ-false _ _ sections.1;
      some_strings = omega arith;
      first_zero = differ-false _ _ starts.1;
      last_zero = differ-false _ _ strings.1;
    }

-- where the facts hold, phase 1 is silent
pub facts-header_report : (b : List ℕ) → HeaderFacts b → header_report b ≡ none
unfolding header_report length_bad opening_bad header_length_bad sections_bad strings_bad
facts-header_report b f =
    let length-good : length_bad b ≡ false = false-or (le-ltb _ _ f.long) (le-ltb _ _ f.short) in
    let opening-good : opening_bad b ≡ false = ap (λ (s : List ℕ). not (same s (opening (order_of b)))) f.opens ∙ ap not (same_refl (opening (order_of b))) in
    let header-good : header_length_bad b ≡ false = differ-equal _ _ f.header_length_is in
    let sections-good : sections_bad b ≡ false =
    false-or (false-or (false-or (differ-equal _ _ f.type_off_is) (differ-equal _ _ f.type_len_is)) (differ-equal _ _ f.str_off_is))
    (differ-equal _ _ f.sum) in
    let strings-good : strings_bad b ≡ false =
    false-or (false-or (ne_eqb (str_len b) 0 (λ e. omega arith)) (differ-equal _ _ f.first_zero)) (differ-equal _ _ f.last_zero) in
    none-first_due (header_rules b) (length-good, (opening-good, (header-good, (sections-good, (strings-good, tt)))))
