-- `idents::section_name` meets its contract: a first byte, and the run from it.
use Rattle.std.specs.Prelude.{Option as RustOption, ℕ}
use mathlib.Core.Path.{◌≡◌, refl, sym, ap, ◌∙◌}
use native.Mathlib.Omega.{arith}
use Rattle.paper.specs.rules.Choice.{is_some}
use Rattle.paper.specs.rules.Name.{name_in, is_digit, is_letter, is_section_name}
use Rattle.idents.specs.Spelling.{among, spelt_as_paper}
use Rattle.idents.proofs.NameTests.{section-outside, section-bad, section-run}
use Rattle.idents.proofs.Passes.{begun-start, left-run}
use Rattle.idents.proofs.Sets.{covers-names, run_length-print}
use Rattle.idents.proofs.section_name.Goals as goal

told : (c : goal.In-Some) (x : RustOption ℕ) → let a = c.args in
    c.ended.result ≡ x → is_some (spelt_as_paper x) ≡ is_section_name (name_in a.strings.now a.at.0)
told c x is =
    let a = c.args in
    section-run a.strings.now a.at.0 c.if-strings-from.false c.if-strings-from-eq0.false
    (run_length-print _ _ _ (left-run 127 c.long-end.ensures (unfold among in refl) (sym (ap spelt_as_paper is) ∙ c.ended.ensures)) (unfold among in refl))

told-2 : (c : goal.In-None) (x : RustOption ℕ) → let a = c.args in
    c.ended.result ≡ x → is_some (spelt_as_paper x) ≡ is_section_name (name_in a.strings.now a.at.0)
told-2 c x is =
    let a = c.args in
    section-run a.strings.now a.at.0 c.if-strings-from.false c.if-strings-from-eq0.false
    (run_length-print _ _ _ (left-run 127 c.long-end.ensures (unfold among in refl) (sym (ap spelt_as_paper is) ∙ c.ended.ensures)) (unfold among in refl))

pub returns-then-strings-from : goal.returns-then-strings-from
returns-then-strings-from c = let a = c.args in section-outside a.strings.now a.at.0 c.if-strings-from.true

pub returns-then-strings-from-eq0 : goal.returns-then-strings-from-eq0
returns-then-strings-from-eq0 c = let a = c.args in section-bad a.strings.now a.at.0 c.if-strings-from.false (omega arith)

pub long-end-requires : goal.long-end-requires
unfolding among is_letter is_digit
long-end-requires c = begun-start (covers-names _ refl) (omega arith) (omega arith)

pub returns-in-Some : goal.returns-in-Some
returns-in-Some c = told c _ c.in-Some.is

pub returns-in-None : goal.returns-in-None
returns-in-None c = told-2 c _ c.in-None.is
