-- `naming::is_identifier` meets its contract: an identifier is what has a length.
use Rattle.std.specs.Prelude.{Option as RustOption, ℕ}
use mathlib.Core.Path.{◌≡◌, sym, ap, ◌∙◌}
use Rattle.paper.specs.rules.Choice.{is_some}
use Rattle.paper.specs.rules.Name.{name_in, is_identifier}
use Rattle.idents.specs.Spelling.{spelt_as_paper}
use Rattle.naming.proofs.is_identifier.Goals as goal

told : (c : goal.In-Some) (x : RustOption ℕ) → let a = c.args in
    c.identifier.result ≡ x → is_some (spelt_as_paper x) ≡ is_identifier (name_in a.strings.now a.at.0)
told c x e = ap is_some (sym (ap spelt_as_paper e) ∙ c.identifier.ensures)

told-2 : (c : goal.In-None) (x : RustOption ℕ) → let a = c.args in
    c.identifier.result ≡ x → is_some (spelt_as_paper x) ≡ is_identifier (name_in a.strings.now a.at.0)
told-2 c x e = ap is_some (sym (ap spelt_as_paper e) ∙ c.identifier.ensures)

pub returns-in-Some : goal.returns-in-Some
returns-in-Some c = told c _ c.in-Some.is

pub returns-in-None : goal.returns-in-None
returns-in-None c = told-2 c _ c.in-None.is
