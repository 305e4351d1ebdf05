-- `rules::quick::nameless` meets its contract: offset 0, and a byte at it.
use mathlib.Core.Path.{sym, ◌∙◌}
use Rattle.rules.proofs.Quiet.{nameless-named, nameless-none}
use Rattle.rules.proofs.quick.nameless.Goals as goal

pub returns-then-read-ne0 : goal.returns-then-read-ne0
returns-then-read-ne0 c =
    let a = c.args in
    nameless-named a.base.now a.strings.now (λ e. c.if-read-ne0.true (c.read.ensures ∙ e))

pub returns : goal.returns
returns c =
    let a = c.args in
    nameless-none a.base.now a.strings.now (sym c.read.ensures ∙ c.if-read-ne0.false) c.inside.ensures
