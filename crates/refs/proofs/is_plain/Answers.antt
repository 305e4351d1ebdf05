-- `refs::is_plain` meets its contract: a known kind, and none of the four.
use mathlib.Core.Bool.{not}
use mathlib.Core.Path.{ap, ◌∙◌}
use Rattle.refs.proofs.References.{plain-unknown, plain-variable, plain_other, plain-plain}
use Rattle.refs.proofs.is_plain.Goals as goal
use Rattle.refs.proofs.is_plain.Goals.{in-12, in_default}

pub returns-then-not-is_known : goal.returns-then-not-is_known
returns-then-not-is_known c = plain-unknown _ c.is_known.ensures (ap not c.if-not-is_known.true)

pub returns-then-kind-eq-VAR : goal.returns-then-kind-eq-VAR
returns-then-kind-eq-VAR c = plain-variable _ c.is_known.ensures (ap not c.if-not-is_known.false) c.if-kind-eq-VAR.true

pub returns : goal.returns
returns c = elim c.match-matches.branch [
  | in-12 w ↦ ap not w.matches-is ∙ plain_other _ c.is_known.ensures (ap not c.if-not-is_known.false) w.in-12.is
  | in_default w ↦ ap not w.matches-is ∙ plain-plain _ c.is_known.ensures (ap not c.if-not-is_known.false) c.if-kind-eq-VAR.false w.in_default.in_default-own.rest.1
]
