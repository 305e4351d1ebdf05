-- `rules::quick::int_good` meets its contract: where all three tests pass.
use mathlib.Core.Bool.{not}
use mathlib.Core.Path.{ap}
use mathlib.Core.Bool.{false≢true}
use Rattle.rules.proofs.Quiet.{int-words}
use Rattle.rules.proofs.quick.int_good.Goals as goal

pub returns-then-not-third_allowed : goal.returns-then-not-third_allowed
returns-then-not-third_allowed c = λ e. absurd (false≢true e)

pub returns-then-not-inside : goal.returns-then-not-inside
returns-then-not-inside c = λ e. absurd (false≢true e)

pub returns : goal.returns
returns c =
    int-words c.read-word.ensures c.read-size.ensures c.read-off.ensures c.third_allowed.ensures (ap not c.if-not-third_allowed.false)
    c.inside.ensures (ap not c.if-not-inside.false) c.int_ok.ensures
