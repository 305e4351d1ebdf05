-- `rules::quick::names_good` meets its contract: where some names decide, and each is good.
use mathlib.Core.Bool.{false≢true}
use Rattle.rules.proofs.Quiet.{deciding-few, quiet-names}
use Rattle.rules.proofs.quick.names_good.Goals as goal

pub returns-then-n-eq0 : goal.returns-then-n-eq0
returns-then-n-eq0 c = λ e. absurd (false≢true e)

pub spaced_ok-requires : goal.spaced_ok-requires
spaced_ok-requires c = deciding-few c.names_deciding-n.ensures

pub returns : goal.returns
returns c =
    quiet-names c.args.order c.args.base.now c.args.strings.now c.args.bytes.now c.requires c.names_deciding-n.ensures c.read.ensures
    c.if-n-eq0.false c.spaced_ok.ensures
