-- `links::pointers::is_link` meets its contract: PTR, or the kind of an alias.
use native.Mathlib.Omega.{arith}
use Rattle.links.proofs.Pointing.{link-pointer, link-alias}
use Rattle.links.proofs.pointers.is_link.Goals as goal

pub returns-then-kind-eq-PTR : goal.returns-then-kind-eq-PTR
returns-then-kind-eq-PTR c = link-pointer {k = c.args.kind} (omega (arith, c.if-kind-eq-PTR.true))

pub returns : goal.returns
returns c = link-alias c.if-kind-eq-PTR.false c.is_alias.ensures
