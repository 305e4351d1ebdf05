-- `glance::protos::prototype` meets its contract.
use mathlib.Core.Bool.{not}
use mathlib.Core.Path.{ap}
use mathlib.Core.Logic.{inr}
use Rattle.glance.proofs.Looking.{looks-awaits}
use Rattle.glance.proofs.ParametersSeen.{proto-waits, looks-prototype}
use Rattle.glance.proofs.protos.prototype.Goals as goal

pub returns-then-behind_of-eq0 : goal.returns-then-behind_of-eq0
returns-then-behind_of-eq0 c = inr (looks-awaits _ _ _ (proto-waits c.requires))

pub returns-then-not-parameters_seen : goal.returns-then-not-parameters_seen
returns-then-not-parameters_seen c = inr (looks-awaits _ _ _ (proto-waits c.requires))

pub returns-then-all_named : goal.returns-then-all_named
returns-then-all_named c =
    inr
    (looks-prototype _ _ _ c.requires c.read.ensures c.behind_of.ensures c.if-behind_of-eq0.false
    c.parameters_seen.ensures (ap not c.if-not-parameters_seen.false) c.all_named.ensures c.if-all_named.true)

pub returns : goal.returns
returns c =
    inr
    (looks-prototype _ _ _ c.requires c.read.ensures c.behind_of.ensures c.if-behind_of-eq0.false
    c.parameters_seen.ensures (ap not c.if-not-parameters_seen.false) c.all_named.ensures c.if-all_named.false)
