-- `glance::stored::section` meets its contract.
use mathlib.Core.Bool.{not}
use mathlib.Core.Path.{ap}
use mathlib.Core.Logic.{inl, inr}
use mathlib.Core.Path.{refl}
use Rattle.glance.proofs.EntriesFit.{looks-section}
use Rattle.glance.proofs.stored.section.Goals as goal

pub returns-then-not-entries_fit : goal.returns-then-not-entries_fit
returns-then-not-entries_fit c = inl refl

pub returns : goal.returns
returns c = inr (looks-section _ _ _ c.requires c.entries_fit.ensures (ap not c.if-not-entries_fit.false))
