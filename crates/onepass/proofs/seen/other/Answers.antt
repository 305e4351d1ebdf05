-- `onepass::seen::other` meets its contract.
use mathlib.Core.Logic.{inl}
use mathlib.Core.Path.{refl, sym, ap, ◌∙◌}
use Rattle.onepass.proofs.ByKind.{told-look}
use Rattle.rules.specs.Phase.{due_as_paper}
use Rattle.onepass.proofs.seen.other.Goals as goal

pub returns-in-None : goal.returns-in-None
returns-in-None c = told-look _ _ _ _ _ (sym (ap due_as_paper c.in-None.is) ∙ c.phase3.ensures) c.look.ensures c.told_or_open.ensures

pub returns-in-Some-Head : goal.returns-in-Some-Head
returns-in-Some-Head c = inl refl

pub returns-in-Some-Named : goal.returns-in-Some-Named
returns-in-Some-Named c = inl refl

pub returns-in-Some-Tail : goal.returns-in-Some-Tail
returns-in-Some-Tail c = inl refl
