-- `lean::questions::side_of` meets its contract: phase 1 of both, the two orders, then the lengths of their strings.
use mathlib.Core.Path.{sym, ◌∙◌}
use Rattle.lean.proofs.Askings.{nameless-26, nameless-base, nameless-own, side-both}
use Rattle.lean.proofs.questions.side_of.Goals as goal

pub returns-then-other_opening : goal.returns-then-other_opening
returns-then-other_opening c = nameless-26 _ _ _ (sym c.other_opening.ensures ∙ c.if-other_opening.true)

pub returns-in_default : goal.returns-in_default
returns-in_default c = nameless-base _ _ _ _ c.read.ensures c.in_default.is

pub returns-in_default-read_behind : goal.returns-in_default-read_behind
returns-in_default-read_behind c = nameless-own _ _ _ _ c.read_behind.ensures c.in_default-read_behind.is

pub returns : goal.returns
returns c =
    side-both _ _ c.args.at.0 _ _ c.side_by.result (sym c.other_opening.ensures ∙ c.if-other_opening.false)
    c.read.ensures c.in-Ok.is c.read_behind.ensures c.in-Ok-read_behind.is c.side_by.ensures
