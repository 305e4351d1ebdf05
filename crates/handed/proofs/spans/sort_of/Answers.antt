-- `handed::spans::sort_of` meets its contract.
use mathlib.Core.Path.{sym, ap}
use Rattle.handed.proofs.Placing.{known-none}
use Rattle.handed.specs.Places.{known_number}
use Rattle.values.specs.Given.{sort_number}
use Rattle.handed.proofs.spans.sort_of.Goals as goal

pub returns-in-0 : goal.returns-in-0
unfolding sort_number
returns-in-0 c = sym (ap known_number c.in-0.is)

pub returns-in-1 : goal.returns-in-1
unfolding sort_number
returns-in-1 c = sym (ap known_number c.in-1.is)

pub returns-in-35 : goal.returns-in-35
unfolding sort_number
returns-in-35 c = sym (ap known_number c.in-35.is)

pub returns-in-21 : goal.returns-in-21
unfolding sort_number
returns-in-21 c = sym (ap known_number c.in-21.is)

pub returns-in-31 : goal.returns-in-31
unfolding sort_number
returns-in-31 c = sym (ap known_number c.in-31.is)

pub returns-in-32 : goal.returns-in-32
unfolding sort_number
returns-in-32 c = sym (ap known_number c.in-32.is)

pub returns-in_default : goal.returns-in_default
unfolding sort_number
returns-in_default c =
    let r = c.in_default.in_default-own.rest in
    known-none _ r.0.0.0.0.0.1 r.0.0.0.0.1 r.0.0.0.1 r.0.0.1 r.0.1 r.1
