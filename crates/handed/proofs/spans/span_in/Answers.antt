-- `handed::spans::span_in` meets its contract.
use mathlib.Core.Path.{ap, ◌∙◌}
use Rattle.handed.proofs.Placing.{found-places}
use Rattle.handed.specs.Places.{known_number}
use Rattle.handed.proofs.spans.span_in.Goals as goal

pub returns : goal.returns
returns c =
    found-places c.args.s.now (c.sort_of-sort.ensures ∙ ap known_number c.place.ensures) c.place-size.ensures c.place-low.ensures c.place-bits.ensures
    c.place-high.ensures
