-- `handed::spans::span_numbers` meets its contract.
use Rattle.handed.proofs.Placing.{found-numbers}
use Rattle.handed.proofs.spans.span_numbers.Goals as goal

pub returns : goal.returns
returns c = found-numbers c.args.m c.number_of-number.ensures
