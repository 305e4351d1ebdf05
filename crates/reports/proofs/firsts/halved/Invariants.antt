-- `reports::firsts::halved` is safe and ends.
use Rattle.std.proofs.Common.{◌-◌, ◌≤◌}
use Rattle.reports.proofs.firsts.halved.Given as goal

abbrev pub invariant-loop-low : goal.invariant-loop-low
invariant-loop-low l = (l.low ≤ l.high) × (l.high ≤ 65536)

abbrev pub decreases-loop-low : goal.decreases-loop-low
decreases-loop-low l = l.high - l.low
