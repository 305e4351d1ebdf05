-- `replay::tally::Tally::counted` meets its contract: by outcome.
use native.Mathlib.Omega.{arith}
use Rattle.replay.proofs.tally.Tally.counted.Goals as goal

pub returns-in-Agreed : goal.returns-in-Agreed
returns-in-Agreed c = rw c.in-Agreed.is (record { once = omega arith; agreed = omega arith; differed = omega arith })

pub returns-in-Differed : goal.returns-in-Differed
returns-in-Differed c = rw c.in-Differed.is (record { once = omega arith; agreed = omega arith; differed = omega arith })
