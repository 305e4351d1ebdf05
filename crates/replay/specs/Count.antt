-- How many cases a tally counts, and a tally with one case more.
use Rattle.std.specs.Prelude.{ℕ, ◌+◌, ◌≡◌}
use Rattle.replay.specs.declared.tally.Outcome.{Outcome}
use Rattle.replay.specs.declared.tally.Outcome.TheVariants.{Agreed, Differed}
use Rattle.replay.specs.declared.tally.Tally.{Tally}

abbrev pub ran : Tally → ℕ
ran t = t.agreed + t.differed

-- 1 where a case came to the outcome that a count is of
abbrev pub agrees : Outcome → ℕ
agrees Agreed = 1
agrees Differed = 0

abbrev pub differs : Outcome → ℕ
differs Agreed = 0
differs Differed = 1

-- each case is counted once, under its own outcome
pub record Counted (t r : Tally) (o : Outcome) : Type 0 where
  pub once : ran r ≡ ran t + 1
  pub agreed : r.agreed ≡ t.agreed + agrees o
  pub differed : r.differed ≡ t.differed + differs o
