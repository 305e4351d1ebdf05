-- What is seen of taking a table apart.
use Rattle.std.specs.Prelude.{ℕ, List, ◌++◌}
use Rattle.parts.specs.Cut.{CutOutcome, cut}
use Rattle.replay.specs.Case.{seen_with}
use Rattle.replay.specs.declared.cases.Seen.{Seen}
use Rattle.sums.specs.Sum.{lent_bytes}

-- all that is left, "the first output, then the second"
abbrev pub cut_seen : CutOutcome → Seen
cut_seen c = seen_with c.answer c.index c.work (c.first ++ c.second)

-- op 6: "take a apart at x types, y string bytes; b is as long as the second output"
abbrev pub apart_seen : ℕ → ℕ → List ℕ → ℕ → ℕ → ℕ → ℕ → Seen
apart_seen x y a places work_places bytes others = cut_seen (cut a x y places work_places (lent_bytes bytes) (lent_bytes others))
