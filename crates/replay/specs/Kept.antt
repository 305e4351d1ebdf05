-- What is seen of a list that is read and of one that is written.
use Rattle.std.specs.Prelude.{ℕ, List, ◌++◌}
use Rattle.lists.specs.Kept.{ReadOutcome, WriteOutcome, read_into, write_list}
use Rattle.replay.specs.Case.{seen_with}
use Rattle.replay.specs.declared.cases.Seen.{Seen}
use Rattle.sums.specs.Sum.{lent_bytes}

-- all that is left, "the output, then the byte work slice"
abbrev pub made_seen : ReadOutcome → Seen
made_seen r = seen_with r.answer r.index r.work (r.output ++ r.bytes)

-- op 7: "list a to a table; b is as long as the byte work slice"
abbrev pub read_seen : List ℕ → ℕ → ℕ → ℕ → ℕ → Seen
read_seen a places work_places bytes lent = made_seen (read_into a places work_places lent (lent_bytes bytes))

abbrev pub wrote_seen : WriteOutcome → Seen
wrote_seen w = seen_with w.answer w.index w.work w.output

-- op 8: "table a to a list"
abbrev pub write_seen : List ℕ → ℕ → ℕ → ℕ → Seen
write_seen a places work_places bytes = wrote_seen (write_list a places work_places (lent_bytes bytes))
