-- What is seen of the ops over a base.
use Rattle.std.specs.Prelude.{ℕ, ◌-◌, ◌*◌, ◌≤◌, ◌≡◌, List, [], length, take, drop}
use Rattle.pairs.specs.Lean.{lean_gate, size_over, name_at_over}
use Rattle.paper.specs.declared.Order.TheVariants.{LowFirst}
use Rattle.paper.specs.rules.Word.{words}
use Rattle.replay.specs.Case.{plainly, seen_with}
use Rattle.replay.specs.declared.cases.Seen.{Seen}

-- op 9: "check module b on base a": its answer and both u32 slices as the check leaves them
abbrev pub lean_seen : List ℕ → List ℕ → ℕ → ℕ → List ℕ → Seen
lean_seen a b places work_places output =
    seen_with (lean_gate a b places work_places).answer (lean_gate a b places work_places).index (lean_gate a b places work_places).work output

-- op 10: "size of type x, a the base, y its count, b the module and then the index"; it lends no slice
abbrev pub size_over_seen : ℕ → ℕ → List ℕ → List ℕ → List ℕ → Seen
size_over_seen x y a own index = seen_with (size_over a y own (words LowFirst index) x) [] [] []

-- "the field output bytes is k, the index's places: b's last 4k bytes"
abbrev pub size_cut_seen : ℕ → ℕ → List ℕ → List ℕ → ℕ → Seen
size_cut_seen x y a b k = size_over_seen x y a (take (length b - 4 * k) b) (drop (length b - 4 * k) b)

-- where these bytes begin
pub record CutAt (from len k : ℕ) : Type 0 where
  pub inside : from ≤ len
  pub is : from ≡ len - 4 * k

-- op 11: "name at x, a the base, b the module": the part and its length
abbrev pub name_over_seen : ℕ → List ℕ → List ℕ → Seen
name_over_seen x a b = seen_with (plainly 0 (length (name_at_over a b x))) [] [] (name_at_over a b x)
