-- What phases 4 and 5 answer together.
use Rattle.links.specs.declared.whole.Unlinked.TheVariants.{Endless, Reference}
use Rattle.links.specs.declared.whole.Unlinked.{Unlinked}
use Rattle.std.specs.Prelude.{ℕ, ◌≡◌, Bool, cond, ◌&&◌, List, leb, ltb, length, get_or, Err, Ok, Result}
use Rattle.std.proofs.Math.Option.{Option, none, some}
use Rattle.links.specs.Search.{mark_at}
use Rattle.paper.specs.rules.Answer.{Answer, report_at}
use Rattle.paper.specs.rules.Choice.{or_else}
use Rattle.paper.specs.rules.Gate.{over_types, phase4, phase5, zeros}
use Rattle.paper.specs.rules.Limits.{type_limit}
use Rattle.paper.specs.rules.Table.{Table}
use Rattle.paper.specs.rules.Walk.{place_at}

abbrev pub linked_as_paper : Table → Result (Unit {0}) Unlinked → Option Answer
linked_as_paper T (Ok _) = none
linked_as_paper T (Err (Reference t)) = some (report_at 13 t.0 (place_at T t.0))
linked_as_paper T (Err (Endless t)) = some (report_at 14 t.0 (place_at T t.0))

-- of n types, no more than the limit, and a work slice with a place for each; nothing is said of others
abbrev pub searched : ℕ → ℕ → Bool
searched n room = leb n type_limit && ltb n room

unfoldable pub links_say : Table → ℕ → ℕ → Option Answer
links_say T n room = cond (searched n room) (or_else (over_types phase4 T) (over_types phase5 T)) none

-- where nothing is wrong, the work slice has what is remembered of each type
abbrev pub remains_at : Table → ℕ → ℕ → ℕ → ℕ
remains_at T n room x = cond (searched n room) (mark_at T n x) 0

-- and else what is said of it then
abbrev pub Leaves : Table → ℕ → ℕ → Type 0 → Result (Unit {0}) Unlinked → List ℕ → Type 0
Leaves T n room refused (Ok _) work = (x : ℕ) → get_or work x 0 ≡ remains_at T n room x
Leaves T n room refused (Err _) work = refused

pub record LinksOf (T : Table) (n room : ℕ) (r : Result (Unit {0}) Unlinked) (work : List ℕ) : Type 0 where
  pub says : linked_as_paper T r ≡ links_say T n room
  pub leaves : Leaves T n room (work ≡ zeros room) r work
  pub size : length work ≡ room

-- the same, with a work slice that may hold anything where something is wrong
pub record BothOf (T : Table) (n room : ℕ) (r : Result (Unit {0}) Unlinked) (work : List ℕ) : Type 0 where
  pub says : linked_as_paper T r ≡ links_say T n room
  pub leaves : Leaves T n room (Unit {0}) r work
