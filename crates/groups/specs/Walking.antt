-- What the walk of a part answers, in the terms of the definitions, beside a table T that has so many bytes of strings.
use Rattle.std.specs.Prelude.{Err, Ok, Result, None, Some, Option as RustOption, ℕ, ◌≤◌, ◌<◌, ◌≡◌, true, false, List, [], ◌∷◌, get_or}
use Rattle.std.proofs.Math.Option.{Option, some}
use Rattle.exts.specs.Ext.{entry_rules, first_fault, fault_number}
use Rattle.exts.specs.Items.{Item, entry_at, entries_from, group_name, group_count, group_end, group_ok, group_then, groups_from, part_items}
use Rattle.exts.specs.Sorts.{roles_of, least_size}
use Rattle.exts.specs.declared.Fault.{Fault}
use Rattle.exts.specs.declared.Role.{Role}
use Rattle.exts.specs.declared.Role.TheVariants.{Plain}
use Rattle.exts.specs.declared.Sort.{Sort}
use Rattle.groups.specs.declared.records.Row.{Row}
use Rattle.groups.specs.declared.walk.Group.{Group}
use Rattle.paper.specs.rules.Choice.{first_due}
use Rattle.paper.specs.rules.Table.{Table}

-- ── records ──

-- the row of a sort: the roles behind the instruction offset, and its least size
abbrev pub row_for : Sort → Row
row_for sort =
    record {
      size = least_size sort;
      second = get_or (roles_of sort) 1 Plain;
      third = get_or (roles_of sort) 2 Plain;
      fourth = get_or (roles_of sort) 3 Plain;
    }

abbrev pub roles_in : Row → List Role
roles_in row = row.second ∷ row.third ∷ row.fourth ∷ []

-- no rule asks for a record's group
abbrev pub entry_fault : Table → ℕ → List ℕ → Sort → ℕ → Option ℕ
entry_fault T long s sort at = first_due (entry_rules long T (entry_at s sort 0 at))

abbrev pub entries_fault : Table → ℕ → List ℕ → Sort → ℕ → ℕ → ℕ → Option ℕ
entries_fault T long s sort size count at = first_fault long T (entries_from s sort size 0 count at)

-- ── groups ──

pub record GroupIn (s : List ℕ) (size at end name count next : ℕ) : Type 0 where
  pub fits : group_ok s size at end ≡ true
  pub named : name ≡ group_name s at
  pub counted : count ≡ group_count s at
  pub ends : next ≡ group_end s size at
  pub inside : next ≤ end

abbrev pub StepAs : RustOption Group → List ℕ → ℕ → ℕ → ℕ → Type 0
StepAs None s size at end = group_ok s size at end ≡ false
StepAs (Some g) s size at end = GroupIn s size at end g.name g.count g.next

-- what is said of the group at a place, whatever stands behind it
abbrev pub group_fault : Table → ℕ → List ℕ → Sort → ℕ → ℕ → ℕ → (ℕ → List Item) → Option ℕ
group_fault T long s sort size at end rest = first_fault long T (group_then s sort size at (group_ok s size at end) rest)

pub record TurnBad (T : Table) (long : ℕ) (s : List ℕ) (sort : Sort) (size at end : ℕ) (f : Fault) : Type 0 where
  pub is : (rest : ℕ → List Item) → group_fault T long s sort size at end rest ≡ some (fault_number f)

pub record TurnNext (T : Table) (long : ℕ) (s : List ℕ) (sort : Sort) (size at end next : ℕ) : Type 0 where
  pub is : (rest : ℕ → List Item) → group_fault T long s sort size at end rest ≡ first_fault long T (rest next)
  pub later : at < next
  pub inside : next ≤ end

abbrev pub TurnAs : Result ℕ Fault → Table → ℕ → List ℕ → Sort → ℕ → ℕ → ℕ → Type 0
TurnAs (Err f) T long s sort size at end = TurnBad T long s sort size at end f
TurnAs (Ok next) T long s sort size at end = TurnNext T long s sort size at end next

abbrev pub groups_fault : Table → ℕ → List ℕ → Sort → ℕ → ℕ → ℕ → Option ℕ
groups_fault T long s sort size at end = first_fault long T (groups_from s end sort size at end)

-- ── a part ──

abbrev pub part_fault : Table → ℕ → List ℕ → Sort → ℕ → ℕ → Option ℕ
part_fault T long s sort from end = first_fault long T (part_items s (record { sort = sort; from = from; end = end }))
