-- What the functions over a section's header answer, in the terms of the definitions.
use Rattle.exts.specs.declared.Fault.{Fault}
use Rattle.exts.specs.declared.Fault.TheVariants.{Parts}
use Rattle.std.specs.Prelude.{Err, Ok, Result, ℕ, ◌+◌, ◌≤◌, ◌≡◌, false, List, [], ◌∷◌, length}
use Rattle.std.proofs.Math.Option.{Option, some}
use Rattle.exts.specs.Ext.{fault_number, head_length_bad, items_fault, parts_bad, part_ok, parts_follow}
use Rattle.exts.specs.Items.{Part, items_of, part_length, parts}
use Rattle.exts.specs.declared.Sort.{Sort}
use Rattle.exts.specs.declared.Sort.TheVariants.{Function, Line, Relocation}
use Rattle.groups.specs.declared.front.Front.{Front}
use Rattle.paper.specs.rules.Choice.{◌when◌, first_due}
use Rattle.paper.specs.rules.Table.{Table}

-- where a part that follows ends; the parts behind it follow from there
pub record EndsAt (s : List ℕ) (sort : Sort) (from end : ℕ) : Type 0 where
  pub ends : end ≡ from + part_length s sort
  pub small : end ≤ from + 4294967295
  pub is : (later : List Sort) → parts_follow s from (sort ∷ later) ≡ parts_follow s end later

abbrev pub NextAs : Result ℕ Fault → List ℕ → Sort → ℕ → Type 0
NextAs (Err f) s sort from = (f ≡ Parts) × (part_ok s sort from ≡ false)
NextAs (Ok end) s sort from = EndsAt s sort from end

-- three parts at these places
abbrev pub three_parts : ℕ → ℕ → ℕ → ℕ → List Part
three_parts from first second end =
    record { sort = Function; from = from; end = first }
    ∷ record { sort = Line; from = first; end = second }
    ∷ record { sort = Relocation; from = second; end = end }
    ∷ []

pub record FrontIn (s : List ℕ) (from first second end : ℕ) : Type 0 where
  pub header : head_length_bad s ≡ false
  pub follow : parts_bad s ≡ false
  pub there : parts s ≡ three_parts from first second end
  pub first_inside : first ≤ length s
  pub second_inside : second ≤ length s
  pub fills : end ≡ length s

abbrev pub FrontAs : Result Front Fault → List ℕ → Type 0
FrontAs (Err f) s = first_due (43 when head_length_bad s ∷ 44 when parts_bad s ∷ []) ≡ some (fault_number f)
FrontAs (Ok f) s = FrontIn s f.functions f.lines f.relocations f.end

abbrev pub parts_fault : Table → List ℕ → ℕ → ℕ → ℕ → ℕ → Option ℕ
parts_fault T s from first second end = items_fault T (items_of s (three_parts from first second end))
