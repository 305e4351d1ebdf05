-- `groups::asked::part_bytes` meets its contract: no bytes, or those that stand at the record's place.
use native.Mathlib.Omega.{arith}
use mathlib.Core.Path.{sym, ap}
use Rattle.exts.specs.Entries.{entry_bytes, entry_start}
use Rattle.groups.proofs.Picks.{FoundAs, found_none, found_some, found_inside, found-bytes, found-start, starts}
use Rattle.groups.specs.Asking.{part_record}
use Rattle.groups.specs.declared.records.Row.{Row}
use Rattle.groups.proofs.asked.part_bytes.Goals as goal

-- what is found in the part
found : (c : goal.After-struct_known-in-Some-1) → let a = c.args in
    FoundAs (part_record a.s.now a.sort a.from a.end a.y) c.in-Some.place.0
found c =
    let a = c.args in
    found_some (part_record a.s.now a.sort a.from a.end a.y) c.find_in_part.ensures _ _ c.in-Some.is

-- what is found in the part
found-2 : (c : goal.After-result-1) → let a = c.args in
    FoundAs (part_record a.s.now a.sort a.from a.end a.y) c.in-Some.place.0
found-2 c =
    let a = c.args in
    found_some (part_record a.s.now a.sort a.from a.end a.y) c.find_in_part.ensures _ _ c.in-Some.is

pub slice_bounds-result-end-in-Some : goal.slice_bounds-result-end-in-Some
slice_bounds-result-end-in-Some c =
    let a = c.args in
    omega (arith, found_inside a.s.now a.sort a.from a.end a.y (found c) (ap (λ (r : Row). r.size) c.row_of.ensures) c.requires.1)

pub returns-in-None : goal.returns-in-None
returns-in-None c =
    let a = c.args in
    let o = part_record a.s.now a.sort a.from a.end a.y in
    let e = found_none o c.find_in_part.ensures c.in-None.is in
    record { bytes = sym (ap (entry_bytes a.s.now) e); place = starts a.s (entry_start o) (omega (arith, ap entry_start e)) }

pub returns-in-Some : goal.returns-in-Some
returns-in-Some c =
    let a = c.args in
    let e = found-2 c in
    let z = ap (λ (r : Row). r.size) c.row_of.ensures in
    record {
      bytes = found-bytes a.s.now a.sort a.from a.end a.y e z;
      place = starts a.s (entry_start (part_record a.s.now a.sort a.from a.end a.y)) (omega (arith, found-start a.s.now a.sort a.from a.end a.y e z));
    }
