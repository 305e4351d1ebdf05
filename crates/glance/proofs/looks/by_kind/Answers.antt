-- `glance::looks::by_kind` meets its contract.
use mathlib.Core.Logic.{inl, inr}
use mathlib.Core.Path.{refl}
use Rattle.glance.proofs.Looking.{glimpsed, kind-is, looks-alias, looks-enum, looks-float, looks-forward}
use Rattle.glance.proofs.looks.by_kind.Goals as goal

pub returns-then-is_alias : goal.returns-then-is_alias
returns-then-is_alias c =
    glimpsed
    (looks-alias _ _ _ c.read.ensures c.kind_of-kind.ensures c.is_alias.ensures c.if-is_alias.true c.read-then-is_alias.ensures c.behind_of.ensures)

pub group-requires : goal.group-requires
group-requires c = inl (kind-is _ _ c.read.ensures c.kind_of-kind.ensures c.in-4.is)

pub group-requires-in-5 : goal.group-requires-in-5
group-requires-in-5 c = inr (kind-is _ _ c.read.ensures c.kind_of-kind.ensures c.in-5.is)

pub int-requires : goal.int-requires
int-requires c = kind-is _ _ c.read.ensures c.kind_of-kind.ensures c.in-1.is

pub pointer-requires : goal.pointer-requires
pointer-requires c = kind-is _ _ c.read.ensures c.kind_of-kind.ensures c.in-2.is

pub array-requires : goal.array-requires
array-requires c = kind-is _ _ c.read.ensures c.kind_of-kind.ensures c.in-3.is

pub variable-requires : goal.variable-requires
variable-requires c = kind-is _ _ c.read.ensures c.kind_of-kind.ensures c.in-14.is

pub section-requires : goal.section-requires
section-requires c = kind-is _ _ c.read.ensures c.kind_of-kind.ensures c.in-15.is

pub prototype-requires : goal.prototype-requires
prototype-requires c = kind-is _ _ c.read.ensures c.kind_of-kind.ensures c.in-13.is

pub function-requires : goal.function-requires
function-requires c = kind-is _ _ c.read.ensures c.kind_of-kind.ensures c.in-12.is

pub returns-in-4 : goal.returns-in-4
returns-in-4 c = glimpsed c.group.ensures

pub returns-in-5 : goal.returns-in-5
returns-in-5 c = glimpsed c.group-in-5.ensures

pub returns-in-1 : goal.returns-in-1
returns-in-1 c = glimpsed c.int.ensures

pub returns-in-2 : goal.returns-in-2
returns-in-2 c = glimpsed c.pointer.ensures

pub returns-in-6 : goal.returns-in-6
returns-in-6 c = glimpsed (looks-enum _ _ _ c.read.ensures c.kind_of-kind.ensures c.in-6.is c.read-in-6.ensures c.enum_bytes.ensures)

pub returns-in-3 : goal.returns-in-3
returns-in-3 c = glimpsed c.array.ensures

pub returns-in-14 : goal.returns-in-14
returns-in-14 c = glimpsed c.variable.ensures

pub returns-in-15 : goal.returns-in-15
returns-in-15 c = glimpsed c.section.ensures

pub returns-in-7 : goal.returns-in-7
returns-in-7 c = glimpsed (inr (looks-forward _ _ _ c.read.ensures c.kind_of-kind.ensures c.in-7.is))

pub returns-in-13 : goal.returns-in-13
returns-in-13 c = glimpsed c.prototype.ensures

pub returns-in-12 : goal.returns-in-12
returns-in-12 c = glimpsed c.function.ensures

pub returns-in-16 : goal.returns-in-16
returns-in-16 c = glimpsed (looks-float _ _ _ c.read.ensures c.kind_of-kind.ensures c.in-16.is c.read-in-16.ensures c.whole_bytes.ensures)

pub returns-in_default : goal.returns-in_default
returns-in_default c = inr (inl refl)
