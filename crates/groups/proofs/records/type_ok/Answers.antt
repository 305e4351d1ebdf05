-- `groups::records::type_ok` meets its contract: a FUNC, or any type of the table.
use mathlib.Core.Path.{refl}
use mathlib.Core.List.{[]}
use Rattle.groups.proofs.Rows.{func-asked, type-asked}
use Rattle.views.specs.Shown.{table_by}
use Rattle.groups.proofs.records.type_ok.Goals as goal

pub slice_bounds-kind_at-end : goal.slice_bounds-kind_at-end
slice_bounds-kind_at-end c = refl

pub returns-in-FuncType : goal.returns-in-FuncType
returns-in-FuncType c =
    let a = c.args in
    func-asked a.w (table_by [] a.b.now a.index.now a.view) c.in-FuncType.is c.kind_at.ensures

pub returns-in-AnyType : goal.returns-in-AnyType
returns-in-AnyType c = type-asked _ _ _ _ c.in-AnyType.is
