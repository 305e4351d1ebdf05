-- `rows::roles::entry_role` meets its contract: a column for each of three places, and past them a plain number.
use mathlib.Core.Path.{refl}
use Rattle.paper.specs.rules.Kind.{Row, rows, row_of}
use Rattle.kindrows.specs.Codes.{role_at, tail_code}
use Rattle.kindrows.proofs.Columns.{column-is}
use Rattle.rows.proofs.RoleCodes.{each-few, role_at-past}
use Rattle.rows.proofs.roles.entry_role.Goals as goal

pub returns-in-0 : goal.returns-in-0
unfolding tail_code rows
returns-in-0 c = rw c.in-0.is (column-is tail_code (λ (r : Row). role_at r.each 0) 65536 refl _ c.tail_row.ensures c.column.ensures)

pub returns-in-1 : goal.returns-in-1
unfolding tail_code rows
returns-in-1 c = rw c.in-1.is (column-is tail_code (λ (r : Row). role_at r.each 1) 256 refl _ c.tail_row-in-1.ensures c.column-in-1.ensures)

pub returns-in-2 : goal.returns-in-2
unfolding tail_code rows
returns-in-2 c = rw c.in-2.is (column-is tail_code (λ (r : Row). role_at r.each 2) 1 refl _ c.tail_row-in-2.ensures c.column-in-2.ensures)

pub returns-in_default : goal.returns-in_default
returns-in_default c =
    let a = c.args in
    let r = c.in_default.in_default-own.rest in
    role_at-past (row_of a.kind).each a.i (each-few a.kind) r.0.0.1 r.0.1 r.1
