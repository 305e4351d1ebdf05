-- `kindrows::table::tail_row` meets its contract: a row for each kind, and the row of no kind for any other.
use Rattle.paper.specs.rules.Kind.{rows, row_of}
use Rattle.kindrows.specs.Codes.{tail_code}
use Rattle.kindrows.proofs.Columns.{row_at, row-unknown}
use Rattle.kindrows.proofs.table.tail_row.Goals as goal

pub returns-in-1 : goal.returns-in-1
unfolding tail_code row_of rows
returns-in-1 c = row_at tail_code 1 c.in-1.is

pub returns-in-2 : goal.returns-in-2
unfolding tail_code row_of rows
returns-in-2 c = row_at tail_code 2 c.in-2.is

pub returns-in-3 : goal.returns-in-3
unfolding tail_code row_of rows
returns-in-3 c = row_at tail_code 3 c.in-3.is

pub returns-in-4 : goal.returns-in-4
unfolding tail_code row_of rows
returns-in-4 c = row_at tail_code 4 c.in-4.is

pub returns-in-5 : goal.returns-in-5
unfolding tail_code row_of rows
returns-in-5 c = row_at tail_code 5 c.in-5.is

pub returns-in-6 : goal.returns-in-6
unfolding tail_code row_of rows
returns-in-6 c = row_at tail_code 6 c.in-6.is

pub returns-in-7 : goal.returns-in-7
unfolding tail_code row_of rows
returns-in-7 c = row_at tail_code 7 c.in-7.is

pub returns-in-8 : goal.returns-in-8
unfolding tail_code row_of rows
returns-in-8 c = row_at tail_code 8 c.in-8.is

pub returns-in-9 : goal.returns-in-9
unfolding tail_code row_of rows
returns-in-9 c = row_at tail_code 9 c.in-9.is

pub returns-in-10 : goal.returns-in-10
unfolding tail_code row_of rows
returns-in-10 c = row_at tail_code 10 c.in-10.is

pub returns-in-11 : goal.returns-in-11
unfolding tail_code row_of rows
returns-in-11 c = row_at tail_code 11 c.in-11.is

pub returns-in-12 : goal.returns-in-12
unfolding tail_code row_of rows
returns-in-12 c = row_at tail_code 12 c.in-12.is

pub returns-in-13 : goal.returns-in-13
unfolding tail_code row_of rows
returns-in-13 c = row_at tail_code 13 c.in-13.is

pub returns-in-14 : goal.returns-in-14
unfolding tail_code row_of rows
returns-in-14 c = row_at tail_code 14 c.in-14.is

pub returns-in-15 : goal.returns-in-15
unfolding tail_code row_of rows
returns-in-15 c = row_at tail_code 15 c.in-15.is

pub returns-in-16 : goal.returns-in-16
unfolding tail_code row_of rows
returns-in-16 c = row_at tail_code 16 c.in-16.is

pub returns-in-17 : goal.returns-in-17
unfolding tail_code row_of rows
returns-in-17 c = row_at tail_code 17 c.in-17.is

pub returns-in-18 : goal.returns-in-18
unfolding tail_code row_of rows
returns-in-18 c = row_at tail_code 18 c.in-18.is

pub returns-in-19 : goal.returns-in-19
unfolding tail_code row_of rows
returns-in-19 c = row_at tail_code 19 c.in-19.is

pub returns-in_default : goal.returns-in_default
unfolding tail_code row_of rows
returns-in_default c = row-unknown tail_code c.args.kind c.in_default.in_default-own.rest
