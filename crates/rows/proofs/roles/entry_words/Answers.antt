-- `rows::roles::entry_words` meets its contract: its column is the words of an entry.
use mathlib.Core.Path.{refl}
use lib.ListN.{length}
use Rattle.paper.specs.rules.Kind.{Row, rows}
use Rattle.kindrows.specs.Codes.{tail_code}
use Rattle.kindrows.proofs.Columns.{column-is}
use Rattle.rows.proofs.roles.entry_words.Goals as goal

pub returns : goal.returns
unfolding tail_code rows
returns c = column-is tail_code (λ (r : Row). length r.each) 16777216 refl _ c.tail_row.ensures c.column.ensures
