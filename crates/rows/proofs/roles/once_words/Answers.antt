-- `rows::roles::once_words` meets its contract: its column is the words that stand once.
use mathlib.Core.Path.{refl}
use lib.ListN.{length}
use Rattle.paper.specs.rules.Kind.{Row, rows}
use Rattle.kindrows.specs.Codes.{tail_code}
use Rattle.kindrows.proofs.Columns.{column-is}
use Rattle.rows.proofs.roles.once_words.Goals as goal

pub returns : goal.returns
unfolding tail_code rows
returns c = column-is tail_code (λ (r : Row). length r.once) 72057594037927936 refl _ c.tail_row.ensures c.column.ensures
