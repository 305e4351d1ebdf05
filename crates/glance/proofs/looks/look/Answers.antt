-- `glance::looks::look` meets its contract: by the info word, or by the kind.
use mathlib.Core.Path.{refl, sym, ap}
use Rattle.glance.proofs.Looking.{glimpsed, looks-renamed}
use Rattle.paper.specs.rules.Table.{kind_in}
use Rattle.rows.proofs.RecordWords.{kind-read}
use Rattle.glance.proofs.looks.look.Goals as goal

pub pointer-requires : goal.pointer-requires
pointer-requires c = sym (kind-read _ _ refl c.read.ensures (sym (ap kind_in c.in-33554432.is)))

pub returns-in-33554432 : goal.returns-in-33554432
returns-in-33554432 c = glimpsed c.pointer.ensures

pub returns-in-134217728 : goal.returns-in-134217728
returns-in-134217728 c = glimpsed (looks-renamed _ _ _ c.read.ensures c.in-134217728.is c.read-in-134217728.ensures c.behind_of.ensures)
