-- `recall::codes::named_code` meets its contract.
use mathlib.Core.Path.{refl}
use Rattle.paper.specs.terms.Reading.{record_in}
use Rattle.rows.proofs.RecordWords.{kind-read}
use Rattle.recall.proofs.Tellings.{named_other, named-all, named-not}
use Rattle.recall.proofs.codes.named_code.Goals as goal

pub returns-then-kind_of-ne-FUNC_PROTO : goal.returns-then-kind_of-ne-FUNC_PROTO
returns-then-kind_of-ne-FUNC_PROTO c = named_other (record_in c.args.order c.args.bytes.now) (kind-read _ _ refl c.read.ensures c.kind_of.ensures) c.if-kind_of-ne-FUNC_PROTO.true

pub returns-then-all_named : goal.returns-then-all_named
returns-then-all_named c =
    named-all (record_in c.args.order c.args.bytes.now) (kind-read _ _ refl c.read.ensures c.kind_of.ensures)
    c.if-kind_of-ne-FUNC_PROTO.false c.all_named.ensures c.if-all_named.true

pub returns : goal.returns
returns c =
    named-not (record_in c.args.order c.args.bytes.now) (kind-read _ _ refl c.read.ensures c.kind_of.ensures)
    c.if-kind_of-ne-FUNC_PROTO.false c.all_named.ensures c.if-all_named.false
