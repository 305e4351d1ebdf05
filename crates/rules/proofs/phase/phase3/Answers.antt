-- `rules::phase::phase3` meets its contract: where nothing is due for sure, and else the first test that fails decides.
use mathlib.Core.Bool.{not}
use mathlib.Core.Path.{ap}
use Rattle.paper.specs.terms.Reading.{record_in}
use Rattle.rules.proofs.Dues.{due-head, due-named, due-tail, due-none}
use Rattle.rules.proofs.phase.phase3.Goals as goal

pub returns-then-quiet : goal.returns-then-quiet
returns-then-quiet c = c.quiet.ensures c.if-quiet.true

pub returns-then-not-head_ok : goal.returns-then-not-head_ok
returns-then-not-head_ok c =
    let a = c.args in
    let r = record_in a.order a.bytes.now in
    due-head a.base.now a.strings.now r c.head_ok.ensures (ap not c.if-not-head_ok.true)

pub returns-then-not-names_ok : goal.returns-then-not-names_ok
returns-then-not-names_ok c =
    let a = c.args in
    let r = record_in a.order a.bytes.now in
    due-named a.base.now a.strings.now r c.head_ok.ensures (ap not c.if-not-head_ok.false) c.names_ok.ensures (ap not c.if-not-names_ok.true)

pub returns-then-not-tail_ok : goal.returns-then-not-tail_ok
returns-then-not-tail_ok c =
    let a = c.args in
    let r = record_in a.order a.bytes.now in
    due-tail a.base.now a.strings.now r c.head_ok.ensures (ap not c.if-not-head_ok.false) c.names_ok.ensures (ap not c.if-not-names_ok.false)
    c.tail_ok.ensures (ap not c.if-not-tail_ok.true)

pub returns : goal.returns
returns c =
    let a = c.args in
    let r = record_in a.order a.bytes.now in
    due-none a.base.now a.strings.now r c.head_ok.ensures (ap not c.if-not-head_ok.false) c.names_ok.ensures (ap not c.if-not-names_ok.false)
    c.tail_ok.ensures (ap not c.if-not-tail_ok.false)
