-- `gate::whole::by_phases` meets its contract: what `scan` refuses is refused, and what it counts is judged.
use mathlib.Core.Path.{◌≡◌, refl, ap, ◌∙◌}
use Rattle.gate.proofs.Checks.{scan-refused, scan-table, scan-accepted, scan-judged}
use Rattle.paper.proofs.bytes.Bytes.{slice-bytes}
use Rattle.paper.specs.rules.Gate.{table_report, zeros}
use Rattle.paper.specs.rules.Walk.{table_of}
use Rattle.phases.specs.Said.{said_as_paper}
use Rattle.gate.proofs.whole.by_phases.Goals as goal

-- what is judged is what the table's own phases say
judged : (c : goal.In-Ok-judge) →
    said_as_paper c.judge.result ≡ table_report (table_of c.args.b.now)
judged c =
    scan-table _ _ _ c.scan.result c.scan.ensures c.in-Ok.is (slice-bytes c.args.b.now c.shared_slice_known-1.given)
    _ refl c.order_of-order.ensures refl c.judge.result c.judge.ensures.says

-- what is judged is what the table's own phases say
judged-2 : (c : goal.After-slice_known-in-Err-judge-1) →
    said_as_paper c.judge.result ≡ table_report (table_of c.args.b.now)
judged-2 c =
    scan-table _ _ _ c.scan.result c.scan.ensures c.in-Ok.is (slice-bytes c.args.b.now c.shared_slice_known-1.given)
    _ refl c.order_of-order.ensures refl c.judge.result c.judge.ensures.says

pub returns-in-Err : goal.returns-in-Err
returns-in-Err c = scan-refused _ _ _ c.scan.result c.scan.ensures c.in-Err.is

pub returns-in-Ok-judge : goal.returns-in-Ok-judge
returns-in-Ok-judge c = scan-accepted _ _ _ c.scan.result c.scan.ensures c.in-Ok.is c.judge.result (judged c) c.in-Ok-judge.is

pub returns-in-Err-judge : goal.returns-in-Err-judge
returns-in-Err-judge c =
    scan-judged _ _ _ c.scan.result c.scan.ensures c.in-Ok.is c.judge.result (judged-2 c) c.in-Err-judge.is
    (c.clear.ensures ∙ ap zeros c.scan.auto.index)
