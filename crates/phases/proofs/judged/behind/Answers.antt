-- `phases::judged::behind` meets its contract.
use Rattle.paper.proofs.bytes.Bytes.{slice-bytes}
use Rattle.paper.specs.rules.Answer.{report_as_paper}
use Rattle.phases.proofs.Judging.{behind-reference, behind-endless, behind-sixth}
use Rattle.phases.proofs.judged.behind.Goals as goal

pub returns-in-Ok : goal.returns-in-Ok
returns-in-Ok c =
    behind-sixth _ _ _ _ _ c.requires.0 c.requires.1 c.links.result c.links.ensures
    (slice-bytes c.args.base.now c.shared_slice_known-1.given)
    (slice-bytes c.args.b.now c.shared_slice_known-2-1.given)
    c.in-Ok.is c.sixth.ensures

pub returns-in-Err-Reference : goal.returns-in-Err-Reference
unfolding report_as_paper
returns-in-Err-Reference c = behind-reference _ _ _ _ _ c.requires.0 c.requires.1 c.links.result c.links.ensures (rw c.in-Err-Reference.field-0-is at c.in-Err-Reference.is) c.place_of.ensures

pub returns-in-Err-Endless : goal.returns-in-Err-Endless
unfolding report_as_paper
returns-in-Err-Endless c = behind-endless _ _ _ _ _ c.requires.0 c.requires.1 c.links.result c.links.ensures (rw c.in-Err-Endless.field-0-is at c.in-Err-Endless.is) c.place_of-in-Err-Endless.ensures
