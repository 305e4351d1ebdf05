-- `links::whole::bad` meets its contract: phase 4 says of the types passed nothing.
use mathlib.Core.Bool.{not}
use mathlib.Core.Path.{ap}
use mathlib.Core.Path.{refl, sym, ◌∙◌}
use Rattle.links.proofs.Linking.{refs-due, over-all}
use Rattle.paper.proofs.gates.Looks.{looking-start, looking-done, looking-says, looking-next}
use Rattle.views.proofs.Shows.{table_by-count}
use Rattle.links.proofs.whole.bad.Goals as goal

pub loop-k-init : goal.loop-k-init
loop-k-init c = looking-start _ _ _

pub returns-then-not-refs_ok : goal.returns-then-not-refs_ok
returns-then-not-refs_ok c =
    let due = refs-due _ _ c.record_of-bytes.ensures.shows c.refs_ok.ensures (ap not c.if-not-refs_ok.true) in
    looking-says c.loop-k.invariant c.loop-k-test.true due refl ∙ over-all _ (sym (table_by-count _ _ _ _))

pub loop-k-preserved : goal.loop-k-preserved
loop-k-preserved c =
    let due = refs-due _ _ c.record_of-bytes.ensures.shows c.refs_ok.ensures (ap not c.if-not-refs_ok.false) in
    looking-next c.loop-k.invariant c.loop-k-test.true due refl

pub returns : goal.returns
returns c = looking-done c.loop-k.invariant c.loop-k-test.false ∙ over-all _ (sym (table_by-count _ _ _ _))
