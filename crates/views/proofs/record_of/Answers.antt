-- `views::record_of` meets its contract.
use Prim.Native.Nat.{ℕ}
use mathlib.Core.Path.{ap, ◌∙◌}
use lib.ListN.{drop}
use Rattle.paper.proofs.bytes.Bytes.{part-rest}
use Rattle.views.proofs.Shows.{shown-held, holder-base, holder-own, part-place}
use Rattle.views.proofs.record_of.Goals as goal

pub returns-then-t-view : goal.returns-then-t-view
returns-then-t-view c =
    let a = c.args in
    shown-held (holder-base a.view a.t.0 _ _ c.if-t-view.true) c.part_in.ensures

pub returns : goal.returns
returns c =
    let from = c.start_in-from in
    let a = c.args in
    let b = a.b.now in
    shown-held (holder-own a.view a.t.0 _ _ c.if-t-view.false)
    (record {
      bytes = part-rest b from.result ∙ ap (λ (p : ℕ). drop p b) from.ensures.there;
      place = part-place a.b from.ensures.there;
    })
