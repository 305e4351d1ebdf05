-- `views::part_in` meets its contract.
use Prim.Native.Nat.{ℕ}
use mathlib.Core.Path.{ap, ◌∙◌}
use lib.ListN.{drop}
use Rattle.paper.proofs.bytes.Bytes.{part-rest}
use Rattle.views.proofs.Shows.{part-place}
use Rattle.views.proofs.part_in.Goals as goal

pub returns : goal.returns
returns c =
    let from = c.start_in-from in
    let s = c.args.s in
    record {
      bytes = part-rest s.now from.result ∙ ap (λ (p : ℕ). drop p s.now) from.ensures.there;
      place = part-place s from.ensures.there;
    }
