-- `list::bodies::gather_body` meets its contract: field by field, what is laid is the front of the body.
use Prim.Native.Nat.{◌+◌, ◌-◌, ◌*◌, ◌/◌, ◌%◌}
use mathlib.Core.Path.{◌≡◌}
use native.Mathlib.Omega.{arith}
use Rattle.list.proofs.Gathering.{gathering-start, gathering-next, gathering-done}
use Rattle.list.proofs.bodies.gather_body.Goals as goal

pub loop-k-init : goal.loop-k-init
loop-k-init c =
    let a = c.args in
    gathering-start a.s.now a.at a.len a.out.now a.to c.requires.1 c.requires.2 (omega arith)

pub loop-k-preserved : goal.loop-k-preserved
loop-k-preserved c =
    let from : 65535 * c.loop-k.k + 65535 ≡ 65535 * (c.loop-k.k + 1) = omega arith in
    let p : c.args.at + 65538 * c.loop-k.k + 3 + 65535 ≡ c.args.at + 65538 * (c.loop-k.k + 1) = omega arith in
    rw (from, p) at (gathering-next c.loop-k.invariant (omega arith) c.lay.ensures)

pub returns : goal.returns
returns c =
    let all : c.loop-k.k ≡ c.args.len / 65535 = omega arith in
    let rest : c.args.len % 65535 ≡ c.args.len - 65535 * (c.args.len / 65535) = omega arith in
    gathering-done (rw all at c.loop-k.invariant) (omega arith) (rw rest at c.lay-2.ensures)
