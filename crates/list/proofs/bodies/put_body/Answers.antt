-- `list::bodies::put_body` meets its contract: field by field, what is done and what is left are the body's fields.
use Prim.Native.Nat.{◌+◌, ◌*◌, ◌/◌}
use mathlib.Core.Path.{◌≡◌}
use native.Mathlib.Omega.{arith}
use lib.ListN.{length, drop, length-drop}
use lib.Seq.{length-take-le}
use Rattle.list.proofs.Fielding.{fielding-start, fielding-fits, fielding-next, fielding-last, fielding-done}
use Rattle.list.proofs.bodies.put_body.Goals as goal

pub loop-k-init : goal.loop-k-init
loop-k-init c =
    let a = c.args in
    fielding-start a.tag a.body.now a.out.now a.at c.requires.1 (omega arith)

pub put_field-requires : goal.put_field-requires
put_field-requires c =
    let d = length-drop (65535 * c.loop-k.k) c.args.body.now in
    let t = length-take-le 65535 (drop (65535 * c.loop-k.k) c.args.body.now) (omega arith) in
    (omega arith, omega (arith, fielding-fits c.loop-k.invariant (omega arith)))

pub loop-k-preserved : goal.loop-k-preserved
loop-k-preserved c =
    let from : 65535 * c.loop-k.k + 65535 ≡ 65535 * (c.loop-k.k + 1) = omega arith in
    let p : c.args.at + 65538 * c.loop-k.k + 3 + 65535 ≡ c.args.at + 65538 * (c.loop-k.k + 1) = omega arith in
    rw (from, p) at (fielding-next c.loop-k.invariant (omega arith) c.put_field.ensures)

pub put_field-requires-2 : goal.put_field-requires-2
put_field-requires-2 c =
    let all : c.loop-k.k ≡ length c.args.body.now / 65535 = omega arith in
    (omega arith, omega (arith, fielding-last (rw all at c.loop-k.invariant) (omega arith)))

pub returns : goal.returns
returns c =
    let all : c.loop-k.k ≡ length c.args.body.now / 65535 = omega arith in
    fielding-done (rw all at c.loop-k.invariant) (omega arith) c.put_field-2.ensures
