-- `shift::headers::put_header` meets its contract: twelve bytes of the other, then three words.
use mathlib.Core.Path.{sym, ◌∙◌}
use native.Mathlib.Omega.{arith}
use lib.ListN.{take}
use lib.Seq.{length-take-le}
use Rattle.paper.proofs.bytes.Puts.{laid-fits}
use Rattle.shift.proofs.MadeHeaders.{header-short, header-roomless, header-put}
use Rattle.words.proofs.PutWords.{put_three}
use Rattle.shift.proofs.headers.put_header.Goals as goal

pub returns-then-a-lt12 : goal.returns-then-a-lt12
returns-then-a-lt12 c =
    let a = c.args in
    header-short a.order a.a.now a.types a.strings a.out.now c.if-a-lt12.true

pub returns-then-out-lt24 : goal.returns-then-out-lt24
returns-then-out-lt24 c =
    let a = c.args in
    header-roomless a.order a.a.now a.types a.strings a.out.now c.if-a-lt12.false c.if-out-lt24.true

pub slice_bounds-lay-end : goal.slice_bounds-lay-end
slice_bounds-lay-end c = sym (length-take-le 12 c.args.a.now c.if-a-lt12.false)

pub returns : goal.returns
returns c =
    let a = c.args in
    let long = c.if-a-lt12.false in
    let room = c.if-out-lt24.false in
    let twelve = length-take-le 12 a.a.now long in
    put_three a.order a.out.now (take 12 a.a.now) 0 _ _ _ (omega arith)
    (c.lay.ensures ∙ sym (laid-fits a.out.now 0 (take 12 a.a.now) (omega arith)))
    c.write.ensures (omega arith) c.write-2.ensures (omega arith) c.write-3.ensures (omega arith)
    ∙ header-put a.order a.a.now a.types a.strings a.out.now long room
