-- `layout::sized::covers` meets its contract: an answer for each case of the size question.
use native.Mathlib.Omega.{arith}
use Rattle.layout.specs.Told.{recalled}
use Rattle.layout.proofs.SizesTold.{covers-told}
use Rattle.layout.proofs.sized.covers.Goals as goal

pub returns-in-Exact : goal.returns-in-Exact
returns-in-Exact c =
    covers-told (recalled c.args.base.now c.args.b.now c.args.index.now c.args.view c.args.memo.now) c.args.t.0
    c.in-Exact.is c.size_of.ensures c.args.size (omega arith)

pub returns-in-NoSize : goal.returns-in-NoSize
returns-in-NoSize c =
    covers-told (recalled c.args.base.now c.args.b.now c.args.index.now c.args.view c.args.memo.now) c.args.t.0
    c.in-NoSize.is c.size_of.ensures c.args.size (omega arith)

pub returns-in-Overflow : goal.returns-in-Overflow
returns-in-Overflow c =
    covers-told (recalled c.args.base.now c.args.b.now c.args.index.now c.args.view c.args.memo.now) c.args.t.0
    c.in-Overflow.is c.size_of.ensures c.args.size (omega arith)

pub returns-in-Lost : goal.returns-in-Lost
returns-in-Lost c =
    covers-told (recalled c.args.base.now c.args.b.now c.args.index.now c.args.view c.args.memo.now) c.args.t.0
    c.in-Lost.is c.size_of.ensures c.args.size (omega arith)

pub returns-in-TooFar : goal.returns-in-TooFar
returns-in-TooFar c =
    covers-told (recalled c.args.base.now c.args.b.now c.args.index.now c.args.view c.args.memo.now) c.args.t.0
    c.in-TooFar.is c.size_of.ensures c.args.size (omega arith)
