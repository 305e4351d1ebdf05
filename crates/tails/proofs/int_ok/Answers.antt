-- `tails::int_ok` meets its contract: each test that fails decides.
use mathlib.Core.Bool.{not}
use mathlib.Core.Path.{ap}
use Rattle.tails.proofs.TailKinds.{int-low, int-high, int-encoding, int-width, int-fits}
use Rattle.tails.proofs.int_ok.Goals as goal

pub returns-then-w-ne0 : goal.returns-then-w-ne0
returns-then-w-ne0 c = let a = c.args in int-low a.w a.size c.if-w-ne0.true

pub returns-then-w-ne0-2 : goal.returns-then-w-ne0-2
returns-then-w-ne0-2 c = let a = c.args in int-high a.w a.size c.if-w-ne0.false c.if-w-ne0-2.true

pub returns-then-not-encoding_ok : goal.returns-then-not-encoding_ok
returns-then-not-encoding_ok c =
    let a = c.args in
    int-encoding a.w a.size c.if-w-ne0.false c.if-w-ne0-2.false c.encoding_ok.ensures (ap not c.if-not-encoding_ok.true)

pub returns-then-w-lt1 : goal.returns-then-w-lt1
returns-then-w-lt1 c =
    let a = c.args in
    int-width a.w a.size c.if-w-ne0.false c.if-w-ne0-2.false c.encoding_ok.ensures (ap not c.if-not-encoding_ok.false) c.if-w-lt1.true

pub returns : goal.returns
returns c =
    let a = c.args in
    int-fits a.w a.size c.if-w-ne0.false c.if-w-ne0-2.false c.encoding_ok.ensures (ap not c.if-not-encoding_ok.false) c.if-w-lt1.false
