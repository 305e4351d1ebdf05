-- `naming::three_ok` meets its contract: the first that fails decides.
use mathlib.Core.Bool.{not}
use mathlib.Core.Path.{ap}
use Rattle.kindrows.specs.Codes.{role_of}
use Rattle.pairs.specs.Lean.{name_word_over}
use Rattle.rows.proofs.ByRole.{three-first, three-second, three_third}
use Rattle.naming.proofs.three_ok.Goals as goal

pub returns-then-not-word_ok : goal.returns-then-not-word_ok
returns-then-not-word_ok c =
    let a = c.args in
    three-first a.order (name_word_over a.base.now a.strings.now) a.bytes.now a.at.0 (role_of a.r0) (role_of a.r1)
    (role_of a.r2) c.word_ok.ensures (ap not c.if-not-word_ok.true)

pub returns-then-not-word_ok-2 : goal.returns-then-not-word_ok-2
returns-then-not-word_ok-2 c =
    let a = c.args in
    three-second a.order (name_word_over a.base.now a.strings.now) a.bytes.now a.at.0 (role_of a.r0) (role_of a.r1)
    (role_of a.r2) c.word_ok.ensures (ap not c.if-not-word_ok.false)
    c.word_ok-2.ensures (ap not c.if-not-word_ok-2.true)

pub returns : goal.returns
returns c =
    let a = c.args in
    three_third a.order (name_word_over a.base.now a.strings.now) a.bytes.now a.at.0 (role_of a.r0) (role_of a.r1)
    (role_of a.r2) c.word_ok.ensures (ap not c.if-not-word_ok.false)
    c.word_ok-2.ensures (ap not c.if-not-word_ok-2.false) c.word_ok-3.ensures
