-- `heads::words_ok` meets its contract: each test that fails decides.
use mathlib.Core.Bool.{not}
use mathlib.Core.Path.{ap}
use Rattle.heads.proofs.HeadSteps.{head-spare, head-flag, head-vlen, head-third}
use Rattle.heads.proofs.words_ok.Goals as goal

pub returns-then-not-spare_zero : goal.returns-then-not-spare_zero
returns-then-not-spare_zero c =
    let a = c.args in
    head-spare a.info a.third c.kind_of-kind.ensures c.spare_zero.ensures (ap not c.if-not-spare_zero.true)

pub returns-then-not-flag_allowed : goal.returns-then-not-flag_allowed
returns-then-not-flag_allowed c =
    let a = c.args in
    head-flag a.info a.third c.kind_of-kind.ensures c.spare_zero.ensures (ap not c.if-not-spare_zero.false)
    c.flag_of.ensures c.flag_allowed.ensures (ap not c.if-not-flag_allowed.true)

pub returns-then-not-vlen_allowed : goal.returns-then-not-vlen_allowed
returns-then-not-vlen_allowed c =
    let a = c.args in
    head-vlen a.info a.third c.kind_of-kind.ensures c.spare_zero.ensures (ap not c.if-not-spare_zero.false)
    c.flag_of.ensures c.flag_allowed.ensures (ap not c.if-not-flag_allowed.false)
    c.vlen_of.ensures c.vlen_allowed.ensures (ap not c.if-not-vlen_allowed.true)

pub returns : goal.returns
returns c =
    let a = c.args in
    head-third a.info a.third c.kind_of-kind.ensures c.spare_zero.ensures (ap not c.if-not-spare_zero.false)
    c.flag_of.ensures c.flag_allowed.ensures (ap not c.if-not-flag_allowed.false)
    c.vlen_of.ensures c.vlen_allowed.ensures (ap not c.if-not-vlen_allowed.false) c.third_allowed.ensures
