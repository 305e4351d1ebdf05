-- `cuts::records::tail_keeps` meets its contract: the words that stand once, then the entries.
use mathlib.Core.Bool.{not}
use mathlib.Core.Path.{ap}
use native.Mathlib.Omega.{arith}
use mathlib.Core.Path.{◌≡◌, ◌∙◌}
use Rattle.cuts.proofs.Roles.{number-passes}
use Rattle.cuts.specs.Sides.{keeps_to}
use Rattle.paper.specs.rules.Kind.{row_of}
use Rattle.paper.specs.terms.Reading.{roled}
use Rattle.rows.proofs.ByRole.{three-codes, tail-once, tail-entries}
use Rattle.rows.proofs.RoleCodes.{once-few}
use Rattle.cuts.proofs.records.tail_keeps.Goals as goal

-- the three words behind the head are those that stand once
once : (c : goal.Then-not-three_keep) → let a = c.args in
    c.three_keep.result ≡ roled a.order (keeps_to a.cut) a.bytes.now 12 (row_of c.kind_of-kind.result).once
once c =
    let a = c.args in
    c.three_keep.ensures
    ∙ three-codes a.order (keeps_to a.cut) a.bytes.now (number-passes a.cut) 12 (row_of c.kind_of-kind.result).once (once-few c.kind_of-kind.result)
    c.once_role.ensures c.once_role-2.ensures c.once_role-3.ensures

-- the three words behind the head are those that stand once
once-2 : (c : goal.After-entries_keep) → let a = c.args in
    c.three_keep.result ≡ roled a.order (keeps_to a.cut) a.bytes.now 12 (row_of c.kind_of-kind.result).once
once-2 c =
    let a = c.args in
    c.three_keep.ensures
    ∙ three-codes a.order (keeps_to a.cut) a.bytes.now (number-passes a.cut) 12 (row_of c.kind_of-kind.result).once (once-few c.kind_of-kind.result)
    c.once_role.ensures c.once_role-2.ensures c.once_role-3.ensures

pub returns-then-not-three_keep : goal.returns-then-not-three_keep
returns-then-not-three_keep c =
    let a = c.args in
    tail-once a.order (keeps_to a.cut) a.bytes.now a.info c.kind_of-kind.ensures (once c) (ap not c.if-not-three_keep.true)

pub overflow_mul-from : goal.overflow_mul-from
overflow_mul-from c = omega (arith, c.once_words.ensures, once-few c.kind_of-kind.result)

pub overflow_add-from : goal.overflow_add-from
overflow_add-from c = omega (arith, c.once_words.ensures, once-few c.kind_of-kind.result)

pub entries_keep-requires : goal.entries_keep-requires
entries_keep-requires c = (omega (arith, c.once_words.ensures, once-few c.kind_of-kind.result), omega (arith, c.vlen_of.ensures))

pub returns : goal.returns
returns c =
    let a = c.args in
    tail-entries a.order (keeps_to a.cut) a.bytes.now a.info c.kind_of-kind.ensures (once-2 c) (ap not c.if-not-three_keep.false)
    c.once_words.ensures c.vlen_of.ensures c.entries_keep.ensures
