-- `naming::tail_names_ok` meets its contract: nothing is asked of plain numbers; else the words that stand once, then the entries.
use mathlib.Core.Bool.{not}
use mathlib.Core.Path.{ap}
use native.Mathlib.Omega.{arith}
use mathlib.Core.Path.{◌≡◌, refl, ◌∙◌}
use Rattle.paper.specs.rules.Kind.{row_of}
use Rattle.rows.proofs.RoleCodes.{once-few}
use Rattle.pairs.specs.Lean.{name_word_over}
use Rattle.paper.specs.terms.Reading.{roled}
use Rattle.rows.proofs.ByRole.{three-codes, tail-numbers, tail-once, tail-entries}
use Rattle.naming.proofs.tail_names_ok.Goals as goal

-- the three words behind the head are those that stand once
once : (c : goal.Then-not-three_ok) → let a = c.args in
    c.three_ok.result ≡ roled a.order (name_word_over a.base.now a.strings.now) a.bytes.now 12 (row_of c.kind_of-kind.result).once
once c =
    let a = c.args in
    c.three_ok.ensures
    ∙ three-codes a.order (name_word_over a.base.now a.strings.now) a.bytes.now (λ w. refl) 12 (row_of c.kind_of-kind.result).once (once-few c.kind_of-kind.result)
    c.once_role.ensures c.once_role-2.ensures c.once_role-3.ensures

-- the three words behind the head are those that stand once
once-2 : (c : goal.After-entries_ok) → let a = c.args in
    c.three_ok.result ≡ roled a.order (name_word_over a.base.now a.strings.now) a.bytes.now 12 (row_of c.kind_of-kind.result).once
once-2 c =
    let a = c.args in
    c.three_ok.ensures
    ∙ three-codes a.order (name_word_over a.base.now a.strings.now) a.bytes.now (λ w. refl) 12 (row_of c.kind_of-kind.result).once (once-few c.kind_of-kind.result)
    c.once_role.ensures c.once_role-2.ensures c.once_role-3.ensures

pub returns-then-only_numbers : goal.returns-then-only_numbers
returns-then-only_numbers c =
    let a = c.args in
    tail-numbers a.order (name_word_over a.base.now a.strings.now) a.bytes.now (λ w. refl) a.info
    c.kind_of-kind.ensures c.only_numbers.ensures c.if-only_numbers.true

pub returns-then-not-three_ok : goal.returns-then-not-three_ok
returns-then-not-three_ok c =
    let a = c.args in
    tail-once a.order (name_word_over a.base.now a.strings.now) a.bytes.now a.info c.kind_of-kind.ensures (once c) (ap not c.if-not-three_ok.true)

pub overflow_mul-from : goal.overflow_mul-from
overflow_mul-from c = omega (arith, c.once_words.ensures, once-few c.kind_of-kind.result)

pub overflow_add-from : goal.overflow_add-from
overflow_add-from c = omega (arith, c.once_words.ensures, once-few c.kind_of-kind.result)

pub entries_ok-requires : goal.entries_ok-requires
entries_ok-requires c = (omega (arith, c.once_words.ensures, once-few c.kind_of-kind.result), omega (arith, c.vlen_of.ensures))

pub returns : goal.returns
returns c =
    let a = c.args in
    tail-entries a.order (name_word_over a.base.now a.strings.now) a.bytes.now a.info c.kind_of-kind.ensures (once-2 c) (ap not c.if-not-three_ok.false)
    c.once_words.ensures c.vlen_of.ensures c.entries_ok.ensures
