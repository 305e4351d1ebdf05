-- `recall::codes::element_code` meets its contract.
use Rattle.views.specs.Shown.{table_by}
use Rattle.recall.specs.Recall.{size_told}
use Rattle.recall.proofs.Tellings.{code-small, code-large, code-none, code-over, code-lost, code-far}
use Rattle.recall.proofs.codes.element_code.Goals as goal

pub returns-then-s-le-HALF_SIZE : goal.returns-then-s-le-HALF_SIZE
returns-then-s-le-HALF_SIZE c =
    let a = c.args in
    let s = c.size_told in
    code-small s.result (size_told a.memo.now (table_by a.base.now a.b.now a.index.now a.view) a.t.0) s.ensures
    c.in-Exact.is c.if-s-le-HALF_SIZE.true

pub returns-else-s-le-HALF_SIZE : goal.returns-else-s-le-HALF_SIZE
returns-else-s-le-HALF_SIZE c =
    let a = c.args in
    let s = c.size_told in
    code-large s.result (size_told a.memo.now (table_by a.base.now a.b.now a.index.now a.view) a.t.0) s.ensures
    c.in-Exact.is c.if-s-le-HALF_SIZE.false

pub returns-in-NoSize : goal.returns-in-NoSize
returns-in-NoSize c =
    let a = c.args in
    let s = c.size_told in
    code-none s.result (size_told a.memo.now (table_by a.base.now a.b.now a.index.now a.view) a.t.0) s.ensures
    c.in-NoSize.is

pub returns-in-Overflow : goal.returns-in-Overflow
returns-in-Overflow c =
    let a = c.args in
    let s = c.size_told in
    code-over s.result (size_told a.memo.now (table_by a.base.now a.b.now a.index.now a.view) a.t.0) s.ensures
    c.in-Overflow.is

pub returns-in-Lost : goal.returns-in-Lost
returns-in-Lost c =
    let a = c.args in
    let s = c.size_told in
    code-lost s.result (size_told a.memo.now (table_by a.base.now a.b.now a.index.now a.view) a.t.0) s.ensures
    c.in-Lost.is

pub returns-in-TooFar : goal.returns-in-TooFar
returns-in-TooFar c =
    let a = c.args in
    let s = c.size_told in
    code-far s.result (size_told a.memo.now (table_by a.base.now a.b.now a.index.now a.view) a.t.0) s.ensures
    c.in-TooFar.is
