-- `sizes::shown::step_in` meets its contract: a case for each rule, and the words that it reads.
use Prim.Native.Nat.{ℕ}
use mathlib.Core.Path.{◌≡◌, refl, ap, ap₂}
use mathlib.Core.List.{List}
use Rattle.paper.specs.rules.Size.{Step, is, many_of, step_by, step_in}
use Rattle.paper.specs.rules.Word.{word_at}
use Rattle.kindrows.specs.Codes.{size_rule_of}
use Rattle.sizes.proofs.SizeSteps.{size_rule_of-other}
use Rattle.sizes.proofs.TableSizes.{step_in-rule}
use Rattle.views.proofs.Shows.{bytes_by-record}
use Rattle.views.specs.Shown.{bytes_by, table_by}
use Rattle.sizes.proofs.shown.step_in.Goals as goal

-- the bytes that the record begins
abbrev bytes : goal.In-1 → List ℕ
bytes c =
    let a = c.before.before.before.before.before.args in
    bytes_by a.base.now a.b.now a.index.now a.view a.t.0

-- what its words say by the rule is what it says
told : (c : goal.In-1) {x : Step}
    → let a = c.args in
    x ≡ step_by (size_rule_of c.size_rule-rule.result) (word_at a.view.order (bytes c) 8) (word_at a.view.order (bytes c) 12) (word_at a.view.order (bytes c) 20)
    → x ≡ step_in (table_by a.base.now a.b.now a.index.now a.view) a.t.0
told c says =
    let a = c.args in
    step_in-rule _ a.t.0 a.view.order (bytes c)
    (bytes_by-record a.base.now a.b.now a.index.now a.view a.t.0) c.kind_at.ensures c.size_rule-rule.ensures says

-- the bytes that the record begins
abbrev bytes-2 : goal.After-word_of → List ℕ
bytes-2 c =
    let a = c.before.before.before.before.before.args in
    bytes_by a.base.now a.b.now a.index.now a.view a.t.0

-- what its words say by the rule is what it says
told-2 : (c : goal.After-word_of) {x : Step}
    → let a = c.args in
    x ≡ step_by (size_rule_of c.size_rule-rule.result) (word_at a.view.order (bytes-2 c) 8) (word_at a.view.order (bytes-2 c) 12) (word_at a.view.order (bytes-2 c) 20)
    → x ≡ step_in (table_by a.base.now a.b.now a.index.now a.view) a.t.0
told-2 c says =
    let a = c.args in
    step_in-rule _ a.t.0 a.view.order (bytes-2 c)
    (bytes_by-record a.base.now a.b.now a.index.now a.view a.t.0) c.kind_at.ensures c.size_rule-rule.ensures says

-- the bytes that the record begins
abbrev bytes-3 : goal.After-word_of-element → List ℕ
bytes-3 c =
    let a = c.before.before.before.before.before.args in
    bytes_by a.base.now a.b.now a.index.now a.view a.t.0

-- what its words say by the rule is what it says
told-3 : (c : goal.After-word_of-element) {x : Step}
    → let a = c.args in
    x ≡ step_by (size_rule_of c.size_rule-rule.result) (word_at a.view.order (bytes-3 c) 8) (word_at a.view.order (bytes-3 c) 12) (word_at a.view.order (bytes-3 c) 20)
    → x ≡ step_in (table_by a.base.now a.b.now a.index.now a.view) a.t.0
told-3 c says =
    let a = c.args in
    step_in-rule _ a.t.0 a.view.order (bytes-3 c)
    (bytes_by-record a.base.now a.b.now a.index.now a.view a.t.0) c.kind_at.ensures c.size_rule-rule.ensures says

-- the bytes that the record begins
abbrev bytes-4 : goal.After-word_of-referent → List ℕ
bytes-4 c =
    let a = c.before.before.before.before.before.args in
    bytes_by a.base.now a.b.now a.index.now a.view a.t.0

-- what its words say by the rule is what it says
told-4 : (c : goal.After-word_of-referent) {x : Step}
    → let a = c.args in
    x ≡ step_by (size_rule_of c.size_rule-rule.result) (word_at a.view.order (bytes-4 c) 8) (word_at a.view.order (bytes-4 c) 12) (word_at a.view.order (bytes-4 c) 20)
    → x ≡ step_in (table_by a.base.now a.b.now a.index.now a.view) a.t.0
told-4 c says =
    let a = c.args in
    step_in-rule _ a.t.0 a.view.order (bytes-4 c)
    (bytes_by-record a.base.now a.b.now a.index.now a.view a.t.0) c.kind_at.ensures c.size_rule-rule.ensures says

-- the bytes that the record begins
abbrev bytes-5 : goal.In_default → List ℕ
bytes-5 c =
    let a = c.before.before.before.before.before.args in
    bytes_by a.base.now a.b.now a.index.now a.view a.t.0

-- what its words say by the rule is what it says
told-5 : (c : goal.In_default) {x : Step}
    → let a = c.args in
    x ≡ step_by (size_rule_of c.size_rule-rule.result) (word_at a.view.order (bytes-5 c) 8) (word_at a.view.order (bytes-5 c) 12) (word_at a.view.order (bytes-5 c) 20)
    → x ≡ step_in (table_by a.base.now a.b.now a.index.now a.view) a.t.0
told-5 c says =
    let a = c.args in
    step_in-rule _ a.t.0 a.view.order (bytes-5 c)
    (bytes_by-record a.base.now a.b.now a.index.now a.view a.t.0) c.kind_at.ensures c.size_rule-rule.ensures says

pub returns-in-1 : goal.returns-in-1
returns-in-1 c = told c (rw c.in-1.is refl)

pub returns-in-2 : goal.returns-in-2
returns-in-2 c = told-2 c (rw c.in-2.is (ap {B = Step} is c.word_of.ensures.says))

pub returns-in-3 : goal.returns-in-3
returns-in-3 c =
    told-3 c
    (rw c.in-3.is (ap₂ {C = Step} many_of c.word_of-count.ensures.says c.word_of-element.ensures.says))

pub returns-in-4 : goal.returns-in-4
returns-in-4 c = told-4 c (rw c.in-4.is (ap {B = Step} (many_of 1) c.word_of-referent.ensures.says))

pub returns-in_default : goal.returns-in_default
returns-in_default c = let r = c.in_default.in_default-own.rest in told-5 c (rw (size_rule_of-other _ r.0.0.0.1 r.0.0.1 r.0.1 r.1) refl)
