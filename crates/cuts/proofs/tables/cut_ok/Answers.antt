-- `cuts::tables::cut_ok` meets its contract: the counts, the strings, and the records on either side.
use mathlib.Core.Bool.{not}
use Prim.Native.Nat.{ℕ}
use mathlib.Core.List.{List}
use mathlib.Core.Path.{◌≡◌, ap, ◌∙◌}
use Rattle.cuts.proofs.Runs.{cut-many, cut-unended, cut-crossed, cut-through}
use Rattle.cuts.specs.Sides.{ends_at}
use Rattle.paper.specs.rules.Header.{strings_in}
use Rattle.cuts.proofs.tables.cut_ok.Goals as goal

-- what is asked of the strings
strings : (c : goal.Then-not-strings_end) → let a = c.args in
    c.strings_end.result ≡ ends_at (strings_in a.b.now) a.strings.0
strings c =
    let a = c.args in
    c.strings_end.ensures ∙ ap (λ (s : List ℕ). ends_at s a.strings.0) c.strings_in.ensures.bytes

-- what is asked of the strings
strings-2 : (c : goal.Then-not-run_keeps) → let a = c.args in
    c.strings_end.result ≡ ends_at (strings_in a.b.now) a.strings.0
strings-2 c =
    let a = c.args in
    c.strings_end.ensures ∙ ap (λ (s : List ℕ). ends_at s a.strings.0) c.strings_in.ensures.bytes

-- what is asked of the strings
strings-3 : (c : goal.After-run_keeps-2) → let a = c.args in
    c.strings_end.result ≡ ends_at (strings_in a.b.now) a.strings.0
strings-3 c =
    let a = c.args in
    c.strings_end.ensures ∙ ap (λ (s : List ℕ). ends_at s a.strings.0) c.strings_in.ensures.bytes

pub returns-then-n-last : goal.returns-then-n-last
returns-then-n-last c =
    let a = c.args in
    cut-many a.b.now a.index.now a.view a.types.0 a.strings.0 c.if-n-last.true

pub returns-then-not-strings_end : goal.returns-then-not-strings_end
returns-then-not-strings_end c =
    let a = c.args in
    cut-unended a.b.now a.index.now a.view a.types.0 a.strings.0 c.if-n-last.false (strings c) (ap not c.if-not-strings_end.true)

pub returns-then-not-run_keeps : goal.returns-then-not-run_keeps
returns-then-not-run_keeps c =
    let a = c.args in
    cut-crossed a.b.now a.index.now a.view a.types.0 a.strings.0 c.if-n-last.false (strings-2 c) (ap not c.if-not-strings_end.false)
    c.run_keeps.ensures (ap not c.if-not-run_keeps.true)

pub returns : goal.returns
returns c =
    let a = c.args in
    cut-through a.b.now a.index.now a.view a.types.0 a.strings.0 c.if-n-last.false (strings-3 c) (ap not c.if-not-strings_end.false)
    c.run_keeps.ensures (ap not c.if-not-run_keeps.false) c.run_keeps-2.ensures
