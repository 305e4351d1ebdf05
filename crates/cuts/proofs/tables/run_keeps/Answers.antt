-- `cuts::tables::run_keeps` meets its contract: what is left of the records keeps to its side where all do.
use mathlib.Core.Bool.{not}
use Prim.Native.Nat.{◌+◌}
use native.Mathlib.Omega.{arith}
use mathlib.Core.List.{[]}
use mathlib.Core.Path.{◌≡◌, refl, ap, ◌∙◌}
use Rattle.cuts.proofs.Runs.{running-done, running-bad, running-next}
use Rattle.cuts.specs.Sides.{keeps_to}
use Rattle.paper.specs.rules.Table.{every_word, record_at}
use Rattle.views.proofs.Shows.{table_by-count}
use Rattle.views.specs.Shown.{table_by}
use Rattle.cuts.proofs.tables.run_keeps.Goals as goal

-- the record that is asked is that of the next type
here : (c : goal.Then-not-keeps) → let a = c.args in
    c.keeps.result ≡ every_word (keeps_to a.cut) (record_at (table_by [] a.b.now a.index.now a.view) (c.loop-k.k + 1))
here c =
    let a = c.args in
    c.keeps.ensures ∙ ap (every_word (keeps_to a.cut)) c.record_of.ensures.shows

-- the record that is asked is that of the next type
here-2 : (c : goal.Else-not-keeps) → let a = c.args in
    c.keeps.result ≡ every_word (keeps_to a.cut) (record_at (table_by [] a.b.now a.index.now a.view) (c.loop-k.k + 1))
here-2 c =
    let a = c.args in
    c.keeps.ensures ∙ ap (every_word (keeps_to a.cut)) c.record_of.ensures.shows

pub slice_bounds-none-end : goal.slice_bounds-none-end
slice_bounds-none-end c = refl

pub loop-k-init : goal.loop-k-init
loop-k-init c =
    let s = c.before.before.before in
    let a = s.args in
    record {
      low = omega arith;
      high = s.requires.0;
      inside = omega (arith, s.requires.1, table_by-count [] a.b.now a.index.now a.view);
      rest = refl;
    }

pub returns-then-not-keeps : goal.returns-then-not-keeps
returns-then-not-keeps c = running-bad c.loop-k.invariant c.loop-k-test.true (here c) (ap not c.if-not-keeps.true)

pub loop-k-preserved : goal.loop-k-preserved
loop-k-preserved c = running-next c.loop-k.invariant c.loop-k-test.true (here-2 c) (ap not c.if-not-keeps.false)

pub returns : goal.returns
returns c = running-done c.loop-k.invariant c.loop-k-test.false
