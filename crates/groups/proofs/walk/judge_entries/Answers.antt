-- `groups::walk::judge_entries` meets its contract: what is left of the records says what all of them say.
use Prim.Native.Nat.{◌+◌, ◌*◌}
use native.Mathlib.Omega.{arith}
use mathlib.Core.List.{[]}
use mathlib.Core.Path.{◌≡◌, ap}
use Rattle.groups.specs.Walking.{entries_fault}
use Rattle.views.specs.Shown.{table_by}
use Rattle.groups.proofs.Walks.{entering-done, entering-bad, entering-next}
use Rattle.paper.proofs.basics.Exits.{exit-same}
use Rattle.groups.proofs.walk.judge_entries.Goals as goal

pub loop-i-init : goal.loop-i-init
loop-i-init c =
    let first : c.args.at ≡ c.args.at + 0 * c.args.size = omega arith in
    let a = c.args in (
      a.count,
      omega arith,
      record {
        rest = ap (entries_fault (table_by [] a.b.now a.index.now a.view) a.strings a.s.now a.sort a.size a.count) first;
        near = omega (arith, c.requires);
      },
    )

pub returns-in_err-judge_entry : goal.returns-in_err-judge_entry
returns-in_err-judge_entry c =
    rw (exit-same c.from_residual.result c.from_residual.ensures.1)
    (entering-bad c.loop-i.invariant.2 (omega arith) c.judge_entry.ensures _ c.in_err-judge_entry.was)

pub loop-i-preserved : goal.loop-i-preserved
loop-i-preserved c =
    let next : c.args.at + c.loop-i.i * c.args.size + c.args.size ≡ c.args.at + (c.loop-i.i + 1) * c.args.size = omega arith in
    (_, omega arith, rw next at (entering-next c.loop-i.invariant.2 (omega arith) c.judge_entry.ensures c.in_ok-judge_entry.was))

pub returns : goal.returns
returns c = entering-done c.loop-i.invariant.2 (omega arith)
