-- `walk::walk` meets its contract: what is left of the walk, from where it stands, finds what the walk finds.
use Rattle.std.specs.Prelude.{Result}
use Rattle.scan.specs.declared.walk.Torn.{Torn}
use Rattle.paper.specs.declared.Place.{Place}
use Prim.Native.Nat.{◌+◌, ◌-◌}
use mathlib.Core.Path.{◌≡◌, sym, ◌∙◌}
use native.Mathlib.Omega.{arith}
use Rattle.paper.specs.rules.Answer.{report_as_paper}
use Rattle.scan.specs.Phase2.{walk_finds}
use Rattle.scan.proofs.Progress.{Told, standing-start, standing-done, standing-full, standing-step}
use Rattle.scan.proofs.walk.walk.Goals as goal

-- what the step of a turn tells
told : (c : goal.In-Ok) {s : Result Place Torn} → let a = c.args in
    c.behind_of.result ≡ s → Told (walk_finds a.first a.b.now) a.b.now (24 + a.len) c.loop-at.count c.loop-at.at s
told c e =
    let l = c.loop-at in
    standing-step _ _ l.count l.at l.invariant c.loop-at-test.true c.if-count-eq-TYPE_LIMIT.false (sym c.behind_of.ensures ∙ e)

-- what the step of a turn tells
told-2 : (c : goal.In-Err-Cut) {s : Result Place Torn} → let a = c.args in
    c.behind_of.result ≡ s → Told (walk_finds a.first a.b.now) a.b.now (24 + a.len) c.loop-at.count c.loop-at.at s
told-2 c e =
    let l = c.loop-at in
    standing-step _ _ l.count l.at l.invariant c.loop-at-test.true c.if-count-eq-TYPE_LIMIT.false (sym c.behind_of.ensures ∙ e)

-- what the step of a turn tells
told-3 : (c : goal.In-Err-Unknown) {s : Result Place Torn} → let a = c.args in
    c.behind_of.result ≡ s → Told (walk_finds a.first a.b.now) a.b.now (24 + a.len) c.loop-at.count c.loop-at.at s
told-3 c e =
    let l = c.loop-at in
    standing-step _ _ l.count l.at l.invariant c.loop-at-test.true c.if-count-eq-TYPE_LIMIT.false (sym c.behind_of.ensures ∙ e)

pub loop-at-init : goal.loop-at-init
loop-at-init c = standing-start _ _ c.args.len c.requires

pub returns-then-count-eq-TYPE_LIMIT : goal.returns-then-count-eq-TYPE_LIMIT
unfolding report_as_paper
returns-then-count-eq-TYPE_LIMIT c =
    let l = c.loop-at in
    sym (standing-full _ _ l.count l.at l.invariant c.loop-at-test.true c.if-count-eq-TYPE_LIMIT.true)

pub loop-at-smaller : goal.loop-at-smaller
loop-at-smaller c =
    let t = told c c.in-Ok.is in
    omega (arith, t.0, t.1.within)

pub loop-at-preserved : goal.loop-at-preserved
loop-at-preserved c = (told c c.in-Ok.is).1

pub returns-in-Err-Cut : goal.returns-in-Err-Cut
unfolding report_as_paper
returns-in-Err-Cut c = sym (told-2 c (rw c.in-Err-Cut.field-0-is at c.in-Err-Cut.is))

pub returns-in-Err-Unknown : goal.returns-in-Err-Unknown
unfolding report_as_paper
returns-in-Err-Unknown c = sym (told-3 c (rw c.in-Err-Unknown.field-0-is at c.in-Err-Unknown.is))

pub returns : goal.returns
returns c = let l = c.loop-at in sym (standing-done _ _ l.count l.at l.invariant c.loop-at-test.false)
