-- `groups::front::read_front` meets its contract: 43, then each part behind the one before, then the sum.
use Rattle.std.specs.Prelude.{Err}
use mathlib.Core.Bool.{not}
use mathlib.Core.Path.{ap, ◌∙◌}
use Rattle.exts.specs.declared.Fault.{Fault}
use Rattle.groups.proofs.Headers.{front-head, front-first, front-second, front-third, front-unfilled, front-in}
use Rattle.paper.proofs.basics.Exits.{exit-same}
use Rattle.groups.proofs.front.read_front.Goals as goal

pub returns-then-not-header_ok : goal.returns-then-not-header_ok
returns-then-not-header_ok c = front-head _ c.header_ok.ensures (ap not c.if-not-header_ok.true)

pub returns-in_err-first : goal.returns-in_err-first
returns-in_err-first c =
    let bad = c.in_err-first.ensures in
    rw (exit-same c.from_residual.result c.from_residual.ensures.1 ∙ ap (λ (f : Fault). Err f) bad.0)
    (front-first _ c.header_ok.ensures (ap not c.if-not-header_ok.false) bad.1)

pub returns-in_err-second : goal.returns-in_err-second
returns-in_err-second c =
    let bad = c.in_err-second.ensures in
    rw (exit-same c.from_residual-in_err-second.result c.from_residual-in_err-second.ensures.1 ∙ ap (λ (f : Fault). Err f) bad.0)
    (front-second _ c.header_ok.ensures (ap not c.if-not-header_ok.false) c.in_ok-first.ensures bad.1)

pub returns-in_err-third : goal.returns-in_err-third
returns-in_err-third c =
    let bad = c.in_err-third.ensures in
    rw (exit-same c.from_residual-in_err-third.result c.from_residual-in_err-third.ensures.1 ∙ ap (λ (f : Fault). Err f) bad.0)
    (front-third _ c.header_ok.ensures (ap not c.if-not-header_ok.false) c.in_ok-first.ensures c.in_ok-second.ensures bad.1)

pub returns-then-end-s : goal.returns-then-end-s
returns-then-end-s c = front-unfilled _ c.header_ok.ensures (ap not c.if-not-header_ok.false) c.in_ok-first.ensures c.in_ok-second.ensures c.in_ok-third.ensures c.blob_word-start.ensures c.if-end-s.true

pub returns : goal.returns
returns c = front-in _ c.header_ok.ensures (ap not c.if-not-header_ok.false) c.in_ok-first.ensures c.in_ok-second.ensures c.in_ok-third.ensures c.blob_word-start.ensures c.if-end-s.false
