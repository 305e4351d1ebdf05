-- `layout::members::follows` meets its contract: 0 in a union, no fall in a struct.
use mathlib.Core.Path.{sym, ap, ◌∙◌}
use mathlib.Core.Bool.{Bool, cond}
use lib.Dec.{eqb, leb}
use Rattle.layout.proofs.MembersLeft.{zero-eqb}
use Rattle.layout.proofs.members.follows.Goals as goal

pub returns-then-union : goal.returns-then-union
returns-then-union c =
    let a = c.args in
    zero-eqb a.offset ∙ sym (ap (λ (u : Bool). cond u (eqb 0 a.offset) (leb a.before a.offset)) c.if-union.true)

pub returns : goal.returns
returns c =
    let a = c.args in
    sym (ap (λ (u : Bool). cond u (eqb 0 a.offset) (leb a.before a.offset)) c.if-union.false)
