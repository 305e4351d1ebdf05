-- `abi::named` meets its contract: its part, and whether there is none.
use mathlib.Core.Path.{sym, ◌∙◌}
use mathlib.Core.Bool.{cond}
use Rattle.abi.proofs.named.Goals as goal

pub returns-then-nameless : goal.returns-then-nameless
returns-then-nameless c =
    let p = c.part-part.ensures in
    let e = sym c.if-nameless.true ∙ c.nameless.ensures in
    λ i. record { number = cond (e i) 1 0; inner = 0; t = p.starts i; p = p.long i }

pub returns-else-nameless : goal.returns-else-nameless
returns-else-nameless c =
    let p = c.part-part.ensures in
    let e = sym c.if-nameless.false ∙ c.nameless.ensures in
    λ i. record { number = cond (e i) 1 0; inner = 0; t = p.starts i; p = p.long i }
