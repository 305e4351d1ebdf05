-- `words::write` meets its contract: outside the slice nothing is stored, inside four bytes are.
use mathlib.Core.Path.{sym, ap, ◌∙◌}
use native.Mathlib.Omega.{arith}
use lib.ListN.{length-set}
use Rattle.paper.specs.declared.Order.TheVariants.{LowFirst}
use Rattle.paper.specs.rules.Word.{word_bytes}
use Rattle.paper.proofs.bytes.Words.{put_word-outside, put_word-low}
use Rattle.words.proofs.Orders.{ordered-write, put_word-bytes}
use Rattle.words.proofs.write.Goals as goal

pub returns-then-b-p : goal.returns-then-b-p
returns-then-b-p c = let a = c.args in sym (put_word-outside a.order a.b.now a.at.0 a.w c.if-b-p.true)

pub bounds-b-p-2 : goal.bounds-b-p-2
bounds-b-p-2 c = simp length-set (omega arith)

pub bounds-b-p-3 : goal.bounds-b-p-3
bounds-b-p-3 c = simp length-set (omega arith)

pub bounds-b-p-4 : goal.bounds-b-p-4
bounds-b-p-4 c = simp length-set (omega arith)

pub returns : goal.returns
returns c =
    let a = c.args in
    put_word-low a.b.now a.at.0 c.ordered-v.result (omega arith)
    ∙ put_word-bytes a.b.now a.at.0 LowFirst a.order c.ordered-v.result a.w (ap (word_bytes LowFirst) c.ordered-v.ensures ∙ ordered-write a.order a.w (omega arith))
