-- `views::word_of` meets its contract.
use native.Mathlib.Omega.{arith}
use Rattle.views.proofs.Shows.{word-part-of, word-above, word-unlisted, word_held, holder-base, holder-own}
use Rattle.views.proofs.word_of.Goals as goal

pub returns-then-t-view : goal.returns-then-t-view
returns-then-t-view c =
    let a = c.args in
    word-part-of _ _ _ _ (holder-base a.view a.t.0 _ _ c.if-t-view.true) c.part_in.ensures c.read.ensures

pub returns-then-n-k : goal.returns-then-n-k
returns-then-n-k c = let past = c.if-t-view.false in word-above _ _ _ _ (λ e. omega arith) c.if-n-k.true

pub returns-then-index-i : goal.returns-then-index-i
returns-then-index-i c = let past = c.if-t-view.false in word-unlisted _ _ _ _ (λ e. omega arith) c.if-n-k.false c.if-index-i.true

pub returns : goal.returns
returns c =
    let past = c.if-t-view.false in
    let a = c.args in
    word_held _ _ _ _ (λ e. omega arith) c.if-n-k.false c.if-index-i.false (holder-own a.view a.t.0 _ _ c.if-t-view.false)
    c.word_from.ensures
