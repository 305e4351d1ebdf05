-- `groups::front::part_end` meets its contract: whether the header has words for the part, its offset, its length.
use mathlib.Core.Path.{refl}
use native.Mathlib.Omega.{arith}
use Rattle.groups.proofs.Headers.{next-none, next-moved, next-odd, next-to}
use Rattle.groups.proofs.front.part_end.Goals as goal

pub returns-then-blob_word-at : goal.returns-then-blob_word-at
returns-then-blob_word-at c = next-none _ _ _ c.blob_word.ensures c.header_place-at.ensures c.if-blob_word-at.true

pub returns-then-blob_word-from : goal.returns-then-blob_word-from
returns-then-blob_word-from c = (refl, next-moved _ _ _ c.blob_word.ensures c.header_place-at.ensures c.if-blob_word-at.false c.blob_word-2.ensures c.if-blob_word-from.true)

pub returns-then-len-ne0 : goal.returns-then-len-ne0
returns-then-len-ne0 c = (refl, next-odd _ _ _ c.blob_word.ensures c.header_place-at.ensures c.if-blob_word-at.false c.blob_word-2.ensures c.if-blob_word-from.false c.blob_word-len.ensures c.if-len-ne0.true)

pub returns : goal.returns
returns c = next-to _ _ _ c.blob_word.ensures c.header_place-at.ensures c.if-blob_word-at.false c.blob_word-2.ensures c.if-blob_word-from.false c.blob_word-len.ensures c.if-len-ne0.false (omega arith)
