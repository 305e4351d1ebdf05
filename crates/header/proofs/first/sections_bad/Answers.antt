-- `header::first::sections_bad` meets its contract: report 4.
use Rattle.header.proofs.Headers.{sections_bad-offset, sections_bad-multiple, sections_bad-apart, sections_bad-sum}
use Rattle.header.proofs.first.sections_bad.Goals as goal

pub returns-then-blob_word-ne0 : goal.returns-then-blob_word-ne0
returns-then-blob_word-ne0 c = sections_bad-offset _ c.blob_word.ensures c.if-blob_word-ne0.true

pub returns-then-type_len-ne0 : goal.returns-then-type_len-ne0
returns-then-type_len-ne0 c = sections_bad-multiple _ c.blob_word-type_len.ensures c.if-type_len-ne0.true

pub returns-then-blob_word-type_len : goal.returns-then-blob_word-type_len
returns-then-blob_word-type_len c = sections_bad-apart _ c.blob_word-2.ensures c.blob_word-type_len.ensures c.if-blob_word-type_len.true

pub returns : goal.returns
returns c =
    sections_bad-sum _
    c.blob_word.ensures c.blob_word-type_len.ensures c.blob_word-2.ensures c.blob_word-str_len.ensures
    c.if-blob_word-ne0.false c.if-type_len-ne0.false c.if-blob_word-type_len.false
