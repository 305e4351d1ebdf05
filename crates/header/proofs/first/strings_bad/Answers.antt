-- `header::first::strings_bad` meets its contract: report 5.
use mathlib.Core.Path.{◌∙◌}
use Rattle.header.proofs.Headers.{strings_bad-empty, strings_bad-first, strings_bad-last}
use Rattle.header.proofs.first.strings_bad.Goals as goal

pub returns-then-blob_word-eq0 : goal.returns-then-blob_word-eq0
returns-then-blob_word-eq0 c = strings_bad-empty _ c.blob_word.ensures c.if-blob_word-eq0.true

pub returns-then-byte-ne0 : goal.returns-then-byte-ne0
returns-then-byte-ne0 c = strings_bad-first _ c.blob_word-2.ensures c.byte.ensures c.if-byte-ne0.true

pub returns : goal.returns
returns c =
    c.end_bad.ensures
    ∙ strings_bad-last _ c.blob_word.ensures c.blob_word-2.ensures c.byte.ensures c.if-blob_word-eq0.false c.if-byte-ne0.false
