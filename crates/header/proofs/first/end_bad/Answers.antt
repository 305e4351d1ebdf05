-- `header::first::end_bad` meets its contract: report 5 behind a base.
use Rattle.header.proofs.Headers.{end_bad-empty, end_bad-last}
use Rattle.header.proofs.first.end_bad.Goals as goal

pub returns-then-len-eq0 : goal.returns-then-len-eq0
returns-then-len-eq0 c = end_bad-empty _ c.blob_word-len.ensures c.if-len-eq0.true

pub returns : goal.returns
returns c = end_bad-last _ c.blob_word.ensures c.blob_word-len.ensures c.byte.ensures c.if-len-eq0.false
