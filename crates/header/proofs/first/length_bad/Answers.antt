-- `header::first::length_bad` meets its contract: report 1, by a difference.
use Rattle.header.proofs.Headers.{length_bad-short, length_bad-before, length_bad-both}
use Rattle.header.proofs.first.length_bad.Goals as goal

pub returns-then-b-lt24 : goal.returns-then-b-lt24
returns-then-b-lt24 c = length_bad-short _ _ c.if-b-lt24.true

pub returns-then-before-gt-BYTE_LIMIT : goal.returns-then-before-gt-BYTE_LIMIT
returns-then-before-gt-BYTE_LIMIT c = length_bad-before _ _ c.if-before-gt-BYTE_LIMIT.true

pub returns : goal.returns
returns c = length_bad-both _ _ c.if-b-lt24.false c.if-before-gt-BYTE_LIMIT.false
