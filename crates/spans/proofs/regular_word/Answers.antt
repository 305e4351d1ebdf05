-- `spans::regular_word` meets its contract: an offset decides, and then the width.
use Rattle.spans.proofs.SpanTests.{word-irregular, word-regular}
use Rattle.spans.proofs.regular_word.Goals as goal

pub returns-then-w-ne0 : goal.returns-then-w-ne0
returns-then-w-ne0 c = word-irregular c.args.w c.if-w-ne0.true

pub returns : goal.returns
returns c = word-regular c.args.w c.if-w-ne0.false c.regular_width.ensures
