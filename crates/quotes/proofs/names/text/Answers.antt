-- `quotes::names::text` meets its contract.
use mathlib.Core.Path.{sym, ◌∙◌}
use native.Mathlib.Omega.{arith}
use Rattle.paper.proofs.bytes.Puts.{laid-fits}
use Rattle.quotes.proofs.Quotes.{text-short, text-bare, text-quoted}
use Rattle.quotes.proofs.names.text.Goals as goal

pub returns-then-out-lt2 : goal.returns-then-out-lt2
returns-then-out-lt2 c = text-short (omega arith)

pub returns-then-out-s : goal.returns-then-out-s
returns-then-out-s c = text-short (omega arith)

pub returns-then-bare : goal.returns-then-bare
returns-then-bare c = text-bare (omega arith) c.if-bare.true (c.lay.ensures ∙ sym (laid-fits _ _ _ (omega arith)))

pub returns : goal.returns
returns c = text-quoted (omega arith) c.if-bare.false c.quote.ensures
