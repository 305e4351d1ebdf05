-- `header::first::opens_otherwise` meets its contract: the four bytes one after the other.
use mathlib.Core.Path.{sym}
use Rattle.header.proofs.Headers.{opens-short, opens-first, opens-second, opens-third, opens-fourth}
use Rattle.header.proofs.first.opens_otherwise.Goals as goal

pub returns-then-b-lt4 : goal.returns-then-b-lt4
returns-then-b-lt4 c = sym (opens-short _ _ _ c.if-b-lt4.true)

pub returns-then-b-first : goal.returns-then-b-first
returns-then-b-first c = opens-first _ _ _ c.if-b-lt4.false c.if-b-first.true

pub returns-then-b-second : goal.returns-then-b-second
returns-then-b-second c = opens-second _ _ _ c.if-b-lt4.false c.if-b-first.false c.if-b-second.true

pub returns-then-b-ne1 : goal.returns-then-b-ne1
returns-then-b-ne1 c = opens-third _ _ _ c.if-b-lt4.false c.if-b-first.false c.if-b-second.false c.if-b-ne1.true

pub returns : goal.returns
returns c = opens-fourth _ _ _ c.if-b-lt4.false c.if-b-first.false c.if-b-second.false c.if-b-ne1.false
