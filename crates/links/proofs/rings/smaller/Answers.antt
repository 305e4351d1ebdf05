-- `links::rings::smaller` meets its contract.
use Rattle.links.proofs.BothSorts.{smaller-alone, smaller-second, smaller-first}
use Rattle.links.proofs.rings.smaller.Goals as goal

pub returns-then-u-t : goal.returns-then-u-t
returns-then-u-t c = smaller-second _ _ c.in-Some.is c.in-Some-b.is c.if-u-t.true

pub returns-in-None-b : goal.returns-in-None-b
returns-in-None-b c = smaller-alone _ _ c.in-Some.is c.in-None-b.is

pub returns-else-u-t : goal.returns-else-u-t
returns-else-u-t c = smaller-first _ _ c.in-Some.is c.in-Some-b.is c.if-u-t.false
