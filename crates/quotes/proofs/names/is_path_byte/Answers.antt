-- `quotes::names::is_path_byte` meets its contract.
use Rattle.quotes.proofs.Bare.{byte_low, byte-upper, byte-lower, byte_last}
use Rattle.quotes.proofs.names.is_path_byte.Goals as goal

pub returns-then-is_between : goal.returns-then-is_between
returns-then-is_between c = byte_low _ c.is_between.ensures c.if-is_between.true

pub returns-then-is_between-2 : goal.returns-then-is_between-2
returns-then-is_between-2 c = byte-upper _ c.is_between.ensures c.if-is_between.false c.is_between-2.ensures c.if-is_between-2.true

pub returns-then-is_between-3 : goal.returns-then-is_between-3
returns-then-is_between-3 c =
    byte-lower _ c.is_between.ensures c.if-is_between.false c.is_between-2.ensures c.if-is_between-2.false
    c.is_between-3.ensures c.if-is_between-3.true

pub returns : goal.returns
returns c =
    byte_last _ c.is_between.ensures c.if-is_between.false c.is_between-2.ensures c.if-is_between-2.false
    c.is_between-3.ensures c.if-is_between-3.false
