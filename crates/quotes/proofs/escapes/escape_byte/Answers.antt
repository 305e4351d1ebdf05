-- `quotes::escapes::escape_byte` meets its contract: one, two or four bytes are laid behind the first.
use lib.ListN.{length-set}
use native.Mathlib.Omega.{arith}
use Rattle.quotes.proofs.Printable.{appended-special, appended-plain, appended-hex}
use Rattle.quotes.proofs.escapes.escape_byte.Goals as goal

pub bounds-out-at-then-is_special : goal.bounds-out-at-then-is_special
bounds-out-at-then-is_special c = simp length-set (omega arith)

pub returns-then-is_special : goal.returns-then-is_special
returns-then-is_special c = appended-special _ _ _ (omega arith) c.is_special.ensures c.if-is_special.true

pub returns-then-is_printable : goal.returns-then-is_printable
returns-then-is_printable c =
    appended-plain _ _ _ (omega arith) c.is_special.ensures c.if-is_special.false
    c.is_printable.ensures c.if-is_printable.true

pub bounds-out-at-3 : goal.bounds-out-at-3
bounds-out-at-3 c = simp length-set (omega arith)

pub bounds-out-at-4 : goal.bounds-out-at-4
bounds-out-at-4 c = simp length-set (omega arith)

pub bounds-out-at-5 : goal.bounds-out-at-5
bounds-out-at-5 c = simp length-set (omega arith)

pub returns : goal.returns
returns c =
    appended-hex _ _ _ (omega arith)
    c.is_special.ensures
    c.if-is_special.false
    c.is_printable.ensures
    c.if-is_printable.false
    c.hex_digit.ensures
    c.hex_digit-2.ensures
