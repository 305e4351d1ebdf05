-- `members::found::found` meets its contract: a span of 1 to 128 bits.
use mathlib.Core.Bool.{true, false}
use Rattle.values.specs.Given.{sort_number}
use Rattle.members.proofs.Seeking.{found_nowhere, found_none, found-many, found-bits}
use Rattle.members.proofs.found.found.Goals as goal

pub returns-then-bits-eq0 : goal.returns-then-bits-eq0
unfolding sort_number
returns-then-bits-eq0 c =
    let a = c.args in
    found_none a.size a.signed c.in-Some.is c.no_span-then-bits-eq0.ensures c.if-bits-eq0.true

pub returns-then-bits-gt128 : goal.returns-then-bits-gt128
unfolding sort_number
returns-then-bits-gt128 c =
    let a = c.args in
    found-many a.size a.signed c.in-Some.is c.if-bits-eq0.false c.no_span-then-bits-gt128.ensures c.if-bits-gt128.true

pub returns-then-signed : goal.returns-then-signed
unfolding sort_number
returns-then-signed c =
    let a = c.args in
    found-bits a.size a.signed c.in-Some.is c.if-bits-eq0.false c.if-bits-gt128.false true c.if-signed.true

pub returns-in-None : goal.returns-in-None
unfolding sort_number
returns-in-None c =
    let a = c.args in
    found_nowhere a.size a.signed c.no_span.ensures c.in-None.is

pub returns-else-signed : goal.returns-else-signed
unfolding sort_number
returns-else-signed c =
    let a = c.args in
    found-bits a.size a.signed c.in-Some.is c.if-bits-eq0.false c.if-bits-gt128.false false c.if-signed.false
