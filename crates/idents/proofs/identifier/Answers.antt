-- `idents::identifier` meets its contract: a first byte from 64 on, and the run from it.
use mathlib.Core.Path.{refl}
use native.Mathlib.Omega.{arith}
use Rattle.paper.specs.rules.Name.{is_digit, is_letter}
use Rattle.idents.specs.Spelling.{among}
use Rattle.idents.proofs.NameTests.{identifier-outside, identifier-bad, identifier-run}
use Rattle.idents.proofs.Passes.{begun-start}
use Rattle.idents.proofs.Sets.{covers-names, run_length-word}
use Rattle.idents.proofs.identifier.Goals as goal

pub returns-then-strings-from : goal.returns-then-strings-from
returns-then-strings-from c = let a = c.args in identifier-outside a.strings.now a.at.0 c.if-strings-from.true

pub returns-then-strings-from-lt64 : goal.returns-then-strings-from-lt64
returns-then-strings-from-lt64 c = let a = c.args in identifier-bad a.strings.now a.at.0 c.if-strings-from.false (omega arith)

pub run-requires : goal.run-requires
unfolding among is_letter is_digit
run-requires c = begun-start (covers-names _ refl) (omega arith) (omega arith)

pub returns : goal.returns
returns c =
    let a = c.args in
    identifier-run a.strings.now a.at.0 c.if-strings-from.false (omega arith) (run_length-word _ _ _ c.run.ensures (unfold among is_letter is_digit in refl))
