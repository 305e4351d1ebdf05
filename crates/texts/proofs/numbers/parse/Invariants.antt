use Rattle.texts.proofs.Decimals.{Reading}
use Rattle.texts.proofs.numbers.parse.Given as goal

abbrev pub invariant-loop-c : goal.invariant-loop-c
invariant-loop-c l = Reading l.s l.value l.c-index
