-- Four numbers in code as the paper's answer.
use Rattle.answers.specs.declared.Numbers.{Numbers}
use Rattle.paper.specs.rules.Answer.{Answer}

abbrev pub as_paper : Numbers → Answer
as_paper n = record { number = n.number; inner = n.inner; t = n.t; p = n.p }
