-- `texts::pieces::line_end` meets its contract: the first newline ends the line, or the text does.
use mathlib.Core.Path.{refl}
use Rattle.texts.proofs.Passed.{end-found, end-last}
use Rattle.texts.proofs.pieces.line_end.Goals as goal

pub returns-in-Some : goal.returns-in-Some
returns-in-Some c = let e = c.in-Some.ensures in end-found c.requires e.found e.first.0 e.first.1 refl

pub returns-in-None : goal.returns-in-None
returns-in-None c = end-last c.requires c.in-None.ensures.found refl
