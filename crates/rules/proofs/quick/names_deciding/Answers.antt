-- `rules::quick::names_deciding` meets its contract: an arm for each sort of info word.
use mathlib.Core.Logic.{⊎_elim, inl, inr}
use mathlib.Core.Path.{refl}
use Rattle.rules.proofs.Quiet.{deciding-once, deciding-grouped}
use Rattle.rules.specs.Quick.{undecided}
use Rattle.rules.proofs.quick.names_deciding.Goals as goal

pub returns-in-134217728 : goal.returns-in-134217728
returns-in-134217728 c = deciding-once (⊎_elim (λ p. inl p) (λ q. inr (inl q)) c.in-134217728.is) c.once.ensures

pub returns-in-201326593 : goal.returns-in-201326593
returns-in-201326593 c = deciding-once (inr (inr c.in-201326593.is)) c.once-in-201326593.ensures

pub returns-in-1024 : goal.returns-in-1024
returns-in-1024 c = deciding-grouped c.in-1024.is c.vlen_of.ensures

pub returns-in_default-2 : goal.returns-in_default-2
returns-in_default-2 c = undecided refl
