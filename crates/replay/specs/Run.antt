-- What running a case gives, and what becomes of it: the table of ops.
use Rattle.std.specs.Prelude.{ℕ, ◌≡◌, Bool, cond, List, eqb, length, Result, Ok, Err}
use Rattle.paper.specs.declared.Order.TheVariants.{LowFirst}
use Rattle.paper.specs.rules.Word.{words}
use Rattle.replay.specs.Apart.{apart_seen}
use Rattle.replay.specs.Case.{check_seen, size_seen, name_seen, join_seen, member_seen, same_seen}
use Rattle.replay.specs.Kept.{read_seen, write_seen}
use Rattle.replay.specs.Over.{lean_seen, size_cut_seen, name_over_seen}
use Rattle.replay.specs.declared.cases.Head.{Head}
use Rattle.replay.specs.declared.cases.Seen.{Seen}
use Rattle.replay.specs.declared.ops.Unrun.{Unrun}
use Rattle.replay.specs.declared.ops.Unrun.TheVariants.{Unknown, Large}
use Rattle.sums.specs.Sum.{lent_bytes}
use Rattle.replay.specs.declared.tally.Outcome.{Outcome}
use Rattle.replay.specs.declared.tally.Outcome.TheVariants.{Agreed, Differed}
use Rattle.replay.specs.declared.tally.Stop.{Stop}
use Rattle.replay.specs.declared.tally.Stop.TheVariants as stop

-- what was seen, or why a case is not run
abbrev pub Ran : Type 0
Ran = Result Seen Unrun

-- what is given of a case: what is seen where all that it lends fits the arrays, else that it asks for too much
unfoldable pub ran_of : Bool → Seen → Ran
ran_of fits seen = cond fits (Ok seen) (Err Large)

-- the same of arrays whose length is not said: what was seen is what must be, or the case asks for more than they hold
abbrev pub RanAs : Ran → Seen → Type 0
RanAs (Ok seen) must = seen ≡ must
RanAs (Err Unknown) must = ⊥
RanAs (Err Large) must = Unit {0}

-- by op; an op that there is not is told as such
unfoldable pub RunOf : Ran → Head → List ℕ → List ℕ → Type 0
RunOf r h a b =
    cond (eqb h.op 1) (RanAs r (check_seen a h.index h.work (lent_bytes h.output)))
    (cond (eqb h.op 2) (RanAs r (size_seen h.x a (words LowFirst b) h.index h.work h.output))
    (cond (eqb h.op 3) (RanAs r (name_seen h.x a h.index h.work))
    (cond (eqb h.op 4) (RanAs r (join_seen a b h.index h.work (lent_bytes h.output)))
    (cond (eqb h.op 5) (RanAs r (member_seen h.x h.y a b h.index h.work))
    (cond (eqb h.op 6) (RanAs r (apart_seen h.x h.y a h.index h.work h.output (length b)))
    (cond (eqb h.op 7) (RanAs r (read_seen a h.index h.work h.output (length b)))
    (cond (eqb h.op 8) (RanAs r (write_seen a h.index h.work h.output))
    (cond (eqb h.op 9) (RanAs r (lean_seen a b h.index h.work (lent_bytes h.output)))
    (cond (eqb h.op 10) (RanAs r (size_cut_seen h.x h.y a b h.output))
    (cond (eqb h.op 11) (RanAs r (name_over_seen h.x a b)) (r ≡ Err Unknown)))))))))))

-- what was seen agrees where it is what must be; an op that there is not differs
abbrev pub turn_of : Seen → Ran → Result Outcome Stop
turn_of must (Ok seen) = Ok (cond (same_seen must seen) Agreed Differed)
turn_of must (Err Unknown) = Ok Differed
turn_of must (Err Large) = Err stop.Large
