-- `walk::behind_of` meets its contract: each of its answers is one of the ways of a step.
use Rattle.std.specs.Prelude.{Ok}
use mathlib.Core.Bool.{not}
use Prim.Native.Nat.{ℕ, ◌+◌, ◌*◌}
use mathlib.Core.Path.{◌≡◌, sym, ap, ◌∙◌}
use native.Mathlib.Omega.{arith}
use borrow.Author.Tests.{not-true, not-false}
use Rattle.paper.specs.rules.Table.{kind_in, tail_length}
use Rattle.paper.specs.rules.Walk.{known}
use Rattle.rows.proofs.RoleCodes.{tail_length-few}
use Rattle.scan.proofs.WalkSteps.{next_place, known_at, way-behind_of, head-cut, unknown, tail-cut, onward}
use Rattle.scan.proofs.walk.behind_of.Goals as goal

-- the kind that was asked about is that of the record at the place
known-here : (c : goal.Then-not-is_known) → let a = c.args in
    known_at a.b.now a.at.0 ≡ c.is_known.result
known-here c =
    sym (c.is_known.ensures ∙ ap known (c.kind_of.ensures ∙ ap kind_in c.blob_word-info.ensures))

-- the kind that was asked about is that of the record at the place
known-here-2 : (c : goal.Then-room-tail) → let a = c.args in
    known_at a.b.now a.at.0 ≡ c.is_known.result
known-here-2 c =
    sym (c.is_known.ensures ∙ ap known (c.kind_of.ensures ∙ ap kind_in c.blob_word-info.ensures))

-- and so is the tail
next_here : (c : goal.Then-room-tail) → let a = c.args in
    next_place a.b.now a.at.0 ≡ a.at.0 + 12 + 4 * c.tail_words-tail.result
next_here c = omega (arith, c.tail_words-tail.ensures ∙ ap tail_length c.blob_word-info.ensures)

-- the kind that was asked about is that of the record at the place
known-here-3 : (c : goal.After-struct_known-4-1) → let a = c.args in
    known_at a.b.now a.at.0 ≡ c.is_known.result
known-here-3 c =
    sym (c.is_known.ensures ∙ ap known (c.kind_of.ensures ∙ ap kind_in c.blob_word-info.ensures))

-- and so is the tail
next_here-2 : (c : goal.After-struct_known-4-1) → let a = c.args in
    next_place a.b.now a.at.0 ≡ a.at.0 + 12 + 4 * c.tail_words-tail.result
next_here-2 c = omega (arith, c.tail_words-tail.ensures ∙ ap tail_length c.blob_word-info.ensures)

pub returns-then-room-lt12 : goal.returns-then-room-lt12
returns-then-room-lt12 c = sym (way-behind_of (head-cut (omega arith)))

pub returns-then-not-is_known : goal.returns-then-not-is_known
returns-then-not-is_known c = sym (way-behind_of (unknown (omega arith) (known-here c ∙ not-true c.is_known.result (ap not c.if-not-is_known.true))))

pub overflow_mul-tail : goal.overflow_mul-tail
overflow_mul-tail c = omega (arith, tail_length-few c.blob_word-info.result)

pub returns-then-room-tail : goal.returns-then-room-tail
returns-then-room-tail c =
    let next = next_here c in
    sym (way-behind_of (tail-cut (omega arith) (known-here-2 c ∙ not-false c.is_known.result (ap not c.if-not-is_known.false)) (omega arith)))

pub returns : goal.returns
returns c =
    let next = next_here-2 c in
    ap (λ (p : ℕ). Ok (record { 0 = p })) (sym next)
    ∙ sym (way-behind_of (onward (omega arith) (known-here-3 c ∙ not-false c.is_known.result (ap not c.if-not-is_known.false)) (omega arith)))
