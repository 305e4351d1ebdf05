-- `sizes::size_over` meets its contract. The loop's invariant: the work that is left answers the question.
use mathlib.Core.Path.{refl, ap}
use native.Mathlib.Omega.{arith}
use Rattle.sizes.proofs.Scales.{left-all, left-void, left_far, left_is, left-many, left-sizeless, left-lost, size_answer-cut}
use Rattle.sizes.specs.SizeStep.{step_as_paper}
use Rattle.paper.specs.rules.Answer.{sized_as_paper}
use Rattle.pairs.specs.Lean.{size_over}
use Rattle.paper.specs.rules.Size.{size_answer}
use Rattle.sizes.proofs.size_over.Goals as goal

pub loop-init : goal.loop-init
unfolding size_over
loop-init c = (_, omega arith, left-all size_answer _ refl)

pub returns-then-at-eq0 : goal.returns-then-at-eq0
unfolding sized_as_paper
returns-then-at-eq0 c = left-void c.loop.invariant.2 c.if-at-eq0.true

pub many-requires : goal.many-requires
many-requires c = omega (arith, c.loop.invariant.2)

pub returns-in-Is : goal.returns-in-Is
returns-in-Is c =
    left_is c.loop.invariant.2 c.if-at-eq0.false (λ z. omega (arith, z)) c.step_over.ensures
    (ap step_as_paper c.in-Is.is) c.many.ensures

pub times-count-requires : goal.times-count-requires
times-count-requires c = omega (arith, c.loop.invariant.2)

pub loop-preserved : goal.loop-preserved
loop-preserved c = (
  _,
  omega arith,
  left-many c.loop.invariant.2 c.if-at-eq0.false (λ z. omega (arith, z)) c.step_over.ensures size_answer-cut
      (ap step_as_paper c.in-ManyOf.is) c.times-count.ensures,
)

pub returns-in-Sizeless : goal.returns-in-Sizeless
unfolding sized_as_paper
returns-in-Sizeless c =
    left-sizeless c.loop.invariant.2 c.if-at-eq0.false (λ z. omega (arith, z)) c.step_over.ensures
    (ap step_as_paper c.in-Sizeless.is)

pub returns-in-Lost : goal.returns-in-Lost
unfolding sized_as_paper
returns-in-Lost c =
    left-lost c.loop.invariant.2 c.if-at-eq0.false (λ z. omega (arith, z)) c.step_over.ensures
    (ap step_as_paper c.in-Lost.is)

pub returns-then-at-eq0-2 : goal.returns-then-at-eq0-2
unfolding sized_as_paper
returns-then-at-eq0-2 c = left-void c.loop.invariant.2 c.if-at-eq0-2.true

pub returns : goal.returns
unfolding sized_as_paper
returns c = left_far c.loop.invariant.2 c.if-at-eq0-2.false (omega arith)
