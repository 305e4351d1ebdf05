-- `sizes::shown::size_in` meets its contract. The loop's invariant: the work that is left answers the question.
use mathlib.Core.Path.{refl, sym, ap}
use native.Mathlib.Omega.{arith}
use Rattle.sizes.proofs.Scales.{left-void, left-end, left_is, left-many, left-sizeless, left-lost}
use Rattle.sizes.proofs.TableSizes.{tell_in-cut, left-shown}
use Rattle.sizes.specs.SizeStep.{step_as_paper}
use Rattle.paper.specs.rules.Answer.{sized_as_paper}
use Rattle.views.proofs.Shows.{table_by-count}
use Rattle.sizes.proofs.shown.size_in.Goals as goal

pub loop-init : goal.loop-init
loop-init c = (_, omega arith, left-shown _ _ (sym (table_by-count _ _ _ _)))

pub returns-then-at-eq0 : goal.returns-then-at-eq0
unfolding sized_as_paper
returns-then-at-eq0 c = left-void c.loop.invariant.2 c.if-at-eq0.true

pub many-requires : goal.many-requires
many-requires c = omega (arith, c.loop.invariant.2)

pub returns-in-Is : goal.returns-in-Is
returns-in-Is c =
    left_is c.loop.invariant.2 c.if-at-eq0.false (λ z. omega (arith, z))
    c.step_in.ensures
    (ap step_as_paper c.in-Is.is) c.many.ensures

pub times-count-requires : goal.times-count-requires
times-count-requires c = omega (arith, c.loop.invariant.2)

pub loop-preserved : goal.loop-preserved
loop-preserved c = (
  _,
  omega arith,
  left-many c.loop.invariant.2 c.if-at-eq0.false (λ z. omega (arith, z))
      c.step_in.ensures tell_in-cut
      (ap step_as_paper c.in-ManyOf.is) c.times-count.ensures,
)

pub returns-in-Sizeless : goal.returns-in-Sizeless
unfolding sized_as_paper
returns-in-Sizeless c =
    left-sizeless c.loop.invariant.2 c.if-at-eq0.false (λ z. omega (arith, z))
    c.step_in.ensures
    (ap step_as_paper c.in-Sizeless.is)

pub returns-in-Lost : goal.returns-in-Lost
unfolding sized_as_paper
returns-in-Lost c =
    left-lost c.loop.invariant.2 c.if-at-eq0.false (λ z. omega (arith, z))
    c.step_in.ensures
    (ap step_as_paper c.in-Lost.is)

pub returns : goal.returns
unfolding sized_as_paper
returns c = left-end c.loop.invariant.2 (omega arith) refl
