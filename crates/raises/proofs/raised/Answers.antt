-- `raises::raised` meets its contract: 0 stands, and any other number is raised.
use Rattle.std.proofs.Common.{ℕ, ◌%◌, sym, ap, ◌∙◌}
use Rattle.paper.proofs.renaming.Rename.{raise_zero, raise-other}
use Rattle.raises.proofs.raised.Goals as goal

pub returns-then-w-eq0 : goal.returns-then-w-eq0
returns-then-w-eq0 c = sym (ap (λ (x : ℕ). x % 4294967296) (raise_zero c.args.by c.if-w-eq0.true))

pub returns : goal.returns
returns c =
    let a = c.args in
    c.wrapping_add_u32.ensures.value ∙ sym (ap (λ (x : ℕ). x % 4294967296) (raise-other a.by a.w c.if-w-eq0.false))
