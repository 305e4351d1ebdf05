-- `taking::one::is_tag` meets its contract: a kind's tag, a string section's, or 127.
use mathlib.Core.Bool.{Bool, ◌||◌}
use mathlib.Core.Path.{ap₂}
use Rattle.lists.specs.List.{is_carry, is_tag}
use Rattle.taking.proofs.one.is_tag.Goals as goal

pub returns : goal.returns
unfolding is_tag
returns c = ap₂ (λ (x y : Bool). x || y || is_carry c.args.tag) c.is_known.ensures c.is_string_tag.ensures
