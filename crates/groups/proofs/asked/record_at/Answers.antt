-- `groups::asked::record_at` meets its contract: nowhere, or where the part has it.
use Rattle.std.specs.Prelude.{None}
use mathlib.Core.Path.{◌≡◌, sym, ap, ◌∙◌}
use mathlib.Core.Option.{Option, none}
use Rattle.exts.specs.Entries.{entry_as_paper, found_as_paper}
use Rattle.exts.specs.Items.{Entry}
use Rattle.groups.proofs.asked.record_at.Goals as goal

nowhere : {o : Option Entry} → none ≡ o → found_as_paper None ≡ entry_as_paper o
unfolding found_as_paper
nowhere e = ap entry_as_paper e

pub returns-in_err-part : goal.returns-in_err-part
returns-in_err-part c = let p = c.in_err-part.ensures in rw c.from_residual.ensures (nowhere (sym (p.is c.args.y)))

pub returns : goal.returns
returns c = let p = c.in_ok-part.ensures in c.find_in_part.ensures ∙ ap entry_as_paper (sym (p.is c.args.y))
