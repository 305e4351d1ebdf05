-- `tails::linkage_ok` meets its contract: up to 2.
use Rattle.paper.specs.rules.Tails.{linkage_word_ok}
use Rattle.rows.proofs.Members.{member-linkage}
use Rattle.tails.proofs.linkage_ok.Goals as goal

pub returns : goal.returns
unfolding linkage_word_ok
returns c = member-linkage c.args.w
