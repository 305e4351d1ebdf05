-- `views::kind_at` meets its contract: the kind of the record's info word.
use mathlib.Core.Path.{ap, ◌∙◌}
use Rattle.paper.specs.terms.Reading.{record_in}
use Rattle.paper.specs.rules.Table.{Record, kind_in, kind_of}
use Rattle.views.proofs.kind_at.Goals as goal

pub returns : goal.returns
unfolding record_in
returns c = let w = c.word_of.ensures in c.kind_of.ensures ∙ ap kind_in w.says ∙ ap (λ (r : Record). kind_of r) w.shows
