-- `taking::bodies::stands` meets its contract: by what is asked for.
use Rattle.taking.proofs.Fields.{stands-kind, stands-strings}
use Rattle.taking.proofs.bodies.stands.Goals as goal

pub returns-then-strings : goal.returns-then-strings
returns-then-strings c = stands-strings c.if-strings.true _ c.is_string_tag.ensures

pub returns : goal.returns
returns c = stands-kind c.if-strings.false _ c.is_known.ensures
