-- `rows::aliases::is_alias` meets its contract: TYPE_TAG stands apart, the others in a row.
use Rattle.rows.proofs.AliasKinds.{alias-tag, alias-low, alias-rest}
use Rattle.rows.proofs.aliases.is_alias.Goals as goal

pub returns-then-kind-eq-TYPE_TAG : goal.returns-then-kind-eq-TYPE_TAG
returns-then-kind-eq-TYPE_TAG c = alias-tag c.if-kind-eq-TYPE_TAG.true

pub returns-then-kind-lt-TYPEDEF : goal.returns-then-kind-lt-TYPEDEF
returns-then-kind-lt-TYPEDEF c = alias-low c.args.kind c.if-kind-lt-TYPEDEF.true

pub returns : goal.returns
returns c = alias-rest c.args.kind c.if-kind-eq-TYPE_TAG.false c.if-kind-lt-TYPEDEF.false
