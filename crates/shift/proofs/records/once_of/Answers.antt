-- `shift::records::once_of` meets its contract: the columns of the kind's row.
use Rattle.rows.proofs.RoleCodes.{once-few}
use Rattle.shift.proofs.records.once_of.Goals as goal

pub returns : goal.returns
returns c =
    record {
      counted = c.once_words.ensures;
      few = once-few c.args.kind;
      first_role = c.once_role.ensures;
      second_role = c.once_role-2.ensures;
      third-role = c.once_role-3.ensures;
    }
