-- `shift::records::entry_of` meets its contract: the columns of the kind's row.
use Rattle.rows.proofs.RoleCodes.{each-few}
use Rattle.shift.proofs.records.entry_of.Goals as goal

pub returns : goal.returns
returns c =
    record {
      counted = c.entry_words.ensures;
      few = each-few c.args.kind;
      first_role = c.entry_role.ensures;
      second_role = c.entry_role-2.ensures;
      third-role = c.entry_role-3.ensures;
    }
