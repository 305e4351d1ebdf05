-- `rows::heads::allows` meets its contract: a case for each code.
use Rattle.rows.proofs.Members.{member-single, member-func-linkage, values_of-other}
use Rattle.rows.proofs.heads.allows.Goals as goal

pub returns-in-0 : goal.returns-in-0
returns-in-0 c = rw c.in-0.is (member-single c.args.w 0)

pub returns-in-1 : goal.returns-in-1
returns-in-1 c = rw c.in-1.is (member-func-linkage c.args.w)

pub returns-in-2 : goal.returns-in-2
returns-in-2 c = rw c.in-2.is c.int_size.ensures

pub returns-in-3 : goal.returns-in-3
returns-in-3 c = rw c.in-3.is c.enum_size.ensures

pub returns-in-4 : goal.returns-in-4
returns-in-4 c = rw c.in-4.is c.float_size.ensures

pub returns-in_default : goal.returns-in_default
returns-in_default c = let r = c.in_default.in_default-own.rest in rw (values_of-other _ r.0.0.0.0.1 r.0.0.0.1 r.0.0.1 r.0.1 r.1)
