-- `values::judging::refused` meets its contract.
use Rattle.values.proofs.GivenValues.{refused-21, refused-30, refused-31, refused-32, refused-33, refused-35}
use Rattle.values.proofs.judging.refused.Goals as goal

pub returns-in-21 : goal.returns-in-21
returns-in-21 c = refused-21 c.in-21.is

pub returns-in-30 : goal.returns-in-30
returns-in-30 c = refused-30 c.in-30.is

pub returns-in-31 : goal.returns-in-31
returns-in-31 c = refused-31 c.in-31.is

pub returns-in-32 : goal.returns-in-32
returns-in-32 c = refused-32 c.in-32.is

pub returns-in-35 : goal.returns-in-35
returns-in-35 c = refused-35 c.in-35.is

pub returns-in_default : goal.returns-in_default
returns-in_default c =
    let r = c.in_default.in_default-own.rest in
    refused-33 c.args.number c.requires r.0.0.0.0.1 r.0.0.0.1 r.0.0.1 r.0.1 r.1
