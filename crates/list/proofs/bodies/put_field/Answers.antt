-- `list::bodies::put_field` meets its contract: the head, then the body.
use Rattle.list.proofs.Fielding.{field_put}
use Rattle.list.proofs.bodies.put_field.Goals as goal

pub returns : goal.returns
returns c =
    let a = c.args in
    field_put a.out.now a.at a.tag a.body.now c.requires.1 c.lay.ensures c.lay-2.ensures
