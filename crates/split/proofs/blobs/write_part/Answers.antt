-- `split::blobs::write_part` meets its contract: the header, the records raised, the strings, each behind the one before.
use Rattle.split.proofs.PartPuts.{part-put}
use Rattle.split.proofs.blobs.write_part.Goals as goal

pub returns : goal.returns
returns c =
    let a = c.args in
    part-put a.b.now a.piece a.by a.out.now c.requires c.put_header.ensures c.put_header.auto.out c.raise_records.ensures
    c.lay.ensures
