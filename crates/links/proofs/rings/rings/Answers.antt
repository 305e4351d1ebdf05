-- `links::rings::rings` meets its contract.
use Rattle.links.proofs.BothSorts.{rings-both}
use Rattle.links.proofs.Pointing.{unsearched-cleared}
use Rattle.links.proofs.rings.rings.Goals as goal

pub chains-requires : goal.chains-requires
chains-requires c = unsearched-cleared c.requires _ c.pointers-pointed.auto.work c.clear.ensures

pub returns : goal.returns
returns c = rings-both _ c.chains.result c.pointers-pointed.result c.smaller.result c.chains.ensures c.pointers-pointed.ensures c.smaller.ensures
