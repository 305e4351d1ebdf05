-- `links::whole::both` meets its contract.
use lib.ListN.{length}
use Rattle.links.proofs.Linking.{searchable, links-many, links-short, links-bad, links-good, links-endless}
use Rattle.paper.proofs.basics.Exits.{exit-same}
use Rattle.links.proofs.whole.both.Goals as goal

pub returns-then-n-gt-TYPE_LIMIT : goal.returns-then-n-gt-TYPE_LIMIT
returns-then-n-gt-TYPE_LIMIT c = links-many _ _ _ c.if-n-gt-TYPE_LIMIT.true (length c.args.work.now) c.clear.ensures

pub returns-then-work-n : goal.returns-then-work-n
returns-then-work-n c =
    links-short _ _ _ c.if-n-gt-TYPE_LIMIT.false c.if-work-n.true
    (length c.args.work.now) c.clear-then-work-n.ensures

pub returns-in_err-bad : goal.returns-in_err-bad
returns-in_err-bad c =
    rw (exit-same c.from_residual.result c.from_residual.ensures.1)
    (links-bad _ _ _ c.if-n-gt-TYPE_LIMIT.false c.if-work-n.false c.bad.result c.bad.ensures c.in_err-bad.was)

pub rings-requires : goal.rings-requires
rings-requires c = searchable _ _ _ _ _ c.clear-2.ensures c.if-n-gt-TYPE_LIMIT.false c.if-work-n.false c.bad.ensures c.in_ok-bad.was

pub returns-in-None : goal.returns-in-None
returns-in-None c =
    links-good _ _ _ c.if-n-gt-TYPE_LIMIT.false c.if-work-n.false c.bad.result c.bad.ensures c.in_ok-bad.was
    c.rings.result c.rings.ensures c.in-None.is

pub returns-in-Some : goal.returns-in-Some
returns-in-Some c =
    links-endless _ _ _ c.if-n-gt-TYPE_LIMIT.false c.if-work-n.false c.bad.result c.bad.ensures c.in_ok-bad.was
    c.rings.result c.rings.ensures c.in-Some.is
