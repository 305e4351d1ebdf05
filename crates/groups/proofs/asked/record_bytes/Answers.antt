-- `groups::asked::record_bytes` meets its contract: no bytes, or those of the part's record.
use native.Mathlib.Omega.{arith}
use mathlib.Core.Option.{Option}
use mathlib.Core.Path.{sym, ap, subst}
use Rattle.exts.specs.Entries.{entry_bytes, entry_start, record_asked}
use Rattle.exts.specs.Items.{Entry}
use Rattle.groups.proofs.Picks.{starts}
use Rattle.groups.specs.Asking.{EntryBytes}
use Rattle.groups.proofs.asked.record_bytes.Goals as goal

pub returns-in-None : goal.returns-in-None
returns-in-None c =
    let a = c.args in
    let p = c.in-None.ensures in
    let e = p.is a.y in
    record {
      bytes = sym (ap (entry_bytes a.s.now) e);
      place = starts a.s (entry_start (record_asked a.s.now a.x a.y)) (omega (arith, ap entry_start e));
    }

pub returns-in-Some : goal.returns-in-Some
returns-in-Some c =
    let a = c.args in
    let p = c.in-Some.ensures in
    subst (λ (o : Option Entry). EntryBytes c.part_bytes.result a.s o) (sym (p.is a.y)) c.part_bytes.ensures
