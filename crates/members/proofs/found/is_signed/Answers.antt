-- `members::found::is_signed` meets its contract.
use mathlib.Core.Path.{refl, sym, ◌∙◌}
use Rattle.paper.specs.terms.Reading.{record_in}
use Rattle.rows.proofs.RecordWords.{kind-read, flag-read, int-read}
use Rattle.members.proofs.Seeking.{signed-int, signed-enum}
use Rattle.members.proofs.found.is_signed.Goals as goal

pub returns-then-kind_of-eq-INT : goal.returns-then-kind_of-eq-INT
returns-then-kind_of-eq-INT c =
    let a = c.args in
    let kind = kind-read _ a.s.now refl c.read-info.ensures c.kind_of.ensures in
    signed-int (record_in a.order a.s.now) kind c.if-kind_of-eq-INT.true (int-read _ a.s.now (sym kind ∙ c.if-kind_of-eq-INT.true) c.read.ensures)

pub returns : goal.returns
returns c =
    let a = c.args in
    let kind = kind-read _ a.s.now refl c.read-info.ensures c.kind_of.ensures in
    signed-enum (record_in a.order a.s.now) kind c.if-kind_of-eq-INT.false (flag-read _ a.s.now refl c.read-info.ensures c.flag_of.ensures)
