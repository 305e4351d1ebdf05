-- `bases::signs::sign_of` meets its contract.
use mathlib.Core.Path.{refl, sym, ◌∙◌}
use Rattle.paper.specs.terms.Reading.{record_in}
use Rattle.rows.proofs.RecordWords.{kind-read, flag-read, int-read}
use Rattle.bases.proofs.ByKind.{sign-int, sign_enum, sign-enum64, sign-none}
use Rattle.bases.proofs.signs.sign_of.Goals as goal

pub returns-then-kind-eq-INT : goal.returns-then-kind-eq-INT
returns-then-kind-eq-INT c =
    let a = c.args in
    let s = a.s.now in
    let kind = kind-read _ s refl c.read.ensures c.kind_of-kind.ensures in
    sign-int (record_in a.order s) kind c.if-kind-eq-INT.true (int-read _ s (sym kind ∙ c.if-kind-eq-INT.true) c.read-word.ensures)

pub returns-then-kind-eq-ENUM : goal.returns-then-kind-eq-ENUM
returns-then-kind-eq-ENUM c =
    let a = c.args in
    let s = a.s.now in
    let kind = kind-read _ s refl c.read.ensures c.kind_of-kind.ensures in
    let flag = flag-read _ s refl c.read-2.ensures c.flag_of-flag.ensures in
    sign_enum (record_in a.order s) kind c.if-kind-eq-INT.false flag c.if-kind-eq-ENUM.true

pub returns-then-kind-eq-ENUM64 : goal.returns-then-kind-eq-ENUM64
returns-then-kind-eq-ENUM64 c =
    let a = c.args in
    let s = a.s.now in
    let kind = kind-read _ s refl c.read.ensures c.kind_of-kind.ensures in
    let flag = flag-read _ s refl c.read-2.ensures c.flag_of-flag.ensures in
    sign-enum64 (record_in a.order s) kind c.if-kind-eq-INT.false flag c.if-kind-eq-ENUM.false c.if-kind-eq-ENUM64.true

pub returns : goal.returns
returns c =
    let a = c.args in
    let s = a.s.now in
    let kind = kind-read _ s refl c.read.ensures c.kind_of-kind.ensures in
    let flag = flag-read _ s refl c.read-2.ensures c.flag_of-flag.ensures in
    sign-none (record_in a.order s) kind c.if-kind-eq-INT.false flag c.if-kind-eq-ENUM.false c.if-kind-eq-ENUM64.false
