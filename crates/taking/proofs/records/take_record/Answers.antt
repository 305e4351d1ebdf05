-- `taking::records::take_record` meets its contract: its info word says whether the body is one record.
use Prim.Native.Nat.{◌+◌, ◌*◌, ℕ}
use mathlib.Core.Path.{sym, ap, ◌∙◌}
use native.Mathlib.Omega.{arith}
use Rattle.lists.proofs.Bodies.{Says}
use Rattle.paper.proofs.bytes.Bytes.{slice-bytes}
use Rattle.paper.proofs.basics.Exits.{exit-same}
use Rattle.paper.specs.rules.Table.{kind_in, tail_length}
use Rattle.taking.proofs.Bodying.{record-bad, record-info, record-none, record-some}
use Rattle.taking.proofs.records.take_record.Goals as goal

pub returns-in_err-body : goal.returns-in_err-body
returns-in_err-body c = rw (exit-same c.from_residual.result c.from_residual.ensures.1) (record-bad _ _ _ c.in_err-body.ensures)

pub returns-then-body-lt12 : goal.returns-then-body-lt12
returns-then-body-lt12 c =
    let whole = c.in_ok-body.ensures in
    record-none _ whole (slice-bytes c.args.s.now c.type_inv.s) (λ (x : Says _ _ _). omega (arith, x.head, whole.long, c.if-body-lt12.true))

pub returns-then-kind_of-body : goal.returns-then-kind_of-body
returns-then-kind_of-body c =
    let whole = c.in_ok-body.ensures in
    let bytes = slice-bytes c.args.s.now c.type_inv.s in
    let info = record-info _ whole bytes c.read-info.ensures c.if-body-lt12.false in
    record-none _ whole bytes (λ (x : Says _ _ _). c.if-kind_of-body.true (c.kind_of.ensures ∙ ap kind_in info ∙ x.kind))

pub returns-then-body-size : goal.returns-then-body-size
returns-then-body-size c =
    let whole = c.in_ok-body.ensures in
    let bytes = slice-bytes c.args.s.now c.type_inv.s in
    let info = record-info _ whole bytes c.read-info.ensures c.if-body-lt12.false in
    let size = ap (λ (n : ℕ). 12 + 4 * n) (c.tail_words.ensures ∙ ap tail_length info) in
    record-none _ whole bytes (λ (x : Says _ _ _). c.if-body-size.true (sym whole.long ∙ x.long ∙ sym size))

pub returns : goal.returns
returns c =
    let whole = c.in_ok-body.ensures in
    let bytes = slice-bytes c.args.s.now c.type_inv.s in
    let info = record-info _ whole bytes c.read-info.ensures c.if-body-lt12.false in
    record-some _ whole bytes
    (record {
      head = omega (arith, c.if-body-lt12.false, whole.long);
      kind = ap kind_in (sym info) ∙ sym c.kind_of.ensures ∙ c.if-kind_of-body.false;
      long = whole.long ∙ c.if-body-size.false ∙ ap (λ (n : ℕ). 12 + 4 * n) (c.tail_words.ensures ∙ ap tail_length info);
    })
