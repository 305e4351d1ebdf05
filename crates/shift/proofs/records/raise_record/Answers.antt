-- `shift::records::raise_record` meets its contract: a record is put where it fits.
use Prim.Native.Nat.{◌+◌, ◌*◌}
use mathlib.Core.Path.{sym, ◌∙◌}
use native.Mathlib.Omega.{arith}
use lib.Seq.{length-take-le}
use Rattle.rows.proofs.RoleCodes.{tail_length-few}
use Rattle.shift.proofs.RaisedRecords.{record_length-read, front-short, front_fits}
use Rattle.shift.proofs.records.raise_record.Goals as goal

pub overflow_mul-size : goal.overflow_mul-size
overflow_mul-size c = omega (arith, c.tail_words.ensures, tail_length-few c.read.result)

pub overflow_add-size : goal.overflow_add-size
overflow_add-size c = omega (arith, c.tail_words.ensures, tail_length-few c.read.result)

pub returns-then-out-len : goal.returns-then-out-len
returns-then-out-len c =
    let s = c.args.bytes.now in
    front-short s (record_length-read _ s c.read.ensures c.tail_words.ensures) (omega (arith, c.if-out-len.true))

pub slice_bounds-put_record-end-2 : goal.slice_bounds-put_record-end-2
slice_bounds-put_record-end-2 c = sym (length-take-le _ _ c.if-out-len.false)

pub put_record-requires : goal.put_record-requires
put_record-requires c =
    let s = c.args.bytes.now in
    let l = length-take-le (12 + 4 * c.tail_words.result) c.args.out.now c.if-out-len.false in
    record {
      fits = sym (record_length-read _ s c.read.ensures c.tail_words.ensures) ∙ sym l;
      small = omega (arith, l, c.tail_words.ensures, tail_length-few c.read.result);
    }

pub returns : goal.returns
returns c =
    let s = c.args.bytes.now in
    front_fits s (record_length-read _ s c.read.ensures c.tail_words.ensures)
    (omega (arith, c.if-out-len.false)) c.put_record.ensures
