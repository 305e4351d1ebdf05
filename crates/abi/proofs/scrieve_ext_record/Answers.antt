-- `abi::scrieve_ext_record` meets its contract: where the record stands, and the number of its bytes, told.
use Prim.Native.Nat.{ℕ}
use mathlib.Core.Path.{ap, ap₂, ◌∙◌}
use native.Mathlib.Omega.{arith}
use lib.ListN.{length}
use Rattle.abi.proofs.Handing.{entry_bytes-most}
use Rattle.abi.specs.Told.{told_wide}
use Rattle.exts.specs.Entries.{record_asked}
use Rattle.paper.specs.rules.Answer.{Answer}
use Rattle.abi.proofs.scrieve_ext_record.Goals as goal

pub overflow_cast-long : goal.overflow_cast-long
overflow_cast-long c =
    let s = c.args in
    omega (arith, entry_bytes-most s.section.now (record_asked s.section.now s.part s.k), ap length c.record_bytes-bytes.ensures.bytes)

pub returns : goal.returns
returns c =
    let told = c.args.answer.now in
    c.tell_wide.ensures
    ∙ ap₂ (λ (a : Answer) (long : ℕ). told_wide a long told) (c.of_found.ensures ∙ c.record_at-found.ensures) (ap length c.record_bytes-bytes.ensures.bytes)
