-- `views::strings_in` meets its contract: what stands behind the type section.
use Prim.Native.Nat.{ℕ, ◌+◌}
use mathlib.Core.Path.{ap, ◌∙◌}
use lib.ListN.{length, drop}
use Rattle.paper.proofs.bytes.Bytes.{part-rest}
use Rattle.views.proofs.Shows.{strings-past, strings-inside, strings_start-strings, part-place}
use Rattle.views.proofs.strings_in.Goals as goal

pub returns-then-end-from : goal.returns-then-end-from
returns-then-end-from c =
    let a = c.args in
    let b = a.b.now in
    let from = strings-past b c.blob_word.ensures c.if-end-from.true in
    record {
      bytes = part-rest b (length b) ∙ ap (λ (p : ℕ). drop p b) from ∙ strings_start-strings b;
      place = part-place a.b from;
    }

pub returns : goal.returns
returns c =
    let a = c.args in
    let b = a.b.now in
    let from = strings-inside b c.blob_word.ensures c.if-end-from.false in
    record {
      bytes = part-rest b (24 + c.blob_word.result) ∙ ap (λ (p : ℕ). drop p b) from ∙ strings_start-strings b;
      place = part-place a.b from;
    }
