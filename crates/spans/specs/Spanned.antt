-- A member as its words say it, its span once its base and size are known, and what the code's spans are: what the code of members is promised of.
use Rattle.std.specs.Prelude.{ℕ, ◌+◌, cond, List, eqb, None, Option as RustOption, Some}
use Rattle.std.proofs.Math.Option.{Option, none, some}
use Rattle.paper.specs.rules.Span.{Member, Span, plain_span, field_span}
use Rattle.paper.specs.rules.Table.{Record}
use Rattle.paper.specs.declared.Order.{Order}
use Rattle.paper.specs.rules.Word.{word_at}

-- the member whose three words stand at a place
abbrev pub member_at : Order → List ℕ → ℕ → Member
member_at order s p = record { name = word_at order s p; type = word_at order s (p + 4); offset = word_at order s (p + 8) }

-- a member of which only the type and the offset word are asked
abbrev pub typed : ℕ → ℕ → Member
typed t o = record { name = 0; type = t; offset = o }

-- a member of which only the offset word is asked
abbrev pub with_offset : ℕ → Member
with_offset o = typed 0 o

-- a span by kind_flag, from a base, an offset word and a size
abbrev pub span_with : ℕ → Record → ℕ → ℕ → Option Span
span_with flag base o size = cond (eqb flag 1) (field_span base (with_offset o) size) (plain_span base (with_offset o) size)

-- where a span lies, as the code says it
abbrev pub span_as_paper : RustOption (ℕ × ℕ) → Option Span
span_as_paper None = none
span_as_paper (Some (from, bits)) = some (record { from = from; size = bits })
