-- What is found of a member of a type, before there is a record: the grounds of a refusal in their order, or where its bits lie.
use Rattle.std.specs.Prelude.{ℕ, Bool, cond, ◌&&◌, [], ◌∷◌, leb}
use Rattle.std.proofs.Math.Option.{Option, none, some}
use Rattle.paper.specs.rules.Choice.{member}
use Rattle.paper.specs.rules.KindNo.{STRUCT, UNION}
use Rattle.paper.specs.rules.Span.{Span, base_of, span_of}
use Rattle.paper.specs.rules.Table.{Record, Table, kind_of, vlen_of, flag_of}
use Rattle.values.specs.Given.{Finding}
use Rattle.values.specs.Value.{is_numeric, is_signed, member_of}

abbrev pub no_span : ℕ → ℕ → Finding
no_span number size = record { number = number; size = size; from = 0; bits = 0 }

-- no number has a span of no bits, or of more than 128: an accepted table has none
abbrev pub span_found : ℕ → Bool → Option Span → Finding
span_found size signed none = no_span 33 size
span_found size signed (some p) =
    cond (leb 1 p.size && leb p.size 128)
    (record { number = cond signed 1 0; size = size; from = p.from; bits = p.size })
    (no_span 33 size)

-- a member of a record of a table: 31; then, behind the record's length, 32 and 33
unfoldable pub sought_in : Table → Record → ℕ → Finding
sought_in T r m =
    let base = base_of T (member_of r m).type in
    cond (member (kind_of r) (STRUCT ∷ UNION ∷ []))
    (cond (leb (vlen_of r) m) (no_span 32 r.third)
    (cond (is_numeric base) (span_found r.third (is_signed base) (span_of T (flag_of r) (member_of r m))) (no_span 33 r.third)))
    (no_span 31 0)
