-- What one pass tells of a record, by its bytes, both string sections and the states of other types.
use Rattle.std.specs.Prelude.{ℕ, ◌≡◌, true, List, ◌⊎◌}
use Rattle.std.proofs.Math.Option.{none}
use Rattle.glance.specs.Glance.{Looks, Stated, awaiting, members_fit, strange, whole}
use Rattle.pairs.specs.Lean.{name_word_over}
use Rattle.paper.specs.declared.Order.{Order}
use Rattle.paper.specs.rules.Choice.{first_due, times}
use Rattle.paper.specs.rules.Kind.{row_of}
use Rattle.paper.specs.rules.KindNo.{STRUCT}
use Rattle.paper.specs.rules.Table.{vlen_in}
use Rattle.paper.specs.rules.Word.{word_at}
use Rattle.paper.specs.terms.Reading.{record_in, roled}
use Rattle.rules.specs.Phase.{rules_of}

-- nothing is due of it, and its type has a state, or 0
pub record Told (order : Order) (base strings work s : List ℕ) (state : ℕ) : Type 0 where
  pub quiet : none ≡ first_due (rules_of base strings (record_in order s))
  pub looks : (state ≡ 0) ⊎ Looks work (record_in order s) state

-- or nothing is told
abbrev pub Tells : Order → List ℕ → List ℕ → List ℕ → List ℕ → ℕ → Type 0
Tells order base strings work s r = (r ≡ strange) ⊎ Told order base strings work s r

-- the members of a struct or a union without bit fields: their names are good, and they fit, or one is open or does not
pub record MembersGood (order : Order) (base strings work s : List ℕ) (info state : ℕ) : Type 0 where
  pub named : roled order (name_word_over base strings) s 12 (times (vlen_in info) (row_of STRUCT).each) ≡ true
  pub fit : (state ≡ awaiting) ⊎ ((members_fit work (record_in order s) ≡ true) × Stated (word_at order s 8) whole state)

abbrev pub MembersTold : Order → List ℕ → List ℕ → List ℕ → List ℕ → ℕ → ℕ → Type 0
MembersTold order base strings work s info r = (r ≡ strange) ⊎ MembersGood order base strings work s info r
