-- "Exact size": of a type of a table, and the size question over any blob and any index.
use Rattle.std.specs.Prelude.{ℕ, zero, suc, ◌+◌, ◌*◌, Bool, not, cond, ◌&&◌, ◌||◌, List, leb, ltb, eqb, length, get_or}
use Rattle.std.proofs.Math.Option.{Option, none, some}
use Rattle.paper.specs.rules.Answer.{Answer, report, value}
use Rattle.paper.specs.rules.Choice.{is_some}
use Rattle.paper.specs.rules.Header.{header_length, order_of}
use Rattle.paper.specs.rules.Kind.{SizeRule, eight, size_word, count_times, referent, no_size, row_of}
use Rattle.paper.specs.rules.KindNo.{ARRAY}
use Rattle.paper.specs.rules.Limits.{size_limit}
use Rattle.paper.specs.rules.Table.{Table, count, record_at, kind_in, kind_of}
use Rattle.paper.specs.rules.Walk.{known}
use Rattle.paper.specs.rules.Word.{word_at}

-- what one record says of a size: it, so many times another type's, none, or that the record cannot be read (21)
pub data Step : Type 0 where
  is : ℕ → Step
  many_of : ℕ → ℕ → Step
  sizeless : Step
  lost : Step

-- what a walk over records finds: an exact size of any magnitude, none, 21, or 22
pub data Found : Type 0 where
  exactly : ℕ → Found
  none_at : Found
  lost_at : Found
  too_far : Found

-- by rule: from a record's third word, its element and its element count
abbrev pub step_by : SizeRule → ℕ → ℕ → ℕ → Step
step_by eight third element n = is 8
step_by size_word third element n = is third
step_by count_times third element n = many_of n element
step_by referent third element n = many_of 1 third
step_by no_size third element n = sizeless

abbrev pub scale : ℕ → Found → Found
scale n (exactly s) = exactly (n * s)
scale n none_at = none_at
scale n lost_at = lost_at
scale n too_far = too_far

abbrev pub go_on : Step → (ℕ → Found) → Found
go_on (is s) next = exactly s
go_on (many_of n u) next = scale n (next u)
go_on sizeless next = none_at
go_on lost next = lost_at

-- a walk that may read so many records; void has no size and reads nothing; 22 is tested before each read
abbrev pub size_by : (ℕ → Step) → ℕ → ℕ → Found
size_by step zero zero = none_at
size_by step zero (suc t) = too_far
size_by step (suc reads) zero = none_at
size_by step (suc reads) (suc t) = go_on (step (suc t)) (λ (u : ℕ). size_by step reads u)

-- in a table: its records, each read once at the most
unfoldable pub step_in : Table → ℕ → Step
step_in T t =
    let r = record_at T t in
    step_by (row_of (kind_of r)).size r.third (get_or r.tail 0 0) (get_or r.tail 2 0)

abbrev pub size_found : Found → Option ℕ
size_found (exactly s) = some s
size_found none_at = none
size_found lost_at = none
size_found too_far = none

-- the exact size of a type of a table, a whole number of any magnitude, or none
unfoldable pub exact_size : Table → ℕ → Option ℕ
exact_size T t = size_found (size_by (step_in T) (count T) t)

-- "must have a size"
unfoldable pub has_size : Table → ℕ → Bool
has_size T t = is_some (exact_size T t)

-- a size that does not overflow
abbrev pub within : Option ℕ → Option ℕ
within none = none
within (some s) = cond (leb s size_limit) (some s) none

unfoldable pub small_size : Table → ℕ → Option ℕ
small_size T t = within (exact_size T t)

unfoldable pub has_small_size : Table → ℕ → Bool
has_small_size T t = is_some (small_size T t)

-- 21: "a number not below the index length, a place under 24, a head or array tail not inside the blob, an unknown kind"
module _ (b index : List ℕ) where
  unfoldable pub step_at_place : ℕ → Step
  step_at_place p =
      let kind = kind_in (word_at (order_of b) b (p + 4)) in
      cond
      (leb header_length p
      && leb (p + 12) (length b)
      && known kind
      && (not (eqb kind ARRAY) || leb (p + 24) (length b)))
      (step_by (row_of kind).size (word_at (order_of b) b (p + 8)) (word_at (order_of b) b (p + 12)) (word_at (order_of b) b (p + 20)))
      lost

  unfoldable pub step_at : ℕ → Step
  step_at t = cond (ltb t (length index)) (step_at_place (get_or index t 0)) lost

  -- 22: "more records would be read than the index has places"
  unfoldable pub size_asked : ℕ → Found
  size_asked t = size_by step_at (length index) t

-- how an exact size, or its lack, is answered: "Above 4,294,967,295: overflow"
abbrev pub answer_of : Option ℕ → Answer
answer_of none = report 1 0
answer_of (some s) = cond (leb s size_limit) (value s) (report 2 0)

-- how what a walk finds is answered
abbrev pub size_answer : Found → Answer
size_answer (exactly s) = answer_of (some s)
size_answer none_at = answer_of none
size_answer lost_at = report 21 0
size_answer too_far = report 22 0

-- the size question: blob, index, type number
unfoldable pub size_of : List ℕ → List ℕ → ℕ → Answer
size_of b index t = size_answer (size_asked b index t)
