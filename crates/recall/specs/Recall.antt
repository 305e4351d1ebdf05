-- What is remembered of each type in the work slice when phase 5 has come to its end, so that phase 6 walks no chain: the base of an alias, the type whose size
-- another has, the size of an array's element, and whether a prototype names its parameters. A place of the slice that tells is `first_telling` or more.
use Rattle.std.specs.Prelude.{ℕ, zero, suc, ◌+◌, ◌-◌, ◌*◌, Bool, false, cond, List, eqb, leb, ltb, get_or}
use Rattle.std.proofs.Math.Option.{Option, none, some}
use Rattle.paper.specs.rules.Kind.{row_of}
use Rattle.paper.specs.rules.KindNo.{FUNC_PROTO}
use Rattle.paper.specs.rules.Layout.{all_named}
use Rattle.paper.specs.rules.Size.{Step, is, many_of, sizeless, lost, step_by, step_in, exact_size}
use Rattle.paper.specs.rules.Span.{is_alias, base_from}
use Rattle.paper.specs.rules.Table.{Record, Table, count, record_at, kind_at, kind_of}
use Rattle.paper.specs.rules.Tails.{parameters_of}
use Rattle.sizes.specs.SizeStep.{cut}

-- above every mark of a type on the way of the search
abbrev pub first_telling : ℕ
first_telling = 1073872896

-- the most that a place can tell
abbrev pub most_told : ℕ
most_told = 3221094399

-- what a slice tells of a type; 0 where it tells nothing
abbrev pub told : List ℕ → ℕ → ℕ
told memo t = get_or memo t 0 - first_telling

-- a size as far as it matters: all that overflow are one
abbrev pub cut_size : Option ℕ → Option ℕ
cut_size none = none
cut_size (some s) = some (cut s)

-- ── what is to be remembered ──

-- the element of an array of two or more matters up to here: twice as much overflows
abbrev pub half_size : ℕ
half_size = 2147483648

-- a size up to there, or that there is none
abbrev pub size_code : Option ℕ → ℕ
size_code none = half_size + 1
size_code (some s) = cond (leb s half_size) s half_size

-- a step to one other type, whose size is this one's
abbrev pub is_one : Step → Bool
is_one (is s) = false
is_one (many_of n u) = eqb n 1
is_one sizeless = false
is_one lost = false

-- where a step goes on
abbrev pub goes_to : Step → ℕ
goes_to (is s) = 0
goes_to (many_of n u) = u
goes_to sizeless = 0
goes_to lost = 0

-- the type at the end of a line of such steps: it has the size of them all
abbrev pub end_from : Table → ℕ → ℕ → ℕ
end_from T zero t = t
end_from T (suc k) t = let there = end_from T k (goes_to (step_in T t)) in cond (is_one (step_in T t)) there t

-- a prototype that leaves a parameter without a name is told from all else
abbrev pub named_code : Record → ℕ
named_code r = cond (eqb (kind_of r) FUNC_PROTO) (cond (all_named (parameters_of r)) 0 1) 0

-- of a type that is no alias, by its step: the end of its line, or its element's size
abbrev pub step_code : Step → ℕ → (ℕ → Option ℕ) → Record → ℕ
step_code (is s) end size r = named_code r
step_code (many_of n u) end size r = cond (eqb n 1) end (size_code (size u))
step_code sizeless end size r = named_code r
step_code lost end size r = named_code r

unfoldable pub code_at : Table → ℕ → ℕ
code_at T t =
    cond (is_alias (kind_at T t)) (base_from T (count T) t)
    (step_code (step_in T t) (end_from T (count T) t) (exact_size T) (record_at T t))

-- what a record says of a size
unfoldable pub step_of : Record → Step
step_of r = step_by (row_of (kind_of r)).size r.third (get_or r.tail 0 0) (get_or r.tail 2 0)

-- ── what a slice tells, of any table ──

-- so many of an element whose size a code tells
abbrev pub many_told : ℕ → ℕ → Option ℕ
many_told n code = cond (ltb half_size code) none (some (n * code))

abbrev pub size_behind : Step → ℕ → Option ℕ
size_behind (is s) code = some s
size_behind (many_of n u) code = many_told n code
size_behind sizeless code = none
size_behind lost code = none

module _ (memo : List ℕ) (T : Table) where
  abbrev pub base_told : ℕ → ℕ
  base_told t = cond (is_alias (kind_at T t)) (told memo t) t

  abbrev pub end_told : ℕ → ℕ
  end_told t = let a = base_told t in cond (is_one (step_in T a)) (told memo a) a

  -- the size of a type that is no alias, by its step
  abbrev pub size_at : ℕ → Step → Option ℕ
  size_at a step = let e = told memo a in cond (is_one step) (size_behind (step_in T e) (told memo e)) (size_behind step (told memo a))

  unfoldable pub size_told : ℕ → Option ℕ
  size_told t = let a = base_told t in size_at a (step_in T a)

  -- what is to be remembered of a record, by what is told of the types that it leads to
  unfoldable pub code_told : Record → ℕ
  code_told r =
      let step = step_of r in
      cond (is_alias (kind_of r)) (base_told (goes_to step)) (step_code step (end_told (goes_to step)) size_told r)

  -- its mark: a code that passes 32 bits, which no table that is searched has, is not told
  unfoldable pub mark_told : Record → ℕ
  mark_told r = cond (leb (code_told r) most_told) (first_telling + code_told r) first_telling
