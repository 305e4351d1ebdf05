-- What the functions of phase 2 ask and answer, in the paper's terms.
use Rattle.scan.specs.declared.walk.Torn.TheVariants.{Cut, Unknown}
use Rattle.scan.specs.declared.walk.Torn.{Torn}
use Rattle.paper.specs.declared.Report.{Report}
use Rattle.paper.specs.declared.Place.{Place}
use Rattle.std.specs.Prelude.{ℕ, ◌+◌, ◌*◌, ◌%◌, ◌≤◌, ◌≡◌, cond, List, leb, length, Err, Ok, Result}
use Rattle.paper.specs.rules.Answer.{Answer, report_at, report_as_paper}
use Rattle.paper.specs.rules.Header.{order_of, header_length, type_len}
use Rattle.pairs.specs.Lean.{walk_behind}
use Rattle.paper.specs.rules.Limits.{byte_limit, type_limit}
use Rattle.paper.specs.rules.Table.{kind_in, tail_length}
use Rattle.paper.specs.rules.Walk.{records, stopped, known}
use Rattle.paper.specs.rules.Walk as paper
use Rattle.paper.specs.rules.Word.{word_at}

-- what phase 1 has shown of a blob whose type section is so many bytes long
pub record TypeSection (b : List ℕ) (n : ℕ) : Type 0 where
  pub is_type_len : n ≡ type_len b
  pub whole_words : n % 4 ≡ 0
  pub inside : header_length + n ≤ length b
  pub short : length b ≤ byte_limit

-- and of the types that stand before it
pub record WalkBegins (b : List ℕ) (first n : ℕ) : Type 0 where
  pub section : TypeSection b n
  pub few : first ≤ type_limit

-- what a walk has found, but for the records themselves: how many there are, or a report
pub data Finding : Type 0 where
  counted : ℕ → Finding
  refused : Answer → Finding

abbrev pub finding_of : paper.Walked → Finding
finding_of (records rs) = counted (length rs)
finding_of (stopped n t p) = refused (report_at n t p)

-- a finding behind so many types
abbrev pub behind : ℕ → Finding → Finding
behind k (counted n) = counted (k + n)
behind k (refused a) = refused a

-- what the walk behind so many types finds
abbrev pub walk_finds : ℕ → List ℕ → Finding
walk_finds first b = behind first (finding_of (walk_behind first b))

abbrev pub walked_as_paper : Result ℕ Report → Finding
walked_as_paper (Ok n) = counted n
walked_as_paper (Err r) = refused (report_as_paper r)

-- what phases 1 and 2 have shown before the places are written: a walk behind so many types that counted to n, and enough places for them
pub record WalkDone (b : List ℕ) (first n places : ℕ) : Type 0 where
  pub section : TypeSection b (type_len b)
  pub finds : walk_finds first b ≡ counted n
  pub enough : n + 1 ≤ places

-- one step from a place: the place behind the record there, or why there is none
unfoldable pub behind_of : List ℕ → ℕ → ℕ → Result Place Torn
behind_of b at end =
    let info = word_at (order_of b) b (at + 4) in
    let next = at + 12 + 4 * tail_length info in
    cond (leb (at + 12) end)
    (cond (known (kind_in info)) (cond (leb next end) (Ok (record { 0 = next })) (Err Cut)) (Err Unknown))
    (Err Cut)
