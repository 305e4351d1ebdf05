-- What phases 3 to 6 say of the table that an index shows, of any bytes, in the paper's numbers.
use Rattle.paper.specs.declared.Report.{Report}
use Rattle.std.specs.Prelude.{ℕ, ◌≡◌, not, cond, ◌&&◌, List, [], ◌∷◌, leb, ltb, Err, Ok, Result}
use Rattle.std.proofs.Math.Option.{Option, none, some}
use Rattle.paper.specs.rules.Answer.{Answer, report_as_paper}
use Rattle.layout.specs.Told.{layout_told}
use Rattle.paper.specs.rules.Choice.{Rule, ◌when◌, or_else}
use Rattle.paper.specs.rules.Gate.{first_of, phase4, phase5, phase6, zeros}
use Rattle.paper.specs.rules.Header.{strings_in}
use Rattle.paper.specs.rules.Limits.{type_limit}
use Rattle.paper.specs.rules.Table.{Table, record_at}
use Rattle.rules.specs.Phase.{rules_of}
use Rattle.views.specs.Shown.{place_by, table_by}
use Rattle.views.specs.declared.View.{View}

abbrev pub said_as_paper : Result (Unit {0}) Report → Option Answer
said_as_paper (Ok _) = none
said_as_paper (Err r) = some (report_as_paper r)

-- phase 3, with the names of two string sections
unfoldable pub phase3_by : List ℕ → List ℕ → Table → ℕ → List Rule
phase3_by before strings T t = rules_of before strings (record_at T t)

-- phase 6, by what a slice tells
unfoldable pub phase6_told : List ℕ → Table → ℕ → List Rule
phase6_told memo T t = 15 when not (layout_told (record { table = T; memo = memo }) (record_at T t)) ∷ []

module _ (base b index : List ℕ) (v : View) where
  -- what a phase says over the types of the table that an index shows, at the places that the index has
  unfoldable pub over_shown : (Table → ℕ → List Rule) → Option Answer
  over_shown phase = first_of (place_by index v) (phase (table_by base b index v)) v.n 1

  -- phases 4 to 6: "The earliest phase speaks"
  unfoldable pub behind_third : Option Answer
  behind_third = or_else (over_shown phase4) (or_else (over_shown phase5) (over_shown phase6))

  -- of more types than the limit, or than a work slice has places for, nothing
  unfoldable pub later_says : ℕ → Option Answer
  later_says room = cond (leb v.n type_limit && ltb v.n room) behind_third none

  -- and phase 3 before them
  unfoldable pub judged : ℕ → Option Answer
  judged room = or_else (over_shown (phase3_by (strings_in base) (strings_in b))) (later_says room)

-- phases 4 to 6, and a work slice that is all 0
pub record LaterOf (base b index : List ℕ) (v : View) (room : ℕ) (r : Result (Unit {0}) Report) (work : List ℕ) : Type 0 where
  pub says : said_as_paper r ≡ later_says base b index v room
  pub cleared : work ≡ zeros room

-- phases 3 to 6, and a work slice that is all 0
pub record JudgeOf (base b index : List ℕ) (v : View) (room : ℕ) (r : Result (Unit {0}) Report) (work : List ℕ) : Type 0 where
  pub says : said_as_paper r ≡ judged base b index v room
  pub cleared : work ≡ zeros room
