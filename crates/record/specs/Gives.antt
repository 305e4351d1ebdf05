-- What a member of a record gives, of any blob: 34 with the table's report inside, 35, or what the table's member says. "It checks the blob itself,
-- the slices ending as after a check".
use Rattle.std.specs.Prelude.{ℕ, ◌≡◌, List}
use Rattle.std.proofs.Math.Option.{Option, none, some}
use Rattle.paper.specs.rules.Answer.{Answer, report, inside}
use Rattle.paper.specs.rules.Gate.{refusal, gate}
use Rattle.paper.specs.rules.Header.{order_of}
use Rattle.paper.specs.rules.Walk.{table_of}
use Rattle.paper.specs.declared.Order.{Order}
use Rattle.paper.specs.declared.Order.TheVariants.{LowFirst, HighFirst}
use Rattle.values.specs.Given.{Given, refused_as, given, given_as_paper}
use Rattle.values.specs.Value.{Read, read_member}
use Rattle.values.specs.declared.MemberValue.{MemberValue}

-- "34, the table is refused (its report inside)"; "a big-endian table with 35, right after 34"
abbrev pub unless_refused : Option Answer → Order → Read → Given
unless_refused (some a) LowFirst r = refused_as (inside 34 a)
unless_refused (some a) HighFirst r = refused_as (inside 34 a)
unless_refused none HighFirst r = refused_as (report 35 0)
unless_refused none LowFirst r = given r

unfoldable pub member_gives : List ℕ → ℕ → ℕ → ℕ → ℕ → List ℕ → Given
member_gives b places work t m s = unless_refused (refusal b places work) (order_of b) (read_member (table_of b) t m s)

-- the answer, and both slices as the check of the blob leaves them
pub record MemberOf (r : MemberValue) (b : List ℕ) (places work_places t m : ℕ) (s index work : List ℕ) : Type 0 where
  pub answers : given_as_paper r ≡ member_gives b places work_places t m s
  pub indexes : index ≡ (gate b places work_places).index
  pub works : work ≡ (gate b places work_places).work
