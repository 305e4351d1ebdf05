-- The join: of tables, and of any two blobs, any lent places and any output slice.
use Rattle.std.specs.Prelude.{ℕ, ◌+◌, ◌-◌, not, List, [], ◌∷◌, ◌++◌, map, ltb, length, drop}
use Rattle.std.proofs.Math.Option.{Option, none, some}
use Rattle.paper.specs.rules.Answer.{Answer, value, inside}
use Rattle.paper.specs.rules.Choice.{Rule, ◌when◌, first_due, or_else}
use Rattle.paper.specs.rules.Gate.{refusal, naming, zeros}
use Rattle.paper.specs.rules.Header.{order_of}
use Rattle.paper.specs.rules.Limits.{type_limit, byte_limit}
use Rattle.paper.specs.rules.Rename.{rename, raise}
use Rattle.paper.specs.rules.Table.{Record, Table, count}
use Rattle.paper.specs.rules.Walk.{table_of, bytes_of}
use Rattle.paper.specs.rules.Word.{same_order}

-- a record of a second table "as demand 3 raises" it: type numbers by the first's count, name offsets by its string length less one
abbrev pub raised : Table → Record → Record
raised A r = rename (raise (count A)) (raise (length A.strings - 1)) r

-- "the first's records, the second's as demand 3 raises them, the first's strings, the second's strings without their first byte"
unfoldable pub join_tables : Table → Table → Table
join_tables A B =
    record {
      records = A.records ++ map (raised A) B.records;
      strings = A.strings ++ drop 1 B.strings;
    }

abbrev pub refused_inside : ℕ → Option Answer → Option Answer
refused_inside number none = none
refused_inside number (some a) = some (inside number a)

unfoldable pub joined_bytes : List ℕ → List ℕ → List ℕ
joined_bytes a b = bytes_of (order_of a) (join_tables (table_of a) (table_of b))

-- what two accepted tables are still refused for: 24, "joining two orders", "after 17 and before 18";
-- 18, 19, 20: types together over the limit; "joined length over" the limit; "output shorter than that length; in that order"
abbrev pub limit_rules : List ℕ → List ℕ → ℕ → List Rule
limit_rules a b room =
    24 when not (same_order (order_of a) (order_of b))
    ∷ 18 when ltb type_limit (count (table_of a) + count (table_of b))
    ∷ 19 when ltb byte_limit (length (joined_bytes a b))
    ∷ 20 when ltb room (length (joined_bytes a b))
    ∷ []

unfoldable pub limit_report : List ℕ → List ℕ → ℕ → Option Answer
limit_report a b room = naming 0 (first_due (limit_rules a b room))

-- 16: "the first table is refused; 17, the second"
unfoldable pub join_refusal : List ℕ → List ℕ → ℕ → ℕ → ℕ → Option Answer
join_refusal a b places work_places room =
    or_else (refused_inside 16 (refusal a places work_places))
    (or_else (refused_inside 17 (refusal b places work_places)) (limit_report a b room))

pub record JoinOutcome : Type 0 where
  pub answer : Answer
  pub output : List ℕ
  pub index : List ℕ
  pub work : List ℕ

-- "A refusal changes no output byte; success changes no output byte past the joined length. Both u32 slices end all 0"
abbrev pub join_outcome : List ℕ → ℕ → ℕ → List ℕ → Option Answer → JoinOutcome
join_outcome whole places work_places out none =
    record
    { answer = value (length whole); output = whole ++ drop (length whole) out; index = zeros places; work = zeros work_places }
join_outcome whole places work_places out (some a) =
    record { answer = a; output = out; index = zeros places; work = zeros work_places }

unfoldable pub join : List ℕ → List ℕ → ℕ → ℕ → List ℕ → JoinOutcome
join a b places work_places out =
    join_outcome (joined_bytes a b) places work_places out (join_refusal a b places work_places (length out))
