-- What a list is refused with before a table is looked at is 50, 51 or 52, of any bytes.
-- Assumes nothing.
use Prim.Native.Nat.{ℕ, zero, suc, ◌+◌, ◌*◌, ◌≤◌}
use mathlib.Core.Path.{◌≡◌, subst}
use mathlib.Core.Bool.{Bool, true, false, cond}
use mathlib.Core.List.{List, [], ◌∷◌, ◌++◌}
use mathlib.Core.Option.{Option, none, some}
use native.Mathlib.Omega.{arith}
use lib.Dec.{leb, ltb}
use lib.ListN.{length, take, drop}
use Rattle.lists.specs.List.{is_string_tag, tag_order, is_carry, is_tag, field_most, Taken, fault, taken, on_taken, behind_tag, take_field, carried, take_body}
use Rattle.lists.specs.List.{record_of, Listed, unread, table, RecordsRead, stop, all, in_front, on_body, read_records, with_strings, on_strings, read_list}
use Rattle.paper.specs.declared.Order.{Order}
use Rattle.paper.specs.rules.Table.{Record}
use Rattle.paper.specs.rules.Walk.{known}

abbrev Faulty : ℕ → Type 0
Faulty n = (50 ≤ n) × (n ≤ 52)

-- ── a body ──

abbrev FaultyTaken : Taken → Type 0
FaultyTaken (fault n) = Faulty n
FaultyTaken (taken tag body rest) = Unit {0}

either : (z : Bool) (x y : Taken) → FaultyTaken x → FaultyTaken y → FaultyTaken (cond z x y)
either true x y p q = p
either false x y p q = q

behind-faulty : (tag : ℕ) (s : List ℕ) → FaultyTaken (behind_tag tag s)
behind-faulty tag [] = (omega arith, omega arith)
behind-faulty tag (a ∷ []) = (omega arith, omega arith)
behind-faulty tag (a ∷ b ∷ s) =
    either (leb (a + b * 256) (length s)) (taken tag (take (a + b * 256) s) (drop (a + b * 256) s)) (fault 51) tt (omega arith, omega arith)

field-faulty : (s : List ℕ) → FaultyTaken (take_field s)
field-faulty [] = (omega arith, omega arith)
field-faulty (tag ∷ s) = either (is_tag tag) (behind_tag tag s) (fault 50) (behind-faulty tag s) (omega arith, omega arith)

on-faulty : (x : Taken) (next : ℕ → List ℕ → List ℕ → Taken) → FaultyTaken x → ((t : ℕ) (b r : List ℕ) → FaultyTaken (next t b r)) → FaultyTaken (on_taken x next)
on-faulty (fault n) next p q = p
on-faulty (taken t b r) next p q = q t b r

carried-faulty : (k tag : ℕ) (before body rest : List ℕ) → FaultyTaken (carried k tag before body rest)
carried-faulty zero tag before body rest = tt
carried-faulty (suc k) tag before body rest =
    either (ltb (length body) field_most) (taken tag (before ++ body) rest) (on_taken (take_field rest) on) tt
    (on-faulty (take_field rest) on (field-faulty rest)
    (λ t b r. either (is_carry t) (carried k tag (before ++ body) b r) (fault 52) (carried-faulty k tag (before ++ body) b r) (omega arith, omega arith)))
  where
    on : ℕ → List ℕ → List ℕ → Taken
    on t b r = cond (is_carry t) (carried k tag (before ++ body) b r) (fault 52)

body-faulty : (here : ℕ → Bool) (s : List ℕ) → FaultyTaken (take_body here s)
unfolding take_body
body-faulty here s =
    on-faulty (take_field s) on (field-faulty s)
    (λ t b r. either (here t) (carried (length s) t [] b r) (fault 52) (carried-faulty (length s) t [] b r) (omega arith, omega arith))
  where
    on : ℕ → List ℕ → List ℕ → Taken
    on t b r = cond (here t) (carried (length s) t [] b r) (fault 52)

-- ── the records ──

abbrev FaultyRecords : RecordsRead → Type 0
FaultyRecords (stop n) = Faulty n
FaultyRecords (all rs) = Unit {0}

front-faulty : (o : Option Record) (q : RecordsRead) → FaultyRecords q → FaultyRecords (in_front o q)
front-faulty none q p = (omega arith, omega arith)
front-faulty (some r) (stop n) p = p
front-faulty (some r) (all rs) p = tt

records-faulty : (m : ℕ) (order : Order) (s : List ℕ) → FaultyRecords (read_records m order s)
records-faulty zero order s = tt
records-faulty (suc m) order [] = tt
records-faulty (suc m) order (x ∷ s) =
    go (take_body known (x ∷ s)) (body-faulty known (x ∷ s)) (λ rest. records-faulty m order rest)
  where
    go : (t : Taken) → FaultyTaken t → ((rest : List ℕ) → FaultyRecords (read_records m order rest))
        → FaultyRecords (on_body t (λ (tag : ℕ) (body : List ℕ) (rest : List ℕ). in_front (record_of order tag body) (read_records m order rest)))
    go (fault n) p later = p
    go (taken tag body rest) p later = front-faulty (record_of order tag body) (read_records m order rest) (later rest)

-- ── the list ──

abbrev FaultyList : Listed → Type 0
FaultyList (unread n) = Faulty n
FaultyList (table order T) = Unit {0}

list-faulty : (s : List ℕ) → FaultyList (read_list s)
unfolding read_list
list-faulty s = go (take_body is_string_tag s) (body-faulty is_string_tag s)
  where
    by-records : (order : Order) (strings : List ℕ) (q : RecordsRead) → FaultyRecords q → FaultyList (with_strings order strings q)
    by-records order strings (stop n) p = p
    by-records order strings (all rs) p = tt

    go : (t : Taken) → FaultyTaken t → FaultyList (on_strings t)
    go (fault n) p = p
    go (taken tag body rest) p = by-records (tag_order tag) body (read_records (length rest) (tag_order tag) rest) (records-faulty (length rest) (tag_order tag) rest)

pub unread-number : (s : List ℕ) {n : ℕ} → read_list s ≡ unread n → (50 ≤ n) × (n ≤ 52)
unread-number s e = subst FaultyList e (list-faulty s)
