-- A whole body by its first field, and a record by its body.
-- Assumes nothing.
use Prim.Native.Nat.{ℕ, ◌-◌, ◌≤◌}
use mathlib.Core.Path.{◌≡◌, refl, sym, ap, ◌∙◌, subst}
use mathlib.Core.Bool.{Bool, true, false, cond}
use mathlib.Core.List.{List, []}
use mathlib.Core.Option.{Option, none, some}
use native.Mathlib.Omega.{arith}
use lib.ListN.{length, take, drop}
use Rattle.lists.proofs.Bodies.{Says, info-in-field, record_of-says, says-record_of}
use Rattle.lists.proofs.OneBody.{Taking, take_body-taking}
use Rattle.lists.specs.Kept.{fault_number}
use Rattle.lists.specs.List.{fault, on_taken, carried, take_body, RecordsRead, stop, in_front, on_body, record_of}
use Rattle.lists.specs.List as list
use Rattle.lists.specs.declared.Fault.{Fault}
use Rattle.lists.specs.declared.Fault.TheVariants.{OutOfPlace}
use Rattle.paper.proofs.bytes.Bytes.{part-rest}
use Rattle.paper.specs.declared.Order.{Order}
use Rattle.paper.specs.rules.Table.{Record}
use Rattle.paper.specs.rules.Walk.{known}
use Rattle.paper.specs.rules.Word.{word_at}
use Rattle.paper.specs.terms.Fit.{Bytes}
use Rattle.taking.specs.Taking.{BodyAs, BodyIn, FieldOf, RecordBad, RecordIn, carried_from, record_then, stands_as}
use Rattle.taking.specs.declared.bodies.Body.{Body}
use Rattle.std.specs.Prelude.{Ok, Err, Result}

-- ── a body by its first field ──

module _ (strings : Bool) (s : List ℕ) where
  abbrev on : ℕ → List ℕ → List ℕ → list.Taken
  on tag body rest = cond (stands_as strings tag) (carried (length s) tag [] body rest) (fault 52)

  pub body-bad : (f : Fault) → FieldOf (Err f) s → take_body (stands_as strings) s ≡ fault (fault_number f)
  unfolding take_body
  body-bad f h = ap (λ (x : list.Taken). on_taken x on) h.is

  module _ {t n : ℕ} (h : FieldOf (Ok (record { tag = t; len = n })) s) where
    by_place : {z : Bool} → stands_as strings t ≡ z → take_body (stands_as strings) s ≡ cond z (carried_from s t n) (fault 52)
    unfolding take_body
    by_place e = ap (λ (x : list.Taken). on_taken x on) h.is ∙ ap (λ (z : Bool). cond z (carried_from s t n) (fault 52)) e

    pub body-misplaced : stands_as strings t ≡ false → take_body (stands_as strings) s ≡ fault (fault_number OutOfPlace)
    unfolding fault_number
    body-misplaced e = by_place e

    pub body-carried : stands_as strings t ≡ true → (r : Result Body Fault) → BodyAs r (carried_from s t n) s → BodyAs r (take_body (stands_as strings) s) s
    body-carried e r b = subst (λ (x : list.Taken). BodyAs r x s) (sym (by_place e)) b

-- ── a record by its body ──

abbrev then_read : Order → (List ℕ → RecordsRead) → ℕ → List ℕ → List ℕ → RecordsRead
then_read order next tag whole rest = in_front (record_of order tag whole) (next rest)

pub record-bad : (order : Order) (s : List ℕ) (f : Fault) → take_body known s ≡ fault (fault_number f) → RecordBad order s (fault_number f)
record-bad order s f e = record { is = λ next. ap (λ (x : list.Taken). on_body x (then_read order next)) e }

module _ (order : Order) {s : List ℕ} {tag len end : ℕ} (b : BodyIn (take_body known s) s tag len end) (bytes : Bytes s) where
  taking : Taking known s tag b.whole (drop end s)
  taking = take_body-taking known s bytes b.is

  -- the info word, as it is read of the first field
  pub record-info : {info : ℕ} → info ≡ word_at order (take (length s - 3) (drop 3 s)) 4 → 12 ≤ len → info ≡ word_at order b.whole 4
  record-info e room =
      e
      ∙ ap (λ (u : List ℕ). word_at order u 4) (part-rest s 3 ∙ ap (drop 3) taking.is)
      ∙ info-in-field order tag b.whole (drop end s) (omega (arith, b.long))

  opened : (next : List ℕ → RecordsRead) {o : Option Record} → record_of order tag b.whole ≡ o → record_then order next s ≡ in_front o (next (drop end s))
  opened next e = ap (λ (x : list.Taken). on_body x (then_read order next)) b.is ∙ ap (λ (o : Option Record). in_front o (next (drop end s))) e

  -- 52: it does not say that it is a record
  pub record-none : (Says order tag b.whole → ⊥) → RecordBad order s (fault_number OutOfPlace)
  unfolding fault_number
  record-none other = record { is = λ next. go next (record_of order tag b.whole) refl }
    where
      go : (next : List ℕ → RecordsRead) (o : Option Record) → record_of order tag b.whole ≡ o → record_then order next s ≡ stop 52
      go next none e = opened next e
      go next (some r) e = absurd (other (record_of-says order tag b.whole taking.body_bytes e))

  pub record-some : Says order tag b.whole → RecordIn order s len end
  record-some x =
      let f = says-record_of order tag b.whole taking.body_bytes taking.stands x in
      record {
        it = f.it;
        is = λ next. opened next f.reads;
        long = f.wide ∙ b.long;
        inside = b.inside;
        above = b.above;
      }
