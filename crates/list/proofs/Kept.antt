-- Order 10 of the code, reading: what it means that `read` has answered, and that what one of the two writes the other gives back.
-- Each from the contracts alone. Assumes nothing.
use Rattle.std.specs.Prelude.{Result, ℕ}
use Rattle.lists.specs.declared.WriteError.{WriteError}
use Rattle.lists.specs.declared.MakeError.{MakeError}
use Prim.Native.Nat.{ℕ, ◌≤◌, ◌<◌}
use mathlib.Core.Path.{◌≡◌, refl, sym, ap, ap₂, ◌∙◌}
use mathlib.Core.Bool.{Bool, true, false, ◌||◌}
use mathlib.Core.List.{List, [], ◌∷◌, ◌++◌}
use mathlib.Core.Option.{Option, none, some}
use native.Mathlib.Omega.{arith}
use borrow.Author.Tests.{le-ltb}
use lib.Dec.{ltb}
use lib.ListN.{length, take, drop}
use lib.Seq.{take_at}
use Rattle.list.proofs.Demands.{accepted-written}
use Rattle.list.proofs.Readings.{by-listed}
use Rattle.list.specs.Listing.{WriteOf}
use Rattle.list.specs.Reading.{ReadOf}
use Rattle.lists.proofs.Faults.{unread-number}
use Rattle.lists.proofs.Keeping.{list-table, table-list}
use Rattle.lists.proofs.Wrotes.{made_one}
use Rattle.lists.specs.Kept.{ReadOutcome, list_in, looked, made_as_paper, made_outcome, read_into, read_outcome}
use Rattle.lists.specs.List.{Listed, unread, table, read_list}
use Rattle.paper.proofs.gates.Acceptance.{accepted-bytes, accepted-with}
use Rattle.paper.specs.declared.Order.{Order}
use Rattle.paper.specs.rules.Answer.{Answer, value}
use Rattle.paper.specs.rules.Choice.{◌when◌, first_due}
use Rattle.paper.specs.rules.Gate.{gate, refusal}
use Rattle.paper.specs.rules.Header.{order_of}
use Rattle.paper.specs.rules.Join.{refused_inside}
use Rattle.paper.specs.rules.Table.{Table, count}
use Rattle.paper.specs.rules.Walk.{bytes_of, table_of}
use Rattle.paper.specs.terms.Fit.{Bytes}

-- ── by what a list is read as ──

module _ (s : List ℕ) (places work lent : ℕ) (out : List ℕ) where
  abbrev result : List ℕ → Option Answer → ReadOutcome
  result made o = looked made (gate made places work) lent out (refused_inside 54 o)

  -- a table of an order that is made: it is accepted, and there was room for it
  record MadeOf (o : ReadOutcome) : Type 0 where
    order : Order
    it : Table
    reads : read_list s ≡ table order it
    accepted : refusal (bytes_of order it) places work ≡ none
    is : o ≡ result (bytes_of order it) none

  -- either nothing was written and a number said why, or a table was made
  data Ways (o : ReadOutcome) : Type 0 where
    refused : (o.answer.number ≡ 0 → ⊥) → o.output ≡ out → Ways o
    whole : MadeOf o → Ways o

  ways : Ways (read_into s places work lent out)
  unfolding read_into
  ways = by-list (read_list s) refl
    where
      by-check : (order : Order) (T : Table) → read_list s ≡ table order T → (o : Option Answer) → refusal (bytes_of order T) places work ≡ o → Ways (result (bytes_of order T) o)
      by-check order T e none p = whole (record { order = order; it = T; reads = e; accepted = p; is = refl })
      by-check order T e (some a) p = refused (λ (z : ◌≡◌ {A = ℕ} 54 0). omega arith) refl

      by-room : (order : Order) (T : Table) → read_list s ≡ table order T → (z : Bool)
          → Ways (made_outcome (bytes_of order T) places work lent out (first_due (53 when z ∷ [])))
      by-room order T e true = refused (λ (z : ◌≡◌ {A = ℕ} 53 0). omega arith) refl
      by-room order T e false = by-check order T e (refusal (bytes_of order T) places work) refl

      by-list : (l : Listed) → read_list s ≡ l → Ways (read_outcome l places work lent out)
      by-list (unread n) e = refused (λ (z : n ≡ 0). omega (arith, (unread-number s e).0)) refl
      by-list (table order T) e = by-room order T e (ltb (length out) (length (bytes_of order T)) || ltb lent (length (bytes_of order T)))

-- ── what `read` answers ──

module _ {r : Result ℕ MakeError} {s : List ℕ} {places work lent : ℕ} {out index left bytes output : List ℕ} (h : ReadOf r s places work lent out index left bytes output) where
  abbrev o : ReadOutcome
  o = read_into s places work lent out

  number : (made_as_paper r).number ≡ o.answer.number
  number = ap (λ (a : Answer). a.number) h.told.answers

  -- "No refusal touches the output"
  pub unread-output : ((made_as_paper r).number ≡ 0 → ⊥) → output ≡ out
  unread-output other = go (ways s places work lent out)
    where
      go : Ways s places work lent out o → output ≡ out
      go (refused no_table same) = h.told.outputs ∙ same
      go (whole m) = absurd (other (number ∙ ap (λ (x : ReadOutcome). x.answer.number) m.is))

  -- a list of a table that is accepted is read where there is room: the output begins with the table, and no byte behind it changes
  pub listed-read : {order : Order} {T : Table} → read_list s ≡ table order T → refusal (bytes_of order T) places work ≡ none
      → length (bytes_of order T) ≤ length out → length (bytes_of order T) ≤ lent
      → (made_as_paper r ≡ value (length (bytes_of order T))) × (output ≡ bytes_of order T ++ drop (length (bytes_of order T)) out)
  listed-read {order} {T} e accepted room room' =
      let made : List ℕ = bytes_of order T in
      let x : o ≡ result s places work lent out made none =
      by-listed s places work lent out e
      ∙ ap₂ (λ (y z : Bool). made_outcome made places work lent out (first_due (53 when (y || z) ∷ [])))
      (le-ltb (length out) (length made) room) (le-ltb lent (length made) room')
      ∙ ap (λ (q : Option Answer). result s places work lent out made q) accepted in
      (h.told.answers ∙ ap (λ (q : ReadOutcome). q.answer) x, h.told.outputs ∙ ap (λ (q : ReadOutcome). q.output) x)

  -- what is read is an accepted table, in front of what was there, and its list is the list that was read: list to table to list
  pub record Gives : Type 0 where
    pub blob : List ℕ
    pub accepted : refusal blob places work ≡ none
    pub outputs : output ≡ blob ++ drop (length blob) out
    pub lists : list_in blob ≡ s

  pub read-list : Bytes s → (made_as_paper r).number ≡ 0 → Gives
  read-list bytes z = go (ways s places work lent out)
    where
      go : Ways s places work lent out o → Gives
      go (refused no_table same) = absurd (no_table (sym number ∙ z))
      go (whole m) =
          record {
            blob = bytes_of m.order m.it;
            accepted = m.accepted;
            outputs = h.told.outputs ∙ ap (λ (x : ReadOutcome). x.output) m.is;
            lists = table-list s bytes m.reads places work m.accepted;
          }

-- any two results that the contract allows are the same, slice by slice
pub read_one : {r r' : Result ℕ MakeError} {s : List ℕ} {places work lent : ℕ} {out index left bytes output index' left' bytes' output' : List ℕ}
    → ReadOf r s places work lent out index left bytes output → ReadOf r' s places work lent out index' left' bytes' output'
    → (r ≡ r') × (index ≡ index') × (left ≡ left') × (bytes ≡ bytes') × (output ≡ output')
read_one {r} {r'} h k = (
  made_one r r' (h.told.answers ∙ sym k.told.answers),
  h.told.indexes ∙ sym k.told.indexes,
  h.told.works ∙ sym k.told.works,
  h.blanks ∙ sym k.blanks,
  h.told.outputs ∙ sym k.told.outputs,
)

-- ── table to list to table ──

-- an accepted table that `write` has written out, where there was room, `read` gives back byte for byte, in whatever slices have room for it
pub written_back : {w : Result ℕ WriteError} {r : Result ℕ MakeError} {b : List ℕ} {places work : ℕ} {paper index left list : List ℕ} → WriteOf w b places work paper index left list
    → refusal b places work ≡ none → Bytes b → length (list_in b) ≤ length paper
    → {places' work' lent : ℕ} {out index' left' bytes' output : List ℕ} → ReadOf r (take (length (list_in b)) list) places' work' lent out index' left' bytes' output
    → count (table_of b) < places' → count (table_of b) < work' → length b ≤ length out → length b ≤ lent
    → (made_as_paper r ≡ value (length b)) × (output ≡ b ++ drop (length b) out)
written_back {b = b} {places} {work} {paper} {list = list} h accepted bytes room {places'} {work'} {out = out} k enough enough' room' room'' =
    let e : read_list (take (length (list_in b)) list) ≡ table (order_of b) (table_of b) =
    ap read_list (ap (take (length (list_in b))) (accepted-written h accepted room).1 ∙ take_at (list_in b) (drop (length (list_in b)) paper) (length (list_in b)) refl)
    ∙ list-table b bytes places work accepted in
    let same : bytes_of (order_of b) (table_of b) ≡ b = accepted-bytes b places work accepted bytes in
    let x =
    listed-read k e (ap (λ (c : List ℕ). refusal c places' work') same ∙ accepted-with b places work accepted places' work' enough enough')
    (omega (arith, ap length same)) (omega (arith, ap length same)) in (
      x.0 ∙ ap (λ (c : List ℕ). value (length c)) same,
      x.1 ∙ ap (λ (c : List ℕ). c ++ drop (length c) out) same,
    )
