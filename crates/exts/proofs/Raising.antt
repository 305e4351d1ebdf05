-- A lasting promise with the join: a section raised as the join raises its table has beside the joined table just the faults that it had beside its own.
-- Assumes nothing.
use Prim.Native.Nat.{ℕ, zero, suc, ◌+◌, ◌-◌, ◌≤◌, ◌<◌}
use mathlib.Core.Path.{◌≡◌, refl, sym, ap, ap₂, ◌∙◌}
use mathlib.Core.Bool.{Bool, true, false, not, ◌&&◌}
use mathlib.Core.List.{List, [], ◌∷◌, map}
use mathlib.Core.Option.{none}
use native.Mathlib.Omega.{arith}
use borrow.Author.Tests.{leb-true, leb-false, ltb-true, ltb-false, le-leb, lt-leb, lt-ltb, le-ltb}
use lib.Dec.{eqb, leb, ltb}
use lib.ListN.{length}
use Rattle.exts.proofs.Accepting.{items-sound, sound-items}
use Rattle.exts.specs.Ext.{each_word, name_word_ok, type_word_ok, entry_rules, item_rules, items_fault}
use Rattle.exts.specs.Facts.{Extends}
use Rattle.exts.specs.Items.{Item, broken, group, entry, items}
use Rattle.exts.specs.Raise.{names_by, raise_name, raise_word, raise_words, raise_item, RaisedTo}
use Rattle.exts.specs.Sorts.{roles_of}
use Rattle.exts.specs.declared.Role.{Role}
use Rattle.exts.specs.declared.Role.TheVariants.{Plain, Name, FuncType, AnyType}
use Rattle.paper.proofs.Demands.{join-accepted, join-table}
use Rattle.paper.proofs.bytes.Tables.{order-bytes_of}
use Rattle.paper.proofs.gates.Acceptance.{accepted-good, accepted-meets}
use Rattle.paper.proofs.joins.JoinRefusals.{join_refusal-joinable}
use Rattle.paper.proofs.joins.Joining.{count-join, length-strings, second-record}
use Rattle.paper.specs.rules.Choice.{◌when◌, first_due, or_else}
use Rattle.paper.specs.rules.Header.{opening, order_of}
use Rattle.paper.specs.rules.Join.{joined_bytes, join_refusal, join_tables, raised}
use Rattle.paper.specs.rules.KindNo.{FUNC}
use Rattle.paper.specs.rules.Rename.{rename, raise}
use Rattle.paper.specs.rules.Table.{Record, Table, count, kind_of, kind_at, record_at}
use Rattle.paper.specs.rules.Walk.{table_of}
use Rattle.paper.specs.terms.Fit.{Bytes}
use Rattle.paper.specs.terms.Good.{Closed}

-- a number that is raised with what it is measured by
raise-below : (by w n m : ℕ) → m ≡ by + n → 1 ≤ n → ltb (raise by w) m ≡ ltb w n
raise-below by zero n m e filled = lt-ltb 0 m (omega arith) ∙ sym (lt-ltb 0 n (omega arith))
raise-below by (suc w) n m e filled = go (ltb (suc w) n) refl
  where
    go : (z : Bool) → ltb (suc w) n ≡ z → ltb (suc w + by) m ≡ z
    go true x = let h = ltb-true (suc w) n x in lt-ltb (suc w + by) m (omega arith)
    go false x = let h = ltb-false (suc w) n x in le-ltb (suc w + by) m (omega arith)

raise-upto : (by w n m : ℕ) → m ≡ by + n → leb (raise by w) m ≡ leb w n
raise-upto by zero n m e = le-leb 0 m (omega arith) ∙ sym (le-leb 0 n (omega arith))
raise-upto by (suc w) n m e = go (leb (suc w) n) refl
  where
    go : (z : Bool) → leb (suc w) n ≡ z → leb (suc w + by) m ≡ z
    go true x = let h = leb-true (suc w) n x in le-leb (suc w + by) m (omega arith)
    go false x = let h = leb-false (suc w) n x in lt-leb (suc w + by) m (omega arith)

-- a record keeps its kind
kind-raised : (A : Table) (r : Record) → kind_of (raised A r) ≡ kind_of r
unfolding rename
kind-raised A r = refl

module _ (A B : Table) (a : Closed A.strings) (b : Closed B.strings) where
  abbrev J : Table
  J = join_tables A B

  names : (w : ℕ) → ltb (raise_name A w) (length J.strings) ≡ ltb w (length B.strings)
  names w =
      let l = length-strings A B a b in
      raise-below (names_by A) w (length B.strings) (length J.strings) (omega (arith, a.filled, b.filled)) b.filled

  kinds : (t : ℕ) → kind_at J (raise (count A) t) ≡ kind_at B t
  kinds t = ap kind_of (second-record A B t) ∙ kind-raised A (record_at B t)

  name-word : (ρ : Role) (w : ℕ) → name_word_ok (length J.strings) ρ (raise_word A ρ w) ≡ name_word_ok (length B.strings) ρ w
  name-word Plain w = refl
  name-word Name w = names w
  name-word FuncType w = refl
  name-word AnyType w = refl

  type-word : (ρ : Role) (w : ℕ) → type_word_ok J ρ (raise_word A ρ w) ≡ type_word_ok B ρ w
  type-word Plain w = refl
  type-word Name w = refl
  type-word FuncType w = ap (λ (k : ℕ). eqb k FUNC) (kinds w)
  type-word AnyType w = raise-upto (count A) w (count B) (count J) (count-join A B)

  each-raised : (f g : Role → ℕ → Bool) → ((ρ : Role) (w : ℕ) → f ρ (raise_word A ρ w) ≡ g ρ w) → (ρs : List Role) (ws : List ℕ)
      → each_word f ρs (raise_words A ρs ws) ≡ each_word g ρs ws
  each-raised f g e [] ws = refl
  each-raised f g e (ρ ∷ ρs) [] = refl
  each-raised f g e (ρ ∷ ρs) (w ∷ ws) = ap₂ (λ (x y : Bool). x && y) (e ρ w) (each-raised f g e ρs ws)

  item-raised : (i : Item) → first_due (item_rules (length J.strings) J (raise_item A i)) ≡ first_due (item_rules (length B.strings) B i)
  unfolding entry_rules
  item-raised (broken n) = refl
  item-raised (group name) = ap (λ (z : Bool). first_due (47 when not z ∷ [])) (names name)
  item-raised (entry e) =
      ap₂ (λ (x y : Bool). first_due (47 when not x ∷ 48 when not y ∷ []))
      (each-raised (name_word_ok (length J.strings)) (name_word_ok (length B.strings)) name-word (roles_of e.sort) e.words)
      (each-raised (type_word_ok J) (type_word_ok B) type-word (roles_of e.sort) e.words)

  -- the same faults, so none where there was none
  pub items_fault-raised : (is : List Item) → items_fault (join_tables A B) (map (raise_item A) is) ≡ items_fault B is
  items_fault-raised [] = refl
  items_fault-raised (i ∷ is) = ap₂ or_else (item-raised i) (items_fault-raised is)

-- ── whole sections ──

module _ (a b : List ℕ) (bytes-a : Bytes a) (bytes-b : Bytes b) (places work room : ℕ) (made : join_refusal a b places work room ≡ none) where
  -- a section that is accepted beside the second table is, raised, accepted beside the joined one, whatever places are lent beyond one for each type
  pub extends-joined : {s s' : List ℕ} → Extends b s places work → RaisedTo (table_of a) s s' → (places' work' : ℕ) → count (table_of a) + count (table_of b) < places'
      → count (table_of a) + count (table_of b) < work' → Extends (joined_bytes a b) s' places' work'
  unfolding joined_bytes
  extends-joined {s} {s'} x r places' work' p w =
      let j = join_refusal-joinable a b places work room made in
      let ok = join-accepted a b bytes-a bytes-b places work room made places' work' p w in
      let order = order-bytes_of (order_of a) (join_tables (table_of a) (table_of b)) in
      let opens-b = (accepted-meets b places work x.table).readable.header.opens in
      let opens-j = (accepted-meets (joined_bytes a b) places' work' ok).readable.header.opens in
      record {
        table = ok;
        head = r.head;
        opens = r.opens ∙ x.opens ∙ opens-b ∙ ap opening (sym j.one-order) ∙ ap opening (sym order) ∙ sym opens-j;
        sound =
            items-sound (table_of (joined_bytes a b)) (items s')
            (ap₂ items_fault (join-table a b bytes-a bytes-b places work room made) r.raises
            ∙ items_fault-raised (table_of a) (table_of b) (accepted-good a places work j.first).closed (accepted-good b places work j.second).closed (items s)
            ∙ sound-items (table_of b) (items s) x.sound);
      }
