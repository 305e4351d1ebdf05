-- A section is refused with a number from 40 to 48, and no other.
-- Assumes nothing.
use Prim.Native.Nat.{ℕ, zero, suc, ◌+◌, ◌≤◌}
use mathlib.Core.Path.{◌≡◌, subst}
use mathlib.Core.Bool.{Bool, true, false, cond}
use mathlib.Core.List.{List, [], ◌∷◌, ◌++◌}
use mathlib.Core.Option.{Option, none, some}
use native.Mathlib.Omega.{arith}
use lib.Dec.{leb}
use lib.ListN.{length, take}
use Rattle.exts.specs.Ext.{entry_rules, item_rules, first_fault, items_fault, head_rules, section_fault, ext_refusal}
use Rattle.exts.specs.Items.{Item, broken, group, entry, Part, entries_from, group_name, group_count, group_end, group_ok, group_then, groups_from, part_items, parts, items_of, items}
use Rattle.exts.specs.Sorts.{size_ok}
use Rattle.exts.specs.declared.Sort.{Sort}
use Rattle.paper.proofs.gates.Numbers.{Says, says-inside, says-or_else}
use Rattle.paper.specs.rules.Answer.{Answer}
use Rattle.paper.specs.rules.Choice.{Rule, ◌when◌, first_due, or_else}
use Rattle.paper.specs.rules.Gate.{naming, refusal}
use Rattle.paper.specs.rules.Header.{order_of}
use Rattle.paper.specs.rules.Join.{refused_inside}
use Rattle.paper.specs.rules.Table.{Table}
use Rattle.paper.specs.rules.Walk.{table_of}
use Rattle.paper.specs.rules.Word.{word_at}

abbrev InRange : ℕ → Type 0
InRange n = (40 ≤ n) × (n ≤ 48)

-- ── what is broken is 45 or 46 ──

abbrev Numbered : List Item → Type 0
Numbered [] = Unit {0}
Numbered (broken n ∷ is) = InRange n × Numbered is
Numbered (group name ∷ is) = Numbered is
Numbered (entry e ∷ is) = Numbered is

numbered-append : (xs ys : List Item) → Numbered xs → Numbered ys → Numbered (xs ++ ys)
numbered-append [] ys p q = q
numbered-append (broken n ∷ xs) ys p q = (p.0, numbered-append xs ys p.1 q)
numbered-append (group name ∷ xs) ys p q = numbered-append xs ys p q
numbered-append (entry e ∷ xs) ys p q = numbered-append xs ys p q

numbered-either : (z : Bool) (xs ys : List Item) → Numbered xs → Numbered ys → Numbered (cond z xs ys)
numbered-either true xs ys p q = p
numbered-either false xs ys p q = q

module _ (s : List ℕ) where
  numbered-entries : (sort : Sort) (size name n p : ℕ) → Numbered (entries_from s sort size name n p)
  numbered-entries sort size name zero p = tt
  numbered-entries sort size name (suc n) p = numbered-entries sort size name n (p + size)

  numbered-then : (sort : Sort) (size p : ℕ) (ok : Bool) (rest : ℕ → List Item) → ((next : ℕ) → Numbered (rest next)) → Numbered (group_then s sort size p ok rest)
  numbered-then sort size p true rest later =
      numbered-append (entries_from s sort size (group_name s p) (group_count s p) (p + 8)) (rest (group_end s size p))
      (numbered-entries sort size (group_name s p) (group_count s p) (p + 8)) (later (group_end s size p))
  numbered-then sort size p false rest later = ((omega arith, omega arith), tt)

  numbered-groups : (fuel : ℕ) (sort : Sort) (size p end : ℕ) → Numbered (groups_from s fuel sort size p end)
  numbered-groups zero sort size p end = tt
  numbered-groups (suc fuel) sort size p end =
      numbered-either (leb end p) [] (group_then s sort size p (group_ok s size p end) (λ (next : ℕ). groups_from s fuel sort size next end)) tt
      (numbered-then sort size p (group_ok s size p end) (λ (next : ℕ). groups_from s fuel sort size next end) (λ next. numbered-groups fuel sort size next end))

  numbered-part : (x : Part) → Numbered (part_items s x)
  unfolding part_items
  numbered-part x =
      let size = word_at (order_of s) s x.from in
      let groups = groups_from s x.end x.sort size (x.from + 4) x.end in
      numbered-either (leb x.end x.from) [] (cond (size_ok x.sort size) groups (broken 45 ∷ [])) tt
      (numbered-either (size_ok x.sort size) groups (broken 45 ∷ []) (numbered-groups x.end x.sort size (x.from + 4) x.end) ((omega arith, omega arith), tt))

  numbered-items : (xs : List Part) → Numbered (items_of s xs)
  numbered-items [] = tt
  numbered-items (x ∷ xs) = numbered-append (part_items s x) (items_of s xs) (numbered-part x) (numbered-items xs)

-- ── the rules ──

abbrev FaultIn : Option ℕ → Type 0
FaultIn none = Unit {0}
FaultIn (some n) = InRange n

fault-either : (x y : Option ℕ) → FaultIn x → FaultIn y → FaultIn (or_else x y)
fault-either none y p q = q
fault-either (some n) y p q = p

abbrev Ranged : List Rule → Type 0
Ranged [] = Unit {0}
Ranged (n when due ∷ rules) = InRange n × Ranged rules

fault-rules : (rules : List Rule) → Ranged rules → FaultIn (first_due rules)
fault-rules [] p = tt
fault-rules (n when true ∷ rules) p = p.0
fault-rules (n when false ∷ rules) p = fault-rules rules p.1

module _ (long : ℕ) (T : Table) where
  fault-first : (is : List Item) → Numbered is → FaultIn (first_fault long T is)
  unfolding entry_rules
  fault-first [] p = tt
  fault-first (broken n ∷ is) p = p.0
  fault-first (group name ∷ is) p =
      fault-either (first_due (item_rules long T (group name))) (first_fault long T is) (fault-rules (item_rules long T (group name)) ((omega arith, omega arith), tt)) (fault-first is p)
  fault-first (entry e ∷ is) p =
      fault-either (first_due (item_rules long T (entry e))) (first_fault long T is)
      (fault-rules (entry_rules long T e) ((omega arith, omega arith), ((omega arith, omega arith), tt))) (fault-first is p)

fault-section : (opens : List ℕ) (T : Table) (s : List ℕ) → FaultIn (section_fault opens T s)
unfolding section_fault items
fault-section opens T s =
    fault-either (first_due (head_rules opens s)) (items_fault T (items s))
    (fault-rules (head_rules opens s) ((omega arith, omega arith), ((omega arith, omega arith), ((omega arith, omega arith), ((omega arith, omega arith), tt)))))
    (fault-first (length T.strings) T (items s) (numbered-items s (parts s)))

-- ── the whole ──

says-fault : (o : Option ℕ) → FaultIn o → Says InRange (naming 0 o)
says-fault none p = tt
says-fault (some n) p = p

says-ext : (b s : List ℕ) (places work : ℕ) → Says InRange (ext_refusal b s places work)
unfolding ext_refusal
says-ext b s places work =
    says-or_else InRange (refused_inside 40 (refusal b places work)) (naming 0 (section_fault (take 4 b) (table_of b) s))
    (says-inside InRange 40 (omega arith, omega arith) (refusal b places work)) (says-fault (section_fault (take 4 b) (table_of b) s) (fault-section (take 4 b) (table_of b) s))

pub ext_refusal-number : (b s : List ℕ) (places work : ℕ) {a : Answer} → ext_refusal b s places work ≡ some a → (40 ≤ a.number) × (a.number ≤ 48)
ext_refusal-number b s places work e = subst (Says InRange) e (says-ext b s places work)
