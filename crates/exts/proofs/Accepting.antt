-- A section is accepted exactly where none of the grounds holds: both ways, from the tests to the facts and back.
-- Assumes nothing.
use Prim.Native.Nat.{ℕ, ◌+◌, ◌%◌}
use mathlib.Core.Path.{◌≡◌, refl, sym, ap, ◌∙◌}
use mathlib.Core.Bool.{Bool, true, false, not, cond, ◌&&◌, ◌||◌}
use mathlib.Core.List.{List, [], ◌∷◌}
use mathlib.Core.Logic.{◌⊎◌, inl, inr, ⊎_elim}
use mathlib.Core.Option.{none}
use native.Mathlib.Omega.{arith}
use borrow.Author.Tests.{eqb-true, leb-true, ltb-true, ltb-false, eq-eqb, le-leb, le-ltb, lt-ltb, not-false}
use lib.Dec.{eqb, ltb}
use lib.ListN.{length, take}
use Rattle.exts.specs.Ext.{head_length_bad, part_ok, parts_follow, parts_bad, each_word, name_word_ok, type_word_ok, entry_rules, item_rules, first_fault, items_fault, head_rules, section_fault, ext_refusal}
use Rattle.exts.specs.Facts.{PartFollows, PartsFollow, HeadFacts, WordSound, WordsSound, ItemSound, ItemsSound, Extends}
use Rattle.exts.specs.Items.{Item, broken, group, entry, head_length, describes, part_offset, part_length, items}
use Rattle.exts.specs.Sorts.{in_fours, roles_of, header_place, sorts}
use Rattle.exts.specs.declared.Role.{Role}
use Rattle.exts.specs.declared.Role.TheVariants.{Plain, Name, FuncType, AnyType}
use Rattle.exts.specs.declared.Sort.{Sort}
use Rattle.paper.proofs.basics.Choices.{and_left, and_right, and-true, or-false, false-or, same_true, same_refl, first_due-none, none-first_due}
use Rattle.paper.proofs.gates.Gates.{or_else-none, none-or_else, naming-none, refused_inside-none}
use Rattle.paper.specs.rules.Choice.{same, first_due}
use Rattle.paper.specs.rules.Gate.{naming, refusal}
use Rattle.paper.specs.rules.Header.{header_length, length_bad, order_of}
use Rattle.paper.specs.rules.Join.{refused_inside}
use Rattle.paper.specs.rules.KindNo.{FUNC}
use Rattle.paper.specs.rules.Limits.{byte_limit}
use Rattle.paper.specs.rules.Table.{Table, count, kind_at}
use Rattle.paper.specs.rules.Walk.{table_of}
use Rattle.paper.specs.rules.Word.{word_at}

-- ── the header ──

module _ (s : List ℕ) where
  part-follows : (sort : Sort) (o : ℕ) → part_ok s sort o ≡ true → PartFollows s sort o
  unfolding part_ok part_length
  part-follows sort o e = go (describes s sort) refl e
    where
      go : (z : Bool) → describes s sort ≡ z → not z || (eqb (part_offset s sort) o && in_fours (part_length s sort)) ≡ true → PartFollows s sort o
      go true d h =
          record {
            there = λ x. eqb-true (part_offset s sort) o (and_left (eqb (part_offset s sort) o) (in_fours (part_length s sort)) h);
            fours = eqb-true (part_length s sort % 4) 0 (and_right (eqb (part_offset s sort) o) (in_fours (part_length s sort)) h);
          }
      go false d h =
          record {
            there = λ x. absurd (let z : true ≡ false = sym x ∙ d in let y : ◌≡◌ {A = ℕ} 0 1 = cc in omega arith);
            fours = ap (λ (z : Bool). cond z (word_at (order_of s) s (header_place sort + 4)) 0 % 4) d;
          }

  follows-part : (sort : Sort) (o : ℕ) → PartFollows s sort o → part_ok s sort o ≡ true
  unfolding part_ok
  follows-part sort o f = go (describes s sort) refl
    where
      go : (z : Bool) → describes s sort ≡ z → not z || (eqb (part_offset s sort) o && in_fours (part_length s sort)) ≡ true
      go true d = and-true (eq-eqb (part_offset s sort) o (f.there d)) (eq-eqb (part_length s sort % 4) 0 f.fours)
      go false d = refl

  parts-follow : (o : ℕ) (xs : List Sort) → parts_follow s o xs ≡ true → PartsFollow s o xs
  parts-follow o [] e = eqb-true (head_length s + o) (length s) e
  parts-follow o (x ∷ xs) e = (
    part-follows x o (and_left (part_ok s x o) (parts_follow s (o + part_length s x) xs) e),
    parts-follow (o + part_length s x) xs (and_right (part_ok s x o) (parts_follow s (o + part_length s x) xs) e),
  )

  follow-parts : (o : ℕ) (xs : List Sort) → PartsFollow s o xs → parts_follow s o xs ≡ true
  follow-parts o [] e = eq-eqb (head_length s + o) (length s) e
  follow-parts o (x ∷ xs) e = and-true (follows-part x o e.0) (follow-parts (o + part_length s x) xs e.1)

  or-true : (a b : Bool) → a || b ≡ true → (a ≡ true) ⊎ (b ≡ true)
  or-true true b e = inl refl
  or-true false b e = inr e

  -- none of 41 to 44 holds
  pub head-facts : length_bad s ≡ false → head_length_bad s ≡ false → parts_bad s ≡ false → HeadFacts s
  unfolding length_bad head_length_bad parts_bad
  head-facts a c d =
      let l = or-false (ltb (length s) header_length) (ltb byte_limit (length s)) a in
      let h = or-false (not (eqb (head_length s) 24 || eqb (head_length s) 32)) (ltb (length s) (head_length s)) c in
      record {
        long = ltb-false (length s) header_length l.0;
        short = ltb-false byte_limit (length s) l.1;
        header =
            ⊎_elim (λ (x : eqb (head_length s) 24 ≡ true). inl (eqb-true (head_length s) 24 x)) (λ (x : eqb (head_length s) 32 ≡ true). inr (eqb-true (head_length s) 32 x))
            (or-true (eqb (head_length s) 24) (eqb (head_length s) 32) (not-false (eqb (head_length s) 24 || eqb (head_length s) 32) h.0));
        header_inside = ltb-false (length s) (head_length s) h.1;
        follow = parts-follow 0 sorts (not-false (parts_follow s 0 sorts) d);
      }

  pub facts-head : HeadFacts s → (length_bad s ≡ false) × (head_length_bad s ≡ false) × (parts_bad s ≡ false)
  unfolding length_bad head_length_bad parts_bad
  facts-head f = (
    false-or (le-ltb (length s) header_length f.long) (le-ltb byte_limit (length s) f.short),
    false-or (ap not (⊎_elim either-24 either-32 f.header)) (le-ltb (length s) (head_length s) f.header_inside),
    ap not (follow-parts 0 sorts f.follow),
  )
    where
      either-24 : head_length s ≡ 24 → eqb (head_length s) 24 || eqb (head_length s) 32 ≡ true
      either-24 e = ap (λ (z : Bool). z || eqb (head_length s) 32) (eq-eqb (head_length s) 24 e)

      with-32 : (z : Bool) → z || true ≡ true
      with-32 true = refl
      with-32 false = refl

      either-32 : head_length s ≡ 32 → eqb (head_length s) 24 || eqb (head_length s) 32 ≡ true
      either-32 e = ap (λ (z : Bool). eqb (head_length s) 24 || z) (eq-eqb (head_length s) 32 e) ∙ with-32 (eqb (head_length s) 24)

-- ── the items ──

module _ (T : Table) where
  words-sound : (ρs : List Role) (ws : List ℕ) → each_word (name_word_ok (length T.strings)) ρs ws ≡ true → each_word (type_word_ok T) ρs ws ≡ true → WordsSound T ρs ws
  words-sound [] ws n t = tt
  words-sound (ρ ∷ ρs) [] n t = tt
  words-sound (ρ ∷ ρs) (w ∷ ws) n t = (
    one ρ (and_left (name_word_ok (length T.strings) ρ w) (each_word (name_word_ok (length T.strings)) ρs ws) n) (and_left (type_word_ok T ρ w) (each_word (type_word_ok T) ρs ws) t),
    words-sound ρs ws (and_right (name_word_ok (length T.strings) ρ w) (each_word (name_word_ok (length T.strings)) ρs ws) n)
        (and_right (type_word_ok T ρ w) (each_word (type_word_ok T) ρs ws) t),
  )
    where
      one : (ρ : Role) → name_word_ok (length T.strings) ρ w ≡ true → type_word_ok T ρ w ≡ true → WordSound T ρ w
      one Plain n t = tt
      one Name n t = ltb-true w (length T.strings) n
      one FuncType n t = eqb-true (kind_at T w) FUNC t
      one AnyType n t = leb-true w (count T) t

  sound-word : (ρ : Role) (w : ℕ) → WordSound T ρ w → (name_word_ok (length T.strings) ρ w ≡ true) × (type_word_ok T ρ w ≡ true)
  sound-word Plain w h = (refl, refl)
  sound-word Name w h = (lt-ltb w (length T.strings) h, refl)
  sound-word FuncType w h = (refl, eq-eqb (kind_at T w) FUNC h)
  sound-word AnyType w h = (refl, le-leb w (count T) h)

  sound-words : (ρs : List Role) (ws : List ℕ) → WordsSound T ρs ws
      → (each_word (name_word_ok (length T.strings)) ρs ws ≡ true) × (each_word (type_word_ok T) ρs ws ≡ true)
  sound-words [] ws h = (refl, refl)
  sound-words (ρ ∷ ρs) [] h = (refl, refl)
  sound-words (ρ ∷ ρs) (w ∷ ws) h =
      let a = sound-word ρ w h.0 in
      let b = sound-words ρs ws h.1 in
      (and-true a.0 b.0, and-true a.1 b.1)

  item-sound : (i : Item) → first_due (item_rules (length T.strings) T i) ≡ none → ItemSound T i
  unfolding entry_rules
  item-sound (broken n) e = absurd (let z : ◌≡◌ {A = ℕ} 0 1 = cc in omega arith)
  item-sound (group name) e = ltb-true name (length T.strings) (not-false (ltb name (length T.strings)) (first_due-none (item_rules (length T.strings) T (group name)) e).0)
  item-sound (entry x) e =
      let d = first_due-none (entry_rules (length T.strings) T x) e in
      words-sound (roles_of x.sort) x.words (not-false _ d.0) (not-false _ d.1.0)

  sound-item : (i : Item) → ItemSound T i → first_due (item_rules (length T.strings) T i) ≡ none
  unfolding entry_rules
  sound-item (broken n) h = absurd h
  sound-item (group name) h = none-first_due (item_rules (length T.strings) T (group name)) (ap not (lt-ltb name (length T.strings) h), tt)
  sound-item (entry x) h =
      let w = sound-words (roles_of x.sort) x.words h in
      none-first_due (entry_rules (length T.strings) T x) (ap not w.0, (ap not w.1, tt))

  pub items-sound : (is : List Item) → items_fault T is ≡ none → ItemsSound T is
  items-sound [] e = tt
  items-sound (i ∷ is) e =
      let o = or_else-none (first_due (item_rules (length T.strings) T i)) (first_fault (length T.strings) T is) e in
      (item-sound i o.0, items-sound is o.1)

  pub sound-items : (is : List Item) → ItemsSound T is → items_fault T is ≡ none
  sound-items [] h = refl
  sound-items (i ∷ is) h = none-or_else (sound-item i h.0) (sound-items is h.1)

-- ── the whole, exactly ──

module _ (b s : List ℕ) (places work : ℕ) where
  pub accepted-extends : ext_refusal b s places work ≡ none → Extends b s places work
  unfolding ext_refusal section_fault
  accepted-extends e =
      let t = or_else-none (refused_inside 40 (refusal b places work)) (naming 0 (section_fault (take 4 b) (table_of b) s)) e in
      let f = or_else-none (first_due (head_rules (take 4 b) s)) (items_fault (table_of b) (items s)) (naming-none 0 (section_fault (take 4 b) (table_of b) s) t.1) in
      let d = first_due-none (head_rules (take 4 b) s) f.0 in
      record {
        table = refused_inside-none 40 (refusal b places work) t.0;
        head = head-facts s d.0 d.1.1.0 d.1.1.1.0;
        opens = same_true (take 4 s) (take 4 b) (not-false (same (take 4 s) (take 4 b)) d.1.0);
        sound = items-sound (table_of b) (items s) f.1;
      }

  pub extends-accepted : Extends b s places work → ext_refusal b s places work ≡ none
  unfolding ext_refusal section_fault
  extends-accepted x =
      let h = facts-head s x.head in
      let opened : same (take 4 s) (take 4 b) ≡ true = ap (same (take 4 s)) (sym x.opens) ∙ same_refl (take 4 s) in
      none-or_else (ap (refused_inside 40) x.table)
      (ap (naming 0)
      (none-or_else (none-first_due (head_rules (take 4 b) s) (h.0, (ap not opened, (h.1, (h.2, tt))))) (sound-items (table_of b) (items s) x.sound)))
