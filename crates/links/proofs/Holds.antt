-- Laws of what a record holds: its slots are every third word from one place on, and the types held from a slot on by those held from the next.
-- Assumes nothing.
use Prim.Native.Nat.{ℕ, zero, suc, ◌+◌, ◌*◌, ◌≤◌, ◌<◌}
use mathlib.Core.Path.{◌≡◌, refl, sym, ap, ap₂, ◌∙◌}
use mathlib.Core.Bool.{Bool, true, false, cond}
use mathlib.Core.List.{List, [], ◌∷◌, ◌++◌, map, map-append, append-nil}
use native.Mathlib.Numerals.{add-one}
use native.Mathlib.Omega.{arith}
use borrow.Author.Tests.{eqb-true}
use lib.Dec.{eqb}
use lib.ListN.{length, get_or, drop, replicate, length-append, length-map, drop_of_length-le}
use lib.Seq.{drop-cons}
use Rattle.kindrows.proofs.Columns.{row_of-agree}
use Rattle.kindrows.specs.Codes.{is_held, held_place}
use Rattle.paper.proofs.bytes.Reading.{length-times}
use Rattle.paper.specs.rules.Chain.{step_to, held_word, held_in}
use Rattle.paper.specs.rules.Choice.{times}
use Rattle.paper.specs.rules.Kind.{Role, names, refers, holds, number, Row, rows, row_of}
use Rattle.paper.specs.rules.Kind.{NameRule, offset0, any_name, offset0_or_identifier, identifier, non_empty, section_name}
use Rattle.paper.specs.rules.Kind.{RefRule, void_or_plain, plain, an_int, a_proto, a_var, taggable}
use Rattle.paper.specs.terms.Reading.{words_from, record_in}
use Rattle.paper.specs.rules.Table.{kind_in, vlen_in, tail_length, tail_roles, roles_of}
use Rattle.paper.specs.declared.Order.{Order}
use Rattle.paper.specs.rules.Word.{word_at}
use Rattle.links.specs.Holding.{slots_in, slots_of, slot_count, types_in, held_from}

-- ── which roles are held ──

held-holds : (rule : RefRule) → is_held (holds rule) ≡ true
held-holds void_or_plain = refl
held-holds plain = refl
held-holds an_int = refl
held-holds a_proto = refl
held-holds a_var = refl
held-holds taggable = refl

held-refers : (rule : RefRule) → is_held (refers rule) ≡ false
held-refers void_or_plain = refl
held-refers plain = refl
held-refers an_int = refl
held-refers a_proto = refl
held-refers a_var = refl
held-refers taggable = refl

held-names : (rule : NameRule) → is_held (names rule) ≡ false
held-names offset0 = refl
held-names any_name = refl
held-names offset0_or_identifier = refl
held-names identifier = refl
held-names non_empty = refl
held-names section_name = refl

-- the types that are held are those among the slots
pub held_in-slots : (ρs : List Role) (ws : List ℕ) → held_in ρs ws ≡ types_in (slots_in ρs ws)
held_in-slots [] ws = refl
held_in-slots (ρ ∷ ρs) [] = refl
held_in-slots (ρ ∷ ρs) (w ∷ ws) = go ρ ∙ ap (λ (us : List ℕ). held_word ρ w us) (held_in-slots ρs ws) ∙ by ρ
  where
    go : (ρ : Role) → held_in (ρ ∷ ρs) (w ∷ ws) ≡ held_word ρ w (held_in ρs ws)
    go ρ = refl

    by : (ρ : Role) → held_word ρ w (types_in (slots_in ρs ws)) ≡ types_in (slots_in (ρ ∷ ρs) (w ∷ ws))
    by number = refl
    by (names rule) = rw (held-names rule) refl
    by (refers rule) = rw (held-refers rule) refl
    by (holds rule) = rw (held-holds rule) refl

-- ── the slots of the record that some bytes begin with ──

module _ (order : Order) (s : List ℕ) where
  -- the words from a place on that are marked
  abbrev picked : ℕ → List Bool → List ℕ
  picked p [] = []
  picked p (m ∷ ms) = let later = picked (p + 4) ms in cond m (word_at order s p ∷ later) later

  -- every third word from a place on
  abbrev pub thirds : ℕ → ℕ → List ℕ
  thirds p zero = []
  thirds p (suc n) = word_at order s p ∷ thirds (p + 12) n

  slots-picked : (p : ℕ) (ρs : List Role) → slots_in ρs (words_from order s p (length ρs)) ≡ picked p (map is_held ρs)
  slots-picked p [] = refl
  slots-picked p (ρ ∷ ρs) = ap (λ (later : List ℕ). cond (is_held ρ) (word_at order s p ∷ later) later) (slots-picked (p + 4) ρs)

  picked-append : (p : ℕ) (ms ns : List Bool) → picked p (ms ++ ns) ≡ picked p ms ++ picked (p + 4 * length ms) ns
  picked-append p [] ns = let here : p ≡ p + 4 * 0 = omega arith in ap (λ (q : ℕ). picked q ns) here
  picked-append p (m ∷ ms) ns =
      let there : p + 4 + 4 * length ms ≡ p + 4 * suc (length ms) = omega arith in
      ap (λ (later : List ℕ). cond m (word_at order s p ∷ later) later)
      (picked-append (p + 4) ms ns ∙ ap (λ (q : ℕ). picked (p + 4) ms ++ picked q ns) there)
      ∙ go m
    where
      go : (m : Bool) → let q = p + 4 * suc (length ms) in
          cond m (word_at order s p ∷ (picked (p + 4) ms ++ picked q ns)) (picked (p + 4) ms ++ picked q ns)
          ≡ cond m (word_at order s p ∷ picked (p + 4) ms) (picked (p + 4) ms) ++ picked q ns
      go true = refl
      go false = refl

  -- entries of which no word is marked have no slot
  picked_none : (p n : ℕ) → picked p (replicate n false) ≡ []
  picked_none p zero = refl
  picked_none p (suc n) = picked_none (p + 4) n

  entries_none : (v p n : ℕ) → picked p (times v (replicate n false)) ≡ []
  entries_none zero p n = refl
  entries_none (suc v) p n =
      picked-append p (replicate n false) (times v (replicate n false))
      ∙ ap₂ {C = List ℕ} ◌++◌ (picked_none p n) (entries_none v (p + 4 * length (replicate n false)) n)

  -- a member's second word is one
  entries-members : (v p : ℕ) → picked p (times v (false ∷ true ∷ false ∷ [])) ≡ thirds (p + 4) v
  entries-members zero p = refl
  entries-members (suc v) p =
      let there : p + 4 + 4 + 4 + 4 ≡ p + 4 + 12 = omega arith in
      ap (λ (later : List ℕ). word_at order s (p + 4) ∷ later) (entries-members v (p + 4 + 4 + 4) ∙ ap (λ (q : ℕ). thirds q v) there)

  -- ── by the row of the kind ──

  -- the slots of a head and of the words that stand once
  row_first : (k : ℕ) → let r = row_of k in
      picked 8 (is_held r.third_role ∷ map is_held r.once) ≡ thirds (held_place r) (cond (eqb (held_place r) 16) 0 (cond (eqb (held_place r) 0) 0 1))
  row_first k =
      row_of-agree (λ (r : Row). picked 8 (is_held r.third_role ∷ map is_held r.once))
      (λ (r : Row). thirds (held_place r) (cond (eqb (held_place r) 16) 0 (cond (eqb (held_place r) 0) 0 1))) (unfold rows in refl) k

  -- those of an entry
  row-each : (k : ℕ) → let r = row_of k in
      map is_held r.each ≡ cond (eqb (held_place r) 16) (false ∷ true ∷ false ∷ []) (replicate (length r.each) false)
  row-each k =
      row_of-agree (λ (r : Row). map is_held r.each)
      (λ (r : Row). cond (eqb (held_place r) 16) (false ∷ true ∷ false ∷ []) (replicate (length r.each) false)) (unfold rows in refl) k

  -- nothing stands in front of members
  row-once : (k : ℕ) → cond (eqb (held_place (row_of k)) 16) (length (row_of k).once) 0 ≡ 0
  row-once k = row_of-agree (λ (r : Row). cond (eqb (held_place r) 16) (length r.once) 0) (λ (r : Row). 0) (unfold rows in refl) k

  -- ── all of them ──

  abbrev info : ℕ
  info = word_at order s 4

  abbrev row : Row
  row = row_of (kind_in info)

  -- entries are those of members, or have none
  row-entries : (z : Bool) → eqb (held_place row) 16 ≡ z
      → picked (8 + 4 * suc (length (map is_held row.once))) (times (vlen_in info) (map is_held row.each)) ≡ cond z (thirds 16 (vlen_in info)) []
  row-entries true e =
      let bare : length (map is_held row.once) ≡ 0 = length-map row.once is_held ∙ sym (ap (λ (z : Bool). cond z (length row.once) 0) e) ∙ row-once (kind_in info) in
      ap (λ (n : ℕ). picked (8 + 4 * suc n) (times (vlen_in info) (map is_held row.each))) bare
      ∙ ap (λ (ms : List Bool). picked 12 (times (vlen_in info) ms))
      (row-each (kind_in info) ∙ ap (λ (z : Bool). cond z (false ∷ true ∷ false ∷ []) (replicate (length row.each) false)) e)
      ∙ entries-members (vlen_in info) 12
  row-entries false e =
      let p = 8 + 4 * suc (length (map is_held row.once)) in
      ap (λ (ms : List Bool). picked p (times (vlen_in info) ms))
      (row-each (kind_in info) ∙ ap (λ (z : Bool). cond z (false ∷ true ∷ false ∷ []) (replicate (length row.each) false)) e)
      ∙ entries_none (vlen_in info) p (length row.each)

  map-times : (v : ℕ) (ρs : List Role) → map is_held (times v ρs) ≡ times v (map is_held ρs)
  map-times zero ρs = refl
  map-times (suc v) ρs = map-append is_held ρs (times v ρs) ∙ ap (λ (ms : List Bool). map is_held ρs ++ ms) (map-times v ρs)

  tail-roles : map is_held (tail_roles (record_in order s)) ≡ map is_held row.once ++ times (vlen_in info) (map is_held row.each)
  unfolding record_in tail_roles
  tail-roles =
      map-append is_held row.once (times (vlen_in info) row.each)
      ∙ ap (λ (ms : List Bool). map is_held row.once ++ ms) (map-times (vlen_in info) row.each)

  length-tail_roles : length (tail_roles (record_in order s)) ≡ tail_length info
  unfolding record_in tail_roles tail_length
  length-tail_roles =
      length-append row.once (times (vlen_in info) row.each)
      ∙ ap (λ (n : ℕ). length row.once + n) (length-times (vlen_in info) row.each)

  -- the first two words of a record are none
  slots-behind : slots_of (record_in order s) ≡ picked 8 (is_held row.third_role ∷ map is_held (tail_roles (record_in order s)))
  unfolding record_in
  slots-behind =
      ap (λ (n : ℕ). slots_in (roles_of (record_in order s)) (words_from order s 0 (suc (suc (suc n))))) (sym length-tail_roles)
      ∙ slots-picked 0 (roles_of (record_in order s))
      ∙ ap (λ (z : Bool). let later = picked 8 (is_held row.third_role ∷ map is_held (tail_roles (record_in order s))) in cond z (word_at order s 0 ∷ later) later)
      (held-names row.name)

  -- the slots stand twelve bytes apart from one place on
  pub slots-are : slots_of (record_in order s) ≡ thirds (held_place row) (slot_count (held_place row) info)
  slots-are =
      slots-behind
      ∙ ap (λ (ms : List Bool). picked 8 (is_held row.third_role ∷ ms)) tail-roles
      ∙ picked-append 8 (is_held row.third_role ∷ map is_held row.once) (times (vlen_in info) (map is_held row.each))
      ∙ go (eqb (held_place row) 16) refl
    where
      go : (z : Bool) → eqb (held_place row) 16 ≡ z
          → picked 8 (is_held row.third_role ∷ map is_held row.once)
          ++ picked (8 + 4 * suc (length (map is_held row.once))) (times (vlen_in info) (map is_held row.each))
          ≡ thirds (held_place row) (cond z (vlen_in info) (cond (eqb (held_place row) 0) 0 1))
      go true e =
          ap₂ {C = List ℕ} ◌++◌
          (row_first (kind_in info) ∙ ap (λ (z : Bool). thirds (held_place row) (cond z 0 (cond (eqb (held_place row) 0) 0 1))) e) (row-entries true e)
          ∙ ap (λ (p : ℕ). thirds p (vlen_in info)) (sym (eqb-true _ _ e))
      go false e =
          ap₂ {C = List ℕ} ◌++◌
          (row_first (kind_in info) ∙ ap (λ (z : Bool). thirds (held_place row) (cond z 0 (cond (eqb (held_place row) 0) 0 1))) e) (row-entries false e)
          ∙ append-nil _

  length-thirds : (n p : ℕ) → length (thirds p n) ≡ n
  length-thirds zero p = refl
  length-thirds (suc n) p = ap suc (length-thirds n (p + 12))

  get_d-thirds : (n p i : ℕ) → i < n → get_or (thirds p n) i 0 ≡ word_at order s (p + 12 * i)
  get_d-thirds zero p i h = absurd (omega arith)
  get_d-thirds (suc n) p zero h = let here : p ≡ p + 12 * 0 = omega arith in ap (word_at order s) here
  get_d-thirds (suc n) p (suc i) h =
      let there : p + 12 + 12 * i ≡ p + 12 * suc i = omega arith in
      get_d-thirds n (p + 12) i (omega arith) ∙ ap (word_at order s) there

  pub length-slots : length (slots_of (record_in order s)) ≡ slot_count (held_place row) info
  length-slots = ap length slots-are ∙ length-thirds (slot_count (held_place row) info) (held_place row)

  -- no record has more than it can have members
  pub slots-few : length (slots_of (record_in order s)) ≤ 65535
  slots-few = go (eqb (held_place row) 16) refl
    where
      go : (z : Bool) → eqb (held_place row) 16 ≡ z → length (slots_of (record_in order s)) ≤ 65535
      go true e = let n = length-slots ∙ ap (λ (z : Bool). cond z (vlen_in info) (cond (eqb (held_place row) 0) 0 1)) e in omega arith
      go false e =
          let n = length-slots ∙ ap (λ (z : Bool). cond z (vlen_in info) (cond (eqb (held_place row) 0) 0 1)) e in by (eqb (held_place row) 0) n
        where
          by : (z : Bool) → length (slots_of (record_in order s)) ≡ cond z 0 1 → length (slots_of (record_in order s)) ≤ 65535
          by true n = omega arith
          by false n = omega arith

  -- what is held from a slot on, by what it holds and what is held from the next
  pub held_from-step : (i : ℕ) → i < slot_count (held_place row) info
      → held_from (record_in order s) i ≡ step_to (word_at order s (held_place row + 12 * i)) (held_from (record_in order s) (i + 1))
  unfolding held_from
  held_from-step i h =
      let word : get_or (slots_of (record_in order s)) i 0 ≡ word_at order s (held_place row + 12 * i) =
      ap (λ (ws : List ℕ). get_or ws i 0) slots-are ∙ get_d-thirds (slot_count (held_place row) info) (held_place row) i h in
      let next = sym (add-one i) in
      ap types_in (drop-cons (slots_of (record_in order s)) i 0 (omega (arith, length-slots)))
      ∙ (λ x. step_to (word x) (types_in (drop (next x) (slots_of (record_in order s)))))

  pub held_from-end : (i : ℕ) → slot_count (held_place row) info ≤ i → held_from (record_in order s) i ≡ []
  unfolding held_from
  held_from-end i h = ap types_in (drop_of_length-le (slots_of (record_in order s)) {i = i} (omega (arith, length-slots)))
