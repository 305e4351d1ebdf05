-- The references of a record that was looked at are good, where every type that is told is of a plain kind.
-- Assumes nothing.
use Prim.Native.Nat.{ℕ, zero, suc, ◌*◌}
use native.Mathlib.Omega.{arith}
use mathlib.Core.Path.{◌≡◌, refl, sym, ap, ◌∙◌}
use mathlib.Core.Bool.{Bool, true, false, cond, ◌&&◌, ◌||◌, false≢true}
use mathlib.Core.List.{List, [], ◌∷◌, ◌++◌}
use lib.Dec.{eqb}
use lib.ListN.{length, get_or}
use Rattle.glance.proofs.Holding.{roles_for, member_roles, group-tail, section-tail, proto-tail}
use Rattle.glance.specs.Glance.{unsized, awaiting, is_open, Open, state_of, through, behind, member_fits, member_lies, entry_fits, element_type_of, index_type_of}
use Rattle.glance.specs.Glance.{enum_kinds}
use Rattle.glance.specs.Glance.{Looks, alias, pointer, int, float, enumeration, group, fields, array, variable, section, forward, prototype}
use Rattle.glance.specs.Glance.{function, awaits}
use Rattle.glance.proofs.Opens.{open-cases, fits-sized, field-sized, integer-told, stored-told, named-told}
use Rattle.glance.proofs.Classes.{sized-plain, looks-plain, looks-integer, looks-stored, looks-named}
use Rattle.glance.proofs.Entries.{entry_roles, entries-refer}
use Rattle.glance.proofs.Parameters.{parameter_roles, parameters-refer}
use Rattle.paper.proofs.basics.Choices.{and_left, and_right, and-true, member-each}
use Rattle.paper.specs.rules.Choice.{every, member, times}
use Rattle.paper.specs.rules.Kind.{Role, names, refers, holds, number, void_or_plain, plain, an_int, a_proto, a_var, row_of, rows}
use Rattle.paper.specs.rules.KindNo.{INT, PTR, ARRAY, STRUCT, UNION, FWD, FUNC, FUNC_PROTO, VAR, DATASEC, FLOAT}
use Rattle.paper.specs.rules.References.{is_plain, ref_ok, ref_word_ok, refs_ok}
use Rattle.paper.specs.rules.Section.{entries_of}
use Rattle.paper.specs.rules.Span.{Member, bit_offset, field_width, members_in, aliases, is_regular, is_regular_word}
use Rattle.paper.specs.rules.Tails.{int_word}
use Rattle.paper.specs.rules.Table.{Record, Table, record_at, kind_of, kind_at, vlen_of, tail_length, tail_roles, words_of, every_roled}

-- void and what is above the count are of kind 0, which is not plain: no bound is asked for
pub plain_known : (T : Table) (u : ℕ) → is_plain (kind_at T u) ≡ true → ref_ok T plain u ≡ true
unfolding ref_ok
plain_known T u e = e

-- and an INT may be an index
int-known : (T : Table) (u : ℕ) → is_regular (record_at T u) ≡ true → ref_ok T an_int u ≡ true
unfolding ref_ok is_regular
int-known T u e = and_left (eqb (kind_at T u) INT) (is_regular_word (int_word (record_at T u))) e

-- and a VAR an entry's variable
var-known : (T : Table) (u : ℕ) → kind_at T u ≡ VAR → ref_ok T a_var u ≡ true
unfolding ref_ok
var-known T u e = ap (λ (k : ℕ). eqb k VAR) e

-- and a FUNC_PROTO a FUNC's
proto-known : (T : Table) (u : ℕ) → kind_at T u ≡ FUNC_PROTO → ref_ok T a_proto u ≡ true
unfolding ref_ok
proto-known T u e = ap (λ (k : ℕ). eqb k FUNC_PROTO) e

-- ── words that do not refer ──

abbrev is_silent : Role → Bool
is_silent (names rule) = true
is_silent (refers rule) = false
is_silent (holds rule) = false
is_silent number = true

silent-append : (ρs σs : List Role) → every is_silent ρs ≡ true → every is_silent σs ≡ true → every is_silent (ρs ++ σs) ≡ true
silent-append [] σs p q = q
silent-append (ρ ∷ ρs) σs p q =
    and-true (and_left (is_silent ρ) (every is_silent ρs) p) (silent-append ρs σs (and_right (is_silent ρ) (every is_silent ρs) p) q)

silent-times : (n : ℕ) (ρs : List Role) → every is_silent ρs ≡ true → every is_silent (times n ρs) ≡ true
silent-times zero ρs p = refl
silent-times (suc n) ρs p = silent-append ρs (times n ρs) p (silent-times n ρs p)

abbrev silent_kinds : List ℕ
silent_kinds = INT ∷ FWD ∷ FLOAT ∷ enum_kinds

abbrev link_kinds : List ℕ
link_kinds = PTR ∷ aliases

module _ (T : Table) where
  abbrev good : List Role → List ℕ → Bool
  good ρs ws = every_roled (ref_word_ok T) ρs ws

  silent-word : (ρ : Role) (w : ℕ) → is_silent ρ ≡ true → ref_word_ok T ρ w ≡ true
  silent-word (names rule) w e = refl
  silent-word (refers rule) w e = absurd (false≢true e)
  silent-word (holds rule) w e = absurd (false≢true e)
  silent-word number w e = refl

  silent : (ρs : List Role) (ws : List ℕ) → every is_silent ρs ≡ true → good ρs ws ≡ true
  silent [] ws e = refl
  silent (ρ ∷ ρs) [] e = refl
  silent (ρ ∷ ρs) (w ∷ ws) e =
      and-true (silent-word ρ w (and_left (is_silent ρ) (every is_silent ρs) e)) (silent ρs ws (and_right (is_silent ρ) (every is_silent ρs) e))

  -- ── the references of a record, by its kind ──

  -- no word of such a kind refers
  abbrev RefersNone : ℕ → Type 0
  RefersNone k = (every is_silent ((row_of k).third_role ∷ (row_of k).once) ≡ true) × (every is_silent (row_of k).each ≡ true)

  refs-none : (r : Record) → member (kind_of r) silent_kinds ≡ true → refs_ok T r ≡ true
  unfolding refs_ok tail_roles row_of rows
  refs-none r e =
      let k = kind_of r in
      let v = vlen_of r in
      let each = member-each RefersNone k silent_kinds e ((refl, refl), ((refl, refl), ((refl, refl), ((refl, refl), ((refl, refl), tt))))) in
      silent (roles_for k v) (words_of r)
      (silent-append ((row_of k).third_role ∷ (row_of k).once) (times v (row_of k).each) each.0 (silent-times v (row_of k).each each.1))

  refs-third : (r : Record) → member (kind_of r) link_kinds ≡ true → ref_ok T void_or_plain r.third ≡ true → refs_ok T r ≡ true
  unfolding refs_ok tail_roles row_of rows
  refs-third r e third =
      let v = vlen_of r in
      let one = and-true third (silent (times v []) r.tail (silent-times v [] refl)) in
      member-each (λ (k : ℕ). good (roles_for k v) (words_of r) ≡ true) (kind_of r) link_kinds e (one, (one, (one, (one, (one, (one, tt))))))

  refs-members : (r : Record) → member (kind_of r) (STRUCT ∷ UNION ∷ []) ≡ true → good (times (vlen_of r) member_roles) r.tail ≡ true → refs_ok T r ≡ true
  unfolding refs_ok tail_roles row_of rows
  refs-members r e h =
      member-each (λ (k : ℕ). good (roles_for k (vlen_of r)) (words_of r) ≡ true) (kind_of r) (STRUCT ∷ UNION ∷ []) e (h, (h, tt))

  refs-array : (r : Record) → kind_of r ≡ ARRAY → ref_ok T plain (element_type_of r) ≡ true → ref_ok T an_int (index_type_of r) ≡ true → refs_ok T r ≡ true
  unfolding refs_ok tail_roles row_of rows
  refs-array r e one two =
      let v = vlen_of r in
      ap (λ (k : ℕ). good (roles_for k v) (words_of r)) e ∙ go v r.tail one two
    where
      go : (v : ℕ) (ws : List ℕ) → ref_ok T plain (get_or ws 0 0) ≡ true → ref_ok T an_int (get_or ws 1 0) ≡ true
          → good (holds plain ∷ refers an_int ∷ number ∷ times v []) ws ≡ true
      go v [] one two = refl
      go v (a ∷ []) one two = and-true one refl
      go v (a ∷ b ∷ ws) one two = and-true one (and-true two (silent (number ∷ times v []) ws (silent-times v [] refl)))

  refs-variable : (r : Record) → kind_of r ≡ VAR → ref_ok T plain r.third ≡ true → refs_ok T r ≡ true
  unfolding refs_ok tail_roles row_of rows
  refs-variable r e of =
      let v = vlen_of r in
      ap (λ (k : ℕ). good (roles_for k v) (words_of r)) e ∙ and-true of (silent (number ∷ times v []) r.tail (silent-times v [] refl))

  refs-section : (r : Record) → kind_of r ≡ DATASEC → good (times (vlen_of r) entry_roles) r.tail ≡ true → refs_ok T r ≡ true
  unfolding refs_ok tail_roles row_of rows
  refs-section r e h = ap (λ (k : ℕ). good (roles_for k (vlen_of r)) (words_of r)) e ∙ h

  refs-proto : (r : Record) → kind_of r ≡ FUNC_PROTO → ref_ok T void_or_plain r.third ≡ true → good (times (vlen_of r) parameter_roles) r.tail ≡ true
      → refs_ok T r ≡ true
  unfolding refs_ok tail_roles row_of rows
  refs-proto r e returns h = ap (λ (k : ℕ). good (roles_for k (vlen_of r)) (words_of r)) e ∙ and-true returns h

  refs-function : (r : Record) → kind_of r ≡ FUNC → ref_ok T a_proto r.third ≡ true → refs_ok T r ≡ true
  unfolding refs_ok tail_roles row_of rows
  refs-function r e of =
      let v = vlen_of r in
      ap (λ (k : ℕ). good (roles_for k v) (words_of r)) e ∙ and-true of (silent (times v []) r.tail (silent-times v [] refl))

  -- ── a type that is told is one that `plain` allows ──

  module _ (work : List ℕ) (looks : (u : ℕ) → (Open (state_of work u) → ⊥) → Looks work (record_at T u) (state_of work u))
      (waits : (u : ℕ) → state_of work u ≡ awaiting → is_plain (kind_at T u) ≡ true) where
    known : (u : ℕ) → (through (state_of work u) ≡ 0 → ⊥) → ref_ok T plain u ≡ true
    known u seen = plain_known T u (go (is_open (state_of work u)) refl)
      where
        go : (z : Bool) → is_open (state_of work u) ≡ z → is_plain (kind_at T u) ≡ true
        go true o = open-cases (state_of work u) o (λ e. absurd (seen (ap through e))) (waits u)
        go false o = looks-plain (looks u (λ z. false≢true (sym o ∙ z))) seen

    behind-refers : (w : ℕ) → (behind work w ≡ 0 → ⊥) → ref_ok T void_or_plain w ≡ true
    unfolding ref_ok
    behind-refers w told = go (eqb w 0) told
      where
        go : (z : Bool) → (cond z unsized (through (state_of work w)) ≡ 0 → ⊥) → (true && z) || is_plain (kind_at T w) ≡ true
        go true told = refl
        go false told = known w told

    members-refer : (fit : Member → Bool) → ((m : Member) → fit m ≡ true → ref_ok T plain m.type ≡ true) → (v : ℕ) (ws : List ℕ) → length ws ≡ v * 3
        → every fit (members_in ws) ≡ true → good (times v member_roles) ws ≡ true
    members-refer fit one zero ws e h = refl
    members-refer fit one (suc v) [] e h = refl
    members-refer fit one (suc v) (n ∷ []) e h = refl
    members-refer fit one (suc v) (n ∷ t ∷ []) e h = absurd (omega arith)
    members-refer fit one (suc v) (n ∷ t ∷ o ∷ ws) e h =
        let first = fit (record { name = n; type = t; offset = o }) in
        and-true (one (record { name = n; type = t; offset = o }) (and_left first (every fit (members_in ws)) h))
        (members-refer fit one v ws (omega arith) (and_right first (every fit (members_in ws)) h))

    record-refs : (r : Record) {s : ℕ} → length r.tail ≡ tail_length r.info → Looks work r s → (Open s → ⊥) → refs_ok T r ≡ true
    record-refs r whole (alias a e) ne =
        let among = member-each (λ (k : ℕ). member k link_kinds ≡ true) (kind_of r) aliases a (refl, (refl, (refl, (refl, (refl, tt))))) in
        refs-third r among (behind-refers r.third (λ z. ne (ap is_open (e ∙ z))))
    record-refs r whole (pointer k b e) ne = refs-third r (ap (λ (k : ℕ). member k link_kinds) k) (behind-refers r.third b)
    record-refs r whole (int k o w h e) ne = refs-none r (ap (λ (k : ℕ). member k silent_kinds) k)
    record-refs r whole (float k h e) ne = refs-none r (ap (λ (k : ℕ). member k silent_kinds) k)
    record-refs r whole (enumeration k h e) ne =
        refs-none r (member-each (λ (k : ℕ). member k silent_kinds ≡ true) (kind_of r) enum_kinds k (refl, (refl, tt)))
    record-refs r whole (group k f h o small e) ne =
        refs-members r k
        (members-refer (member_fits work r)
        (λ m one. known m.type (sized-plain (state_of work m.type) (fits-sized (state_of work m.type) m.offset r.third one)))
        (vlen_of r) r.tail (whole ∙ group-tail r k) h)
    record-refs r whole (fields k f h o small e) ne =
        refs-members r k
        (members-refer (member_lies work r)
        (λ m one. known m.type (sized-plain (state_of work m.type) (field-sized (state_of work m.type) (field_width m) (bit_offset 1 m) r.third one)))
        (vlen_of r) r.tail (whole ∙ group-tail r k) h)
    record-refs r whole (array k sized index small e) ne =
        refs-array r k (known (element_type_of r) (sized-plain (state_of work (element_type_of r)) sized))
        (int-known T (index_type_of r) (looks-integer (looks (index_type_of r) (integer-told (state_of work (index_type_of r)) index)) index))
    record-refs r whole (variable k sized e) ne = refs-variable r k (known r.third (sized-plain (state_of work r.third) sized))
    record-refs r whole (section k fit e) ne =
        refs-section r k
        (entries-refer T work
        (λ u h. var-known T u (looks-stored (looks u (stored-told (state_of work u) h)) h)) (vlen_of r) r.tail (whole ∙ section-tail r k)
        (and_left (every (entry_fits work) (entries_of r)) _ fit))
    record-refs r whole (forward k e) ne = refs-none r (ap (λ (k : ℕ). member k silent_kinds) k)
    record-refs r whole (prototype k b h e) ne =
        refs-proto r k (behind-refers r.third b)
        (parameters-refer T work behind-refers (vlen_of r) r.tail (whole ∙ proto-tail r k) h)
    record-refs r whole (function k h e) ne =
        refs-function r k (proto-known T r.third (looks-named (looks r.third (named-told (state_of work r.third) h)) h).proto)
    record-refs r whole (awaits k e) ne = absurd (ne (ap is_open e))

pub looks-refs : (T : Table) (work : List ℕ) (t : ℕ) {s : ℕ} → ((u : ℕ) → (Open (state_of work u) → ⊥) → Looks work (record_at T u) (state_of work u))
    → ((u : ℕ) → state_of work u ≡ awaiting → is_plain (kind_of (record_at T u)) ≡ true) → length (record_at T t).tail ≡ tail_length (record_at T t).info
    → Looks work (record_at T t) s → (Open s → ⊥) → refs_ok T (record_at T t) ≡ true
looks-refs T work t told waits whole looks ne = record-refs T work told waits (record_at T t) whole looks ne
