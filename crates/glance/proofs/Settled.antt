-- A type that has a state refers only to types that have one, and keeps it when another is told.
-- Assumes nothing.
use Prim.Native.Nat.{ℕ, zero, suc, ◌+◌, ◌*◌, ◌/◌, ◌%◌, ◌<◌}
use native.Mathlib.Omega.{arith}
use mathlib.Core.Path.{◌≡◌, refl, sym, ap, subst, ◌∙◌}
use mathlib.Core.Bool.{Bool, true, false, cond, false≢true}
use mathlib.Core.List.Memᴰ
use mathlib.Core.List.{List, [], ◌∷◌, Memᴰ}
use mathlib.Core.Logic.{⊎_elim}
use borrow.Author.Tests.{ne_eqb}
use lib.Dec.{eqb}
use lib.ListN.{length, get_or, set}
use lib.Seq.{get_or-set_other}
use Rattle.glance.specs.Glance.{whole, unsized, awaiting, stored, is_sized, is_open, Open, size_end, state_of, through, behind, fits, member_fits}
use Rattle.glance.specs.Glance.{field_fits, member_lies, entry_fits, element_type_of, index_type_of, enum_kinds, waiting_kinds}
use Rattle.glance.specs.Glance.{Looks, alias, pointer, int, float, enumeration, group, fields, array, variable, section, forward, prototype}
use Rattle.glance.specs.Glance.{function, awaits}
use Rattle.glance.proofs.Lists.{every-imp}
use Rattle.glance.proofs.Opens.{open-cases, open-through, sized-told, integer-told, named-told, fits_told, field_told}
use Rattle.glance.proofs.Parameters.{parameters-later}
use Rattle.glance.proofs.Entries.{entries-later}
use Rattle.glance.proofs.Holding.{step_to-one, member_roles, unheld_kinds, holds-none, holds-third, holds-members, holds-element, holds-variable}
use Rattle.glance.proofs.Holding.{group-tail}
use Rattle.links.proofs.Ways.{get_d_set}
use Rattle.paper.proofs.basics.Choices.{and_left, and_right, and-true, false-or, member-each}
use Rattle.paper.proofs.bytes.Reading.{length-words_from}
use Rattle.paper.proofs.walks.Chains.{pointed_by-cases}
use Rattle.paper.specs.rules.Chain.{step_to, held_in, held_by, is_link, pointed_by, walks}
use Rattle.paper.specs.rules.Choice.{every, any, member, times}
use Rattle.paper.specs.rules.KindNo.{STRUCT, UNION}
use Rattle.paper.specs.rules.Section.{entries_of}
use Rattle.paper.specs.rules.Span.{Member, bit_offset, field_width, members_in, members_of}
use Rattle.paper.specs.rules.Tails.{parameters_of}
use Rattle.paper.specs.rules.Word.{word_at}
use Rattle.paper.specs.terms.Reading.{record_in}
use Rattle.views.proofs.Shows.{bytes_by-record}
use Rattle.views.specs.Shown.{table_by, bytes_by}
use Rattle.views.specs.declared.View.{View}
use Rattle.paper.specs.rules.Table.{Record, Table, record_at, kind_of, vlen_of, tail_length}

-- ── walks ──

any_none : (f : ℕ → Bool) (us : List ℕ) → ((u : ℕ) → Memᴰ u us → f u ≡ false) → any f us ≡ false
any_none f [] h = refl
any_none f (u ∷ us) h = false-or (h u (Memᴰ.head refl)) (any_none f us (λ v m. h v (Memᴰ.tail m)))

-- where every walk of k steps from what a type leads to has ended, none of one more goes from it
pub walk-next : (held : ℕ → List ℕ) (k t : ℕ) → ((u : ℕ) → Memᴰ u (held t) → walks held k u ≡ false) → walks held (suc k) t ≡ false
walk-next held k t h = any_none (walks held k) (held t) h

-- a record that an index shows has the tail that its info word asks for
pub shown-tail : (base b index : List ℕ) (v : View) (t : ℕ)
    → length (record_at (table_by base b index v) t).tail ≡ tail_length (record_at (table_by base b index v) t).info
unfolding record_in
shown-tail base b index v t =
    let s = bytes_by base b index v t in
    subst (λ (r : Record). length r.tail ≡ tail_length r.info) (bytes_by-record base b index v t)
    (length-words_from v.order s 12 (tail_length (word_at v.order s 4)))

-- ── members that fit ──

-- every type held by members that pass a test is settled, where that of each is
members-told : (fit : Member → Bool) (work : List ℕ) (u : ℕ) → ((m : Member) → fit m ≡ true → Open (state_of work m.type) → ⊥) → Open (state_of work u)
    → (v : ℕ) (ws : List ℕ) → length ws ≡ v * 3 → every fit (members_in ws) ≡ true → Memᴰ u (held_in (times v member_roles) ws) → ⊥
members-told fit work u told untold zero ws e h m = Memᴰ.not-nil m
members-told fit work u told untold (suc v) [] e h m = Memᴰ.not-nil m
members-told fit work u told untold (suc v) (n ∷ []) e h m = omega arith
members-told fit work u told untold (suc v) (n ∷ t ∷ []) e h m = omega arith
members-told fit work u told untold (suc v) (n ∷ t ∷ o ∷ ws) e h m =
    go (told first (and_left (fit first) (every fit (members_in ws)) h))
    (members-told fit work u told untold v ws (omega arith) (and_right (fit first) (every fit (members_in ws)) h)) (eqb t 0) m
  where
    first : Member
    first = record { name = n; type = t; offset = o }

    go : (Open (state_of work t) → ⊥) → (Memᴰ u (held_in (times v member_roles) ws) → ⊥)
        → (z : Bool) → Memᴰ u (cond z (held_in (times v member_roles) ws) (t ∷ held_in (times v member_roles) ws)) → ⊥
    go here later true m = later m
    go here later false m =
        ⊎_elim (λ (p : u ≡ t). here (ap (λ (x : ℕ). is_open (state_of work x)) (sym p) ∙ untold)) later (Memᴰ.cases_cons m)

-- ── a type that is told refers to types that are ──

behind-some : (work : List ℕ) (u : ℕ) → (u ≡ 0 → ⊥) → behind work u ≡ through (state_of work u)
behind-some work u ne = ap (λ (z : Bool). cond z unsized (through (state_of work u))) (ne_eqb u 0 ne)

-- what is behind a word is told of the type that a step goes to
step-seen : (work : List ℕ) (w u : ℕ) → Memᴰ u (step_to w []) → behind work w ≡ through (state_of work u)
step-seen work w u m = let p = step_to-one w u m in behind-some work w p.1 ∙ ap (λ (x : ℕ). through (state_of work x)) (sym p.0)

pub held-settled : (T : Table) (work : List ℕ) (t u : ℕ) {s : ℕ} → length (record_at T t).tail ≡ tail_length (record_at T t).info
    → Looks work (record_at T t) s → (Open s → ⊥) → Memᴰ u (held_by T t) → Open (state_of work u) → ⊥
unfolding held_by
held-settled T work t u whole (alias a e) ne m z =
    let r = record_at T t in
    ne (ap is_open (e ∙ step-seen work r.third u (subst (Memᴰ u) (holds-third r a) m)) ∙ open-through (state_of work u) z)
held-settled T work t u whole (pointer k b e) ne m z =
    let r = record_at T t in
    Memᴰ.not-nil (subst (Memᴰ u) (holds-none r (ap (λ (k : ℕ). member k unheld_kinds) k)) m)
held-settled T work t u whole (int k o w h e) ne m z =
    let r = record_at T t in
    Memᴰ.not-nil (subst (Memᴰ u) (holds-none r (ap (λ (k : ℕ). member k unheld_kinds) k)) m)
held-settled T work t u whole (float k h e) ne m z =
    Memᴰ.not-nil (subst (Memᴰ u) (holds-none (record_at T t) (ap (λ (k : ℕ). member k unheld_kinds) k)) m)
held-settled T work t u whole (enumeration k h e) ne m z =
    let r = record_at T t in
    let among = member-each (λ (k : ℕ). member k unheld_kinds ≡ true) (kind_of r) enum_kinds k (refl, (refl, tt)) in
    Memᴰ.not-nil (subst (Memᴰ u) (holds-none r among) m)
held-settled T work t u whole (group k f h o small e) ne m z =
    let r = record_at T t in
    members-told (member_fits work r) work u (λ m. fits_told (state_of work m.type) m.offset r.third) z (vlen_of r) r.tail
    (whole ∙ group-tail r k) h (subst (Memᴰ u) (holds-members r k) m)
held-settled T work t u whole (fields k f h o small e) ne m z =
    let r = record_at T t in
    members-told (member_lies work r) work u (λ m. field_told (state_of work m.type) (field_width m) (bit_offset 1 m) r.third) z (vlen_of r) r.tail
    (whole ∙ group-tail r k) h (subst (Memᴰ u) (holds-members r k) m)
held-settled T work t u whole (array k sized index small e) ne m z =
    let r = record_at T t in
    sized-told (state_of work (element_type_of r)) sized (ap (λ (x : ℕ). is_open (state_of work x)) (sym (holds-element r u k m)) ∙ z)
held-settled T work t u whole (variable k sized e) ne m z =
    let r = record_at T t in
    sized-told (state_of work r.third) sized (ap (λ (x : ℕ). is_open (state_of work x)) (sym (holds-variable r u k m)) ∙ z)
held-settled T work t u whole (section k fit e) ne m z =
    Memᴰ.not-nil (subst (Memᴰ u) (holds-none (record_at T t) (ap (λ (k : ℕ). member k unheld_kinds) k)) m)
held-settled T work t u whole (forward k e) ne m z =
    Memᴰ.not-nil (subst (Memᴰ u) (holds-none (record_at T t) (ap (λ (k : ℕ). member k unheld_kinds) k)) m)
held-settled T work t u whole (prototype k b h e) ne m z =
    Memᴰ.not-nil (subst (Memᴰ u) (holds-none (record_at T t) (ap (λ (k : ℕ). member k unheld_kinds) k)) m)
held-settled T work t u whole (function k h e) ne m z =
    Memᴰ.not-nil (subst (Memᴰ u) (holds-none (record_at T t) (ap (λ (k : ℕ). member k unheld_kinds) k)) m)
held-settled T work t u whole (awaits k e) ne m z = ne (ap is_open e)

link-told : (work : List ℕ) (r : Record) {s : ℕ} → Looks work r s → (s ≡ 0 → ⊥) → is_link (kind_of r) ≡ true → behind work r.third ≡ 0 → ⊥
link-told work r (alias a e) ne l z = ne (e ∙ z)
link-told work r (pointer k b e) ne l z = b z
link-told work r (int k o w h e) ne l z = false≢true (sym (ap is_link k) ∙ l)
link-told work r (float k h e) ne l z = false≢true (sym (ap is_link k) ∙ l)
link-told work r (enumeration k h e) ne l z =
    false≢true (sym (member-each (λ (k : ℕ). is_link k ≡ false) (kind_of r) enum_kinds k (refl, (refl, tt))) ∙ l)
link-told work r (group k f h o small e) ne l z =
    false≢true (sym (member-each (λ (k : ℕ). is_link k ≡ false) (kind_of r) (STRUCT ∷ UNION ∷ []) k (refl, (refl, tt))) ∙ l)
link-told work r (fields k f h o small e) ne l z =
    false≢true (sym (member-each (λ (k : ℕ). is_link k ≡ false) (kind_of r) (STRUCT ∷ UNION ∷ []) k (refl, (refl, tt))) ∙ l)
link-told work r (array k sized index small e) ne l z = false≢true (sym (ap is_link k) ∙ l)
link-told work r (variable k sized e) ne l z = false≢true (sym (ap is_link k) ∙ l)
link-told work r (section k fit e) ne l z = false≢true (sym (ap is_link k) ∙ l)
link-told work r (forward k e) ne l z = false≢true (sym (ap is_link k) ∙ l)
link-told work r (prototype k b h e) ne l z = false≢true (sym (ap is_link k) ∙ l)
link-told work r (function k h e) ne l z = false≢true (sym (ap is_link k) ∙ l)
link-told work r (awaits k e) ne l z =
    false≢true (sym (member-each (λ (k : ℕ). is_link k ≡ false) (kind_of r) waiting_kinds k (refl, (refl, (refl, (refl, tt))))) ∙ l)

pub pointed-settled : (T : Table) (work : List ℕ) (t u : ℕ) {s : ℕ} → Looks work (record_at T t) s → (s ≡ 0 → ⊥)
    → Memᴰ u (pointed_by T t) → state_of work u ≡ 0 → ⊥
pointed-settled T work t u {s} looks ne =
    pointed_by-cases T t (λ (us : List ℕ). Memᴰ u us → state_of work u ≡ 0 → ⊥)
    (λ l m z. link-told work (record_at T t) looks ne l (step-seen work (record_at T t).third u m ∙ ap through z))
    (λ l m z. Memᴰ.not-nil m)

-- ── and keeps its state when another is told ──

-- a type that was open is told: where it was known to be plain, it still is
module _ (work : List ℕ) (i v : ℕ) (room : i < length work) (untold : Open (state_of work i)) (still : state_of work i ≡ awaiting → through v ≡ 0 → ⊥) where
  told-later : (u : ℕ) → (Open (state_of work u) → ⊥) → state_of (set work i v) u ≡ state_of work u
  told-later u told = get_or-set_other work i u v 0 (λ same. told (ap (λ (x : ℕ). is_open (state_of work x)) same ∙ untold))

  behind-later : (u : ℕ) → (Open (behind work u) → ⊥) → behind (set work i v) u ≡ behind work u
  behind-later u = go (eqb u 0)
    where
      go : (z : Bool) → (Open (cond z unsized (through (state_of work u))) → ⊥)
          → cond z unsized (through (state_of (set work i v) u)) ≡ cond z unsized (through (state_of work u))
      go true told = refl
      go false told = ap through (told-later u (λ o. told (open-through (state_of work u) o)))

  -- what a pointer points at stays plain
  seen-later : (u : ℕ) → (behind work u ≡ 0 → ⊥) → behind (set work i v) u ≡ 0 → ⊥
  seen-later u = go (eqb u 0)
    where
      go : (z : Bool) → (cond z unsized (through (state_of work u)) ≡ 0 → ⊥) → cond z unsized (through (state_of (set work i v) u)) ≡ 0 → ⊥
      go true seen e = seen e
      go false seen e =
          ⊎_elim (λ h. open-cases (state_of work i) untold
          (λ zero. seen (ap through (ap (state_of work) h.0 ∙ zero)))
          (λ waits. still waits (ap through (sym h.1) ∙ e)))
          (λ h. seen (ap through (sym h.1) ∙ e)) (get_d_set work i v u room)

  -- what is told of a type stays when one is told that was open
  pub looks-later : {r : Record} {s : ℕ} → Looks work r s → (Open s → ⊥) → Looks (set work i v) r s
  looks-later {r} (alias a e) ne = alias a (e ∙ sym (behind-later r.third (λ o. ne (ap is_open e ∙ o))))
  looks-later {r} (pointer k b e) ne = pointer k (seen-later r.third b) e
  looks-later (int k o w h e) ne = int k o w h e
  looks-later (float k h e) ne = float k h e
  looks-later (enumeration k h e) ne = enumeration k h e
  looks-later {r} (group k f h o small e) ne =
      let same : (m : Member) → member_fits work r m ≡ true → member_fits (set work i v) r m ≡ true =
      λ m one. ap (λ (s : ℕ). fits s m.offset r.third) (told-later m.type (fits_told (state_of work m.type) m.offset r.third one)) ∙ one in
      group k f (every-imp (member_fits work r) (member_fits (set work i v) r) same (members_of r) h) o small e
  looks-later {r} (fields k f h o small e) ne =
      let same : (m : Member) → member_lies work r m ≡ true → member_lies (set work i v) r m ≡ true =
      λ m one.
      ap (λ (s : ℕ). field_fits s (field_width m) (bit_offset 1 m) r.third)
      (told-later m.type (field_told (state_of work m.type) (field_width m) (bit_offset 1 m) r.third one)) ∙ one in
      fields k f (every-imp (member_lies work r) (member_lies (set work i v) r) same (members_of r) h) o small e
  looks-later {r} (array k sized index small e) ne =
      let element = told-later (element_type_of r) (sized-told (state_of work (element_type_of r)) sized) in
      let by = told-later (index_type_of r) (integer-told (state_of work (index_type_of r)) index) in
      let size = ap (λ (s : ℕ). get_or r.tail 2 0 * (s / 16)) element in
      array k (ap (λ (s : ℕ). is_sized (s % 16)) element ∙ sized) (ap (λ (s : ℕ). s % 16) by ∙ index) (subst (λ (z : ℕ). z < size_end) (sym size) small)
      (e ∙ ap (λ (z : ℕ). 16 * z + whole) (sym size))
  looks-later {r} (variable k sized e) ne =
      let of = told-later r.third (sized-told (state_of work r.third) sized) in
      variable k (ap (λ (s : ℕ). is_sized (s % 16)) of ∙ sized) (e ∙ ap (λ (s : ℕ). 16 * (s / 16) + stored) (sym of))
  looks-later {r} (section k fit e) ne =
      let all = every (entry_fits work) (entries_of r) in
      section k (and-true (entries-later work (set work i v) told-later (entries_of r) (and_left all _ fit)) (and_right all _ fit)) e
  looks-later (forward k e) ne = forward k e
  looks-later {r} (prototype k b h e) ne =
      prototype k (seen-later r.third b) (parameters-later work (set work i v) seen-later (parameters_of r) h) e
  looks-later {r} (function k h e) ne = function k (told-later r.third (named-told (state_of work r.third) h) ∙ h) e
  looks-later (awaits k e) ne = absurd (ne (ap is_open e))
