-- Laws of looks over the types: one more is settled, and where all are, the table is good.
-- Assumes nothing.
use Prim.Native.Nat.{ℕ, suc, ◌+◌, ◌-◌, ◌≤◌, ◌<◌}
use native.Mathlib.Omega.{arith}
use mathlib.Core.Path.{◌≡◌, refl, sym, ap, subst, ◌∙◌}
use mathlib.Core.Bool.{Bool, true, false, not, cond, ◌||◌, false≢true}
use mathlib.Core.List.{List}
use mathlib.Core.Logic.{◌⊎◌, inl, inr, ⊎_elim}
use borrow.Author.Tests.{leb-true, leb-false, not-true}
use lib.Dec.{leb}
use lib.ListN.{get_or, length, set, length-set}
use lib.ListN.{length, get_or, length-replicate}
use Rattle.glance.proofs.Ended.{held_types, held-ended, pointed-ended}
use Rattle.glance.proofs.Layouts.{layout-good}
use Rattle.glance.proofs.Opens.{open-cases}
use Rattle.glance.proofs.Classes.{looks-plain, plain-seen}
use Rattle.glance.proofs.Referring.{looks-refs}
use Rattle.glance.proofs.Settled.{walk-next, held-settled, pointed-settled, looks-later}
use Rattle.glance.specs.Glance.{awaiting, is_open, Open, state_of, through, strange, Looks, Glimpsed, Settled, Waiting, Glancing, Went, All, SurelyGood}
use Rattle.links.proofs.Roots.{get_d-zeros}
use Rattle.links.proofs.Ways.{get_d_set}
use Rattle.paper.proofs.walks.Chains.{walks-longer}
use Rattle.paper.specs.rules.Chain.{endless, held_by, pointed_by, walks}
use Rattle.paper.specs.rules.Gate.{zeros}
use Rattle.paper.specs.rules.References.{refs_ok}
use Rattle.paper.specs.rules.Table.{Record, Table, count, record_at, tail_length}

-- the next of n types, from the last or from the first, is one of them
pub next_low : (back : Bool) (n k : ℕ) → k < n → {t : ℕ} → t ≡ cond back (n - k) (k + 1) → 1 ≤ t
next_low true n k h e = omega (arith, e)
next_low false n k h e = omega (arith, e)

pub next-high : (back : Bool) (n k : ℕ) → k < n → {t : ℕ} → t ≡ cond back (n - k) (k + 1) → t ≤ n
next-high true n k h e = omega (arith, e)
next-high false n k h e = omega (arith, e)

module _ (T : Table) (n : ℕ) where
  -- a type that is settled already, or is left open
  pub went-still : {work : List ℕ} {t r : ℕ} → Glancing T n work → (r ≡ 2 → Open (state_of work t) → ⊥) → Went T n t work r work
  went-still g h = record { now = g; here = h; keeps = λ x some. some }

  pub went-settled : {work : List ℕ} {t r : ℕ} → Glancing T n work → {x : Bool} → x ≡ is_open (state_of work t) → not x ≡ true → Went T n t work r work
  went-settled g {x} d e = went-still g (λ two o. false≢true (sym (sym d ∙ not-true x e) ∙ o))

  -- no walk over pointers from a type of which anything is told is long
  pointed-ends : {work : List ℕ} (g : Glancing T n work) (x : ℕ) → (state_of work x ≡ 0 → ⊥) → walks (pointed_by T) g.steps x ≡ false
  pointed-ends {work} g x some = go (is_open (state_of work x)) refl
    where
      go : (z : Bool) → is_open (state_of work x) ≡ z → walks (pointed_by T) g.steps x ≡ false
      go true o = open-cases (state_of work x) o (λ e. absurd (some e)) (λ e. (g.waits x e).pointed)
      go false o = (g.told x (λ z. false≢true (sym o ∙ z))).pointed

  module _ {work : List ℕ} (g : Glancing T n work) {t s : ℕ} (low : 1 ≤ t) (high : t ≤ n) (untold : Open (state_of work t))
      (tail : length (record_at T t).tail ≡ tail_length (record_at T t).info)
      (looks : Looks work (record_at T t) s) (some : s ≡ 0 → ⊥) where
    abbrev work' : List ℕ
    work' = set work t s

    abbrev more : ℕ
    more = suc g.steps

    room : t < length work
    room = let r = g.room in omega arith

    abbrev at : (x : ℕ) → ((x ≡ t) × (state_of work' x ≡ s)) ⊎ ((x ≡ t → ⊥) × (state_of work' x ≡ state_of work x))
    at x = get_d_set work t s x room

    -- one that was known to be plain still is
    still : state_of work t ≡ awaiting → through s ≡ 0 → ⊥
    still waits = plain-seen looks some (g.waits t waits).plain

    pointed-here : walks (pointed_by T) more t ≡ false
    pointed-here = walk-next (pointed_by T) g.steps t (λ u m. pointed-ends g u (pointed-settled T work t u looks some m))

    -- the type itself
    here : (Open s → ⊥) → Settled T work' more t
    here done =
        record {
          refs = looks-refs T work t (λ u told. (g.told u told).looks) (λ u waits. (g.waits u waits).plain) tail looks done;
          looks = subst (Looks work' (record_at T t)) (sym own) (looks-later work t s room untold still looks done);
          held = walk-next (held_by T) g.steps t (λ u m. (g.told u (held-settled T work t u tail looks done m)).held);
          pointed = pointed-here;
        }
      where
        own : state_of work' t ≡ s
        own = ⊎_elim (λ h. h.1) (λ h. absurd (h.0 refl)) (at t)

    here-waits : s ≡ awaiting → Waiting T more t
    here-waits e = record { plain = looks-plain looks (λ z. absurd (seen z)); pointed = pointed-here }
      where
        seen : through s ≡ 0 → ⊥
        seen z = let w : awaiting ≡ 0 = sym (ap through e) ∙ z in omega arith

    -- one that was settled before
    before : (x : ℕ) → (Open (state_of work x) → ⊥) → state_of work' x ≡ state_of work x → Settled T work' more x
    before x told same =
        let old = g.told x told in
        let longer : g.steps ≤ more = omega arith in
        record {
          refs = old.refs;
          looks = subst (Looks work' (record_at T x)) (sym same) (looks-later work t s room untold still old.looks told);
          held = walks-longer (held_by T) x longer old.held;
          pointed = walks-longer (pointed_by T) x longer old.pointed;
        }

    before-waits : (x : ℕ) → state_of work x ≡ awaiting → Waiting T more x
    before-waits x waits =
        let old = g.waits x waits in
        let longer : g.steps ≤ more = omega arith in
        record { plain = old.plain; pointed = walks-longer (pointed_by T) x longer old.pointed }

    pub went_on : {r : ℕ} → (r ≡ 2 → s ≡ awaiting → ⊥) → Went T n t work r work'
    went_on two =
        record {
          now =
              record {
                counted = g.counted;
                room = subst (λ (k : ℕ). n < k) (sym (length-set work t s)) g.room;
                steps = more;
                told =
                    λ x told.
                    ⊎_elim (λ h. subst (Settled T work' more) (sym h.0) (here (λ o. told (ap is_open h.1 ∙ o))))
                    (λ h. before x (λ o. told (ap is_open h.1 ∙ o)) h.1) (at x);
                waits =
                    λ x waits.
                    ⊎_elim (λ h. subst (Waiting T more) (sym h.0) (here-waits (sym h.1 ∙ waits)))
                    (λ h. before-waits x (sym h.1 ∙ waits)) (at x);
                outside =
                    λ x far.
                    ⊎_elim (λ h. absurd (⊎_elim (λ z. let e = h.0 in omega arith) (λ z. let e = h.0 in omega arith) far))
                    (λ h. h.1 ∙ g.outside x far) (at x);
              };
          here = λ e o. ⊎_elim (λ h. open-cases s (ap is_open (sym h.1) ∙ o) some (two e)) (λ h. h.0 refl) (at t);
          keeps = λ x told o.
              ⊎_elim (λ h. told (ap (λ (x : ℕ). is_open (state_of work x)) h.0 ∙ untold)) (λ h. told (ap is_open (sym h.1) ∙ o)) (at x);
        }

  -- by what was read and asked
  pub went-look : {work : List ℕ} → Glancing T n work → {t s : ℕ} → 1 ≤ t → t ≤ n → Open (state_of work t)
      → length (record_at T t).tail ≡ tail_length (record_at T t).info → {r : Record} → r ≡ record_at T t
      → Glimpsed work r s → (s ≡ strange → ⊥) → (s ≡ 0 → ⊥) → {q : ℕ} → (q ≡ 2 → s ≡ awaiting → ⊥) → Went T n t work q (set work t s)
  went-look {work} g {s = s} low high untold tail {r} shows seen known some two =
      went_on g low high untold tail (subst (λ (r : Record). Looks work r s) shows looks) some two
    where
      looks : Looks work r s
      looks = ⊎_elim (λ z. absurd (some z)) (λ h. ⊎_elim (λ z. absurd (known z)) (λ l. l) h) seen

  -- ── before the first look ──

  pub glancing-start : {work : List ℕ} → n ≡ count T → (size : ℕ) → work ≡ zeros size → n < size → Glancing T n work
  glancing-start {work} counted size clear room =
      record {
        counted = counted;
        room = (let long = ap length clear ∙ length-replicate {A = ℕ} size 0 in omega arith);
        steps = 0;
        told = λ x some. absurd (some (ap is_open (still x)));
        waits = λ x waits. absurd (let w = sym waits ∙ still x in omega arith);
        outside = λ x far. still x;
      }
    where
      still : (x : ℕ) → state_of work x ≡ 0
      still x = ap (λ (w : List ℕ). get_or w x 0) clear ∙ get_d-zeros size x

  -- ── how far the looks went ──

  -- the types that were looked at in so many looks, from the last or from the first
  abbrev Behind : Bool → ℕ → ℕ → Type 0
  Behind true k x = n < x + k
  Behind false k x = x ≤ k

  -- they are settled, unless one was left open
  pub record Sweeping (back : Bool) (size k all : ℕ) (work : List ℕ) : Type 0 where
    pub size-kept : length work ≡ size
    pub now : Glancing T n work
    pub passed : all ≡ 2 → (x : ℕ) → 1 ≤ x → x ≤ n → Behind back k x → Open (state_of work x) → ⊥

  pub sweeping-start : (back : Bool) {work : List ℕ} {all : ℕ} → Glancing T n work → Sweeping back (length work) 0 all work
  sweeping-start back g = record { size-kept = refl; now = g; passed = λ two x low high h. absurd (none_yet back x low high h) }
    where
      none_yet : (back : Bool) (x : ℕ) → 1 ≤ x → x ≤ n → Behind back 0 x → ⊥
      none_yet true x low high h = omega arith
      none_yet false x low high h = omega arith

  pub sweeping-next : {back : Bool} {size k all : ℕ} {work work' : List ℕ} → Sweeping back size k all work → k < n → {t : ℕ} → t ≡ cond back (n - k) (k + 1)
      → length work' ≡ length work → {r : ℕ} → Went T n t work r work' → {all' : ℕ} → (all' ≡ 2 → (all ≡ 2) × (r ≡ 2)) → Sweeping back size (k + 1) all' work'
  sweeping-next {back} {size} {k} {all} {work} {work'} s h {t} e kept w {all'} both =
      record {
        size-kept = kept ∙ s.size-kept;
        now = w.now;
        passed = λ two x low high far z. ⊎_elim
            (λ same. w.here (both two).1 (ap (λ (x : ℕ). is_open (state_of work' x)) (sym same) ∙ z))
            (λ old. w.keeps x (s.passed (both two).0 x low high old) z)
            (one_more back e x far);
      }
    where
      one_more : (back : Bool) → t ≡ cond back (n - k) (k + 1) → (x : ℕ) → Behind back (k + 1) x → (x ≡ t) ⊎ Behind back k x
      one_more true e x far = by (leb x t) refl
        where
          by : (b : Bool) → leb x t ≡ b → (x ≡ t) ⊎ (n < x + k)
          by true q = let l = leb-true x t q in inl (omega (arith, e))
          by false q = let l = leb-false x t q in inr (omega (arith, e))
      one_more false e x far = by (leb t x) refl
        where
          by : (b : Bool) → leb t x ≡ b → (x ≡ t) ⊎ (x ≤ k)
          by true q = let l = leb-true t x q in inl (omega (arith, e))
          by false q = let l = leb-false t x q in inr (omega (arith, e))

  pub sweeping-done : {back : Bool} {size k all : ℕ} {work : List ℕ} → Sweeping back size k all work → n ≤ k → all ≡ 2 → All n work
  sweeping-done {back} {k = k} s h two = λ x low high. s.passed two x low high (there back x low high)
    where
      there : (back : Bool) (x : ℕ) → 1 ≤ x → x ≤ n → Behind back k x
      there true x low high = omega arith
      there false x low high = omega arith

  -- ── where all are settled ──

  module _ {work : List ℕ} (g : Glancing T n work) (all : All n work) where
    one : (t : ℕ) → 1 ≤ t → t ≤ count T → Settled T work g.steps t
    one t low high = g.told t (all t low (let c = g.counted in omega arith))

    refs : (t : ℕ) → 1 ≤ t → t ≤ count T → refs_ok T (record_at T t) ≡ true
    refs t low high = (one t low high).refs

    held : (t : ℕ) → 1 ≤ t → t ≤ count T → walks (held_by T) (count T) t ≡ false
    held = held-ended T refs g.steps (λ t low high. (one t low high).held)

    pointed : (t : ℕ) → 1 ≤ t → t ≤ count T → walks (pointed_by T) (count T) t ≡ false
    pointed = pointed-ended T refs g.steps (λ t low high. (one t low high).pointed)

    pub all-good : SurelyGood T n
    unfolding endless
    all-good =
        record {
          refs = λ t low high. refs t low (let c = g.counted in omega arith);
          ends =
              λ t low high. let h : t ≤ count T = (let c = g.counted in omega arith) in
              λ i. held t low h i || pointed t low h i;
          layout =
              λ t low high.
              layout-good T work held (λ t low high. (one t low high).looks) (held_types T refs)
              (λ x far. g.outside x (⊎_elim (λ z. inl z) (λ h. inr (let c = g.counted in omega arith)) far)) t low
              (let c = g.counted in omega arith) (all t low high);
        }
