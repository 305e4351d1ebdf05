-- The second sort of phase 5 as code follows it: a type's one step, and a root's line over the types of a blob.
-- Assumes nothing.
use Prim.Native.Nat.{ℕ, ◌+◌, ◌≤◌, ◌<◌}
use mathlib.Core.Path.{◌≡◌, refl, sym, ap, ◌∙◌}
use mathlib.Core.Bool.{Bool, true, false, cond}
use mathlib.Core.List.{List, [], ◌∷◌, Memᴰ}
use mathlib.Core.Option.{none, some}
use native.Mathlib.Omega.{arith}
use borrow.Author.Tests.{eqb-true, eqb-false, ne_eqb}
use lib.Dec.{eqb}
use lib.ListN.{length, get_or, set, length-set, length-replicate}
use Rattle.links.proofs.HeldTypes.{few-types}
use Rattle.rows.proofs.RecordWords.{kind-read, third-read}
use Rattle.links.proofs.Roots.{Left, left-start, left-done, left-ring, left-next, followable-sized, get_d-zeros}
use Rattle.links.proofs.Trails.{Trailing, trailing-start, trailing-ring, trailing-seen, trailing-end, trailing-next}
use Rattle.links.proofs.Weights.{weights, weights-entered}
use Rattle.links.specs.Search.{Followable, Unsearched, rings_by}
use Rattle.links.specs.Trail.{Passed, AtTrail, Trailed}
use Rattle.paper.proofs.walks.Chains.{pointed_by-link, pointed_by-none}
use Rattle.paper.proofs.walks.Insides.{pointed-inside}
use Rattle.paper.specs.rules.Answer.{report_at}
use Rattle.paper.specs.rules.Chain.{is_link, pointed_by, step_to, walks}
use Rattle.paper.specs.rules.Gate.{over_types, zeros}
use Rattle.paper.specs.terms.Reading.{record_in}
use Rattle.paper.specs.rules.Span.{is_alias}
use Rattle.paper.specs.rules.Table.{Table, record_at, kind_in}
use Rattle.paper.specs.rules.Walk.{place_at}
use Rattle.paper.specs.declared.Order.{Order}
use Rattle.paper.specs.rules.Word.{word_at}

-- ── the kinds of a link: PTR, and those of an alias ──

pub link-pointer : {k : ℕ} → k ≡ 2 → true ≡ is_link k
link-pointer e = sym (ap is_link e)

pub link-alias : {k : ℕ} {z : Bool} → (k ≡ 2 → ⊥) → z ≡ is_alias k → z ≡ is_link k
link-alias {k} n e = e ∙ sym (rw (ne_eqb k 2 n) refl)

-- ── a type's step, from its record's bytes ──

module _ (T : Table) (t : ℕ) (order : Order) (s : List ℕ) (is : record_in order s ≡ record_at T t) {w k : ℕ} (info : w ≡ word_at order s 4) (kind : k ≡ kind_in w)
    {z : Bool} (test : z ≡ is_link k) where
  linked : z ≡ is_link (kind_in (record_at T t).info)
  linked = test ∙ ap is_link (kind-read order s is info kind)

  pub link-leads : z ≡ true → {u : ℕ} → u ≡ word_at order s 8 → pointed_by T t ≡ step_to u []
  link-leads on {u} third = pointed_by-link T t (sym linked ∙ on) ∙ ap (λ (v : ℕ). step_to v []) (sym (third-read order s is third))

  pub link-none : z ≡ false → pointed_by T t ≡ step_to 0 []
  link-none off = pointed_by-none T t (sym linked ∙ off)

-- ── a root's line ──

-- every step leads to a type
pointed-types : {T : Table} {work : List ℕ} {n : ℕ} → Followable T n work → (t u : ℕ) → Memᴰ u (pointed_by T t) → (1 ≤ u) × (u ≤ n)
pointed-types {T} f t u m =
    let c = f.counted in
    let h = pointed-inside T (λ s low high. f.refs s low (omega arith)) t u m in
    (h.2.0, omega arith)

pub record OnTrail (T : Table) (n size root : ℕ) (work : List ℕ) (t : ℕ) : Type 0 where
  pub ready : Followable T n work
  pub size-kept : length work ≡ size
  pub low : 1 ≤ root
  pub high : root ≤ n
  pub trailing : Trailing (pointed_by T) n root work t

pub trail-start : {T : Table} {work : List ℕ} {n root : ℕ} → AtTrail T n root work → OnTrail T n (length work) root work root
trail-start {T} {n = n} a =
    record {
      ready = a.ready;
      size-kept = refl;
      low = a.low;
      high = a.high;
      trailing = trailing-start (pointed_by T) n a.passed a.low a.high;
    }

module _ {T : Table} {work : List ℕ} {n size root t : ℕ} (g : OnTrail T n size root work t) where
  abbrev step : ℕ → List ℕ
  step = pointed_by T

  pub trail-room : t < length work
  trail-room = omega (arith, g.trailing.type.1, g.ready.room)

  -- a type that was seen: by this root, or by an earlier one
  pub trail-met : (get_or work t 0 ≡ 0 → ⊥) → Trailed (pointed_by T) n root work (eqb (get_or work t 0) root)
  trail-met seen = go (eqb (get_or work t 0) root) refl
    where
      go : (z : Bool) → eqb (get_or work t 0) root ≡ z → Trailed (pointed_by T) n root work z
      go true e = trailing-ring step n g.trailing seen (eqb-true _ _ e)
      go false e = trailing-seen step n g.trailing seen (eqb-false _ _ e)

  module _ {u : ℕ} (leads : pointed_by T t ≡ step_to u []) where
    pub trail-end : u ≡ 0 → Trailed (pointed_by T) n root (set work t root) false
    trail-end z =
        trailing-end step n g.trailing (pointed-types g.ready) g.low trail-room (leads ∙ ap (λ (v : ℕ). step_to v []) z)

    pub trail-next : (u ≡ 0 → ⊥) → OnTrail T n size root (set work t root) u
    trail-next some-type =
        record {
          ready = followable-sized g.ready (length-set work t root);
          size-kept = length-set work t root ∙ g.size-kept;
          low = g.low;
          high = g.high;
          trailing =
              trailing-next step n g.trailing (pointed-types g.ready) g.low trail-room
              (leads ∙ ap (λ (z : Bool). cond z [] (u ∷ [])) (ne_eqb u 0 some-type));
        }

  -- a type more has been seen
  pub trail-less : get_or work t 0 ≡ 0 → weights (set work t root) n < weights work n
  trail-less new =
      let few = few-types g.ready in
      let high = g.high in
      weights-entered work t root n g.trailing.type.0 g.trailing.type.1 trail-room new g.low (omega arith)

-- ── the roots passed ──

-- a slice that is cleared can be searched again
pub unsearched-cleared : {T : Table} {work cleared : List ℕ} {n : ℕ} → Unsearched T n work → (size : ℕ) → size ≡ length work
    → cleared ≡ zeros size → Unsearched T n cleared
unsearched-cleared s size same e =
    let long = ap length e ∙ length-replicate {A = ℕ} size 0 in
    record { ready = followable-sized s.ready (long ∙ same); unmarked = e ∙ ap zeros (sym long) }

pub record Pointing (T : Table) (n size : ℕ) (work : List ℕ) (t : ℕ) : Type 0 where
  pub ready : Followable T n work
  pub size-kept : length work ≡ size
  pub passed : Passed (pointed_by T) n (t + 1) work
  pub left : Left pointed_by T n t

pub pointing-start : {T : Table} {work : List ℕ} {n : ℕ} → Unsearched T n work → Pointing T n (length work) work 0
pointing-start {T} {work = work} {n} s =
    record {
      ready = s.ready;
      size-kept = refl;
      passed = record { marks = λ x l h. let z = new x in omega arith; ended = λ x l h seen. absurd (seen (new x)) };
      left = left-start pointed_by T s.ready.counted;
    }
  where
    new : (x : ℕ) → get_or work x 0 ≡ 0
    new x = ap (λ (w : List ℕ). get_or w x 0) s.unmarked ∙ get_d-zeros (length work) x

module _ {T : Table} {work : List ℕ} {n size t : ℕ} (p : Pointing T n size work t) where
  pub pointing-done : n ≤ t → none ≡ over_types (rings_by pointed_by) T
  pointing-done h = left-done pointed_by T p.left h

  module _ (more : t < n) where
    pub pointing-asks : AtTrail T n (t + 1) work
    pointing-asks = record { ready = p.ready; passed = p.passed; low = omega arith; high = omega arith }

    pub pointing-ring : walks (pointed_by T) n (t + 1) ≡ true → some (report_at 14 (t + 1) (place_at T (t + 1))) ≡ over_types (rings_by pointed_by) T
    pointing-ring e = left-ring pointed_by T p.left more e refl

    pub pointing-next : {work' : List ℕ} → length work' ≡ length work → Trailed (pointed_by T) n (t + 1) work' false → Pointing T n size work' (t + 1)
    pointing-next same trailed =
        record {
          ready = followable-sized p.ready same;
          size-kept = same ∙ p.size-kept;
          passed = trailed.1;
          left = left-next pointed_by T p.left more trailed.0 refl;
        }
