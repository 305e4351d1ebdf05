-- Where a search stands that follows references depth first, and that each step of it keeps what is known. Over references of any sort.
-- Assumes nothing.
use Prim.Native.Nat.{ℕ, ◌-◌, ◌/◌, ◌%◌, ◌≤◌, ◌<◌}
use mathlib.Core.Path.{◌≡◌, refl, sym, ap, ◌∙◌, subst}
use mathlib.Core.Bool.{Bool, true, false}
use mathlib.Core.List.{List, [], ◌∷◌, Memᴰ}
use mathlib.Core.Logic.{◌⊎◌, inl, inr, ⊎_elim}
use native.Mathlib.Omega.{arith}
use borrow.Author.Tests.{leb-true, leb-false}
use lib.Dec.{leb}
use lib.ListN.{length, get_or, set}
use lib.Seq.{get_or-set_same, get_or-set_other}
use Rattle.paper.specs.rules.Chain.{walks}
use Rattle.paper.specs.rules.Limits.{type_limit}
use Rattle.links.specs.Search.{as_root, many_slots, mark_of, Clean, Followed}
use Rattle.recall.specs.Recall.{first_telling}
use Rattle.links.proofs.Ways.{mark-fits, get_d_set, ends-step, ring-walks, Way, way-type, way-marked, way-all-marked, way-kept, way-onward, way-root}

-- at most as many types as the limit, each leads to some of them, and those that are left from a slot on are some of those
module _ (held : ℕ → List ℕ) (done : ℕ → ℕ) (rest : ℕ → ℕ → List ℕ) (n : ℕ) where
  -- a search from a root that stands at slot j of type t
  pub record Going (work : List ℕ) (root t j : ℕ) : Type 0 where
    pub parents : List ℕ
    pub way : Way held done rest n work root t parents
    pub caught : (x : ℕ) → 1 ≤ x → x ≤ n → (get_or work x 0 ≡ 0) ⊎ ((get_or work x 0 ≡ done x) ⊎ Memᴰ x (t ∷ parents))
    pub ended : (x : ℕ) → 1 ≤ x → x ≤ n → get_or work x 0 ≡ done x → walks held n x ≡ false
    pub closed : (x : ℕ) → 1 ≤ x → x ≤ n → get_or work x 0 ≡ done x → (u : ℕ) → Memᴰ u (held x) → get_or work u 0 ≡ done u
    pub outside : (x : ℕ) → (x ≡ 0) ⊎ (n < x) → get_or work x 0 ≡ 0
    pub earlier : (x : ℕ) → 1 ≤ x → x < root → get_or work x 0 ≡ done x
    pub passed : (u : ℕ) → Memᴰ u (held t) → (get_or work u 0 ≡ done u) ⊎ Memᴰ u (rest t j)

  -- a place that is not a type's is not the one that is set
  outside_set : (work : List ℕ) (u v : ℕ) → (1 ≤ u) × (u ≤ n) → ((x : ℕ) → (x ≡ 0) ⊎ (n < x) → get_or work x 0 ≡ 0)
      → (x : ℕ) → (x ≡ 0) ⊎ (n < x) → get_or (set work u v) x 0 ≡ 0
  outside_set work u v type zero-there x h =
      get_or-set_other work u x v 0 (λ (s : x ≡ u). ⊎_elim (λ (z : x ≡ 0). omega (arith, type.0)) (λ (l : n < x). omega (arith, type.1)) h) ∙ zero-there x h

  -- ── it begins at a root not yet seen ──

  module _ (all : (t : ℕ) → rest t 0 ≡ held t) (settles : (x : ℕ) → first_telling ≤ done x) where
    -- a place that has no mark is none that is done
    unlike : (work : List ℕ) {x u : ℕ} → get_or work u 0 ≡ 0 → get_or work x 0 ≡ done x → x ≡ u → ⊥
    unlike work {x} new e s = let z = sym new ∙ ap (λ (y : ℕ). get_or work y 0) (sym s) ∙ e in omega (arith, settles x)

    pub going_start : {work : List ℕ} {root : ℕ} → Clean held done n work → ((x : ℕ) → 1 ≤ x → x < root → get_or work x 0 ≡ done x)
        → 1 ≤ root → root ≤ n → root < length work → get_or work root 0 ≡ 0
        → Going (set work root as_root) root root 0
    going_start {work} {root} clean before low high room new =
        record {
          parents = [];
          way = (refl, (low, high), get_or-set_same work root as_root 0 room);
          caught = λ x l h.
              ⊎_elim (λ here. inr (inr (mathlib.Core.List.Memᴰ.head here.0)))
              (λ other. ⊎_elim (λ z. inl (other.1 ∙ z)) (λ d. inr (inl (other.1 ∙ d))) (clean.marks x l h))
              (get_d_set work root as_root x room);
          ended = λ x l h e.
              ⊎_elim (λ here. absurd (let z = sym here.1 ∙ e in omega (arith, settles x)))
              (λ other. clean.ended x l h (sym other.1 ∙ e))
              (get_d_set work root as_root x room);
          closed = λ x l h e u m.
              ⊎_elim (λ here. absurd (let z = sym here.1 ∙ e in omega (arith, settles x)))
              (λ other. stays u (clean.closed x l h (sym other.1 ∙ e) u m))
              (get_d_set work root as_root x room);
          outside = outside_set work root as_root (low, high) clean.outside;
          earlier = λ x l h. stays x (before x l h);
          passed = λ u m. inr (subst (Memᴰ u) (sym (all root)) m);
        }
      where
        stays : (x : ℕ) → get_or work x 0 ≡ done x → get_or (set work root as_root) x 0 ≡ done x
        stays x e = get_or-set_other work root x as_root 0 (unlike work {x = x} {u = root} new e) ∙ e

  -- ── a step ──

  module _ (few : n ≤ type_limit) (settles : (x : ℕ) → first_telling ≤ done x) (inside : (t u : ℕ) → Memᴰ u (held t) → (1 ≤ u) × (u ≤ n))
      {work : List ℕ} {root t j : ℕ} (g : Going work root t j) where
    pub going-type : (1 ≤ t) × (t ≤ n)
    going-type = way-type held done rest n work root t g.parents g.way

    pub going-seen : (1 ≤ get_or work t 0) × (get_or work t 0 < first_telling)
    going-seen = way-marked held done rest n few work root t g.parents g.way

    -- a type whose mark is that high is done
    is-done : (u : ℕ) → Memᴰ u (held t) → first_telling ≤ get_or work u 0 → get_or work u 0 ≡ done u
    is-done u leads high =
        let i = inside t u leads in
        ⊎_elim (λ z. absurd (omega arith))
        (λ s. ⊎_elim (λ d. d)
        (λ m. absurd (let low = (way-all-marked held done rest n few work root t g.parents g.way u m).1 in omega arith)) s)
        (g.caught u i.0 i.1)

    module _ {u k : ℕ} (opens : (x : ℕ) → Memᴰ x (rest t j) → (first_telling ≤ get_or work x 0) ⊎ ((x ≡ u) ⊎ Memᴰ x (rest t k))) where
      -- it is on the way: each type of the way leads to another
      module _ (leads : Memᴰ u (held t)) where
        pub going-ring : (get_or work u 0 ≡ 0 → ⊥) → get_or work u 0 < first_telling → (m : ℕ) → walks held m root ≡ true
        going-ring seen unfinished m =
            let i = inside t u leads in
            let back : Memᴰ u (t ∷ g.parents) =
            ⊎_elim (λ z. absurd (seen z)) (λ s. ⊎_elim (λ d. absurd (omega (arith, settles u))) (λ m. m) s) (g.caught u i.0 i.1) in
            ring-walks held (t ∷ g.parents)
            (λ x h. ⊎_elim (λ (e : x ≡ t). (u, back, subst (λ (s : ℕ). Memᴰ u (held s)) (sym e) leads)) (λ y. y)
            (way-onward held done rest n work root t g.parents g.way x h))
            m root (way-root held done rest n work root t g.parents g.way)

        -- it is new
        module _ (all : (t : ℕ) → rest t 0 ≡ held t) (small : k < many_slots) (room : u < length work) (new : get_or work u 0 ≡ 0) where
          abbrev work' : List ℕ
          work' = set work u (mark_of t k)

          -- what is done stays done
          keeps-done : (x : ℕ) → get_or work x 0 ≡ done x → get_or work' x 0 ≡ done x
          keeps-done x e =
              get_or-set_other work u x (mark_of t k) 0
              (λ (s : x ≡ u). let z = sym new ∙ ap (λ (y : ℕ). get_or work y 0) (sym s) ∙ e in omega (arith, settles x)) ∙ e

          -- and nothing else has become it
          was-done : (x : ℕ) → get_or work' x 0 ≡ done x → get_or work x 0 ≡ done x
          was-done x e =
              ⊎_elim (λ here. absurd (let z = sym here.1 ∙ e in omega (arith, settles x, mark-fits {p = t} {k = k} (omega (arith, going-type.1)) small)))
              (λ other. sym other.1 ∙ e)
              (get_d_set work u (mark_of t k) x room)

          not_yet : Memᴰ u (t ∷ g.parents) → ⊥
          not_yet m = let s = (way-all-marked held done rest n few work root t g.parents g.way u m).0 in omega arith

          pub going-into : Going work' root u 0
          going-into =
              let type = going-type in
              record {
                parents = t ∷ g.parents;
                way = (
                  inside t u leads,
                  (
                    k,
                    record {
                      marked = get_or-set_same work u (mark_of t k) 0 room;
                      small = small;
                      led = leads;
                      passed = λ x m. ⊎_elim (λ d. inl (keeps-done x d))
                          (λ r. ⊎_elim (λ high. inl (keeps-done x (is-done x m high))) (λ l. inr l) (opens x r))
                          (g.passed x m);
                    },
                  ),
                  not_yet,
                  way-kept held done rest n work work' keeps-done root t g.parents
                      (λ x m. get_or-set_other work u x (mark_of t k) 0 (λ s. not_yet (subst (λ (y : ℕ). Memᴰ y (t ∷ g.parents)) s m)))
                      g.way,
                );
                caught = λ x l h.
                    ⊎_elim (λ here. inr (inr (mathlib.Core.List.Memᴰ.head here.0)))
                    (λ other. ⊎_elim (λ z. inl (other.1 ∙ z)) (λ s. inr (⊎_elim (λ d. inl (other.1 ∙ d)) (λ m. inr (mathlib.Core.List.Memᴰ.tail m)) s)) (g.caught x l h))
                    (get_d_set work u (mark_of t k) x room);
                ended = λ x l h e. g.ended x l h (was-done x e);
                closed = λ x l h e v m. keeps-done v (g.closed x l h (was-done x e) v m);
                outside = outside_set work u (mark_of t k) (inside t u leads) g.outside;
                earlier = λ x l h. keeps-done x (g.earlier x l h);
                passed = λ x m. inr (subst (Memᴰ x) (sym (all u)) m);
              }

    -- nothing is left: the type gets its mark, and leads to no endless walk
    module _ (spent : (x : ℕ) → Memᴰ x (rest t j) → first_telling ≤ get_or work x 0) (room : t < length work) {mark : ℕ}
        (right : walks held n t ≡ false → ((u : ℕ) → Memᴰ u (held t) → get_or work u 0 ≡ done u) → mark ≡ done t) where
      abbrev left : List ℕ
      left = set work t mark

      all_done : (u : ℕ) → Memᴰ u (held t) → get_or work u 0 ≡ done u
      all_done u m = ⊎_elim (λ d. d) (λ r. is-done u m (spent u r)) (g.passed u m)

      ends-here : walks held n t ≡ false
      ends-here =
          let type = going-type in
          ends-step held n inside t type.0 type.1 (λ u m. let i = inside t u m in g.ended u i.0 i.1 (all_done u m))

      mark-right : mark ≡ done t
      mark-right = right ends-here all_done

      done-here : get_or left t 0 ≡ done t
      done-here = get_or-set_same work t mark 0 room ∙ mark-right

      done-stays : (x : ℕ) → get_or work x 0 ≡ done x → get_or left x 0 ≡ done x
      done-stays x e =
          ⊎_elim (λ here. subst (λ (y : ℕ). get_or left y 0 ≡ done y) (sym here.0) done-here) (λ other. other.1 ∙ e) (get_d_set work t mark x room)

      left_ended : (x : ℕ) → 1 ≤ x → x ≤ n → get_or left x 0 ≡ done x → walks held n x ≡ false
      left_ended x l h e =
          ⊎_elim (λ here. ap (walks held n) here.0 ∙ ends-here) (λ other. g.ended x l h (sym other.1 ∙ e)) (get_d_set work t mark x room)

      left-closed : (x : ℕ) → 1 ≤ x → x ≤ n → get_or left x 0 ≡ done x → (u : ℕ) → Memᴰ u (held x) → get_or left u 0 ≡ done u
      left-closed x l h e u m =
          ⊎_elim (λ here. done-stays u (all_done u (subst (λ (y : ℕ). Memᴰ u (held y)) here.0 m)))
          (λ other. done-stays u (g.closed x l h (sym other.1 ∙ e) u m)) (get_d_set work t mark x room)

      left-outside : (x : ℕ) → (x ≡ 0) ⊎ (n < x) → get_or left x 0 ≡ 0
      left-outside = outside_set work t mark going-type g.outside

      -- a type that was not done, and is not this one, is on the way before it
      left-caught : (ps : List ℕ) → ((x : ℕ) → 1 ≤ x → x ≤ n → (get_or work x 0 ≡ 0) ⊎ ((get_or work x 0 ≡ done x) ⊎ Memᴰ x (t ∷ ps)))
          → (x : ℕ) → 1 ≤ x → x ≤ n → (get_or left x 0 ≡ 0) ⊎ ((get_or left x 0 ≡ done x) ⊎ Memᴰ x ps)
      left-caught ps caught x l h =
          ⊎_elim (λ here. inr (inl (subst (λ (y : ℕ). get_or left y 0 ≡ done y) (sym here.0) done-here)))
          (λ other. ⊎_elim (λ z. inl (other.1 ∙ z))
          (λ s. inr (⊎_elim (λ d. inl (other.1 ∙ d)) (λ m. ⊎_elim (λ e. absurd (other.0 e)) (λ r. inr r) (mathlib.Core.List.Memᴰ.cases_cons m)) s))
          (caught x l h))
          (get_d_set work t mark x room)

      finished : (ps : List ℕ) → Way held done rest n work root t ps
          → ((x : ℕ) → 1 ≤ x → x ≤ n → (get_or work x 0 ≡ 0) ⊎ ((get_or work x 0 ≡ done x) ⊎ Memᴰ x (t ∷ ps)))
          → get_or work t 0 ≡ as_root → Followed held done n root left false
      finished [] w caught e = (
        ap (walks held n) (sym w.0) ∙ ends-here,
        (λ x l h. up_to x l (leb root x) refl h),
        record {
          marks = λ x l h. ⊎_elim (λ z. inl z) (λ s. ⊎_elim (λ d. inr d) (λ m. absurd (mathlib.Core.List.Memᴰ.not-nil m)) s) (left-caught [] caught x l h);
          ended = left_ended;
          closed = left-closed;
          outside = left-outside;
        },
      )
        where
          up_to : (x : ℕ) → 1 ≤ x → (z : Bool) → leb root x ≡ z → x ≤ root → get_or left x 0 ≡ done x
          up_to x l true e h =
              let b = leb-true root x e in let same : t ≡ x = let r = w.0 in omega arith in subst (λ (y : ℕ). get_or left y 0 ≡ done y) same done-here
          up_to x l false e h = done-stays x (g.earlier x l (leb-false root x e))
      finished (p ∷ ps) w caught e =
          let m = w.1.1.marked in
          let type = way-type held done rest n work root p ps w.3 in
          absurd (omega arith)

      backed : (ps : List ℕ) → Way held done rest n work root t ps
          → ((x : ℕ) → 1 ≤ x → x ≤ n → (get_or work x 0 ≡ 0) ⊎ ((get_or work x 0 ≡ done x) ⊎ Memᴰ x (t ∷ ps)))
          → (get_or work t 0 ≡ as_root → ⊥) → {v i : ℕ} → v ≡ (get_or work t 0 - 1) / many_slots → i ≡ (get_or work t 0 - 1) % many_slots → Going left root v i
      backed [] w caught inner p q = absurd (inner w.2)
      backed (p ∷ ps) w caught inner {v} {i} parent slot =
          let e = w.1.1 in
          let m = e.marked in
          let s = e.small in
          let k = w.1.0 in
          let same-parent : p ≡ v = omega arith in
          let same-slot : k ≡ i = omega arith in
          subst (λ (q : ℕ). Going left root q i) same-parent
          (subst (λ (q : ℕ). Going left root p q) same-slot
          (record {
            parents = ps;
            way =
                way-kept held done rest n work left done-stays root p ps
                (λ x h. get_or-set_other work t x mark 0 (λ s. w.2 (subst (λ (y : ℕ). Memᴰ y (p ∷ ps)) s h)))
                w.3;
            caught = left-caught (p ∷ ps) caught;
            ended = left_ended;
            closed = left-closed;
            outside = left-outside;
            earlier = λ x l h. done-stays x (g.earlier x l h);
            passed = λ u h. ⊎_elim (λ d. inl (done-stays u d))
                (λ r. ⊎_elim (λ (z : u ≡ t). inl (subst (λ (y : ℕ). get_or left y 0 ≡ done y) (sym z) done-here)) (λ l. inr l) r)
                (e.passed u h);
          }))

      -- the search is over
      pub going-finished : get_or work t 0 ≡ as_root → Followed held done n root left false
      going-finished e = finished g.parents g.way g.caught e

      -- or goes back to where the type was entered from
      pub going-back : (get_or work t 0 ≡ as_root → ⊥) → {v i : ℕ} → v ≡ (get_or work t 0 - 1) / many_slots → i ≡ (get_or work t 0 - 1) % many_slots
          → Going left root v i
      going-back inner parent slot = backed g.parents g.way g.caught inner parent slot
