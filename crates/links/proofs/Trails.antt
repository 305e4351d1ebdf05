-- The line of a root whose types lead to one type each: those on it have the root's mark, and lead to where it stands. Over steps of any sort.
-- Assumes nothing.
use Prim.Native.Nat.{ℕ, ◌+◌, ◌≤◌, ◌<◌}
use mathlib.Core.Path.{◌≡◌, refl, sym, ap, ◌∙◌, subst}
use mathlib.Core.Bool.{true, false}
use mathlib.Core.List.{List, [], ◌∷◌, Memᴰ}
use mathlib.Core.Logic.{◌⊎◌, inl, inr, ⊎_elim}
use native.Mathlib.Omega.{arith}
use lib.ListN.{length, get_or, set}
use Rattle.paper.specs.rules.Chain.{walks}
use Rattle.links.specs.Trail.{Passed}
use Rattle.links.proofs.Ways.{get_d_set, ends-step, ring-walks}

module _ (step : ℕ → List ℕ) (n : ℕ) where
  -- a root's line has come to t
  pub record Trailing (root : ℕ) (work : List ℕ) (t : ℕ) : Type 0 where
    pub line : List ℕ
    pub type : (1 ≤ t) × (t ≤ n)
    pub rooted : Memᴰ root (t ∷ line)
    pub marked : (x : ℕ) → Memᴰ x line → get_or work x 0 ≡ root
    pub onward : (x : ℕ) → Memᴰ x line → (y : ℕ) × Memᴰ y (t ∷ line) × Memᴰ y (step x)
    pub ends : walks step n t ≡ false → (x : ℕ) → Memᴰ x line → walks step n x ≡ false
    pub caught : (x : ℕ) → 1 ≤ x → x ≤ n → (get_or work x 0 < root) ⊎ Memᴰ x line
    pub ended : (x : ℕ) → 1 ≤ x → x ≤ n → (get_or work x 0 ≡ 0 → ⊥) → get_or work x 0 < root → walks step n x ≡ false

  -- it begins at the root, with nothing on the line
  pub trailing-start : {work : List ℕ} {root : ℕ} → Passed step n root work → 1 ≤ root → root ≤ n → Trailing root work root
  trailing-start passed low high =
      record {
        line = [];
        type = (low, high);
        rooted = mathlib.Core.List.Memᴰ.head refl;
        marked = λ x m. absurd (mathlib.Core.List.Memᴰ.not-nil m);
        onward = λ x m. absurd (mathlib.Core.List.Memᴰ.not-nil m);
        ends = λ e x m. absurd (mathlib.Core.List.Memᴰ.not-nil m);
        caught = λ x l h. inl (passed.marks x l h);
        ended = λ x l h seen less. passed.ended x l h seen;
      }

  module _ {root : ℕ} {work : List ℕ} {t : ℕ} (g : Trailing root work t) where
    -- where t ends, so do all on the line, and the root
    all_end : walks step n t ≡ false → (x : ℕ) → Memᴰ x (t ∷ g.line) → walks step n x ≡ false
    all_end e x m = ⊎_elim (λ (here : x ≡ t). ap (walks step n) here ∙ e) (λ later. g.ends e x later) (mathlib.Core.List.Memᴰ.cases_cons m)

    module _ (seen : get_or work t 0 ≡ 0 → ⊥) where
      -- it comes to one of its own types: a ring
      pub trailing-ring : get_or work t 0 ≡ root → walks step n root ≡ true
      trailing-ring own =
          let back : Memᴰ t g.line = ⊎_elim (λ (less : get_or work t 0 < root). absurd (omega arith)) (λ m. m) (g.caught t g.type.0 g.type.1) in
          let on : (x : ℕ) → Memᴰ x (t ∷ g.line) → Memᴰ x g.line =
          λ x m. ⊎_elim (λ (here : x ≡ t). subst (λ (y : ℕ). Memᴰ y g.line) (sym here) back) (λ m. m) (mathlib.Core.List.Memᴰ.cases_cons m) in
          ring-walks step g.line (λ x m. let y = g.onward x m in (y.0, on y.0 y.1, y.2)) n root (on root g.rooted)

      -- it comes to one that an earlier root has seen: all on it end
      pub trailing-seen : (get_or work t 0 ≡ root → ⊥) → (walks step n root ≡ false) × Passed step n (root + 1) work
      trailing-seen other =
          let less : get_or work t 0 < root = ⊎_elim (λ less. less) (λ m. absurd (other (g.marked t m))) (g.caught t g.type.0 g.type.1) in
          let e = g.ended t g.type.0 g.type.1 seen less in (
            all_end e root g.rooted,
            record {
              marks = λ x l h. ⊎_elim (λ (below : get_or work x 0 < root). omega arith) (λ m. let own = g.marked x m in omega arith) (g.caught x l h);
              ended = λ x l h s. ⊎_elim (λ below. g.ended x l h s below) (λ m. g.ends e x m) (g.caught x l h);
            },
          )

    -- t was not seen: it gets the root's mark
    module _ (inside : (t u : ℕ) → Memᴰ u (step t) → (1 ≤ u) × (u ≤ n)) (low : 1 ≤ root) (room : t < length work) where
      abbrev work' : List ℕ
      work' = set work t root

      caught' : (x : ℕ) → 1 ≤ x → x ≤ n → (get_or work' x 0 < root) ⊎ Memᴰ x (t ∷ g.line)
      caught' x l h =
          ⊎_elim (λ here. inr (mathlib.Core.List.Memᴰ.head here.0))
          (λ other. ⊎_elim (λ (below : get_or work x 0 < root). let same = other.1 in inl (omega arith)) (λ m. inr (mathlib.Core.List.Memᴰ.tail m)) (g.caught x l h))
          (get_d_set work t root x room)

      marked' : (x : ℕ) → Memᴰ x (t ∷ g.line) → get_or work' x 0 ≡ root
      marked' x m =
          ⊎_elim (λ here. here.1)
          (λ other. ⊎_elim (λ e. absurd (other.0 e)) (λ later. other.1 ∙ g.marked x later) (mathlib.Core.List.Memᴰ.cases_cons m))
          (get_d_set work t root x room)

      ended' : (x : ℕ) → 1 ≤ x → x ≤ n → (get_or work' x 0 ≡ 0 → ⊥) → get_or work' x 0 < root → walks step n x ≡ false
      ended' x l h s less =
          ⊎_elim (λ here. let own = here.1 in absurd (omega arith))
          (λ other. let same = other.1 in g.ended x l h (λ z. s (same ∙ z)) (omega arith))
          (get_d_set work t root x room)

      -- it leads nowhere: all on the line end
      pub trailing-end : step t ≡ [] → (walks step n root ≡ false) × Passed step n (root + 1) (set work t root)
      trailing-end none =
          let e = ends-step step n inside t g.type.0 g.type.1 (λ u m. absurd (mathlib.Core.List.Memᴰ.not-nil (subst (Memᴰ u) none m))) in (
            all_end e root g.rooted,
            record {
              marks = λ x l h. ⊎_elim (λ (below : get_or work' x 0 < root). omega arith) (λ m. let own = marked' x m in omega arith) (caught' x l h);
              ended = λ x l h s. ⊎_elim (λ below. ended' x l h s below) (λ m. all_end e x m) (caught' x l h);
            },
          )

      -- it leads on
      pub trailing-next : {u : ℕ} → step t ≡ u ∷ [] → Trailing root (set work t root) u
      trailing-next {u} one =
          let leads : Memᴰ u (step t) = subst (Memᴰ u) (sym one) (mathlib.Core.List.Memᴰ.head refl) in
          record {
            line = t ∷ g.line;
            type = inside t u leads;
            rooted = mathlib.Core.List.Memᴰ.tail g.rooted;
            marked = marked';
            onward = λ x m.
                ⊎_elim (λ (here : x ≡ t). (u, mathlib.Core.List.Memᴰ.head refl, subst (λ (y : ℕ). Memᴰ u (step y)) (sym here) leads))
                (λ later. let y = g.onward x later in (y.0, mathlib.Core.List.Memᴰ.tail y.1, y.2))
                (mathlib.Core.List.Memᴰ.cases_cons m);
            ends = λ e. all_end (ends-step step n inside t g.type.0 g.type.1 (λ v m. ap (walks step n) (only v m) ∙ e));
            caught = caught';
            ended = ended';
          }
        where
          only : (v : ℕ) → Memᴰ v (step t) → v ≡ u
          only v m = ⊎_elim (λ e. e) (λ l. absurd (mathlib.Core.List.Memᴰ.not-nil l)) (mathlib.Core.List.Memᴰ.cases_cons (subst (Memᴰ v) one m))
