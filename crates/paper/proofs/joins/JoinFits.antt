-- A joined table is good and fits a blob, where its parts do and the limits allow it.
-- Assumes nothing.
use Prim.Native.Nat.{ℕ, zero, suc, ◌+◌, ◌-◌, ◌≤◌, ◌<◌}
use mathlib.Core.Path.{◌≡◌, refl, sym, ap, ◌∙◌, subst}
use mathlib.Core.Bool.{Bool, true, false}
use mathlib.Core.List.{List, [], ◌∷◌, ◌++◌, map}
use native.Mathlib.Omega.{arith}
use borrow.Author.Tests.{leb-true, leb-false, ltb-true}
use lib.Dec.{leb}
use lib.ListN.{length, get_or, drop, length-drop, get_or-append}
use lib.Seq.{get_or-append-add, get_or-drop}
use Rattle.paper.proofs.bytes.Bytes.{below-append, below_left, below_right, below-drop}
use Rattle.paper.proofs.basics.Choices.{and_left, and_right}
use Rattle.paper.proofs.walks.Insides.{sound-inside}
use Rattle.paper.proofs.joins.Joining.{sound-rename, count-join, length-strings, first-renaming, second-renaming}
use Rattle.paper.proofs.bytes.Places.{flat_append}
use Rattle.paper.proofs.renaming.Rename.{length-rename_words}
use Rattle.paper.proofs.renaming.Renaming.{inside, Inside}
use Rattle.paper.specs.terms.Fit.{Below, word_bound, EveryWhole, Fits}
use Rattle.paper.specs.terms.Good.{Closed, SoundAt, Sound, Good}
use Rattle.paper.specs.rules.Join.{raised, join_tables}
use Rattle.paper.specs.rules.Kind.{Role, names, refers, holds, number}
use Rattle.paper.specs.rules.Limits.{type_limit, byte_limit}
use Rattle.paper.specs.rules.Rename.{rename_word, rename_words, rename, raise}
use Rattle.paper.specs.rules.Table.{Record, Table, count, nothing, tail_roles, roles_of, words_of, every_roled}
use Rattle.paper.specs.rules.Walk.{flat, blob_length}

-- ── nothing is said of a join ──

module _ (A B : Table) (a : Good A) (b : Good B) where
  pub sound-join : Sound (join_tables A B)
  sound-join t low high = go (leb t (count A)) refl
    where
      second : (k : ℕ) → t ≡ suc k + count A → suc k ≤ count B → SoundAt (join_tables A B) t
      second k e h = subst (SoundAt (join_tables A B)) (sym e) (sound-rename (second-renaming A B a.closed b.closed) b (suc k) (omega arith) h)

      go : (z : Bool) → leb t (count A) ≡ z → SoundAt (join_tables A B) t
      go true x = sound-rename (first-renaming A B a.closed b.closed) a t low (leb-true _ _ x)
      go false x =
          let above = leb-false t (count A) x in
          let n = count-join A B in
          second (t - suc (count A)) (omega arith) (omega arith)

-- ── its strings are closed ──

last-append : (s u : List ℕ) → Closed s → Closed u → (lu : ℕ) → length u ≡ suc lu → get_or (s ++ drop 1 u) (length s + lu - 1) 0 ≡ 0
last-append s u c d zero e =
    let none-behind : length (drop 1 u) ≡ 0 = simp length-drop (omega arith) in
    let f = c.filled in
    let at : length s + 0 - 1 ≡ length s - 1 = omega arith in
    ap (λ (i : ℕ). get_or (s ++ drop 1 u) i 0) at ∙ get_or-append s (drop 1 u) 0 (length s - 1) (omega arith) ∙ c.last
last-append s u c d (suc lu) e =
    let at : length s + suc lu - 1 ≡ length s + lu = omega arith in
    let end : 1 + lu ≡ length u - 1 = omega arith in
    ap (λ (i : ℕ). get_or (s ++ drop 1 u) i 0) at ∙ get_or-append-add s (drop 1 u) lu 0 ∙ get_or-drop 1 u lu 0 ∙ ap (λ (i : ℕ). get_or u i 0) end ∙ d.last

pub closed-join : (A B : Table) → Closed A.strings → Closed B.strings → Closed (join_tables A B).strings
unfolding join_tables
closed-join A B a b =
    let l = length-strings A B a b in
    let fa = a.filled in
    let fb = b.filled in
    let end : length A.strings + (length B.strings - 1) - 1 ≡ length (join_tables A B).strings - 1 = omega arith in
    record {
      filled = omega arith;
      first = get_or-append A.strings (drop 1 B.strings) 0 0 fa ∙ a.first;
      last =
          ap (λ (i : ℕ). get_or (A.strings ++ drop 1 B.strings) i 0) (sym end)
          ∙ last-append A.strings B.strings a b (length B.strings - 1) (omega arith);
    }

-- ── its records are whole ──

whole_append : (rs ss : List Record) → EveryWhole rs → EveryWhole ss → EveryWhole (rs ++ ss)
whole_append [] ss p q = q
whole_append (r ∷ rs) ss p q = (p.0, whole_append rs ss p.1 q)

pub whole-rename : (type name : ℕ → ℕ) (rs : List Record) → EveryWhole rs → EveryWhole (map (rename type name) rs)
unfolding rename
whole-rename type name [] p = tt
whole-rename type name (r ∷ rs) p = (
  record { known_kind = p.0.known_kind; whole_tail = length-rename_words type name (tail_roles r) r.tail ∙ p.0.whole_tail },
  whole-rename type name rs p.1,
)

pub good-join : (A B : Table) → Good A → Good B → Good (join_tables A B)
unfolding join_tables
good-join A B a b =
    record {
      sound = sound-join A B a b;
      closed = closed-join A B a.closed b.closed;
      whole = whole_append A.records _ a.whole (whole-rename (raise (count A)) (raise (length A.strings - 1)) B.records b.whole);
    }

-- ── its words fit ──

raise-below : (by w n : ℕ) → w + by < n → raise by w < n
raise-below by zero n h = omega arith
raise-below by (suc w) n h = h

module _ (A B : Table) (types : count A + count B < word_bound) (strings : length A.strings + length B.strings < word_bound) where
  up_word : (ρ : Role) (w : ℕ) → inside B ρ w ≡ true → w < word_bound → rename_word (raise (count A)) (raise (length A.strings - 1)) ρ w < word_bound
  up_word (names rule) w e h = let l = ltb-true w (length B.strings) e in raise-below (length A.strings - 1) w word_bound (omega arith)
  up_word (refers rule) w e h = let l = leb-true w (count B) e in raise-below (count A) w word_bound (omega arith)
  up_word (holds rule) w e h = let l = leb-true w (count B) e in raise-below (count A) w word_bound (omega arith)
  up_word number w e h = h

  up-words : (ρs : List Role) (ws : List ℕ) → every_roled (inside B) ρs ws ≡ true → Below word_bound ws
      → Below word_bound (rename_words (raise (count A)) (raise (length A.strings - 1)) ρs ws)
  up-words [] ws e h = h
  up-words (ρ ∷ ρs) [] e h = tt
  up-words (ρ ∷ ρs) (w ∷ ws) e h =
      (up_word ρ w (and_left (inside B ρ w) _ e) h.0, up-words ρs ws (and_right (inside B ρ w) _ e) h.1)

  up-flat : (rs : List Record) → ((i : ℕ) → i < length rs → Inside B (get_or rs i nothing)) → Below word_bound (flat rs)
      → Below word_bound (flat (map (raised A) rs))
  unfolding rename tail_roles
  up-flat [] h b = tt
  up-flat (r ∷ rs) h b =
      let up = raised A in
      below-append word_bound (words_of (up r)) (flat (map up rs))
      (up-words (roles_of r) (words_of r) (h 0 (omega arith)) (below_left word_bound (words_of r) (flat rs) b))
      (up-flat rs (λ i l. h (suc i) (omega arith)) (below_right word_bound (words_of r) (flat rs) b))

pub fits-join : (A B : Table) → Good A → Good B → Fits A → Fits B → count (join_tables A B) ≤ type_limit
    → blob_length (join_tables A B) ≤ byte_limit → Fits (join_tables A B)
unfolding join_tables
fits-join A B a b fa fb few short =
    let up = raised A in
    let n = count-join A B in
    let s = length-strings A B a.closed b.closed in
    let closed-a = a.closed.filled in
    let closed-b = b.closed.filled in
    record {
      whole = (good-join A B a b).whole;
      words-fit =
          subst (Below word_bound) (sym (flat_append A.records (map up B.records)))
          (below-append word_bound (flat A.records) (flat (map up B.records)) fa.words-fit
          (up-flat A B (omega arith) (omega arith) B.records (λ i h. sound-inside b.sound closed-b (suc i) h) fb.words-fit));
      bytes_fit = below-append 256 A.strings (drop 1 B.strings) fa.bytes_fit (below-drop 256 1 B.strings fb.bytes_fit);
      section_fits = omega arith;
      strings-fit = omega arith;
      types_fit = few;
    }
