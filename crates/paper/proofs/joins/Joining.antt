-- The join of two tables of which nothing is said: both stand in it renamed, and nothing is said of it.
-- Assumes nothing.
use Prim.Native.Nat.{ℕ, zero, suc, ◌+◌, ◌-◌, ◌≤◌, ◌<◌}
use mathlib.Core.Path.{◌≡◌, refl, sym, ap, ◌∙◌}
use mathlib.Core.Bool.{Bool, true, false, false≢true}
use mathlib.Core.List.{List, ◌++◌, map}
use mathlib.Core.Logic.{⊎_elim}
use native.Mathlib.Nat.{suc-add, add_comm}
use native.Mathlib.Omega.{arith}
use lib.ListN.{length, get_or, drop, length-append, length-drop, length-map, get_or-append, get_or-map}
use lib.Seq.{get_or-append-add}
use Rattle.paper.proofs.bytes.Sections.{whole-at}
use Rattle.paper.proofs.walks.Chains.{ends_held, ends-pointed, held-walks-rename, pointed-walks-rename, endless-rename}
use Rattle.paper.proofs.walks.Endless.{chain-walks}
use Rattle.paper.proofs.walks.Insides.{sound-refs, sound-ends, sound-inside, chain-at}
use Rattle.paper.proofs.renaming.Names.{name_in-append, name_in-behind, name_in-zero}
use Rattle.paper.proofs.renaming.Rename.{raise-eqb, rename-id, rename-nothing}
use Rattle.paper.proofs.renaming.Renaming.{Renaming, Inside, head_ok-rename, names_ok-rename, refs_ok-rename}
use Rattle.paper.proofs.renaming.RenamingLayout.{layout_ok-rename}
use Rattle.paper.proofs.renaming.RenamingSizes.{exact_size-rename}
use Rattle.paper.proofs.renaming.RenamingTails.{tail_ok-rename}
use Rattle.paper.specs.terms.Fit.{Whole}
use Rattle.paper.specs.terms.Good.{Closed, SoundAt, Sound, Good}
use Rattle.paper.specs.rules.Chain.{held_by, pointed_by, Chain, endless}
use Rattle.paper.specs.rules.Heads.{head_ok}
use Rattle.paper.specs.rules.Join.{raised, join_tables}
use Rattle.paper.specs.rules.Layout.{layout_ok}
use Rattle.paper.specs.rules.Name.{name_in}
use Rattle.paper.specs.rules.Names.{names_ok}
use Rattle.paper.specs.rules.References.{refs_ok}
use Rattle.paper.specs.rules.Rename.{raise}
use Rattle.paper.specs.rules.Size.{exact_size}
use Rattle.paper.specs.rules.Table.{Table, count, nothing, record_at}
use Rattle.paper.specs.rules.Tails.{tail_ok}

pub good-whole : (T : Table) → Good T → (t : ℕ) → 1 ≤ t → t ≤ count T → Whole (record_at T t)
good-whole T g zero low high = absurd (omega arith)
good-whole T g (suc t) low high = whole-at T.records g.whole t high

-- ── a renamed table is judged as the table is ──

module _ {A B : Table} {type name : ℕ → ℕ} (R : Renaming A B type name) (g : Good A) where
  pub sound-rename : (t : ℕ) → 1 ≤ t → t ≤ count A → SoundAt B (type t)
  sound-rename t low high =
      let s = g.sound in
      let r = record_at A t in
      let in-A = sound-inside s g.closed.filled in
      let e = R.same_record t high in
      record {
        heads = ap head_ok e ∙ head_ok-rename type name r ∙ (s t low high).heads;
        names = ap (names_ok B.strings) e ∙ names_ok-rename R r (in-A t high) ∙ (s t low high).names;
        tails = ap tail_ok e ∙ tail_ok-rename R r (good-whole A g t low high) ∙ (s t low high).tails;
        refs = ap (refs_ok B) e ∙ refs_ok-rename R r (in-A t high) ∙ (s t low high).refs;
        ends = endless-rename R in-A t high (s t low high).ends;
        layouts =
            ap (layout_ok B) e
            ∙ layout_ok-rename R (sound-refs s) (sound-ends s) in-A (good-whole A g) r (s t low high).refs (in-A t high) (good-whole A g t low high)
            ∙ (s t low high).layouts;
      }

  pub size-rename : (t : ℕ) → t ≤ count A → exact_size B (type t) ≡ exact_size A t
  size-rename = exact_size-rename R (sound-refs g.sound) (sound-ends g.sound)

-- ── and the way back: a table whose words all point inside it is judged as its renamed table is ──

module _ {A B : Table} {type name : ℕ → ℕ} (R : Renaming A B type name) (in-A : (t : ℕ) → t ≤ count A → Inside A (record_at A t)) where
  -- what is said of a record by itself, and of what it refers to
  refs-back : (t : ℕ) → t ≤ count A → refs_ok B (record_at B (type t)) ≡ true → refs_ok A (record_at A t) ≡ true
  refs-back t high ok = sym (ap (refs_ok B) (R.same_record t high) ∙ refs_ok-rename R (record_at A t) (in-A t high)) ∙ ok

  -- a walk of n steps among n types goes on for ever, and so does its renamed one
  endless-back : ((t : ℕ) → 1 ≤ t → t ≤ count A → refs_ok A (record_at A t) ≡ true)
      → (t : ℕ) → 1 ≤ t → t ≤ count A → endless B (type t) ≡ false → endless A t ≡ false
  endless-back refs t low high ends = go (endless A t) refl
    where
      go : (e : Bool) → endless A t ≡ e → e ≡ false
      go false e = refl
      go true e =
          absurd (⊎_elim
          (λ (c : Chain (held_by A) t). false≢true (sym (ends_held B (type t) ends) ∙ held-walks-rename R in-A (count B) t high ∙ chain-walks c (count B)))
          (λ (c : Chain (pointed_by A) t).
          false≢true (sym (ends-pointed B (type t) ends) ∙ pointed-walks-rename R in-A (count B) t high ∙ chain-walks c (count B)))
          (chain-at A refs t low high e))

  module _ (whole : (t : ℕ) → 1 ≤ t → t ≤ count A → Whole (record_at A t)) (s : (t : ℕ) → 1 ≤ t → t ≤ count A → SoundAt B (type t)) where
    pub sound_back : Sound A
    sound_back t low high =
        let r = record_at A t in
        let e = R.same_record t high in
        let refs : (u : ℕ) → 1 ≤ u → u ≤ count A → refs_ok A (record_at A u) ≡ true = λ u l h. refs-back u h (s u l h).refs in
        let ends : (u : ℕ) → 1 ≤ u → u ≤ count A → endless A u ≡ false = λ u l h. endless-back refs u l h (s u l h).ends in
        record {
          heads = sym (ap head_ok e ∙ head_ok-rename type name r) ∙ (s t low high).heads;
          names = sym (ap (names_ok B.strings) e ∙ names_ok-rename R r (in-A t high)) ∙ (s t low high).names;
          tails = sym (ap tail_ok e ∙ tail_ok-rename R r (whole t low high)) ∙ (s t low high).tails;
          refs = refs t low high;
          ends = ends t low high;
          layouts =
              sym (ap (layout_ok B) e ∙ layout_ok-rename R refs ends in-A whole r (refs t low high) (in-A t high) (whole t low high))
              ∙ (s t low high).layouts;
        }

-- ── the two renamings of a join ──

module _ (A B : Table) where
  pub count-join : count (join_tables A B) ≡ count A + count B
  unfolding join_tables
  count-join =
      length-append A.records (map (raised A) B.records)
      ∙ ap (λ (n : ℕ). count A + n) (length-map B.records (raised A))

  -- the first's records stand unchanged at their numbers
  pub first-record : (t : ℕ) → t ≤ count A → record_at (join_tables A B) t ≡ record_at A t
  unfolding join_tables
  first-record zero h = refl
  first-record (suc t) h = get_or-append A.records _ nothing t h

  -- the second's, raised, at theirs
  pub second-record : (t : ℕ) → record_at (join_tables A B) (raise (count A) t) ≡ raised A (record_at B t)
  unfolding join_tables
  second-record zero = sym (rename-nothing _ _ refl)
  second-record (suc t) =
      let up = raised A in
      ap (record_at (join_tables A B)) (suc-add t (count A))
      ∙ ap (λ (i : ℕ). get_or (A.records ++ map up B.records) i nothing) (add_comm t (count A))
      ∙ get_or-append-add A.records (map up B.records) t nothing
      ∙ ap (get_or (map up B.records) t) (sym (rename-nothing _ _ refl))
      ∙ get_or-map up B.records t nothing

module _ (A B : Table) (a : Closed A.strings) (b : Closed B.strings) where
  pub length-strings : length (join_tables A B).strings ≡ length A.strings + (length B.strings - 1)
  unfolding join_tables
  length-strings = length-append A.strings (drop 1 B.strings) ∙ ap (λ (n : ℕ). length A.strings + n) (length-drop 1 B.strings)

  pub first-renaming : Renaming A (join_tables A B) (λ n. n) (λ n. n)
  unfolding join_tables
  first-renaming =
      record {
        type_zero = λ t. refl;
        name_zero = λ n. refl;
        same_record = λ t h. first-record A B t h ∙ sym (rename-id (record_at A t));
        name_inside = λ n h. let l = length-strings in omega arith;
        same_name = λ n h. name_in-append A.strings a (drop 1 B.strings) n h;
        fewer = let c = count-join A B in omega arith;
      }

  behind-inside : (n : ℕ) → n < length B.strings → raise (length A.strings - 1) n < length (join_tables A B).strings
  behind-inside zero h = let l = length-strings in let f = a.filled in omega arith
  behind-inside (suc n) h = let l = length-strings in let f = a.filled in omega arith

  behind-name : (n : ℕ) → name_in (join_tables A B).strings (raise (length A.strings - 1) n) ≡ name_in B.strings n
  unfolding join_tables
  behind-name zero = name_in-zero A.strings a B.strings b
  behind-name (suc n) = name_in-behind A.strings a B.strings b n

  pub second-renaming : Renaming B (join_tables A B) (raise (count A)) (raise (length A.strings - 1))
  second-renaming =
      record {
        type_zero = raise-eqb (count A);
        name_zero = raise-eqb (length A.strings - 1);
        same_record = λ t h. second-record A B t;
        name_inside = behind-inside;
        same_name = λ n h. behind-name n;
        fewer = let c = count-join A B in omega arith;
      }
