-- Laws of `raised_from`: the words of a group one by one, one run of roles behind the other, and the words of a whole record.
-- Assumes nothing.
use Prim.Native.Nat.{ℕ, suc, ◌+◌, ◌*◌, ◌%◌, ◌≤◌, ◌<◌}
use mathlib.Core.Path.{◌≡◌, refl, sym, ap, ap₂, ◌∙◌}
use mathlib.Core.Bool.{Bool, true, false}
use mathlib.Core.List.{List, [], ◌∷◌, ◌++◌}
use mathlib.Core.Logic.{⊎_elim}
use native.Mathlib.Omega.{arith}
use lib.ListN.{length, get_or, take, length-append}
use lib.Seq.{length-take-le, take-suc, take_all}
use Rattle.shift.specs.Raising.{raised_word, raised_words, raised_from, record_bytes, GroupOf, WordRaised, WordPut, HeadPut, GroupPut}
use Rattle.shift.specs.declared.groups.Group.{Group}
use Rattle.shift.specs.declared.groups.Shift.{Shift}
use Rattle.words.proofs.PutWords.{put-word, put_word-cut}
use Rattle.paper.proofs.bytes.Puts.{put-none, length-put, put-put}
use Rattle.paper.proofs.bytes.Reading.{length-times}
use Rattle.paper.specs.rules.Choice.{times}
use Rattle.paper.specs.terms.Fit.{word_bound}
use Rattle.paper.specs.rules.Kind.{Role, names, refers, holds, number, row_of}
use Rattle.paper.specs.terms.Put.{put}
use Rattle.paper.specs.terms.Reading.{record_in, words_from}
use Rattle.paper.specs.rules.Rename.{rename, raise}
use Rattle.paper.specs.rules.Table.{kind_in, vlen_in, tail_length, tail_roles}
use Rattle.rows.proofs.RoleCodes.{name_code-range, ref_code-range, role_code-high, between_in, between-out}
use Rattle.kindrows.specs.Codes.{name_code, role_code, role_at, is_name_code, is_ref_code}
use Rattle.paper.specs.rules.Word.{word_bytes, bytes_of_words, word_at, put_word}

module _ (by : Shift) (s : List ℕ) where
  pub raised_from-one : (p : ℕ) (ρ : Role) (ρs : List Role)
      → raised_from by s p (ρ ∷ ρs) ≡ word_bytes by.order (raised_word by ρ (word_at by.order s p)) ++ raised_from by s (p + 4) ρs
  unfolding raised_from
  raised_from-one p ρ ρs = refl

  -- a word has four bytes
  pub length-raised_from : (p : ℕ) (ρs : List Role) → length (raised_from by s p ρs) ≡ 4 * length ρs
  unfolding raised_from
  length-raised_from p [] = refl
  length-raised_from p (ρ ∷ ρs) = let l = length-raised_from (p + 4) ρs in omega arith

  -- one run of roles behind the other
  pub raised_from-append : (p : ℕ) (ρs σs : List Role) → raised_from by s p (ρs ++ σs) ≡ raised_from by s p ρs ++ raised_from by s (p + 4 * length ρs) σs
  unfolding raised_from
  raised_from-append p [] σs = let here : p ≡ p + 4 * 0 = omega arith in ap (λ (q : ℕ). raised_from by s q σs) here
  raised_from-append p (ρ ∷ ρs) σs =
      let there : p + 4 + 4 * length ρs ≡ p + 4 * suc (length ρs) = omega arith in
      ap (λ (t : List ℕ). word_bytes by.order (raised_word by ρ (word_at by.order s p)) ++ t)
      (raised_from-append (p + 4) ρs σs ∙ ap (λ (q : ℕ). raised_from by s (p + 4) ρs ++ raised_from by s q σs) there)

  -- the bytes of a record: its head, the words that stand once, the entries
  pub record_bytes-parts : let info = word_at by.order s 4 in let row = row_of (kind_in info) in
      record_bytes by (record_in by.order s)
      ≡ raised_from by s 0 (names row.name ∷ number ∷ row.third_role ∷ [])
      ++ (raised_from by s 12 row.once ++ raised_from by s (12 + 4 * length row.once) (times (vlen_in info) row.each))
  unfolding record_bytes record_in rename raised_from tail_length tail_roles
  record_bytes-parts =
      let row = row_of (kind_in (word_at by.order s 4)) in
      let v = vlen_in (word_at by.order s 4) in
      let few : length row.once + v * length row.each ≡ length (row.once ++ times v row.each) =
      sym (length-append row.once (times v row.each) ∙ ap (λ (n : ℕ). length row.once + n) (length-times v row.each)) in
      ap
      (λ (n : ℕ). bytes_of_words by.order
      (raised_word by (names row.name) (word_at by.order s 0)
      ∷ word_at by.order s 4
      ∷ raised_word by row.third_role (word_at by.order s 8)
      ∷ raised_words by (row.once ++ times v row.each) (words_from by.order s 12 n)))
      few
      ∙ ap (λ (t : List ℕ). raised_from by s 0 (names row.name ∷ number ∷ row.third_role ∷ []) ++ t) (raised_from-append 12 row.once (times v row.each))

-- ── one word, by the code of its role ──

module _ (by : Shift) {role w : ℕ} where
  pub raised-name : {z : Bool} → z ≡ is_name_code role → z ≡ true → {r : ℕ} → r ≡ raise by.names.0 w % word_bound → WordRaised by role w r
  raised-name asked is {r} e = record { raises = go }
    where
      at : (1 ≤ role) × (role ≤ 6)
      at = between_in 1 6 role (sym asked ∙ is)

      go : (ρ : Role) → role ≡ role_code ρ → r ≡ raised_word by ρ w % word_bound
      go number f = absurd (omega (arith, at))
      go (names rule) f = e
      go (refers rule) f = absurd (omega (arith, at, ref_code-range rule))
      go (holds rule) f = absurd (omega (arith, at, ref_code-range rule))

  pub raised-type : {z : Bool} → z ≡ is_ref_code role → z ≡ true → {r : ℕ} → r ≡ raise by.types.0 w % word_bound → WordRaised by role w r
  raised-type asked is {r} e = record { raises = go }
    where
      at : (7 ≤ role) × (role ≤ 18)
      at = between_in 7 18 role (sym asked ∙ is)

      go : (ρ : Role) → role ≡ role_code ρ → r ≡ raised_word by ρ w % word_bound
      go number f = absurd (omega (arith, at))
      go (names rule) f = absurd (omega (arith, at, name_code-range rule))
      go (refers rule) f = e
      go (holds rule) f = e

  pub raised-number : {y z : Bool} → y ≡ is_name_code role → y ≡ false → z ≡ is_ref_code role → z ≡ false → w < word_bound → WordRaised by role w w
  raised-number named n referred m fits = record { raises = go }
    where
      plain : (ρ : Role) → role ≡ role_code ρ → role ≡ 0
      plain ρ f =
          let high = role_code-high ρ in
          ⊎_elim (λ h. omega arith) (λ h. ⊎_elim (λ l. absurd (omega arith)) (λ l. absurd (omega arith)) (between-out 7 18 role (sym referred ∙ m)))
          (between-out 1 6 role (sym named ∙ n))

      go : (ρ : Role) → role ≡ role_code ρ → w ≡ raised_word by ρ w % word_bound
      go number f = omega arith
      go (names rule) f = absurd (omega (arith, plain (names rule) f, name_code-range rule))
      go (refers rule) f = absurd (omega (arith, plain (refers rule) f, ref_code-range rule))
      go (holds rule) f = absurd (omega (arith, plain (holds rule) f, ref_code-range rule))

  pub raised-put : {r w' at : ℕ} {before after : List ℕ} → w ≡ w' → WordRaised by role w r → after ≡ put_word by.order before at r
      → WordPut by role w' at before after
  raised-put {r} {w'} {at} {before} {after} same raised e = record { puts = go }
    where
      go : (ρ : Role) → role ≡ role_code ρ → after ≡ put_word by.order before at (raised_word by ρ w')
      go ρ f =
          e
          ∙ ap (put_word by.order before at) (raised.raises ρ f)
          ∙ put_word-cut by.order before at (raised_word by ρ w)
          ∙ ap (λ (x : ℕ). put_word by.order before at (raised_word by ρ x)) same

-- ── the words of a group, put one after the other ──

-- no words
put-nothing : (by : Shift) (s : List ℕ) (p : ℕ) (out : List ℕ) → out ≡ put out p (raised_from by s p [])
unfolding raised_from
put-nothing by s p out = put-none out p

-- the words of some roles, put one behind the other
pub put-more : (by : Shift) (s : List ℕ) (p : ℕ) (out : List ℕ) (ρs : List Role) (σ : Role) → p + 4 * suc (length ρs) ≤ length out
    → {out₁ out₂ : List ℕ} {p₁ : ℕ} → p₁ ≡ p + 4 * length ρs
    → out₁ ≡ put out p (raised_from by s p ρs) → out₂ ≡ put_word by.order out₁ p₁ (raised_word by σ (word_at by.order s p₁))
    → out₂ ≡ put out p (raised_from by s p (ρs ++ (σ ∷ [])))
unfolding raised_from
put-more by s p out ρs σ room {out₁} {out₂} {p₁} there e f =
    let run : List ℕ = raised_from by s p ρs in
    let long = length-raised_from by s p ρs in
    let same = ap length e ∙ length-put out p run (omega arith) in
    f
    ∙ put-word by.order out₁ p₁ _ (omega arith)
    ∙ ap₂ (λ (o : List ℕ) (n : ℕ). put o p₁ (word_bytes by.order (raised_word by σ (word_at by.order s n)))) e there
    ∙ put-put out p run (omega arith) (omega arith) (word_bytes by.order (raised_word by σ (word_at by.order s (p + 4 * length ρs))))
    ∙ ap (put out p) (sym (raised_from-append by s p ρs (σ ∷ [])))

-- those of a head
pub head-put : {by : Shift} {s out : List ℕ} {k : ℕ} → 12 ≤ length out → {a c : ℕ} → a ≡ name_code (row_of k).name → c ≡ role_code (row_of k).third_role
    → {out₁ out₂ out₃ : List ℕ} → WordPut by a (word_at by.order s 0) 0 out out₁ → WordPut by 0 (word_at by.order s 4) 4 out₁ out₂
    → WordPut by c (word_at by.order s 8) 8 out₂ out₃ → HeadPut by k s out out₃
head-put {by} {s} {out} {k} room e g first second third =
    let name : Role = names (row_of k).name in
    let last : Role = (row_of k).third_role in
    record {
      puts =
          put-more by s 0 out (name ∷ number ∷ []) last (omega arith) refl
          (put-more by s 0 out (name ∷ []) number (omega arith) refl
          (put-more by s 0 out [] name (omega arith) refl (put-nothing by s 0 out) (first.puts name e))
          (second.puts number refl))
          (third.puts last g);
    }

-- the first n words of a group are put
pub record Sofar (by : Shift) (g : Group) (s : List ℕ) (p : ℕ) (out : List ℕ) (n : ℕ) (after : List ℕ) : Type 0 where
  pub puts : (ρs : List Role) → GroupOf g ρs → n ≤ length ρs → after ≡ put out p (raised_from by s p (take n ρs))

module _ {by : Shift} {g : Group} {s : List ℕ} {p : ℕ} {out : List ℕ} where
  pub sofar-none : Sofar by g s p out 0 out
  sofar-none = record { puts = λ ρs h few. put-nothing by s p out }

  module _ {n : ℕ} {before : List ℕ} (sofar : Sofar by g s p out n before) where
    -- one word more
    pub sofar-more : p + 4 * g.words ≤ length out → n < g.words → {role p₁ : ℕ} {after : List ℕ} → p₁ ≡ p + 4 * n
        → ((ρs : List Role) → GroupOf g ρs → role ≡ role_at ρs n) → WordPut by role (word_at by.order s p₁) p₁ before after → Sofar by g s p out (suc n) after
    sofar-more room l {role} {p₁} {after} there codes word = record { puts = go }
      where
        go : (ρs : List Role) → GroupOf g ρs → suc n ≤ length ρs → after ≡ put out p (raised_from by s p (take (suc n) ρs))
        go ρs h few =
            let c = h.counted in
            let long = length-take-le n ρs (omega arith) in
            put-more by s p out (take n ρs) (get_or ρs n number) (omega arith) (there ∙ omega arith) (sofar.puts ρs h (omega arith))
            (word.puts (get_or ρs n number) (codes ρs h))
            ∙ ap (λ (σs : List Role). put out p (raised_from by s p σs)) (sym (take-suc ρs n number few))

    -- and no more
    pub sofar-all : g.words ≡ n → GroupPut by g s p out before
    sofar-all e = record { puts = go }
      where
        go : (ρs : List Role) → GroupOf g ρs → before ≡ put out p (raised_from by s p ρs)
        go ρs h =
            let c = h.counted in
            sofar.puts ρs h (omega arith) ∙ ap (λ (σs : List Role). put out p (raised_from by s p σs)) (take_all n ρs (omega arith))
