-- What is taken as a body is that body in its fields, in front of what is left.
-- Assumes nothing.
use Prim.Native.Nat.{ℕ, zero, suc, ◌+◌, ◌*◌, ◌/◌, ◌%◌, ◌≤◌, ◌<◌}
use mathlib.Core.Path.{◌≡◌, refl, sym, ap, ap₂, ◌∙◌, subst}
use mathlib.Core.Bool.{Bool, true, false, cond}
use mathlib.Core.List.{List, [], ◌∷◌, ◌++◌, append_assoc}
use native.Mathlib.Omega.{arith}
use borrow.Author.Tests.{eqb-true, leb-true, le-ltb, lt-ltb, ltb-true, ltb-false}
use lib.Dec.{leb, ltb}
use lib.ListN.{length, take, drop, length-append, take-append-drop}
use lib.Seq.{drop_at, length-take-le, take_at}
use Rattle.lists.specs.List.{carry_tag, is_carry, is_tag, field, field_most, fields_in, body_fields}
use Rattle.lists.specs.List.{Taken, fault, taken, on_taken, behind_tag, take_field, carried, take_body}
use Rattle.paper.proofs.bytes.Bytes.{below-append, below-drop, below-take}
use Rattle.paper.specs.terms.Fit.{Bytes}

-- ── a field ──

-- bytes that begin with a field of this tag and body
record Began (s : List ℕ) (tag : ℕ) (body rest : List ℕ) : Type 0 where
  is : s ≡ field tag body ++ rest
  few : length body ≤ field_most
  body_bytes : Bytes body
  rest_bytes : Bytes rest

fault≢taken : {n tag : ℕ} {body rest : List ℕ} → fault n ≡ taken tag body rest → ⊥
fault≢taken e = let z : ◌≡◌ {A = ℕ} 0 1 = cc in omega arith

behind_tag-began : (t : ℕ) (s : List ℕ) → Bytes s → {tag : ℕ} {body rest : List ℕ} → behind_tag t s ≡ taken tag body rest → Began (t ∷ s) tag body rest
behind_tag-began t [] bytes e = absurd (fault≢taken e)
behind_tag-began t (a ∷ []) bytes e = absurd (fault≢taken e)
behind_tag-began t (a ∷ b ∷ u) bytes {tag} {body} {rest} e = go (leb (a + b * 256) (length u)) refl e
  where
    n : ℕ
    n = a + b * 256

    go : (z : Bool) → leb n (length u) ≡ z → cond z (taken t (take n u) (drop n u)) (fault 51) ≡ taken tag body rest → Began (t ∷ a ∷ b ∷ u) tag body rest
    go false x f = absurd (fault≢taken f)
    go true x f =
        let tags : t ≡ tag = cc in
        let bodies : take n u ≡ body = cc in
        let rests : drop n u ≡ rest = cc in
        let long : length (take n u) ≡ n = length-take-le n u (leb-true n (length u) x) in
        let low : a ≡ length body % 256 = let l = ap length bodies in let h = bytes.0 in omega arith in
        let high : b ≡ length body / 256 = let l = ap length bodies in let h = bytes.0 in omega arith in
        record {
          is = λ i. tags i ∷ low i ∷ high i ∷ (sym (take-append-drop n u) ∙ ap₂ (λ (x y : List ℕ). x ++ y) bodies rests) i;
          few = let l = ap length bodies in let h = bytes.0 in let k = bytes.1.0 in omega arith;
          body_bytes = subst Bytes bodies (below-take 256 n u bytes.1.1);
          rest_bytes = subst Bytes rests (below-drop 256 n u bytes.1.1);
        }

take_field-began : (s : List ℕ) → Bytes s → {tag : ℕ} {body rest : List ℕ} → take_field s ≡ taken tag body rest → Began s tag body rest
take_field-began [] bytes e = absurd (fault≢taken e)
take_field-began (t ∷ s) bytes {tag} {body} {rest} e = go (is_tag t) e
  where
    go : (z : Bool) → cond z (behind_tag t s) (fault 50) ≡ taken tag body rest → Began (t ∷ s) tag body rest
    go false f = absurd (fault≢taken f)
    go true f = behind_tag-began t s bytes.1 f

-- ── a body ──

-- a body of these bytes, whose first field has this tag, in front of what is left
record Bodied (first : List ℕ) (tag : ℕ) (before whole rest : List ℕ) : Type 0 where
  later : List ℕ
  is : whole ≡ before ++ later
  fields : (k : ℕ) → length later ≤ k → first ≡ fields_in k tag later ++ rest
  later_bytes : Bytes later
  rest_bytes : Bytes rest

fields_in-short : (k tag : ℕ) (body : List ℕ) → length body < field_most → field tag body ≡ fields_in k tag body
fields_in-short zero tag body h = refl
fields_in-short (suc k) tag body h =
    sym (ap (λ (z : Bool). cond z (field tag body) (field tag (take field_most body) ++ fields_in k carry_tag (drop field_most body))) (lt-ltb (length body) field_most h))

fields_in-on : (k tag : ℕ) (body later : List ℕ) → length body ≡ field_most
    → field tag body ++ fields_in k carry_tag later ≡ fields_in (suc k) tag (body ++ later)
fields_in-on k tag body later full =
    let l = length-append body later in
    ap₂ (λ (x y : List ℕ). field tag x ++ fields_in k carry_tag y) (sym (take_at body later field_most full)) (sym (drop_at body later field_most full))
    ∙ sym (ap (λ (z : Bool). cond z (field tag (body ++ later)) (field tag (take field_most (body ++ later)) ++ fields_in k carry_tag (drop field_most (body ++ later))))
    (le-ltb (length (body ++ later)) field_most (omega arith)))

carried-bodied : (m t tag : ℕ) (before body rest : List ℕ) → length body ≤ field_most → Bytes body → Bytes rest → length body + length rest < m
    → {tag' : ℕ} {whole rest' : List ℕ} → carried m tag before body rest ≡ taken tag' whole rest'
    → (tag ≡ tag') × Bodied (field t body ++ rest) t before whole rest'
carried-bodied zero t tag before body rest few bb br room e = absurd (omega arith)
carried-bodied (suc m) t tag before body rest few bb br room {tag'} {whole} {rest'} e =
    go (ltb (length body) field_most) refl e
    (λ u next behind b f. carried-bodied m u tag (before ++ body) next behind b.few b.body_bytes b.rest_bytes
    (let l = ap length b.is in let a = length-append (field u next) behind in omega arith) f)
  where
    again : Type 0
    again = (u : ℕ) (next behind : List ℕ) → Began rest u next behind → carried m tag (before ++ body) next behind ≡ taken tag' whole rest'
        → (tag ≡ tag') × Bodied (field u next ++ behind) u (before ++ body) whole rest'

    on : ℕ → List ℕ → List ℕ → Taken
    on u n b = cond (is_carry u) (carried m tag (before ++ body) n b) (fault 52)

    further : field_most ≤ length body → (x : Taken) → take_field rest ≡ x → on_taken x on ≡ taken tag' whole rest'
        → again → (tag ≡ tag') × Bodied (field t body ++ rest) t before whole rest'
    further long (fault n) p f next = absurd (fault≢taken f)
    further long (taken u n b) p f next = by-carry (is_carry u) refl f
      where
        by-carry : (z : Bool) → is_carry u ≡ z → cond z (carried m tag (before ++ body) n b) (fault 52) ≡ taken tag' whole rest'
            → (tag ≡ tag') × Bodied (field t body ++ rest) t before whole rest'
        by-carry false q g = absurd (fault≢taken g)
        by-carry true q g =
            let began = take_field-began rest br p in
            let h = next u n b began g in
            let d = h.1 in
            let is-carry : u ≡ carry_tag = eqb-true u carry_tag q in (
              h.0,
              record {
                later = body ++ d.later;
                is = d.is ∙ append_assoc before body d.later;
                fields = λ k room. longer k d began is-carry room;
                later_bytes = below-append 256 body d.later bb d.later_bytes;
                rest_bytes = d.rest_bytes;
              },
            )
          where
            longer : (k : ℕ) (d : Bodied (field u n ++ b) u (before ++ body) whole rest') → Began rest u n b → u ≡ carry_tag → length (body ++ d.later) ≤ k
                → field t body ++ rest ≡ fields_in k t (body ++ d.later) ++ rest'
            longer zero d began c room = absurd (let l = length-append body d.later in omega arith)
            longer (suc k) d began c room =
                let l = length-append body d.later in
                let full : length body ≡ field_most = omega arith in
                ap (λ (s : List ℕ). field t body ++ s) (began.is ∙ d.fields k (omega arith) ∙ ap (λ (v : ℕ). fields_in k v d.later ++ rest') c)
                ∙ sym (append_assoc (field t body) (fields_in k carry_tag d.later) rest')
                ∙ ap (λ (s : List ℕ). s ++ rest') (fields_in-on k t body d.later full)

    go : (z : Bool) → ltb (length body) field_most ≡ z → cond z (taken tag (before ++ body) rest) (on_taken (take_field rest) on) ≡ taken tag' whole rest'
        → again → (tag ≡ tag') × Bodied (field t body ++ rest) t before whole rest'
    go true x f next =
        let tags : tag ≡ tag' = cc in
        let wholes : before ++ body ≡ whole = cc in
        let rests : rest ≡ rest' = cc in (
          tags,
          record {
            later = body;
            is = sym wholes;
            fields = λ k room. ap₂ (λ (x y : List ℕ). x ++ y) (fields_in-short k t body (ltb-true (length body) field_most x)) rests;
            later_bytes = bb;
            rest_bytes = subst Bytes rests br;
          },
        )
    go false x f next = further (ltb-false (length body) field_most x) (take_field rest) refl f next

-- a whole body is its fields, in front of what is left
pub record Taking (here : ℕ → Bool) (s : List ℕ) (tag : ℕ) (body rest : List ℕ) : Type 0 where
  pub is : s ≡ body_fields tag body ++ rest
  pub stands : here tag ≡ true
  pub body_bytes : Bytes body
  pub rest_bytes : Bytes rest

pub take_body-taking : (here : ℕ → Bool) (s : List ℕ) → Bytes s → {tag : ℕ} {body rest : List ℕ} → take_body here s ≡ taken tag body rest → Taking here s tag body rest
unfolding take_body body_fields
take_body-taking here s bytes {tag} {body} {rest} e = go (take_field s) refl e
  where
    on : ℕ → List ℕ → List ℕ → Taken
    on t b r = cond (here t) (carried (length s) t [] b r) (fault 52)

    go : (x : Taken) → take_field s ≡ x → on_taken x on ≡ taken tag body rest → Taking here s tag body rest
    go (fault n) p f = absurd (fault≢taken f)
    go (taken t b r) p f = by_place (here t) refl f
      where
        by_place : (z : Bool) → here t ≡ z → cond z (carried (length s) t [] b r) (fault 52) ≡ taken tag body rest → Taking here s tag body rest
        by_place false q g = absurd (fault≢taken g)
        by_place true q g =
            let began = take_field-began s bytes p in
            let l = ap length began.is in
            let a = length-append (field t b) r in
            let h = carried-bodied (length s) t t [] b r began.few began.body_bytes began.rest_bytes (omega arith) g in
            let d = h.1 in
            record {
              is =
                  began.is
                  ∙ d.fields (length body) (omega (arith, ap length d.is))
                  ∙ ap₂ (λ (u : ℕ) (x : List ℕ). fields_in (length body) u x ++ rest) h.0 (sym d.is);
              stands = ap here (sym h.0) ∙ q;
              body_bytes = subst Bytes (sym d.is) d.later_bytes;
              rest_bytes = d.rest_bytes;
            }
