-- A field laid in two runs, and a body laid field by field.
-- Assumes nothing.
use Prim.Native.Nat.{ℕ, zero, suc, ◌+◌, ◌-◌, ◌/◌, ◌%◌, ◌≤◌, ◌<◌}
use mathlib.Core.Path.{◌≡◌, refl, sym, ap, ◌∙◌}
use mathlib.Core.Bool.{Bool, cond}
use mathlib.Core.List.{List, [], ◌∷◌, ◌++◌, append_assoc}
use native.Mathlib.Omega.{arith}
use borrow.Author.Tests.{le-ltb, lt-ltb}
use lib.ListN.{length, take, drop, length-append, length-drop}
use lib.Seq.{drop-drop, length-take-le}
use Rattle.lists.proofs.Lengths.{length-body_fields}
use Rattle.lists.specs.List.{carry_tag, field, field_most, fields_in, body_fields, fields_length}
use Rattle.paper.proofs.bytes.Bytes.{part-rest}
use Rattle.paper.proofs.bytes.Puts.{laid-fits, length-put, put-none, put-put}
use Rattle.paper.specs.terms.Put.{laid, put}

-- ── a field ──

pub field_put : (out : List ℕ) (at tag : ℕ) (body : List ℕ) {out₁ out₂ : List ℕ} → at + (3 + length body) ≤ length out
    → out₁ ≡ laid out at (tag ∷ length body % 256 ∷ length body / 256 ∷ []) → out₂ ≡ laid out₁ (at + 3) body → out₂ ≡ put out at (field tag body)
field_put out at tag body room e f =
    let head : List ℕ = tag ∷ length body % 256 ∷ length body / 256 ∷ [] in
    let first = e ∙ sym (laid-fits out at head (omega arith)) in
    let kept = ap length first ∙ length-put out at head (omega arith) in
    f
    ∙ sym (laid-fits _ (at + 3) body (omega arith))
    ∙ ap (λ (o : List ℕ). put o (at + 3) body) first
    ∙ put-put out at head (omega arith) refl body

-- ── a body ──

-- the first of several fields, and the last
pub fields_in-more : (k t : ℕ) (left : List ℕ) → field_most ≤ length left → length left ≤ k
    → (f : ℕ) × (fields_in k t left ≡ field t (take field_most left) ++ fields_in f carry_tag (drop field_most left)) × (length left ≤ suc f)
fields_in-more zero t left more h = absurd (omega arith)
fields_in-more (suc f) t left more h = (
  f,
  ap (λ (z : Bool). cond z (field t left) (field t (take field_most left) ++ fields_in f carry_tag (drop field_most left))) (le-ltb (length left) field_most more),
  h,
)

pub fields_in-last : (k t : ℕ) (left : List ℕ) → length left < field_most → fields_in k t left ≡ field t left
fields_in-last zero t left last = refl
fields_in-last (suc k) t left last =
    ap (λ (z : Bool). cond z (field t left) (field t (take field_most left) ++ fields_in k carry_tag (drop field_most left)))
    (lt-ltb (length left) field_most last)

-- so much of it is laid: the fields that are done, and behind them those of the rest
pub record Fielding (tag : ℕ) (body before : List ℕ) (at : ℕ) (out : List ℕ) (t from p : ℕ) : Type 0 where
  pub inside : from ≤ length body
  pub kept : length out ≡ length before
  pub room : at + fields_length (length body) ≤ length before
  pub done : List ℕ
  pub puts : out ≡ put before at done
  pub there : p ≡ at + length done
  pub fuel : ℕ
  pub enough : length (drop from body) ≤ fuel
  pub rest : done ++ fields_in fuel t (drop from body) ≡ body_fields tag body

pub fielding-start : (tag : ℕ) (body before : List ℕ) (at : ℕ) {p : ℕ} → at + fields_length (length body) ≤ length before → p ≡ at
    → Fielding tag body before at before tag 0 p
unfolding body_fields
fielding-start tag body before at room e =
    record {
      inside = omega arith;
      kept = refl;
      room = room;
      done = [];
      puts = put-none before at;
      there = omega arith;
      fuel = length body;
      enough = omega arith;
      rest = refl;
    }

module _ {tag : ℕ} {body before : List ℕ} {at : ℕ} {out : List ℕ} {t from p : ℕ} (c : Fielding tag body before at out t from p) where
  abbrev left : List ℕ
  left = drop from body

  left-long : length left ≡ length body - from
  left-long = length-drop from body

  whole_long : length c.done + length (fields_in c.fuel t left) ≡ fields_length (length body)
  whole_long = sym (length-append c.done (fields_in c.fuel t left)) ∙ ap length c.rest ∙ length-body_fields tag body

  module _ (more : field_most ≤ length body - from) where
    abbrev one : List ℕ
    one = take field_most left

    one-long : length one ≡ field_most
    one-long = length-take-le field_most left (omega (arith, left-long))

    -- the field that comes next fits
    pub fielding-fits : p + (3 + field_most) ≤ length out
    fielding-fits =
        let n = fields_in-more c.fuel t left (omega (arith, left-long)) c.enough in
        let l = ap length n.1 ∙ length-append (field t one) (fields_in n.0 carry_tag (drop field_most left)) in
        omega (arith, whole_long, one-long, c.there, c.room, c.kept)

    pub fielding-next : {out₁ : List ℕ} → out₁ ≡ put out p (field t (take (from + field_most - from) (drop from body)))
        → Fielding tag body before at out₁ carry_tag (from + field_most) (p + 3 + field_most)
    fielding-next {out₁} e =
        let n = fields_in-more c.fuel t left (omega (arith, left-long)) c.enough in
        let cut : from + field_most - from ≡ field_most = omega arith in
        let fits = fielding-fits in
        let made : out₁ ≡ put out p (field t one) = e ∙ ap (λ (k : ℕ). put out p (field t (take k left))) cut in
        let l = length-append c.done (field t one) in
        let gone = drop-drop field_most from body in
        record {
          inside = omega arith;
          kept = ap length made ∙ length-put out p (field t one) (omega (arith, one-long)) ∙ c.kept;
          room = c.room;
          done = c.done ++ field t one;
          puts =
              made
              ∙ ap (λ (o : List ℕ). put o p (field t one)) c.puts
              ∙ put-put before at c.done (omega (arith, whole_long, c.room)) c.there (field t one);
          there = omega (arith, c.there, one-long);
          fuel = n.0;
          enough = omega (arith, n.2, left-long, length-drop (from + field_most) body);
          rest =
              append_assoc c.done (field t one) (fields_in n.0 carry_tag (drop (from + field_most) body))
              ∙ ap (λ (x : List ℕ). c.done ++ (field t one ++ fields_in n.0 carry_tag x)) (sym gone)
              ∙ ap (λ (x : List ℕ). c.done ++ x) (sym n.1)
              ∙ c.rest;
        }

  module _ (last : length body - from < field_most) where
    pub fielding-last : p + (3 + (length body - from)) ≤ length out
    fielding-last = let l = ap length (fields_in-last c.fuel t left (omega (arith, left-long))) in omega (arith, whole_long, left-long, c.there, c.room, c.kept)

    pub fielding-done : {out₁ : List ℕ} → out₁ ≡ put out p (field t (take (length body - from) (drop from body))) → out₁ ≡ put before at (body_fields tag body)
    fielding-done e =
        e
        ∙ ap (λ (s : List ℕ). put out p (field t s)) (part-rest body from)
        ∙ ap (λ (o : List ℕ). put o p (field t left)) c.puts
        ∙ put-put before at c.done (omega (arith, whole_long, c.room)) c.there (field t left)
        ∙ ap (put before at) (ap (λ (x : List ℕ). c.done ++ x) (sym (fields_in-last c.fuel t left (omega (arith, left-long)))) ∙ c.rest)
