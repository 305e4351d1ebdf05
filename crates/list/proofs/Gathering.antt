-- A body taken out of its fields and laid, field by field.
-- Assumes nothing.
use Prim.Native.Nat.{ℕ, suc, ◌+◌, ◌-◌, ◌≤◌, ◌<◌}
use mathlib.Core.Path.{◌≡◌, refl, sym, ap, ap₂, ◌∙◌}
use mathlib.Core.List.{List, ◌++◌, append_assoc}
use native.Mathlib.Omega.{arith}
use lib.ListN.{length, take, drop, length-drop}
use lib.Seq.{drop_at, drop-drop, length-take-le, take-add, take_all, take_at}
use Rattle.list.proofs.Fielding.{fields_in-last, fields_in-more}
use Rattle.list.specs.Making.{BodyPut}
use Rattle.lists.specs.List.{body_fields, carry_tag, field, field_most, fields_in, fields_length}
use Rattle.paper.proofs.bytes.Puts.{laid-fits, length-put, put-none, put-put}
use Rattle.paper.specs.terms.Put.{laid, put}

-- so much of one body is laid: its front, and the fields of the rest are those that come next
pub record Went (s body rest before : List ℕ) (to : ℕ) (out : List ℕ) (from p : ℕ) : Type 0 where
  pub tag : ℕ
  pub fuel : ℕ
  pub enough : length (drop from body) ≤ fuel
  pub fields : drop p s ≡ fields_in fuel tag (drop from body) ++ rest
  pub puts : out ≡ put before to (take from body)

-- of whatever body of that length begins there
pub record Gathering (s : List ℕ) (at len : ℕ) (before : List ℕ) (to : ℕ) (out : List ℕ) (from p : ℕ) : Type 0 where
  pub inside : from ≤ len
  pub kept : length out ≡ length before
  pub room : to + len ≤ length before
  pub there : p + fields_length (len - from) ≤ length s
  pub went : (tag : ℕ) (body rest : List ℕ) → drop at s ≡ body_fields tag body ++ rest → length body ≡ len → Went s body rest before to out from p

pub gathering-start : (s : List ℕ) (at len : ℕ) (before : List ℕ) (to : ℕ) {p : ℕ} → at + fields_length len ≤ length s → to + len ≤ length before → p ≡ at
    → Gathering s at len before to before 0 p
unfolding body_fields
gathering-start s at len before to there room same =
    record {
      inside = omega arith;
      kept = refl;
      room = room;
      there = omega arith;
      went = λ tag body rest e long. record { tag = tag; fuel = length body; enough = omega arith; fields = ap (λ (q : ℕ). drop q s) same ∙ e; puts = put-none before to };
    }

module _ {s : List ℕ} {at len : ℕ} {before : List ℕ} {to : ℕ} {out : List ℕ} {from p : ℕ} (c : Gathering s at len before to out from p) where
  -- ── one part more ──

  module _ (n : ℕ) (few : from + n ≤ len) (inside : p + 3 + n ≤ length s) {out₁ : List ℕ}
      (e : out₁ ≡ laid out (to + from) (take (p + 3 + n - (p + 3)) (drop (p + 3) s))) where
    abbrev part : List ℕ
    part = take n (drop (p + 3) s)

    part-long : length part ≡ n
    part-long = length-take-le n (drop (p + 3) s) (omega (arith, length-drop (p + 3) s))

    part-put : out₁ ≡ put out (to + from) part
    part-put =
        let cut : p + 3 + n - (p + 3) ≡ n = omega arith in
        e
        ∙ ap (λ (k : ℕ). laid out (to + from) (take k (drop (p + 3) s))) cut
        ∙ sym (laid-fits out (to + from) part (omega (arith, part-long, c.room, c.kept)))

    part-kept : length out₁ ≡ length before
    part-kept = ap length part-put ∙ length-put out (to + from) part (omega (arith, part-long, c.room, c.kept)) ∙ c.kept

    -- where it is the body of a field, the front that is laid is so much longer
    part-puts : {t : ℕ} (body one behind : List ℕ) → drop p s ≡ field t one ++ behind → one ≡ take n (drop from body) → length one ≡ n → length body ≡ len
        → out ≡ put before to (take from body) → out₁ ≡ put before to (take (from + n) body)
    part-puts body one behind there is wide long puts =
        let front = length-take-le from body (omega arith) in
        let same : part ≡ take n (drop from body) = ap (take n) (sym (drop-drop 3 p s) ∙ ap (drop 3) there) ∙ take_at one behind n wide ∙ is in
        part-put
        ∙ ap₂ (λ (o x : List ℕ). put o (to + from) x) puts same
        ∙ put-put before to (take from body) (omega (arith, c.room)) (omega arith) (take n (drop from body))
        ∙ ap (put before to) (sym (take-add from n body))

  -- ── a field that is not the last ──

  module _ (more : field_most ≤ len - from) where
    pub gathering-fits : p + 3 + field_most + fields_length (len - (from + field_most)) ≤ length s
    gathering-fits = omega (arith, c.there)

    pub gathering-next : {out₁ : List ℕ} → out₁ ≡ laid out (to + from) (take (p + 3 + field_most - (p + 3)) (drop (p + 3) s))
        → Gathering s at len before to out₁ (from + field_most) (p + 3 + field_most)
    gathering-next {out₁} e =
        let fits = gathering-fits in
        record {
          inside = omega arith;
          kept = part-kept field_most (omega arith) (omega arith) e;
          room = c.room;
          there = fits;
          went = λ tag body rest begins long. let w = c.went tag body rest begins long in
              let left-long = length-drop from body in
              let n = fields_in-more w.fuel w.tag (drop from body) (omega arith) w.enough in
              next body rest long w n.0 n.1 n.2;
        }
      where
        next : (body rest : List ℕ) → length body ≡ len → (w : Went s body rest before to out from p) → (f : ℕ)
            → fields_in w.fuel w.tag (drop from body)
            ≡ field w.tag (take field_most (drop from body)) ++ fields_in f carry_tag (drop field_most (drop from body))
            → length (drop from body) ≤ suc f → Went s body rest before to out₁ (from + field_most) (p + 3 + field_most)
        next body rest long w f more_of enough =
            let fits = gathering-fits in
            let left-long = length-drop from body in
            let one : List ℕ = take field_most (drop from body) in
            let wide : length one ≡ field_most = length-take-le field_most (drop from body) (omega arith) in
            let behind : List ℕ = fields_in f carry_tag (drop field_most (drop from body)) ++ rest in
            let here : drop p s ≡ field w.tag one ++ behind =
            w.fields ∙ ap (λ (x : List ℕ). x ++ rest) more_of ∙ append_assoc (field w.tag one) (fields_in f carry_tag (drop field_most (drop from body))) rest in
            record {
              tag = carry_tag;
              fuel = f;
              enough = omega (arith, length-drop (from + field_most) body);
              fields =
                  sym (drop-drop field_most (p + 3) s)
                  ∙ ap (drop field_most) (sym (drop-drop 3 p s) ∙ ap (drop 3) here)
                  ∙ drop_at one behind field_most wide
                  ∙ ap (λ (x : List ℕ). fields_in f carry_tag x ++ rest) (drop-drop field_most from body);
              puts = part-puts field_most (omega arith) (omega arith) e body one behind here refl wide long w.puts;
            }

  -- ── the last ──

  module _ (last : len - from < field_most) where
    pub gathering-last : p + 3 + (len - from) ≤ length s
    gathering-last = omega (arith, c.there)

    pub gathering-done : {out₁ : List ℕ} → out₁ ≡ laid out (to + from) (take (p + 3 + (len - from) - (p + 3)) (drop (p + 3) s)) → BodyPut s at len before to out₁
    gathering-done {out₁} e = record { puts = λ tag body rest begins long. whole body rest long (c.went tag body rest begins long) }
      where
        whole : (body rest : List ℕ) → length body ≡ len → Went s body rest before to out from p → out₁ ≡ put before to body
        whole body rest long w =
            let fits = gathering-last in
            let left : List ℕ = drop from body in
            let left-long = length-drop from body in
            let in-it = c.inside in
            let all : from + (len - from) ≡ length body = omega arith in
            part-puts (len - from) (omega arith) (omega arith) e body left rest
            (w.fields ∙ ap (λ (x : List ℕ). x ++ rest) (fields_in-last w.fuel w.tag left (omega arith)))
            (sym (take_all (len - from) left (omega arith)))
            (omega arith)
            long
            w.puts
            ∙ ap (λ (k : ℕ). put before to (take k body)) all
            ∙ ap (put before to) (take_all (length body) body (omega arith))
