-- A body that is carried on: so many of its fields are taken, the last of so many bytes.
-- Assumes nothing.
use Prim.Native.Nat.{ℕ, zero, suc, ◌+◌, ◌-◌, ◌≤◌, ◌<◌}
use mathlib.Core.Path.{◌≡◌, refl, sym, ap, ◌∙◌}
use mathlib.Core.Bool.{Bool, cond}
use mathlib.Core.List.{List, [], ◌++◌}
use native.Mathlib.Omega.{arith}
use borrow.Author.Tests.{eq-eqb, le-ltb, lt-ltb, ne_eqb}
use lib.ListN.{length, take, drop, length-append, length-drop}
use lib.Seq.{drop-drop, length-take-le}
use Rattle.lists.specs.Kept.{fault_number}
use Rattle.lists.specs.List.{carry_tag, is_carry, field_most, fault, taken, on_taken, take_field, carried}
use Rattle.lists.specs.List as list
use Rattle.lists.specs.declared.Fault.{Fault}
use Rattle.lists.specs.declared.Fault.TheVariants.{OutOfPlace}
use Rattle.paper.proofs.bytes.Bytes.{part-rest}
use Rattle.taking.specs.Taking.{BodyIn, CarryAsk, FieldOf, carried_from}
use Rattle.std.specs.Prelude.{Ok, Err}

pub record Carrying (s : List ℕ) (tag first last len end : ℕ) : Type 0 where
  pub fuel : ℕ
  pub before : List ℕ
  pub body : List ℕ
  pub is : carried_from s tag first ≡ carried (suc fuel) tag before body (drop end s)
  pub enough : length s - end + 2 ≤ fuel
  pub lasts : length body ≡ last
  pub sum : length before + length body ≡ len
  pub few : last ≤ field_most
  pub inside : end ≤ length s
  pub above : 3 + len ≤ end

module _ {s : List ℕ} (tag : ℕ) {first : ℕ} (a : CarryAsk s first) where
  pub carrying-start : Carrying s tag first first first (3 + first)
  carrying-start = go (length s) refl
    where
      go : (n : ℕ) → length s ≡ n → Carrying s tag first first first (3 + first)
      go zero e = absurd (omega (arith, a.inside))
      go (suc n) e =
          let d = length-drop 3 s in
          let l = length-take-le first (drop 3 s) (omega (arith, a.inside)) in
          record {
            fuel = n;
            before = [];
            body = take first (drop 3 s);
            is = ap (λ (k : ℕ). carried k tag [] (take first (drop 3 s)) (drop (3 + first) s)) e;
            enough = omega (arith, a.inside);
            lasts = l;
            sum = omega arith;
            few = a.few;
            inside = a.inside;
            above = omega arith;
          }

module _ {s : List ℕ} {tag first last len end : ℕ} (c : Carrying s tag first last len end) where
  abbrev on : ℕ → ℕ → List ℕ → List ℕ → list.Taken
  on k t next behind = cond (is_carry t) (carried k tag (c.before ++ c.body) next behind) (fault 52)

  -- no field of the most bytes: the body is whole
  pub carrying-done : (last ≡ field_most → ⊥) → BodyIn (carried_from s tag first) s tag len end
  carrying-done other =
      record {
        whole = c.before ++ c.body;
        is =
            c.is
            ∙ ap (λ (z : Bool). cond z (taken tag (c.before ++ c.body) (drop end s)) (on_taken (take_field (drop end s)) (on c.fuel)))
            (lt-ltb (length c.body) field_most (short other));
        long = length-append c.before c.body ∙ c.sum;
        inside = c.inside;
        above = c.above;
      }
    where
      short : (last ≡ field_most → ⊥) → length c.body < field_most
      short other = omega (arith, c.lasts, c.few, other)

  module _ (full : last ≡ field_most) where
    goes_on : carried_from s tag first ≡ on_taken (take_field (drop end s)) (on c.fuel)
    goes_on =
        c.is
        ∙ ap (λ (z : Bool). cond z (taken tag (c.before ++ c.body) (drop end s)) (on_taken (take_field (drop end s)) (on c.fuel)))
        (le-ltb (length c.body) field_most (omega (arith, c.lasts)))

    pub carrying-bad : (f : Fault) → FieldOf (Err f) (take (length s - end) (drop end s)) → carried_from s tag first ≡ fault (fault_number f)
    carrying-bad f h = goes_on ∙ ap (λ (x : list.Taken). on_taken x (on c.fuel)) (ap take_field (sym (part-rest s end)) ∙ h.is)

    module _ {t n : ℕ} (h : FieldOf (Ok (record { tag = t; len = n })) (take (length s - end) (drop end s))) where
      abbrev rest : List ℕ
      rest = drop end s

      takes : take_field rest ≡ taken t (take n (drop 3 rest)) (drop (3 + n) rest)
      takes =
          ap take_field (sym (part-rest s end)) ∙ h.is ∙ ap (λ (u : List ℕ). taken t (take n (drop 3 u)) (drop (3 + n) u)) (part-rest s end)

      by-carry : {z : Bool} → is_carry t ≡ z
          → carried_from s tag first ≡ cond z (carried c.fuel tag (c.before ++ c.body) (take n (drop 3 rest)) (drop (3 + n) rest)) (fault 52)
      by-carry e =
          goes_on
          ∙ ap (λ (x : list.Taken). on_taken x (on c.fuel)) takes
          ∙ ap (λ (z : Bool). cond z (carried c.fuel tag (c.before ++ c.body) (take n (drop 3 rest)) (drop (3 + n) rest)) (fault 52)) e

      pub carrying-other : (t ≡ carry_tag → ⊥) → carried_from s tag first ≡ fault (fault_number OutOfPlace)
      unfolding fault_number
      carrying-other other = by-carry (ne_eqb t carry_tag other)

      -- the next field is inside
      pub carrying-room : 3 + n ≤ length s - end
      carrying-room = omega (arith, h.inside, ap length (part-rest s end), length-drop end s)

      pub carrying-next : t ≡ carry_tag → Carrying s tag first n (len + n) (end + (3 + n))
      carrying-next same = go c.fuel c.enough (by-carry (eq-eqb t carry_tag same))
        where
          go : (k : ℕ) → length s - end + 2 ≤ k → carried_from s tag first ≡ carried k tag (c.before ++ c.body) (take n (drop 3 rest)) (drop (3 + n) rest)
              → Carrying s tag first n (len + n) (end + (3 + n))
          go zero room e = absurd (omega arith)
          go (suc k) room e =
              let r = carrying-room in
              let d = length-drop end s in
              let e3 = length-drop 3 rest in
              let l = length-take-le n (drop 3 rest) (omega arith) in
              let b = length-append c.before c.body in
              record {
                fuel = k;
                before = c.before ++ c.body;
                body = take n (drop 3 rest);
                is = e ∙ ap (carried (suc k) tag (c.before ++ c.body) (take n (drop 3 rest))) (drop-drop (3 + n) end s);
                enough = omega (arith, c.inside);
                lasts = l;
                sum = omega (arith, c.sum);
                few = h.few;
                inside = omega (arith, c.inside);
                above = omega (arith, c.above);
              }
