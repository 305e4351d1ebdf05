-- Laws of one record of the pass: how many bytes it has, by its info word, and what is put down of it.
-- Assumes nothing.
use Prim.Native.Nat.{ℕ, ◌+◌, ◌-◌, ◌*◌, ◌/◌, ◌≤◌}
use native.Mathlib.Omega.{arith}
use mathlib.Core.Path.{◌≡◌, refl, sym, ap, subst, ◌∙◌}
use mathlib.Core.Bool.{true}
use mathlib.Core.List.{List, [], ◌∷◌}
use mathlib.Core.Logic.{◌⊎◌, inl, inr, ⊎_elim}
use lib.ListN.{drop, length, take}
use types.Run.{OneOf}
use Rattle.onepass.proofs.Telling.{members-tail, plain-half}
use Rattle.onepass.specs.Forth.{PutDown, Stepped, extent}
use Rattle.onepass.specs.Seen.{Tells}
use Rattle.paper.proofs.basics.Choices.{member-each}
use Rattle.paper.proofs.bytes.Bytes.{part-rest}
use Rattle.paper.specs.declared.Order.{Order}
use Rattle.paper.specs.rules.Choice.{member}
use Rattle.paper.specs.rules.Kind.{row_of, rows}
use Rattle.paper.specs.rules.Table.{kind_in, tail_length, vlen_in}
use Rattle.paper.specs.rules.Walk.{known}
use Rattle.paper.specs.rules.Word.{word_at}
use Rattle.rows.proofs.Groups.{group-half}
use Rattle.rows.proofs.Members.{member-key}

-- ── how many bytes a record has ──

-- an info word of a known kind, whose record has so many bytes
pub record Long (w size : ℕ) : Type 0 where
  pub knows : known (kind_in w) ≡ true
  pub long : extent w ≡ size

-- PTR, TYPEDEF, VOLATILE, CONST, RESTRICT
pub long-bare : {w : ℕ} → OneOf (33554432 ∷ 134217728 ∷ 150994944 ∷ 167772160 ∷ 184549376 ∷ []) w → Long w 12
unfolding tail_length row_of rows
long-bare {w} one =
    member-each (λ (v : ℕ). Long v 12) w (33554432 ∷ 134217728 ∷ 150994944 ∷ 167772160 ∷ 184549376 ∷ [])
    (sym (member-key w 33554432 (134217728 ∷ 150994944 ∷ 167772160 ∷ 184549376 ∷ []) one)) (
      record { knows = refl; long = refl },
      (
        record { knows = refl; long = refl },
        (
          record { knows = refl; long = refl },
          (
            record { knows = refl; long = refl },
            (
              record { knows = refl; long = refl },
              tt,
            ),
          ),
        ),
      ),
    )

pub long-int : {w : ℕ} → w ≡ 16777216 → Long w 16
unfolding tail_length row_of rows
long-int e = record { knows = ap (λ (v : ℕ). known (kind_in v)) e; long = ap extent e }

-- STRUCT and UNION without a kind_flag
pub half-key : (w : ℕ) → OneOf (1024 ∷ 1280 ∷ []) (w / 65536) → member (w / 65536) (1024 ∷ 1280 ∷ []) ≡ true
half-key w one = sym (member-key (w / 65536) 1024 (1280 ∷ []) one)

pub long-group : (w : ℕ) → OneOf (1024 ∷ 1280 ∷ []) (w / 65536) → {v : ℕ} → v ≡ vlen_in w → Long w (12 + 12 * v)
long-group w one e =
    let half = half-key w one in
    record {
      knows = ⊎_elim (λ k. ap known k) (λ k. ap known k) (group-half w (plain-half w half).0).kind;
      long = omega (arith, members-tail w half, e);
    }

pub long-known : {w r : ℕ} → (r ≡ 0) ⊎ ((known (kind_in w) ≡ true) × (r ≡ extent w)) → (r ≡ 0 → ⊥) → Long w r
long-known told some = ⊎_elim (λ e. absurd (some e)) (λ h. record { knows = h.0; long = sym h.1 }) told

-- ── what is put down ──

module _ {order : Order} {base strings s : List ℕ} {room at k : ℕ} {index work index' work' : List ℕ} {next state : ℕ} where
  pub stepped : {w size : ℕ} → w ≡ word_at order s 4 → Long w size → size ≤ room → Tells order base strings work s state
      → (next ≡ 0) ⊎ PutDown state size at k index work next index' work'
      → (next ≡ 0) ⊎ Stepped order base strings s room at k index work next index' work'
  stepped {size = size} read long fits tells put =
      ⊎_elim (λ e. inl e)
      (λ (p : PutDown state size at k index work next index' work').
      inr
      (record {
        state = state;
        knows = sym (ap (λ (v : ℕ). known (kind_in v)) read) ∙ long.knows;
        inside = omega (arith, ap extent read, long.long);
        behind = p.behind ∙ omega (arith, ap extent read, long.long);
        told = ⊎_elim (λ e. absurd (p.told e)) (λ t. t) tells;
        placed = p.placed;
        stated = p.stated;
      })) put

-- of the bytes from a place on
pub stepped-part : {order : Order} {base strings : List ℕ} (b : List ℕ) {room at k : ℕ} {index work index' work' : List ℕ} {next : ℕ}
    → (next ≡ 0) ⊎ Stepped order base strings (take (length b - at) (drop at b)) room at k index work next index' work'
    → (next ≡ 0) ⊎ Stepped order base strings (drop at b) room at k index work next index' work'
stepped-part {order} {base} {strings} b {room} {at} {k} {index} {work} {index'} {work'} {next} h =
    subst (λ (s : List ℕ). (next ≡ 0) ⊎ Stepped order base strings s room at k index work next index' work') (part-rest b at) h
