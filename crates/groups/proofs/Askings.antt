-- Laws of a section alone: the groups without a fault, the groups up to a record, and the part that a record is asked of.
-- Assumes nothing.
use Rattle.std.specs.Prelude.{None, Some}
use Prim.Native.Nat.{ℕ, ◌+◌, ◌-◌, ◌*◌, ◌≤◌, ◌<◌}
use mathlib.Core.Path.{◌≡◌, sym, ap, ap₂, ◌∙◌}
use mathlib.Core.Bool.{Bool, true, false, ◌&&◌}
use mathlib.Core.List.{List, ◌++◌}
use mathlib.Core.Option.{Option}
use native.Mathlib.Nat.{mul-le-mul}
use native.Mathlib.Omega.{arith}
use lib.ListN.{length}
use Rattle.exts.proofs.ItemFaults.{entries_in-append, every_append, entries_from-unbroken}
use Rattle.exts.proofs.Records.{nth-front, nth-behind, length-entries_from, nth-entries_from}
use Rattle.exts.proofs.Remains.{Left, left-done, left-turn, left-next}
use Rattle.exts.specs.Entries.{nth, entries_in, unbroken, found_as_paper, entry_as_paper}
use Rattle.exts.specs.Items.{Entry, Item, entry_at, entries_from, group_name, group_count, group_end, group_ok, group_then, groups_from}
use Rattle.exts.specs.declared.Sort.{Sort}
use Rattle.groups.specs.Walking.{GroupIn}
use Rattle.paper.specs.rules.Choice.{every}

-- ── groups without a fault ──

module _ {s : List ℕ} {sort : Sort} {size end p : ℕ} {whole : Bool} (i : Left s sort size end p whole (every unbroken)) where
  pub whole-done : end ≤ p → true ≡ whole
  whole-done h = sym (left-done i h)

  module _ (more : p < end) where
    pub whole-broken : group_ok s size p end ≡ false → false ≡ whole
    whole-broken e =
        sym (left-turn i more
        ∙ ap (λ (ok : Bool). every unbroken (group_then s sort size p ok (λ (next : ℕ). groups_from s (i.fuel - 1) sort size next end))) e)

    pub whole-next : {name count next : ℕ} → GroupIn s size p end name count next → Left s sort size end next whole (every unbroken)
    whole-next g =
        left-next i more (omega (arith, g.ends))
        (λ rest.
        ap (λ (ok : Bool). every unbroken (group_then s sort size p ok rest)) g.fits
        ∙ every_append unbroken (entries_from s sort size (group_name s p) (group_count s p) (p + 8)) (rest (group_end s size p))
        ∙ ap₂ (λ (z : Bool) (q : ℕ). z && every unbroken (rest q)) (entries_from-unbroken s sort size (group_name s p) (group_count s p) (p + 8)) (sym g.ends))

-- ── groups up to a record ──

abbrev pub after : ℕ → List Item → Option Entry
after k is = nth (entries_in is) k

module _ {s : List ℕ} {sort : Sort} {size end p left : ℕ} {whole : Option Entry} (i : Left s sort size end p whole (after left)) where
  pub found-done : end ≤ p → found_as_paper None ≡ entry_as_paper whole
  unfolding found_as_paper
  found-done h = sym (ap entry_as_paper (left-done i h))

  module _ (more : p < end) where
    pub found-broken : group_ok s size p end ≡ false → found_as_paper None ≡ entry_as_paper whole
    unfolding found_as_paper
    found-broken e =
        sym (ap entry_as_paper
        (left-turn i more ∙ ap (λ (ok : Bool). after left (group_then s sort size p ok (λ (next : ℕ). groups_from s (i.fuel - 1) sort size next end))) e))

    module _ {name count next : ℕ} (g : GroupIn s size p end name count next) where
      records : List Entry
      records = entries_in (entries_from s sort size name count (p + 8))

      many : length records ≡ count
      unfolding records
      many = length-entries_from s sort size name count (p + 8)

      in_order : (rest : ℕ → List Item) → after left (group_then s sort size p (group_ok s size p end) rest) ≡ nth (records ++ entries_in (rest next)) left
      unfolding records
      in_order rest =
          ap (λ (ok : Bool). after left (group_then s sort size p ok rest)) g.fits
          ∙ ap (λ (es : List Entry). nth es left)
          (entries_in-append (entries_from s sort size (group_name s p) (group_count s p) (p + 8)) (rest (group_end s size p)))
          ∙ (λ j. nth (entries_in (entries_from s sort size (sym g.named j) (sym g.counted j) (p + 8)) ++ entries_in (rest (sym g.ends j))) left)

      pub found_here : left < count → found_as_paper (Some ((record { 0 = name }), (record { 0 = p + 8 + left * size }))) ≡ entry_as_paper whole
      unfolding found_as_paper records entry_at
      found_here h =
          sym (ap entry_as_paper
          (left-turn i more ∙ in_order (λ (next : ℕ). groups_from s (i.fuel - 1) sort size next end)
          ∙ nth-front records (entries_in (groups_from s (i.fuel - 1) sort size next end)) left (omega (arith, many))
          ∙ nth-entries_from s sort size name count (p + 8) left h))

      pub found-next : count ≤ left → Left s sort size end next whole (after (left - count))
      found-next h =
          left-next i more (omega (arith, g.ends))
          (λ rest.
          in_order rest ∙ nth-behind records (entries_in (rest next)) left (omega (arith, many)) ∙ ap (λ (k : ℕ). nth (entries_in (rest next)) (left - k)) many)

-- a record's place is inside its group
pub place_inside : {s : List ℕ} {size p end name count next : ℕ} → GroupIn s size p end name count next → (k : ℕ) → k < count
    → (k * size ≤ end) × (p + 8 + k * size ≤ end)
place_inside {s} {size} {p} {end} {name} {count} g k h =
    let e = ap (λ (n : ℕ). p + 8 + n * size) g.counted in
    let m = mul-le-mul {n₁ = k} {m₁ = size} {n₂ = count} {m₂ = size} (omega arith) (omega arith) in
    (omega (arith, g.ends, g.inside), omega (arith, g.ends, g.inside))
