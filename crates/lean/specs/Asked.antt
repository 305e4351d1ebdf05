-- What the name question over a base asks of its parts and answers, in the paper's terms.
use Rattle.lean.specs.declared.questions.Side.TheVariants.{Base, Own}
use Rattle.lean.specs.declared.questions.Lying.TheVariants.{InBase, InOwn}
use Rattle.lean.specs.declared.questions.Lying.{Lying}
use Rattle.lean.specs.declared.questions.Side.{Side}
use Rattle.std.specs.Prelude.{ℕ, ◌+◌, ◌-◌, ◌≤◌, ◌<◌, ◌≡◌, true, false, cond, not, ◌&&◌, List, length, None, Option as RustOption, Some}
use Rattle.std.specs.Borrow.{Bor}
use Rattle.pairs.specs.Lean.{nameless_over, name_at_over, in_base, name_start_over}
use Rattle.paper.specs.declared.Part.{Part}
use Rattle.paper.specs.rules.Header.{str_len}

-- ── whose strings hold an offset ──

-- by the lengths of both string sections
abbrev pub SideBy : RustOption Side → ℕ → ℕ → ℕ → Type 0
SideBy (Some (Base o)) before strings off = (off < before) × (o.0 ≡ off)
SideBy (Some (Own o)) before strings off = (before ≤ off) × (off < before + strings) × (o.0 ≡ off - before)
SideBy None before strings off = before + strings ≤ off

-- by both blobs
abbrev pub SideOf : RustOption Side → List ℕ → List ℕ → ℕ → Type 0
SideOf (Some (Base o)) base own off = (nameless_over base own off ≡ false) × (in_base base own off ≡ true) × (o.0 ≡ off)
SideOf (Some (Own o)) base own off = (nameless_over base own off ≡ false) × (in_base base own off ≡ false) × (o.0 ≡ off - str_len base)
SideOf None base own off = nameless_over base own off ≡ true

-- ── where the name lies ──

pub record PartOver (p : Part) (base own : List ℕ) (off : ℕ) : Type 0 where
  pub starts : p.start.0 ≡ name_start_over base own off
  pub long : p.length ≡ length (name_at_over base own off)

-- there is a name in the base, one in the other blob, or none
abbrev pub LyingOf : RustOption Lying → List ℕ → List ℕ → ℕ → Type 0
LyingOf (Some (InBase p)) base own off = (nameless_over base own off ≡ false) × (in_base base own off ≡ true) × PartOver p base own off
LyingOf (Some (InOwn p)) base own off = (nameless_over base own off ≡ false) × (in_base base own off ≡ false) × PartOver p base own off
LyingOf None base own off = nameless_over base own off ≡ true

-- the blob that a name is a part of: the base where it lies there, else the other one, also where there is none
abbrev pub holder : Bor (List ℕ) → Bor (List ℕ) → ℕ → Bor (List ℕ)
holder base own off = cond (not (nameless_over base.now own.now off) && in_base base.now own.now off) base own

-- a reference to the name: its bytes, and the very place in the blob that it points to; where there is none, the first byte of the other blob
pub record NameLeaning (r base own : Bor (List ℕ)) (off : ℕ) : Type 0 where
  pub bytes : r.now ≡ name_at_over base.now own.now off
  pub place : r.ref_ptr ≡ ((holder base own off).ref_ptr.0, name_start_over base.now own.now off + (holder base own off).ref_ptr.1)
