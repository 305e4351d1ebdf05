-- What a record holds by value from one of its slots on. Its slots are the words that are by-value references, void or not, numbered from 0 in their order.
use Rattle.paper.specs.declared.TypeNo.{TypeNo}
use Rattle.std.specs.Prelude.{ℕ, ◌<◌, ◌≤◌, ◌≡◌, Bool, not, cond, ◌&&◌, ◌⊎◌, eqb, ltb, length, get_or, drop, None, Option as RustOption, Some}
use mathlib.Core.List.{List, [], ◌∷◌, Memᴰ}
use Rattle.kindrows.specs.Codes.{is_held}
use Rattle.paper.specs.rules.Chain.{step_to}
use Rattle.paper.specs.rules.Kind.{Role}
use Rattle.paper.specs.rules.Table.{Record, vlen_in, roles_of, words_of}
use Rattle.recall.specs.Recall.{first_telling}

-- the slots among some words, by their roles
abbrev pub slots_in : List Role → List ℕ → List ℕ
slots_in [] ws = []
slots_in (ρ ∷ ρs) [] = []
slots_in (ρ ∷ ρs) (w ∷ ws) = let later = slots_in ρs ws in cond (is_held ρ) (w ∷ later) later

abbrev pub slots_of : Record → List ℕ
slots_of r = slots_in (roles_of r) (words_of r)

-- how many there are, by where the first stands and the info word: one, or one for each member
abbrev pub slot_count : ℕ → ℕ → ℕ
slot_count place info = cond (eqb place 16) (vlen_in info) (cond (eqb place 0) 0 1)

-- the types among some slots
abbrev pub types_in : List ℕ → List ℕ
types_in [] = []
types_in (w ∷ ws) = step_to w (types_in ws)

-- the types held from slot j on
unfoldable pub held_from : Record → ℕ → List ℕ
held_from r j = types_in (drop j (slots_of r))

-- a type is not done: its mark is below those of types that are
abbrev pub is_open : List ℕ → ℕ → Bool
is_open work u = not (eqb u 0) && ltb (get_or work u 0) first_telling

-- the next of them that is not done is u, and slot k is the one behind it
pub record NextOpen (r : Record) (work : List ℕ) (j u k : ℕ) : Type 0 where
  pub held : Memᴰ u (held_from r 0)
  pub unfinished : get_or work u 0 < first_telling
  pub passed : (x : ℕ) → Memᴰ x (held_from r j) → (first_telling ≤ get_or work x 0) ⊎ ((x ≡ u) ⊎ Memᴰ x (held_from r k))
  pub inside : k ≤ length (slots_of r)

-- what is answered of the types held from slot j on
abbrev pub HeldIs : Record → List ℕ → ℕ → RustOption (TypeNo × ℕ) → Type 0
HeldIs r work j None = (x : ℕ) → Memᴰ x (held_from r j) → first_telling ≤ get_or work x 0
HeldIs r work j (Some (u, k)) = NextOpen r work j u.0 k
