-- Records and tables: what the rules from phase 3 on speak of, with no byte in sight.
use Rattle.std.specs.Prelude.{ℕ, zero, suc, ◌+◌, ◌-◌, ◌*◌, ◌/◌, ◌%◌, ◌^◌, Bool, true, ◌&&◌, List, [], ◌∷◌, ◌++◌, length, get_or}
use Rattle.paper.specs.rules.Choice.{times}
use Rattle.paper.specs.rules.Kind.{Row, Role, names, number, row_of}

-- "Head: name_off, info, size or type", and the words of the tail
pub record Record : Type 0 where
  pub name_off : ℕ
  pub info : ℕ
  pub third : ℕ
  pub tail : List ℕ

pub record Table : Type 0 where
  pub records : List Record
  pub strings : List ℕ

abbrev pub count : Table → ℕ
count T = length T.records

-- what stands at 0 and above the count: a record of no kind
abbrev pub nothing : Record
nothing = record { name_off = 0; info = 0; third = 0; tail = [] }

-- "Type 0 is void; records are numbered from 1"
abbrev pub record_at : Table → ℕ → Record
record_at T zero = nothing
record_at T (suc t) = get_or T.records t nothing

-- bits first to last of a word
abbrev pub bits : ℕ → ℕ → ℕ → ℕ
bits first last w = w / 2 ^ first % 2 ^ (suc last - first)

-- "Info: bits 0 to 15 vlen, 24 to 28 kind, 31 kind_flag; the others 0"
abbrev pub vlen_in : ℕ → ℕ
vlen_in info = bits 0 15 info

abbrev pub kind_in : ℕ → ℕ
kind_in info = bits 24 28 info

abbrev pub flag_in : ℕ → ℕ
flag_in info = bits 31 31 info

abbrev pub vlen_of : Record → ℕ
vlen_of r = vlen_in r.info

abbrev pub kind_of : Record → ℕ
kind_of r = kind_in r.info

abbrev pub flag_of : Record → ℕ
flag_of r = flag_in r.info

abbrev pub row_in : Record → Row
row_in r = row_of (kind_of r)

abbrev pub kind_at : Table → ℕ → ℕ
kind_at T t = kind_of (record_at T t)

-- "Tails": how many words follow a head, by kind and vlen as read
unfoldable pub tail_length : ℕ → ℕ
tail_length info = length (row_of (kind_in info)).once + vlen_in info * length (row_of (kind_in info)).each

-- a record's words, and the role of each
abbrev pub words_of : Record → List ℕ
words_of r = r.name_off ∷ r.info ∷ r.third ∷ r.tail

unfoldable pub tail_roles : Record → List Role
tail_roles r = (row_in r).once ++ times (vlen_of r) (row_in r).each

abbrev pub roles_of : Record → List Role
roles_of r = names (row_in r).name ∷ number ∷ (row_in r).third_role ∷ tail_roles r

-- a test of a word by its role, passed by every word
abbrev pub every_roled : (Role → ℕ → Bool) → List Role → List ℕ → Bool
every_roled f [] ws = true
every_roled f (ρ ∷ ρs) [] = true
every_roled f (ρ ∷ ρs) (w ∷ ws) = f ρ w && every_roled f ρs ws

abbrev pub every_word : (Role → ℕ → Bool) → Record → Bool
every_word f r = every_roled f (roles_of r) (words_of r)
