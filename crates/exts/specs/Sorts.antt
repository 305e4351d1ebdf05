-- The three sorts of record of a .BTF.ext section: "function records (instruction offset, type), line records (instruction offset, file, line
-- text, line and column), and the optional relocation records (instruction offset, type, access name, kind)". A row for each.
use Rattle.std.specs.Prelude.{ℕ, ◌*◌, ◌%◌, Bool, ◌&&◌, List, [], ◌∷◌, eqb, leb, length}
use Rattle.exts.specs.declared.Role.{Role}
use Rattle.exts.specs.declared.Role.TheVariants.{Plain, Name, FuncType, AnyType}
use Rattle.exts.specs.declared.Sort.{Sort}
use Rattle.exts.specs.declared.Sort.TheVariants.{Function, Line, Relocation}

-- the words that every record of a sort begins with; "Extra bytes of a record, instruction offsets, lines, columns and kinds aren't judged"
abbrev pub roles_of : Sort → List Role
roles_of Function = Plain ∷ FuncType ∷ []
roles_of Line = Plain ∷ Name ∷ Name ∷ Plain ∷ []
roles_of Relocation = Plain ∷ AnyType ∷ Name ∷ Plain ∷ []

-- where the header has the offset of a sort's part, and its length behind that
abbrev pub header_place : Sort → ℕ
header_place Function = 8
header_place Line = 16
header_place Relocation = 24

-- four bytes for each of these words: 8, 16 and 16
abbrev pub least_size : Sort → ℕ
least_size sort = 4 * length (roles_of sort)

-- "a multiple of 4"
abbrev pub in_fours : ℕ → Bool
in_fours n = eqb (n % 4) 0

-- 45: "a record size under 8, 16 and 16 or not a multiple of 4"
unfoldable pub size_ok : Sort → ℕ → Bool
size_ok sort size = leb (least_size sort) size && in_fours size

-- in the order of the parts
abbrev pub sorts : List Sort
sorts = Function ∷ Line ∷ Relocation ∷ []
