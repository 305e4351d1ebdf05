-- "Kinds 1 to 19", by their names.
use Rattle.std.specs.Prelude.{ℕ}

abbrev pub INT : ℕ
INT = 1

abbrev pub PTR : ℕ
PTR = 2

abbrev pub ARRAY : ℕ
ARRAY = 3

abbrev pub STRUCT : ℕ
STRUCT = 4

abbrev pub UNION : ℕ
UNION = 5

abbrev pub ENUM : ℕ
ENUM = 6

abbrev pub FWD : ℕ
FWD = 7

abbrev pub TYPEDEF : ℕ
TYPEDEF = 8

abbrev pub VOLATILE : ℕ
VOLATILE = 9

abbrev pub CONST : ℕ
CONST = 10

abbrev pub RESTRICT : ℕ
RESTRICT = 11

abbrev pub FUNC : ℕ
FUNC = 12

abbrev pub FUNC_PROTO : ℕ
FUNC_PROTO = 13

abbrev pub VAR : ℕ
VAR = 14

abbrev pub DATASEC : ℕ
DATASEC = 15

abbrev pub FLOAT : ℕ
FLOAT = 16

abbrev pub DECL_TAG : ℕ
DECL_TAG = 17

abbrev pub TYPE_TAG : ℕ
TYPE_TAG = 18

abbrev pub ENUM64 : ℕ
ENUM64 = 19
