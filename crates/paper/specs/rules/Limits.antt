-- The paper's limits, each once, as order 5 has raised them.
use Rattle.std.specs.Prelude.{ℕ, ◌+◌}

-- report 1: over 262,144 bytes
abbrev pub byte_limit : ℕ
byte_limit = 262144

-- report 8: bytes remain after record 16,384
abbrev pub type_limit : ℕ
type_limit = 16384

-- "Full size": 16,385 places and 262,144 bytes, "the type limit and one more, and the byte limit"
abbrev pub full_places : ℕ
full_places = type_limit + 1

-- a size above this is answered as overflow
abbrev pub size_limit : ℕ
size_limit = 4294967295
