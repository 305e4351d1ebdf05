-- What a lent slice holds before a call, and its sum after it: 1, and for each byte 257 times the sum so far and the byte, modulo 4294967291.
use Rattle.std.specs.Prelude.{ℕ, ◌+◌, ◌*◌, ◌%◌, List, [], ◌∷◌, replicate}

abbrev pub after_byte : ℕ → ℕ → ℕ
after_byte sum byte = (sum * 257 + byte) % 4294967291

-- the sum after more bytes
abbrev pub sum_from : ℕ → List ℕ → ℕ
sum_from sum [] = sum
sum_from sum (byte ∷ s) = sum_from (after_byte sum byte) s

unfoldable pub sum_of : List ℕ → ℕ
sum_of s = sum_from 1 s

-- "every place of the lent index and work slices is set to 4294967295 and every byte of the output to 165"
abbrev pub lent_places : ℕ → List ℕ
lent_places n = replicate n 4294967295

abbrev pub lent_bytes : ℕ → List ℕ
lent_bytes n = replicate n 165
