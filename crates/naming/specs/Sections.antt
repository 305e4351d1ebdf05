-- Which of two string sections an offset through both lies in, and its place there.
use Rattle.std.specs.Prelude.{ℕ, ◌-◌, cond, List, ltb, length}

unfoldable pub section_of : List ℕ → List ℕ → ℕ → List ℕ
section_of base strings off = cond (ltb off (length base)) base strings

unfoldable pub place_in : List ℕ → ℕ → ℕ
place_in base off = cond (ltb off (length base)) off (off - length base)
