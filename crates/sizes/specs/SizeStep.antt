-- What the size question in code reads off one record, in the paper's words.
use Rattle.std.specs.Prelude.{ℕ, Bool, cond, not, ◌&&◌, ◌||◌, List, leb, eqb, length}
use Rattle.sizes.specs.declared.Step.{Step}
use Rattle.sizes.specs.declared.Step.TheVariants.{Is, ManyOf, Sizeless, Lost}
use Rattle.paper.specs.rules.Kind.{row_of}
use Rattle.paper.specs.rules.KindNo.{ARRAY}
use Rattle.paper.specs.rules.Size as size
use Rattle.paper.specs.rules.Size.{is, many_of, sizeless, lost, step_by}
use Rattle.paper.specs.rules.Table.{kind_in}
use Rattle.paper.specs.rules.Walk.{known}
use Rattle.paper.specs.declared.Order.{Order}
use Rattle.paper.specs.rules.Word.{word_at}

abbrev pub step_as_paper : Step → size.Step
step_as_paper (Is s) = is s
step_as_paper (ManyOf n u) = many_of n u.0
step_as_paper Sizeless = sizeless
step_as_paper Lost = lost

-- ── a record by the bytes from its place on ──

-- the kind is known, and an array's tail is inside
unfoldable pub readable : ℕ → ℕ → Bool
readable kind len = known kind && (not (eqb kind ARRAY) || leb 24 len)

-- what the words say, where the record can be read
abbrev pub step_words : Order → List ℕ → size.Step
step_words order s = step_by (row_of (kind_in (word_at order s 4))).size (word_at order s 8) (word_at order s 12) (word_at order s 20)

unfoldable pub step_of : Order → List ℕ → size.Step
step_of order s = cond (readable (kind_in (word_at order s 4)) (length s)) (step_words order s) lost

-- ── counts ──

-- a product of counts, cut where every size but 0 overflows
unfoldable pub cut : ℕ → ℕ
cut n = cond (leb n 4294967296) n 4294967296
