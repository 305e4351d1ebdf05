-- `rows::roles::tail_words` meets its contract: the words that stand once and those of each entry, which are few enough to fit.
use Prim.Native.Nat.{◌+◌, ◌*◌, ◌≤◌}
use native.Mathlib.Omega.{arith}
use Rattle.paper.specs.rules.Table.{tail_length}
use Rattle.rows.proofs.RoleCodes.{tail-few}
use Rattle.rows.proofs.roles.tail_words.Goals as goal

few : (c : goal.After-entry_words) → c.once_words.result + c.vlen_of.result * c.entry_words.result ≤ 196608
few c = rw (c.once_words.ensures, c.entry_words.ensures) (tail-few _ c.vlen_of.result (omega arith))

pub overflow_mul-result : goal.overflow_mul-result
overflow_mul-result c = omega (arith, few c)

pub overflow_add-result : goal.overflow_add-result
overflow_add-result c = omega (arith, few c)

pub returns : goal.returns
unfolding tail_length
returns c = cc
