-- `header::names::until_zero` meets its contract: it is the place of the first zero byte.
use Prim.Native.Nat.{ℕ}
use borrow.Author.Rules.{rules}
use borrow.Author.Tests.{tests}
use lib.Dec.{eqb}
use Rattle.std.proofs.lemmas.Iterator.{YieldsList-from_slice}
use Rattle.std.proofs.lemmas.Iterator.Search.{position_from_yields_List}
use Rattle.header.proofs.Scans.{ending-first}
use Rattle.header.proofs.names.until_zero.Goals as goal

pub returns : goal.returns
returns c =
    ending-first c.args.s.now
    (position_from_yields_List (λ (b : ℕ). eqb b 0) _ _ _ c.position.ensures.ran (YieldsList-from_slice c.args.s.now cc) (λ x b q k. search (rules, tests)))
    c.unwrap_or.ensures
