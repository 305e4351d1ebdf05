-- `abi::named_leaning` meets its contract: the blob that holds the name, and its part there.
use Rattle.abi.proofs.Lyings.{lying-told}
use Rattle.abi.proofs.named_leaning.Goals as goal

pub returns-in-Some-InBase : goal.returns-in-Some-InBase
returns-in-Some-InBase c = lying-told _ _ _ (rw c.in-Some-InBase.field-0-is at c.in-Some-InBase.is) c.part_leaning.ensures

pub returns-in-Some-InOwn : goal.returns-in-Some-InOwn
returns-in-Some-InOwn c = lying-told _ _ _ (rw c.in-Some-InOwn.field-0-is at c.in-Some-InOwn.is) c.part_leaning.ensures

pub returns-in-None : goal.returns-in-None
returns-in-None c = lying-told _ _ _ c.in-None.is c.part_leaning.ensures
