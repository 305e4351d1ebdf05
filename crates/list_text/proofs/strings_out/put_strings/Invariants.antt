-- `list_text::strings_out::put_strings` is safe and ends.
use Rattle.std.proofs.Common.{◌≡◌, ◌-◌, length}
use Rattle.list_text.proofs.strings_out.put_strings.Given as goal

abbrev pub invariant-loop-i : goal.invariant-loop-i
invariant-loop-i l = length l.out ≡ length l.initial.out

abbrev pub decreases-loop-i : goal.decreases-loop-i
decreases-loop-i l = length l.strings - l.i
