-- `header::names::part_if` meets its contract: so far into the strings, up to the first zero byte; else 0 and 0.
use Prim.Native.Nat.{ℕ, ◌+◌, ◌≤◌, ◌<◌}
use mathlib.Core.Path.{◌≡◌, sym, ap, ◌∙◌, subst}
use native.Mathlib.Omega.{arith}
use mathlib.Core.List.{List}
use lib.ListN.{length, drop, length-drop}
use Rattle.paper.proofs.bytes.Bytes.{part-rest}
use Rattle.paper.specs.rules.Limits.{byte_limit}
use Rattle.header.specs.Part.{Ending, start_if}
use Rattle.header.proofs.Scans.{start_if-none, name_if-none, start_if-some, start_if-inside, name_if-long}
use Rattle.header.proofs.names.part_if.Goals as goal

-- where the name begins is where the place that is computed says, inside the blob
begins : (c : goal.After-blob_word) → let a = c.args in
    24 + c.blob_word.result + a.at.0 ≡ start_if a.missing a.b.now a.at.0
begins c = start_if-some _ _ _ c.if-missing.false c.blob_word.ensures

inside : (c : goal.After-blob_word) → let a = c.args in 24 + c.blob_word.result + a.at.0 < length a.b.now
inside c = rw (begins c) (start_if-inside _ _ _ c.if-missing.false c.requires)

short : (c : goal.After-blob_word) → length c.args.b.now ≤ byte_limit
short c = c.requires.short c.if-missing.false

-- where the name begins is where the place that is computed says, inside the blob
begins-2 : (c : goal.After-struct_known-1) → let a = c.args in
    24 + c.blob_word.result + a.at.0 ≡ start_if a.missing a.b.now a.at.0
begins-2 c = start_if-some _ _ _ c.if-missing.false c.blob_word.ensures

inside-2 : (c : goal.After-struct_known-1) → let a = c.args in 24 + c.blob_word.result + a.at.0 < length a.b.now
inside-2 c = rw (begins-2 c) (start_if-inside _ _ _ c.if-missing.false c.requires)

short-2 : (c : goal.After-struct_known-1) → length c.args.b.now ≤ byte_limit
short-2 c = c.requires.short c.if-missing.false

short-3 : (c : goal.After-until_zero-n) → length c.args.b.now ≤ byte_limit
short-3 c = c.requires.short c.if-missing.false

-- where the name begins is where the place that is computed says, inside the blob
begins-3 : (c : goal.After-until_zero-n) → let a = c.args in
    24 + c.blob_word.result + a.at.0 ≡ start_if a.missing a.b.now a.at.0
begins-3 c = start_if-some _ _ _ c.if-missing.false c.blob_word.ensures

-- the scan from there ends where the name does
ends : (c : goal.After-until_zero-n) → let a = c.args in
    Ending (drop (start_if a.missing a.b.now a.at.0) a.b.now) c.until_zero-n.result
ends c =
    let a = c.args in
    subst (λ (s : List ℕ). Ending s c.until_zero-n.result)
    (part-rest a.b.now (24 + c.blob_word.result + a.at.0) ∙ ap (λ (p : ℕ). drop p a.b.now) (begins-3 c)) c.until_zero-n.ensures

pub returns-then-missing : goal.returns-then-missing
returns-then-missing c = record { starts = start_if-none _ _ _ c.if-missing.true; long = sym (ap length (name_if-none _ _ _ c.if-missing.true)) }

pub overflow_add-start : goal.overflow_add-start
overflow_add-start c = omega (arith, inside c, short c)

pub overflow_add-start-2 : goal.overflow_add-start-2
overflow_add-start-2 c = omega (arith, inside-2 c, short-2 c)

pub slice_bounds-until_zero-count : goal.slice_bounds-until_zero-count
slice_bounds-until_zero-count c = omega (arith, inside-2 c)

pub slice_bounds-until_zero-start : goal.slice_bounds-until_zero-start
slice_bounds-until_zero-start c = omega (arith, inside-2 c)

pub overflow_cast-result : goal.overflow_cast-result
overflow_cast-result c =
    let a = c.args in
    omega (arith, (ends c).inside, short-3 c, length-drop (start_if a.missing a.b.now a.at.0) a.b.now)

pub returns : goal.returns
returns c = record { starts = begins-3 c; long = name_if-long _ _ _ c.if-missing.false (ends c) }
