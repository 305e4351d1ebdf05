-- Any two results of the record question that the contracts allow are the same: where the record stands, and which part of the section it is.
-- Assumes nothing.
use Rattle.std.specs.Prelude.{Option as RustOption}
use Rattle.paper.specs.declared.NameOff.{NameOff}
use Rattle.paper.specs.declared.Place.{Place}
use Prim.Native.Nat.{ℕ}
use mathlib.Core.Path.{◌≡◌, sym, ◌∙◌}
use mathlib.Core.List.{List}
use denote.Ref.{Bor}
use Rattle.exts.proofs.Ones.{found-one}
use Rattle.exts.specs.Entries.{record_asked, found_as_paper, entry_as_paper}
use Rattle.groups.specs.Asking.{BytesOf}

pub record-one : (s : List ℕ) (x y : ℕ) {r r' : RustOption (NameOff × Place)} → found_as_paper r ≡ entry_as_paper (record_asked s x y) → found_as_paper r' ≡ entry_as_paper (record_asked s x y) → r ≡ r'
record-one s x y {r} {r'} h k = found-one r r' (h ∙ sym k)

pub bytes_one : (s : Bor (List ℕ)) (x y : ℕ) {r r' : Bor (List ℕ)} → BytesOf r s x y → BytesOf r' s x y → (r.now ≡ r'.now) × (r.ref_ptr ≡ r'.ref_ptr)
bytes_one s x y h k = (h.bytes ∙ sym k.bytes, h.place ∙ sym k.place)
