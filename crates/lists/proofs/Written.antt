-- What is written is read back: a field, a body in as many fields as it takes, a record, the list of a table.
-- Assumes nothing.
use Prim.Native.Nat.{ℕ, zero, suc, ◌+◌, ◌-◌, ◌*◌, ◌/◌, ◌%◌, ◌≤◌, ◌<◌}
use mathlib.Core.Path.{◌≡◌, refl, sym, ap, ap₂, ◌∙◌}
use mathlib.Core.Bool.{Bool, true, false, cond}
use mathlib.Core.List.{List, [], ◌∷◌, ◌++◌, append_assoc, append-nil}
use mathlib.Core.Option.{none, some}
use native.Mathlib.Omega.{arith}
use borrow.Author.Tests.{eq-eqb, le-leb, lt-ltb, le-ltb, ltb-true, ltb-false}
use lib.Dec.{ltb}
use lib.ListN.{length, take, drop, length-append, length-drop, take-append-drop}
use lib.Seq.{drop_at, length-take-le, take_at}
use Rattle.lists.specs.List.{string_tag, is_string_tag, tag_order, carry_tag, is_carry, is_tag, field, field_most, fields_in, body_fields}
use Rattle.lists.specs.List.{record_field, record_fields, list_of, Taken, fault, taken, on_taken, behind_tag, take_field, carried, take_body}
use Rattle.lists.specs.List.{only_one, record_of, table, all, in_front, on_body, read_records, with_strings, on_strings, read_list}
use Rattle.paper.proofs.basics.Choices.{or_left}
use Rattle.paper.proofs.bytes.Bytes.{below_left, below_right, length-bytes_of_words, words-bytes_of_words}
use Rattle.paper.proofs.bytes.Sections.{walk_from-flat}
use Rattle.paper.specs.declared.Order.{Order}
use Rattle.paper.specs.declared.Order.TheVariants.{LowFirst, HighFirst}
use Rattle.paper.specs.rules.Table.{Record, Table, kind_of, words_of}
use Rattle.paper.specs.rules.Walk.{records, flat, known, walk_from}
use Rattle.paper.specs.rules.Word.{bytes_of_words, words}
use Rattle.paper.specs.terms.Fit.{Below, EveryWhole, Whole, word_bound}

-- ── a field ──

pub take_field-field : (tag : ℕ) (body rest : List ℕ) → is_tag tag ≡ true → take_field (field tag body ++ rest) ≡ taken tag body rest
take_field-field tag body rest e =
    let n : ℕ = length body % 256 + length body / 256 * 256 in
    let long : n ≡ length body = omega arith in
    let all_of = length-append body rest in
    ap (λ (t : Bool). cond t (behind_tag tag (length body % 256 ∷ length body / 256 ∷ (body ++ rest))) (fault 50)) e
    ∙ ap (λ (t : Bool). cond t (taken tag (take n (body ++ rest)) (drop n (body ++ rest))) (fault 51)) (le-leb n (length (body ++ rest)) (omega arith))
    ∙ ap₂ (taken tag) (take_at body rest n (sym long)) (drop_at body rest n (sym long))

-- ── a body ──

tag-carry : is_tag carry_tag ≡ true
unfolding is_tag
tag-carry = refl

-- no shorter than the body
pub fields_in-long : (k tag : ℕ) (body : List ℕ) → length body ≤ length (fields_in k tag body)
fields_in-long zero tag body = omega arith
fields_in-long (suc k) tag body = go (ltb (length body) field_most) (fields_in-long k carry_tag (drop field_most body))
  where
    go : (z : Bool) → length (drop field_most body) ≤ length (fields_in k carry_tag (drop field_most body))
        → length body ≤ length (cond z (field tag body) (field tag (take field_most body) ++ fields_in k carry_tag (drop field_most body)))
    go true h = omega arith
    go false h =
        let l = length-append (field tag (take field_most body)) (fields_in k carry_tag (drop field_most body)) in
        let t = ap length (take-append-drop field_most body) in
        let u = length-append (take field_most body) (drop field_most body) in
        omega arith

-- the last field of a body that is carried on
carry-short : (m t tag : ℕ) (before body rest : List ℕ) (next : ℕ → List ℕ → List ℕ → Taken) → is_tag t ≡ true
    → ((b r : List ℕ) → next t b r ≡ carried m tag before b r) → length body < field_most
    → on_taken (take_field (field t body ++ rest)) next ≡ taken tag (before ++ body) rest
carry-short m t tag before body rest next e same h =
    ap (λ (x : Taken). on_taken x next) (take_field-field t body rest e) ∙ same body rest ∙ ends m
  where
    ends : (m : ℕ) → carried m tag before body rest ≡ taken tag (before ++ body) rest
    ends zero = refl
    ends (suc m) =
        ap (λ (z : Bool). cond z (taken tag (before ++ body) rest)
        (on_taken (take_field rest) (λ (u : ℕ) (n : List ℕ) (b : List ℕ). cond (is_carry u) (carried m tag (before ++ body) n b) (fault 52))))
        (lt-ltb (length body) field_most h)

-- a body that is carried on, of which this field begins with a tag that may stand there
carry-read : (k m t tag : ℕ) (before body rest : List ℕ) (next : ℕ → List ℕ → List ℕ → Taken) → is_tag t ≡ true
    → ((b r : List ℕ) → next t b r ≡ carried m tag before b r) → length body ≤ k → length body ≤ m
    → on_taken (take_field (fields_in k t body ++ rest)) next ≡ taken tag (before ++ body) rest
carry-read zero m t tag before body rest next e same few room = carry-short m t tag before body rest next e same (omega arith)
carry-read (suc k) zero t tag before body rest next e same few room =
    ap (λ (z : Bool). on_taken (take_field (cond z (field t body) (field t (take field_most body) ++ fields_in k carry_tag (drop field_most body)) ++ rest)) next)
    (lt-ltb (length body) field_most (omega arith))
    ∙ carry-short zero t tag before body rest next e same (omega arith)
carry-read (suc k) (suc m) t tag before body rest next e same few room =
    go (ltb (length body) field_most) refl
    (λ long. let left = length-drop field_most body in
    carry-read k m carry_tag tag (before ++ take field_most body) (drop field_most body) rest on tag-carry (λ b r. refl) (omega arith) (omega arith))
  where
    one : List ℕ
    one = take field_most body

    later : List ℕ
    later = drop field_most body

    on : ℕ → List ℕ → List ℕ → Taken
    on u n b = cond (is_carry u) (carried m tag (before ++ take field_most body) n b) (fault 52)

    go : (z : Bool) → ltb (length body) field_most ≡ z
        → (field_most ≤ length body → on_taken (take_field (fields_in k carry_tag later ++ rest)) on ≡ taken tag ((before ++ one) ++ later) rest)
        → on_taken (take_field (cond z (field t body) (field t one ++ fields_in k carry_tag later) ++ rest)) next ≡ taken tag (before ++ body) rest
    go true x again = carry-short (suc m) t tag before body rest next e same (ltb-true (length body) field_most x)
    go false x again =
        let long = ltb-false (length body) field_most x in
        let full : length one ≡ field_most = length-take-le field_most body long in
        ap (λ (s : List ℕ). on_taken (take_field s) next) (append_assoc (field t one) (fields_in k carry_tag later) rest)
        ∙ ap (λ (x : Taken). on_taken x next) (take_field-field t one (fields_in k carry_tag later ++ rest) e)
        ∙ same one (fields_in k carry_tag later ++ rest)
        ∙ ap (λ (z : Bool). cond z (taken tag (before ++ one) (fields_in k carry_tag later ++ rest)) (on_taken (take_field (fields_in k carry_tag later ++ rest)) on))
        (le-ltb (length one) field_most (omega arith))
        ∙ again long
        ∙ ap (λ (s : List ℕ). taken tag s rest) (append_assoc before one later ∙ ap (λ (s : List ℕ). before ++ s) (take-append-drop field_most body))

pub take_body-fields : (here : ℕ → Bool) (tag : ℕ) (body rest : List ℕ) → is_tag tag ≡ true → here tag ≡ true
    → take_body here (body_fields tag body ++ rest) ≡ taken tag body rest
unfolding take_body body_fields
take_body-fields here tag body rest e h =
    let s : List ℕ = fields_in (length body) tag body ++ rest in
    let l = length-append (fields_in (length body) tag body) rest in
    let f = fields_in-long (length body) tag body in
    carry-read (length body) (length s) tag tag [] body rest
    (λ (t : ℕ) (b : List ℕ) (r : List ℕ). cond (here t) (carried (length s) t [] b r) (fault 52)) e
    (λ b r. ap (λ (z : Bool). cond z (carried (length s) tag [] b r) (fault 52)) h) (omega arith) (omega arith)

-- ── a record ──

pub record_of-bytes : (order : Order) (r : Record) → Whole r → Below word_bound (words_of r)
    → record_of order (kind_of r) (bytes_of_words order (words_of r)) ≡ some r
unfolding record_of
record_of-bytes order r w fit =
    let l = length-bytes_of_words order (words_of r) in
    ap (λ (z : Bool). cond z (only_one (kind_of r) (walk_from 1 1 0 (words order (bytes_of_words order (words_of r))))) none)
    (eq-eqb (length (bytes_of_words order (words_of r)) % 4) 0 (omega arith))
    ∙ ap (λ (ws : List ℕ). only_one (kind_of r) (walk_from 1 1 0 ws)) (words-bytes_of_words order (words_of r) fit ∙ sym (append-nil (words_of r)))
    ∙ ap (only_one (kind_of r)) (walk_from-flat 1 1 0 (r ∷ []) (w, tt) (omega arith))
    ∙ ap (λ (z : Bool). cond z (some r) none) (eq-eqb (kind_of r) (kind_of r) refl)

known-tag : (k : ℕ) → known k ≡ true → is_tag k ≡ true
unfolding is_tag
known-tag k e = or_left _ (or_left _ e)

pub read_records-on : (more : ℕ) (order : Order) (s : List ℕ) → 1 ≤ length s
    → read_records (suc more) order s
    ≡ on_body (take_body known s) (λ (tag : ℕ) (body : List ℕ) (rest : List ℕ). in_front (record_of order tag body) (read_records more order rest))
read_records-on more order [] h = absurd (omega arith)
read_records-on more order (x ∷ s) h = refl

pub read_records-none : (m : ℕ) (order : Order) → read_records m order [] ≡ all []
read_records-none zero order = refl
read_records-none (suc m) order = refl

record_field-long : (order : Order) (r : Record) → 1 ≤ length (record_field order r)
unfolding record_field body_fields
record_field-long order r =
    let l = length-bytes_of_words order (words_of r) in
    let f = fields_in-long (length (bytes_of_words order (words_of r))) (kind_of r) (bytes_of_words order (words_of r)) in
    omega arith

take_body-record : (order : Order) (r : Record) (rest : List ℕ) → known (kind_of r) ≡ true
    → take_body known (record_field order r ++ rest) ≡ taken (kind_of r) (bytes_of_words order (words_of r)) rest
unfolding record_field
take_body-record order r rest e = take_body-fields known (kind_of r) (bytes_of_words order (words_of r)) rest (known-tag (kind_of r) e) e

pub read_records-fields : (order : Order) (rs : List Record) (m : ℕ) → EveryWhole rs → Below word_bound (flat rs) → length (record_fields order rs) ≤ m
    → read_records m order (record_fields order rs) ≡ all rs
read_records-fields order [] m w fit room = read_records-none m order
read_records-fields order (r ∷ rs) zero w fit room =
    absurd (let l = length-append (record_field order r) (record_fields order rs) in let o = record_field-long order r in omega arith)
read_records-fields order (r ∷ rs) (suc m) w fit room =
    let l = length-append (record_field order r) (record_fields order rs) in
    let o = record_field-long order r in
    read_records-on m order (record_field order r ++ record_fields order rs) (omega arith)
    ∙ ap (λ (x : Taken). on_body x (λ (tag : ℕ) (body : List ℕ) (rest : List ℕ). in_front (record_of order tag body) (read_records m order rest))) (take_body-record order r (record_fields order rs) w.0.known_kind)
    ∙ ap₂ in_front (record_of-bytes order r w.0 (below_left word_bound (words_of r) (flat rs) fit))
    (read_records-fields order rs m w.1 (below_right word_bound (words_of r) (flat rs) fit) (omega arith))

-- ── the list of a table ──

tag-string : (order : Order) → (is_tag (string_tag order) ≡ true) × (is_string_tag (string_tag order) ≡ true) × (tag_order (string_tag order) ≡ order)
unfolding is_tag
tag-string LowFirst = (refl, refl, refl)
tag-string HighFirst = (refl, refl, refl)

-- every table whose records are whole and whose words fit is read back from its list
pub read_list-list_of : (order : Order) (T : Table) → EveryWhole T.records → Below word_bound (flat T.records) → read_list (list_of order T) ≡ table order T
unfolding read_list list_of
read_list-list_of order T w fit =
    let t = tag-string order in
    let rest : List ℕ = record_fields order T.records in
    ap on_strings (take_body-fields is_string_tag (string_tag order) T.strings rest t.0 t.1)
    ∙ ap (λ (o : Order). with_strings o T.strings (read_records (length rest) o rest)) t.2
    ∙ ap (with_strings order T.strings) (read_records-fields order T.records (length rest) w fit (omega arith))
