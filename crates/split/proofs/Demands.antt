-- Order 14 of the code: what it means that `split` has answered, in the request's words. Each from contracts alone.
-- Assumes nothing.
use Rattle.parts.specs.declared.SplitError.TheVariants.{NoCut, OutputShort}
use Rattle.parts.specs.declared.SplitError.{SplitError}
use Rattle.std.specs.Prelude.{Ok, Result, ℕ, Err}
use Rattle.paper.specs.declared.JoinError.{JoinError}
use Prim.Native.Nat.{ℕ, ◌≤◌, ◌<◌}
use mathlib.Core.Path.{◌≡◌, refl, sym, ap, ap₂, ◌∙◌, subst}
use mathlib.Core.Bool.{true, false, false≢true}
use mathlib.Core.List.{List, ◌++◌}
use mathlib.Core.Logic.{◌⊎◌, ⊎_elim}
use mathlib.Core.Option.{Option, none, some}
use native.Mathlib.Omega.{arith}
use lib.ListN.{length, take, drop}
use lib.Seq.{take-append_seam, take_at}
use Rattle.join.proofs.Demands.{FullJoin, joinable-joined, joined-bytes, joined-joinable}
use Rattle.join.specs.Joins.{JoinOf, handed_back}
use Rattle.paper.proofs.gates.Acceptance.{accepted-full, accepted-with}
use Rattle.paper.proofs.gates.Numbers.{Says, refusal-number, says-naming, says-or_else}
use Rattle.paper.specs.rules.Answer.{Answer, report}
use Rattle.paper.specs.rules.Choice.{first_due}
use Rattle.paper.specs.rules.Gate.{gate, naming, refusal}
use Rattle.paper.specs.rules.Join.{joined_bytes}
use Rattle.paper.specs.rules.Limits.{full_places}
use Rattle.paper.specs.rules.Table.{count}
use Rattle.paper.specs.rules.Walk.{table_of}
use Rattle.paper.specs.terms.Fit.{Bytes}
use Rattle.paper.specs.terms.Good.{Joinable}
use Rattle.parts.proofs.Cuts.{cut-joins, joins-accepted, joins-cut, joins-first, joins-second}
use Rattle.parts.proofs.Refusals.{cut-61-first, cut-61-second, cut-made, made-cut, parted-one, refused-60}
use Rattle.parts.specs.Cut.{CutOutcome, cut, cut_ok, cut_outcome, cut_refusal, cut_rules, first_bytes, second_bytes, lengths, parted_as_paper}
use Rattle.parts.specs.Pair.{JoinsTo}
use Rattle.split.specs.Parting.{SplitOf}

module _ {r : Result (ℕ × ℕ) SplitError} {b : List ℕ} {n s places work : ℕ} {out out' index left first second : List ℕ}
    (h : SplitOf r b n s places work out out' index left first second) where
  abbrev ground : Option Answer
  ground = cut_refusal b n s places work (length out) (length out')

  -- both u32 slices end as the check of the blob leaves them, whatever is answered
  pub split-slices : (index ≡ (gate b places work).index) × (left ≡ (gate b places work).work)
  unfolding cut
  split-slices = (h.indexes ∙ (ended ground).0, h.works ∙ (ended ground).1)
    where
      ended : (o : Option Answer) → let x = cut_outcome b n s (gate b places work) out out' o in
          (x.index ≡ (gate b places work).index) × (x.work ≡ (gate b places work).work)
      ended none = (refl, refl)
      ended (some a) = (refl, refl)

  by-ground : (o : Option Answer) → ground ≡ o → cut b n s places work out out' ≡ cut_outcome b n s (gate b places work) out out' o
  unfolding cut
  by-ground o e = ap (cut_outcome b n s (gate b places work) out out') e

  -- ── refused: no byte of either output changes ──

  refused-with : (a : Answer) → ground ≡ some a → (parted_as_paper r ≡ a) × (first ≡ out) × (second ≡ out')
  refused-with a e =
      let x = by-ground (some a) e in
      (h.answers ∙ ap (λ (c : CutOutcome). c.answer) x, h.firsts ∙ ap (λ (c : CutOutcome). c.first) x, h.seconds ∙ ap (λ (c : CutOutcome). c.second) x)

  parted-with : ground ≡ none → (parted_as_paper r ≡ lengths b n s) × (first ≡ first_bytes b n s ++ drop (length (first_bytes b n s)) out)
      × (second ≡ second_bytes b n s ++ drop (length (second_bytes b n s)) out')
  parted-with e =
      let x = by-ground none e in
      (h.answers ∙ ap (λ (c : CutOutcome). c.answer) x, h.firsts ∙ ap (λ (c : CutOutcome). c.first) x, h.seconds ∙ ap (λ (c : CutOutcome). c.second) x)

  pub refused-outputs : ((parted_as_paper r).number ≡ 0 → ⊥) → (first ≡ out) × (second ≡ out')
  refused-outputs other = go ground refl
    where
      go : (o : Option Answer) → ground ≡ o → (first ≡ out) × (second ≡ out')
      go none e = absurd (other (ap (λ (a : Answer). a.number) (parted-with e).0))
      go (some a) e = let x = refused-with a e in (x.1, x.2)

  -- ── 60 exactly where there is no pair ──

  module _ (answered : r ≡ (Err NoCut)) where
    no_cut : (refusal b places work ≡ none) × (cut_ok n s (table_of b) ≡ false)
    unfolding parted_as_paper
    no_cut = go ground refl
      where
        number : (parted_as_paper r).number ≡ 60
        number = ap (λ (q : Result (ℕ × ℕ) SplitError). (parted_as_paper q).number) answered

        go : (o : Option Answer) → ground ≡ o → (refusal b places work ≡ none) × (cut_ok n s (table_of b) ≡ false)
        go none e = absurd (let z = ap (λ (a : Answer). a.number) (parted-with e).0 in omega (arith, number))
        go (some a) e = refused-60 b n s places work (length out) (length out') e (ap (λ (x : Answer). x.number) (sym (refused-with a e).0) ∙ number)

    -- no two accepted tables with that first count and string length join to the blob
    pub no-pair : (x y : List ℕ) → JoinsTo b n s x y → ⊥
    no-pair x y j = false≢true (sym no_cut.1 ∙ joins-cut j)

  -- ── both parts ──

  module _ (bytes : Bytes b) (m k : ℕ) (answered : r ≡ Ok (m, k)) where
    made : ground ≡ none
    unfolding parted_as_paper cut_refusal
    made = go ground refl
      where
        some_number : Says (λ (i : ℕ). 1 ≤ i) ground
        some_number =
            says-or_else (λ (i : ℕ). 1 ≤ i) (refusal b places work) (naming 0 (first_due (cut_rules b n s (length out) (length out'))))
            (at_least (refusal b places work) (refusal-number b places work))
            (says-naming (λ (i : ℕ). 1 ≤ i) 0 (cut_rules b n s (length out) (length out')) (omega arith, (omega arith, tt)))
          where
            at_least : (o : Option Answer) → Says (λ (i : ℕ). (1 ≤ i) × (i ≤ 15)) o → Says (λ (i : ℕ). 1 ≤ i) o
            at_least none x = tt
            at_least (some a) x = x.0

        go : (o : Option Answer) → ground ≡ o → ground ≡ none
        go none e = e
        go (some a) e =
            let number = ap (λ (q : Result (ℕ × ℕ) SplitError). (parted_as_paper q).number) (sym answered) ∙ ap (λ (x : Answer). x.number) (refused-with a e).0 in
            absurd (let low = subst (Says (λ (i : ℕ). 1 ≤ i)) e some_number in omega arith)

    told : (m ≡ length (first_bytes b n s)) × (k ≡ length (second_bytes b n s))
    unfolding parted_as_paper
    told =
        let e = ap parted_as_paper (sym answered) ∙ (parted-with made).0 in
        (ap (λ (a : Answer). a.t) e, ap (λ (a : Answer). a.p) e)

    -- the outputs begin with the parts, and no byte past them changes
    pub parted-first : first ≡ first_bytes b n s ++ drop m out
    parted-first = (parted-with made).1 ∙ ap (λ (i : ℕ). first_bytes b n s ++ drop i out) (sym told.0)

    pub parted-second : second ≡ second_bytes b n s ++ drop k out'
    parted-second = (parted-with made).2 ∙ ap (λ (i : ℕ). second_bytes b n s ++ drop i out') (sym told.1)

    parts : (take m first ≡ first_bytes b n s) × (take k second ≡ second_bytes b n s)
    parts = (
      ap (take m) parted-first ∙ take_at (first_bytes b n s) (drop m out) m (sym told.0),
      ap (take k) parted-second ∙ take_at (second_bytes b n s) (drop k out') k (sym told.1),
    )

    -- what is written are two accepted tables, the first with that count and string length, that join to the blob
    pub parted-pair : JoinsTo b n s (take m first) (take k second)
    parted-pair =
        let g = made-cut b n s places work (length out) (length out') made in
        subst (λ (y : List ℕ). JoinsTo b n s (take m first) y) (sym parts.1)
        (subst (λ (x : List ℕ). JoinsTo b n s x (second_bytes b n s)) (sym parts.0) (cut-joins b bytes places work g.0 n s g.1))

    -- so taking apart and joining gives the blob back, whatever run of `join` with slices of full size
    pub parted-joined : {o output : List ℕ} {j : Result ℕ JoinError} → FullJoin o (take m first) (take k second) j output → handed_back j output ≡ some b
    parted-joined {o} {output} {j} f =
        let p = parted-pair in
        let x : List ℕ = take m first in
        let y : List ℕ = take k second in
        let able = subst (Joinable x y full_places full_places) (sym f.full) p.joinable in
        let whole = joinable-joined f.joins able in
        ap (λ (q : Result ℕ JoinError). handed_back q output) whole
        ∙ ap {B = Option (List ℕ)} some (joined-bytes f.joins (length (joined_bytes x y)) whole ∙ p.joined)

  -- ── where there is a pair, and places for the blob's types ──

  module _ {x y : List ℕ} (j : JoinsTo b n s x y) (enough : count (table_of b) < places) (enough' : count (table_of b) < work) where
    accepted : refusal b places work ≡ none
    accepted = accepted-with b full_places full_places (joins-accepted j) places work enough enough'

    same-long : (length (first_bytes b n s) ≡ length x) × (length (second_bytes b n s) ≡ length y)
    same-long = (ap length (joins-first j), ap length (joins-second j))

    -- both tables come back byte for byte where there is room for them, and 61 is answered where there is none
    pub pair-parted : length x ≤ length out → length y ≤ length out' → (r ≡ Ok (length x, length y)) × (take (length x) first ≡ x) × (take (length y) second ≡ y)
    unfolding parted_as_paper
    pair-parted h₁ h₂ =
        let l = same-long in
        let e = parted-with (cut-made b n s places work (length out) (length out') accepted (joins-cut j) (omega arith) (omega arith)) in (
          parted-one r (Ok ((length x), (length y))) (e.0 ∙ (λ i. record { number = 0; inner = 0; t = l.0 i; p = l.1 i })),
          ap (take (length x)) (e.1 ∙ ap₂ (λ (u : List ℕ) (i : ℕ). u ++ drop i out) (joins-first j) l.0) ∙ take-append_seam x (drop (length x) out),
          ap (take (length y)) (e.2 ∙ ap₂ (λ (u : List ℕ) (i : ℕ). u ++ drop i out') (joins-second j) l.1) ∙ take-append_seam y (drop (length y) out'),
        )

    pub pair-short : (length out < length x) ⊎ (length out' < length y) → r ≡ (Err OutputShort)
    unfolding parted_as_paper
    pair-short less =
        let l = same-long in
        let e : ground ≡ some (report 61 0) =
        ⊎_elim (λ (h₁ : length out < length x). cut-61-first b n s places work (length out) (length out') accepted (joins-cut j) (omega arith))
        (λ (h₂ : length out' < length y). cut-61-second b n s places work (length out) (length out') accepted (joins-cut j) (omega arith)) less in
        parted-one r (Err OutputShort) (refused-with (report 61 0) e).0

-- any two results that the contract allows are the same, slice by slice
pub split_one : {r r' : Result (ℕ × ℕ) SplitError} {b : List ℕ} {n s places work : ℕ} {out out' index index' left left' first first' second second' : List ℕ}
    → SplitOf r b n s places work out out' index left first second → SplitOf r' b n s places work out out' index' left' first' second'
    → (r ≡ r') × (index ≡ index') × (left ≡ left') × (first ≡ first') × (second ≡ second')
split_one {r} {r'} h k = (
  parted-one r r' (h.answers ∙ sym k.answers),
  h.indexes ∙ sym k.indexes,
  h.works ∙ sym k.works,
  h.firsts ∙ sym k.firsts,
  h.seconds ∙ sym k.seconds,
)

-- ── joining first and taking apart after ──

-- what a run of `join` has joined, of two blobs, is joined from them
pub joined-pair : {j : Result ℕ JoinError} {a c : List ℕ} {places work : ℕ} {out index left output : List ℕ} → JoinOf j a c places work out index left output → Bytes a → Bytes c
    → (l : ℕ) → j ≡ Ok l → JoinsTo (take l output) (count (table_of a)) (length (table_of a).strings) a c
joined-pair {j} {a} {c} {places} {work} h x y l whole =
    let g = joined-joinable h l whole in
    record {
      first_bytes = x;
      second_bytes = y;
      joinable =
          record {
            first = accepted-full a places work g.first;
            second = accepted-full c places work g.second;
            one-order = g.one-order;
            few = g.few;
            short = g.short;
            fits = g.short;
          };
      first_count = refl;
      first_length = refl;
      joined = sym (joined-bytes h l whole);
    }

-- taken apart with the first's own numbers, it gives both back byte for byte
pub joined-parted : {j : Result ℕ JoinError} {a c : List ℕ} {places work : ℕ} {out index left output : List ℕ} → JoinOf j a c places work out index left output → Bytes a → Bytes c
    → (l : ℕ) → j ≡ Ok l
    → {r : Result (ℕ × ℕ) SplitError} {places' work' : ℕ} {o o' index' left' first second : List ℕ}
    → SplitOf r (take l output) (count (table_of a)) (length (table_of a).strings) places' work' o o' index' left' first second
    → count (table_of (take l output)) < places' → count (table_of (take l output)) < work' → length a ≤ length o → length c ≤ length o'
    → (r ≡ Ok (length a, length c)) × (take (length a) first ≡ a) × (take (length c) second ≡ c)
joined-parted h x y l whole k enough enough' room room' = pair-parted k (joined-pair h x y l whole) enough enough' room room'
