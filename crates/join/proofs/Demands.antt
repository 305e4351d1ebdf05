-- Demand 3 of the code: what it means that `join` has answered, in the person's words. Each from its contract alone.
-- Assumes nothing.
use Rattle.std.specs.Prelude.{Err, Ok, Result, ℕ}
use Rattle.paper.specs.declared.JoinError.TheVariants.{FirstRefused, OrdersDiffer, OutputShort, SecondRefused, TooLong, TooMany}
use Rattle.paper.specs.declared.JoinError.{JoinError}
use Rattle.paper.specs.declared.Report.{Report}
use Prim.Native.Nat.{ℕ, ◌+◌, ◌-◌, ◌≤◌, ◌<◌}
use mathlib.Core.Path.{◌≡◌, refl, sym, ap, ap₂, ◌∙◌, subst}
use mathlib.Core.List.{List, ◌++◌}
use mathlib.Core.Option.{Option, none, some}
use mathlib.Core.Bool.{cond}
use lib.Dec.{eqb}
use lib.ListN.{length, take, drop}
use lib.Seq.{take_at}
use native.Mathlib.Omega.{arith}
use Rattle.gate.specs.Check.{CheckOf}
use Rattle.gate.proofs.Demands.{paper-accepted, accepted-paper, accepted-count, accepted-sizes}
use Rattle.join.specs.Joins.{JoinOf, handed_back}
use Rattle.paper.proofs.Demands.{join-bytes, join-count, join-accepted, join_first, join-second, join-size-first, join-size-second}
use Rattle.paper.proofs.Outcomes.{join-refused, join-made}
use Rattle.paper.proofs.Questions.{join-named-first, join-named-second, raise-inside}
use Rattle.paper.proofs.basics.Answers.{sized-one, joined-one}
use Rattle.paper.proofs.gates.Acceptance.{accepted-full, accepted-meets, meets-accepted}
use Rattle.paper.proofs.gates.Answered.{joined-whole, joined-refused}
use Rattle.paper.proofs.joins.FullJoins.{join_full-any}
use Rattle.paper.proofs.joins.Grouping.{join-assoc}
use Rattle.paper.proofs.joins.JoinRefusals.{join_refusal-joinable, joinable-join_refusal, inside-16, inside-17}
use Rattle.paper.proofs.joins.Neutral.{join-empty-left, join-empty-right}
use Rattle.paper.specs.rules.Answer.{Answer, inside, sized_as_paper, joined_as_paper}
use Rattle.paper.specs.terms.Fit.{Bytes}
use Rattle.paper.specs.terms.Full.{join_full, and_then, empty_blob}
use Rattle.paper.specs.rules.Gate.{refusal, zeros}
use Rattle.paper.specs.terms.Good.{Joinable}
use Rattle.paper.specs.rules.Header.{order_of, str_len}
use Rattle.paper.specs.rules.Join.{raised, joined_bytes, join_refusal, JoinOutcome, join_outcome, join}
use Rattle.paper.specs.rules.Limits.{byte_limit, full_places}
use Rattle.paper.specs.rules.Name.{name_at}
use Rattle.paper.specs.rules.Rename.{raise}
use Rattle.paper.specs.rules.Size.{exact_size, answer_of, size_of}
use Rattle.paper.specs.rules.Table.{count, record_at}
use Rattle.paper.specs.rules.Walk.{table_of}
use Rattle.paper.specs.declared.Sized.{Sized}

module _ {j : Result ℕ JoinError} {a b : List ℕ} {places work : ℕ} {out index left output : List ℕ} (h : JoinOf j a b places work out index left output) where
  -- both u32 slices end all 0, refused or not
  pub join-slices : (index ≡ zeros places) × (left ≡ zeros work)
  unfolding join
  join-slices = (h.indexes ∙ (ended (join_refusal a b places work (length out))).0, h.works ∙ (ended (join_refusal a b places work (length out))).1)
    where
      ended : (o : Option Answer) → let x = join_outcome (joined_bytes a b) places work out o in (x.index ≡ zeros places) × (x.work ≡ zeros work)
      ended none = (refl, refl)
      ended (some r) = (refl, refl)

  -- ── refused ──

  module _ (no : (joined_as_paper j).number ≡ 0 → ⊥) where
    -- for the first ground that there is
    pub refused-ground : join_refusal a b places work (length out) ≡ some (joined_as_paper j)
    refused-ground = joined-refused a b places work out j no h.answers

    -- 16 and 17 hold the refused table's own report: its number, its type and its place
    pub refused-first : (joined_as_paper j).number ≡ 16 → (x : Answer) × (refusal a places work ≡ some x) × (joined_as_paper j ≡ inside 16 x)
    refused-first is = inside-16 a b places work (length out) refused-ground is

    pub refused-second : (joined_as_paper j).number ≡ 17 → (x : Answer) × (refusal b places work ≡ some x) × (joined_as_paper j ≡ inside 17 x)
    refused-second is = inside-17 a b places work (length out) refused-ground is

    -- and no output byte changes
    pub refused-output : output ≡ out
    refused-output = h.outputs ∙ ap (λ (o : JoinOutcome). o.output) (join-refused a b places work out refused-ground)

  -- ── joined unless limits or lent slices forbid ──

  pub joinable-joined : Joinable a b places work (length out) → j ≡ Ok (length (joined_bytes a b))
  unfolding joined_as_paper
  joinable-joined g =
      joined-one j (Ok (length (joined_bytes a b)))
      (h.answers ∙ ap (λ (o : JoinOutcome). o.answer) (join-made a b places work out (joinable-join_refusal a b places work (length out) g)))

  module _ (n : ℕ) (p : j ≡ Ok n) where
    told : (join_refusal a b places work (length out) ≡ none) × (n ≡ length (joined_bytes a b))
    told = joined-whole a b places work out (ap joined_as_paper (sym p) ∙ h.answers)

    pub joined-joinable : Joinable a b places work (length out)
    joined-joinable = join_refusal-joinable a b places work (length out) told.0

    -- the answer is the joined length
    pub joined_length : n ≡ length (joined_bytes a b)
    joined_length = told.1

    -- the output begins with the joined bytes, and no byte past them changes
    pub joined-output : output ≡ joined_bytes a b ++ drop n out
    joined-output =
        h.outputs
        ∙ ap (λ (o : JoinOutcome). o.output) (join-made a b places work out told.0)
        ∙ ap (λ (k : ℕ). joined_bytes a b ++ drop k out) (sym told.1)

    pub joined-bytes : take n output ≡ joined_bytes a b
    joined-bytes = ap (take n) joined-output ∙ take_at (joined_bytes a b) (drop n out) n (sym told.1)

    module _ (x : Bytes a) (y : Bytes b) where
      -- what was joined is accepted by `check`, with as many types as both have
      pub joined-checked : {c : Result ℕ Report} {places' work' : ℕ} {index' left' : List ℕ} → CheckOf c (take n output) places' work' index' left'
          → count (table_of a) + count (table_of b) < places' → count (table_of a) + count (table_of b) < work'
          → c ≡ Ok (count (table_of a) + count (table_of b))
      joined-checked {c} {places'} {work'} {index'} {left'} k enough enough' =
          paper-accepted (subst (λ (s : List ℕ). CheckOf c s places' work' index' left') joined-bytes k)
          (accepted-meets (joined_bytes a b) places' work' (join-accepted a b x y places work (length out) told.0 places' work' enough enough'))
          ∙ ap Ok (join-count a b x y places work (length out) told.0)

      -- the first's records stand unchanged, the second's are raised
      pub joined-first : (t : ℕ) → t ≤ count (table_of a) → record_at (table_of (take n output)) t ≡ record_at (table_of a) t
      joined-first t l = ap (λ (s : List ℕ). record_at (table_of s) t) joined-bytes ∙ join_first a b x y places work (length out) told.0 t l

      pub joined-second : (t : ℕ) → record_at (table_of (take n output)) (raise (count (table_of a)) t) ≡ raised (table_of a) (record_at (table_of b) t)
      joined-second t =
          ap (λ (s : List ℕ). record_at (table_of s) (raise (count (table_of a)) t)) joined-bytes ∙ join-second a b x y places work (length out) told.0 t

      -- every name is what it was
      pub joined-names-first : (k : ℕ) → k < str_len a → name_at (take n output) k ≡ name_at a k
      joined-names-first k l = ap (λ (s : List ℕ). name_at s k) joined-bytes ∙ join-named-first a b x y places work (length out) told.0 k l

      pub joined-names-second : (k : ℕ) → k < str_len b → name_at (take n output) (raise (str_len a - 1) k) ≡ name_at b k
      joined-names-second k l =
          ap (λ (s : List ℕ). name_at s (raise (str_len a - 1) k)) joined-bytes ∙ join-named-second a b x y places work (length out) told.0 k l

      -- and every size: what `size` answers after a check of what was joined is what it answers after a check of the part, each with slices of its own
      module _ {c : Result ℕ Report} {places' work' : ℕ} {index' left' : List ℕ} (k : CheckOf c (take n output) places' work' index' left') (m : ℕ)
          (q : c ≡ Ok m) where
        sized : (t : ℕ) → t ≤ count (table_of a) + count (table_of b) → (s : Sized) → sized_as_paper s ≡ size_of (take n output) index' t
            → sized_as_paper s ≡ answer_of (exact_size (table_of (joined_bytes a b)) t)
        sized t high s e =
            let whole : CheckOf c (joined_bytes a b) places' work' index' left' =
            subst (λ (o : List ℕ). CheckOf c o places' work' index' left') joined-bytes k in
            accepted-sizes whole m q (join-bytes a b x y places work (length out) told.0) t
            (omega (arith, accepted-count whole m q, join-count a b x y places work (length out) told.0)) s
            (e ∙ ap (λ (o : List ℕ). size_of o index' t) joined-bytes)

        pub joined-sizes-first : {d : Result ℕ Report} {places₁ work₁ : ℕ} {index₁ left₁ : List ℕ} → CheckOf d a places₁ work₁ index₁ left₁ → (n₁ : ℕ) → d ≡ Ok n₁
            → (t : ℕ) → t ≤ n₁ → (s s₁ : Sized) → sized_as_paper s ≡ size_of (take n output) index' t → sized_as_paper s₁ ≡ size_of a index₁ t → s ≡ s₁
        joined-sizes-first part n₁ p₁ t high s s₁ e e₁ =
            let counted = accepted-count part n₁ p₁ in
            sized-one s s₁
            (sized t (omega arith) s e
            ∙ ap answer_of (join-size-first a b x y places work (length out) told.0 t (omega arith))
            ∙ sym (accepted-sizes part n₁ p₁ x t high s₁ e₁))

        pub joined-sizes-second : {d : Result ℕ Report} {places₂ work₂ : ℕ} {index₂ left₂ : List ℕ}
            → CheckOf d b places₂ work₂ index₂ left₂ → (n₂ : ℕ) → d ≡ Ok n₂
            → (t : ℕ) → t ≤ n₂ → (s s₂ : Sized) → sized_as_paper s ≡ size_of (take n output) index' (raise (count (table_of a)) t)
            → sized_as_paper s₂ ≡ size_of b index₂ t → s ≡ s₂
        joined-sizes-second part n₂ p₂ t high s s₂ e e₂ =
            let counted = accepted-count part n₂ p₂ in
            sized-one s s₂
            (sized (raise (count (table_of a)) t) (raise-inside (count (table_of a)) t (omega arith)) s e
            ∙ ap answer_of (join-size-second a b x y places work (length out) told.0 t (omega arith))
            ∙ sym (accepted-sizes part n₂ p₂ y t high s₂ e₂))

-- any two results that the contract allows are the same, slice by slice
pub join_one : {j j' : Result ℕ JoinError} {a b : List ℕ} {places work : ℕ} {out index index' left left' output output' : List ℕ}
    → JoinOf j a b places work out index left output → JoinOf j' a b places work out index' left' output'
    → (j ≡ j') × (index ≡ index') × (left ≡ left') × (output ≡ output')
join_one {j} {j'} h k =
    (joined-one j j' (h.answers ∙ sym k.answers), h.indexes ∙ sym k.indexes, h.works ∙ sym k.works, h.outputs ∙ sym k.outputs)

-- ── grouping and neutrality, with slices of full size ──

-- what a join in code hands back is what the paper's join of full size does
module _ {a b out index left output : List ℕ} where
  pub handed-full : (j : Result ℕ JoinError) → JoinOf j a b full_places full_places out index left output → handed_back j output ≡ join_full out a b
  unfolding join_full joined_as_paper
  handed-full j h =
      by_answer j
      ∙ ap₂ (λ (x : Answer) (s : List ℕ). cond (eqb x.number 0) (some (take x.p s)) none) h.answers h.outputs
    where
      by_answer : (k : Result ℕ JoinError) → handed_back k output ≡ cond (eqb (joined_as_paper k).number 0) (some (take (joined_as_paper k).p output)) none
      by_answer (Ok n) = refl
      by_answer (Err (FirstRefused r)) = refl
      by_answer (Err (SecondRefused r)) = refl
      by_answer (Err OrdersDiffer) = refl
      by_answer (Err TooMany) = refl
      by_answer (Err TooLong) = refl
      by_answer (Err OutputShort) = refl

-- a run of `join` with slices of full size, into an output that holds these bytes before it
pub record FullJoin (out a b : List ℕ) (j : Result ℕ JoinError) (output : List ℕ) : Type 0 where
  pub full : length out ≡ byte_limit
  pub index : List ℕ
  pub left : List ℕ
  pub joins : JoinOf j a b full_places full_places out index left output

-- a second join, which runs only on what the first handed back
then : (x : Option (List ℕ)) {y : Option (List ℕ)} {f : List ℕ → Option (List ℕ)} → ((made : List ℕ) → x ≡ some made → y ≡ f made)
    → and_then x (λ (made : List ℕ). y) ≡ and_then x f
then none h = refl
then (some made) h = h made refl

-- three blobs joined in either grouping, by whatever runs, give the same bytes, or both groupings refuse; a second join is run on what
-- the first handed back, and not at all where it refused
pub join-grouping : (a b c : List ℕ) → Bytes a → Bytes b → Bytes c → {j₁ j₂ j₃ j₄ : Result ℕ JoinError} {o₁ o₂ o₃ o₄ out₁ out₂ out₃ out₄ : List ℕ}
    → FullJoin o₁ a b j₁ out₁ → ((ab : List ℕ) → handed_back j₁ out₁ ≡ some ab → FullJoin o₂ ab c j₂ out₂)
    → FullJoin o₃ b c j₃ out₃ → ((bc : List ℕ) → handed_back j₃ out₃ ≡ some bc → FullJoin o₄ a bc j₄ out₄)
    → and_then (handed_back j₁ out₁) (λ (ab : List ℕ). handed_back j₂ out₂) ≡ and_then (handed_back j₃ out₃) (λ (bc : List ℕ). handed_back j₄ out₄)
join-grouping a b c x y z {j₁} {j₂} {j₃} {j₄} {o₁} {o₂} {o₃} {o₄} {out₁} {out₂} {out₃} {out₄} f₁ f₂ f₃ f₄ =
    then (handed_back j₁ out₁) (λ ab q. handed-full j₂ (f₂ ab q).joins ∙ join_full-any o₂ o₁ ab c (f₂ ab q).full f₁.full)
    ∙ ap (λ (o : Option (List ℕ)). and_then o (λ (ab : List ℕ). join_full o₁ ab c)) (handed-full j₁ f₁.joins)
    ∙ join-assoc o₁ o₁ o₃ o₃ f₁.full f₁.full f₃.full f₃.full a b c x y z
    ∙ sym (ap (λ (o : Option (List ℕ)). and_then o (λ (bc : List ℕ). join_full o₃ a bc)) (handed-full j₃ f₃.joins))
    ∙ sym (then (handed_back j₃ out₃) (λ bc q. handed-full j₄ (f₄ bc q).joins ∙ join_full-any o₄ o₃ a bc (f₄ bc q).full f₃.full))

-- joined with the empty table, on either side, a table that a check has accepted, with whatever slices, comes back byte for byte
module _ {b : List ℕ} (bytes : Bytes b) {c : Result ℕ Report} {places work : ℕ} {index left : List ℕ} (k : CheckOf c b places work index left) (n : ℕ)
    (p : c ≡ Ok n) where
  -- slices of full size have places for every table
  full : refusal b full_places full_places ≡ none
  full = accepted-full b places work (meets-accepted b places work (accepted-paper k n p))

  module _ {out : List ℕ} {j : Result ℕ JoinError} {output : List ℕ} where
    pub empty_left : FullJoin out (empty_blob (order_of b)) b j output → handed_back j output ≡ some b
    empty_left f = handed-full j f.joins ∙ join-empty-left out f.full b bytes full

    pub empty_right : FullJoin out b (empty_blob (order_of b)) j output → handed_back j output ≡ some b
    empty_right f = handed-full j f.joins ∙ join-empty-right out f.full b bytes full
