-- When a selective packet fits the fragment that is being collected.
use Rattle.std.proofs.Common.{◌≡◌, ℕ, zero, suc, ◌+◌, ◌<◌, ◌≤◌, Bool, true, cond, ◌&&◌, eqb, ◌⊎◌, ◌↔◌, List, Some, None, Ok, Option, refl, sym, ap, ◌∙◌, subst, inl, inr, arith, rules, tests}
use Rattle.std.specs.List.{position_from}
use Rattle.std.specs.Option.{option_map}
use Rattle.std.proofs.lemmas.Bool.{cases_Bool, cases_order, both_ways, le-leb, leb-true, cond-true, cond-false}
use Rattle.fragment.specs.Carriers.{Terms}
use Rattle.packet.specs.declared.values.Header.{Header}
use Rattle.packet.specs.Reading.{Block, block_at, record_place, read_of}
use Rattle.packet.specs.Records.{records_between}
use Rattle.packet.proofs.Refusals.{else-false}
use Rattle.receiver.specs.declared.state.Gathering.{Gathering}
use Rattle.receiver.specs.declared.state.Phase.{Phase}
use Rattle.receiver.specs.declared.state.Phase.TheVariants.{Idle, Collecting, Waiting, Done}
use Rattle.receiver.specs.Store.{is_past, past_from}
use Rattle.receiver.specs.Rows.{same}
use Rattle.receiver.specs.Calls.{unfit_of}
use Rattle.receiver.specs.Laws.{Joins, PastLast, FirstPast}
use Rattle.receiver.proofs.Reading.{block-is, block-there, header_is}
use Rattle.receiver.proofs.Hearing.{same-is, is_same}

-- The search for a block past the last finds the first such record, or none.
module _ (size : ℕ) (h : Header) (xs : List ℕ) (n : ℕ) where
  abbrev Past : ℕ → Type 0
  Past i = is_past n (block_at size h xs i) ≡ true

  past-found : (k i : ℕ)
      → ((j : ℕ) × (i ≤ j) × (j < i + k) × Past j × ((l : ℕ) → i ≤ l → l < j → Past l → ⊥) × (past_from size h xs n k i ≡ Some (record_place size j)))
      ⊎ (((l : ℕ) → i ≤ l → l < i + k → Past l → ⊥) × (past_from size h xs n k i ≡ None))
  past-found zero i = inr (λ l a b p. omega arith, refl)
  past-found (suc k) i =
      elim (cases_Bool (is_past n (block_at size h xs i))) [
        | inl e ↦ inl (i, omega arith, omega arith, e, (λ l a b p. omega arith), cond-true _ _ _ e)
        | inr e ↦
            (let here : (l : ℕ) → i ≤ l → (i + 1 ≤ l → Past l → ⊥) → Past l → ⊥ =
            λ l a next p. elim (cases_order i l) [ inl q ↦ both_ways _ e (rw (← q) at p) | inr o ↦ elim o [ inl q ↦ next (omega arith) p | inr q ↦ omega arith ] ] in
            elim (past-found k (i + 1)) [
              | inl f ↦ inl (f.0, omega (arith, f.1), omega (arith, f.2), f.3, (λ l a b. here l a (λ c. f.4 l c b)), cond-false _ _ _ e ∙ f.5)
              | inr f ↦ inr ((λ l a b. here l a (λ c. f.0 l c (omega arith))), cond-false _ _ _ e ∙ f.1)
            ])
      ]

  -- It is where a search over the records finds one.
  pub past-position : (k i : ℕ) → option_map (record_place size) (position_from (is_past n) i (records_between (record { header = h; size = size; octets = xs }) i k)) ≡ past_from size h xs n k i
  past-position zero i = refl
  past-position (suc k) i =
      elim (cases_Bool (is_past n (block_at size h xs i))) [
        | inl e ↦ ap (option_map (record_place size)) (cond-true _ _ _ e) ∙ sym (cond-true _ _ _ e)
        | inr e ↦ ap (option_map (record_place size)) (cond-false _ _ _ e) ∙ past-position k (i + 1) ∙ sym (cond-false _ _ _ e)
      ]

module _ (t : Terms) (xs : List ℕ) (h : Header) (read : read_of t xs ≡ Ok h) (n : ℕ) where
  past-block : (o : Option Block) → is_past n o ≡ true → (b : Block) × (o ≡ Some b) × (n ≤ b.number)
  past-block None e = cc
  past-block (Some b) e = (b, refl, leb-true _ _ e)

  past_is : (i : ℕ) → Past t.block h xs n i ↔ PastLast t xs n i
  past_is i = (
    λ e.
        let p = past-block (block_at t.block h xs i) e in
        let k = block-is t.block h xs i p.0 p.1 in
        (subst (λ (y : Header). i < y.records) (header_is t xs h read) k.0, k.2, subst (λ (b : Block). n ≤ b.number) k.3 p.2),
    λ l. rw (block-there t xs h read i l.0 l.1) (le-leb _ _ l.2),
  )

  abbrev found : Option ℕ
  found = past_from t.block h xs n h.records 0

  few : (i : ℕ) → PastLast t xs n i → i < 0 + h.records
  few i p = let r = ap (λ (y : Header). y.records) (header_is t xs h read) in omega (arith, p.0)

  pub past-none : ((i : ℕ) → PastLast t xs n i → ⊥) → found ≡ None
  past-none none =
      elim (past-found t.block h xs n h.records 0) [ inl f ↦ absurd (none f.0 ((past_is f.0).0 f.3)) | inr f ↦ f.1 ]

  pub past_first : (i : ℕ) → FirstPast t xs n i → found ≡ Some (record_place t.block i)
  past_first i first =
      elim (past-found t.block h xs n h.records 0) [
        | inl f ↦
            elim (cases_order f.0 i) [
              | inl e ↦ f.5 ∙ ap (λ j. Some (record_place t.block j)) e
              | inr o ↦ elim o [ inl l ↦ absurd (first.1 f.0 l ((past_is f.0).0 f.3)) | inr l ↦ absurd (f.4 i (omega arith) l ((past_is i).1 first.0)) ]
            ]
        | inr f ↦ absurd (f.0 i (omega arith) (few i first.0) ((past_is i).1 first.0))
      ]

  pub past-decided : ((i : ℕ) × FirstPast t xs n i) ⊎ ((i : ℕ) → PastLast t xs n i → ⊥)
  past-decided =
      elim (past-found t.block h xs n h.records 0) [
        | inl f ↦ inl (f.0, ((past_is f.0).0 f.3, λ j l p. f.4 j (omega arith) l ((past_is j).1 p)))
        | inr f ↦ inr (λ i p. f.0 i (omega arith) (few i p) ((past_is i).1 p))
      ]

-- Whether it is for that fragment.
module _ (h : Header) where
  abbrev joins : Gathering → Bool
  joins g = h.selective && (eqb h.number g.number && same h.start g.start)

  joins-is : (g : Gathering) → joins g ≡ true → Joins (Collecting g) h g
  joins-is g e = search (rules, tests, same-is)

  is-joins : (p : Phase) (g : Gathering) → Joins p h g → joins g ≡ true
  is-joins p g j = search (rules, tests, is_same)

  pub joins-decided : (p : Phase) → ((g : Gathering) × Joins p h g) ⊎ ((g : Gathering) → Joins p h g → ⊥)
  joins-decided Idle = inr (λ g j. cc j.0)
  joins-decided (Collecting g) =
      elim (cases_Bool (joins g)) [
        | inl e ↦ inl (g, joins-is g e)
        | inr e ↦ inr (λ k j. let q : g ≡ k = cc j.0 in both_ways (joins g) e (rw (← q) at (is-joins (Collecting g) k j)))
      ]
  joins-decided (Waiting v) = inr (λ g j. cc j.0)
  joins-decided Done = inr (λ g j. cc j.0)

  pub joins-unfit : (size : ℕ) (p : Phase) (xs : List ℕ) (g : Gathering) → Joins p h g
      → unfit_of size p xs h ≡ cond (eqb h.pad g.pad) (past_from size h xs g.blocks h.records 0) (Some 9)
  joins-unfit size p xs g j = rw j.0 (search (rules, tests, is_same))

  pub none-unfit : (size : ℕ) (p : Phase) (xs : List ℕ) → ((g : Gathering) → Joins p h g → ⊥) → unfit_of size p xs h ≡ None
  none-unfit size Idle xs none = refl
  none-unfit size (Collecting g) xs none = cond-false (joins g) _ _ (else-false (joins g) (λ e. none g (joins-is g e)))
  none-unfit size (Waiting v) xs none = refl
  none-unfit size Done xs none = refl
