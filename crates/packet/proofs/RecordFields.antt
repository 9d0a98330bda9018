-- The wrong fields of a packet's records, in the order of their octets.
use Rattle.std.proofs.Common.{◌≡◌, ℕ, zero, suc, ◌+◌, ◌-◌, ◌<◌, ◌≤◌, Bool, true, false, eqb, ltb, leb, ◌≢◌, ◌⊎◌, List, [], ◌∷◌, Ok, Result, refl, ap, ◌∙◌, inl, inr, mul-le-mul_right, suc-mul, arith, below_more}
use Rattle.std.proofs.lemmas.Bool.{cases_eq, cases_order, cond-true, cond-false, and_parts, and_cases, leb-true, leb-false, ltb-true, ltb-false, eqb-true, eqb-false, eq-eqb, ne_eqb}
use Rattle.fault.specs.declared.PacketFault.{PacketFault}
use Rattle.fragment.specs.Carriers.{Terms}
use Rattle.packet.specs.Reading.{and_then, is_selective, header_at, record_place, block_fits, record_of, records_from}
use Rattle.packet.specs.Refusals.{flags_at, records_at, Full, Selective, number_at, frame_at, quality_at, GoodRecord, GoodBefore}
use Rattle.packet.specs.Refusals.{WrongRecord, other_block, high_block, falling_block, other_frame, other_quality}
use Rattle.packet.proofs.Refusals.{else-false, None, ByFields, Fails, first_wrong, by-table, by-wrong}
use Rattle.packet.proofs.HeaderFields.{Known, full-mode, selective-mode}

-- The least block number that record i may have.
abbrev Least : Terms → List ℕ → ℕ → ℕ → Type 0
Least t xs i least =
    ((least ≡ 0) × ((j : ℕ) → j < i → GoodRecord t xs j → ⊥)) ⊎ ((j : ℕ) × GoodBefore t xs j i × (least ≡ number_at t xs j + 1))

good-before-one : (t : Terms) (xs : List ℕ) (i j k : ℕ) → GoodBefore t xs j i → GoodBefore t xs k i → j ≡ k
good-before-one t xs i j k hj hk =
    elim (cases_order j k) [
      | inl e ↦ e
      | inr o ↦ elim o [ inl l ↦ absurd (hj.2 k l hk.0 hk.1) | inr l ↦ absurd (hk.2 j l hj.0 hj.1) ]
    ]

-- A record that is not good changes nothing.
least_stays : (t : Terms) (xs : List ℕ) (i least : ℕ) → (GoodRecord t xs i → ⊥) → Least t xs i least → Least t xs (i + 1) least
least_stays t xs i least bad h =
    elim h [
      | inl n ↦ inl (n.0, below_more (λ j. GoodRecord t xs j → ⊥) i n.1 bad)
      | inr g ↦
          inr (g.0, (omega arith, g.1.1, λ b l m. below_more (λ b. g.0 < b → GoodRecord t xs b → ⊥) i (λ b m l. g.1.2 b l m) (λ _. bad) b m l), g.2)
    ]

abbrev WrongBlock : Terms → List ℕ → ℕ → Type 0
WrongBlock t xs i =
    (Full xs × (number_at t xs i ≢ i))
    ⊎ ((Selective xs × (15 < number_at t xs i)) ⊎ (Selective xs × (j : ℕ) × GoodBefore t xs j i × (number_at t xs i ≤ number_at t xs j)))

-- The wrong fields of record i.
data WrongIn (t : Terms) (xs : List ℕ) (i p : ℕ) : Type 0 where
  in_block : p ≡ record_place t.block i → GoodRecord t xs i → WrongBlock t xs i → WrongIn t xs i p
  in_frame : p ≡ record_place t.block i + 1 → GoodRecord t xs i → frame_at t xs i ≢ records_at xs - 1 - i → WrongIn t xs i p
  in_quality : p ≡ record_place t.block i + 2 → 1 < quality_at t xs i → WrongIn t xs i p

in-record : (t : Terms) (xs : List ℕ) (p : ℕ) → WrongRecord t xs p → (i : ℕ) × (i < records_at xs) × WrongIn t xs i p
in-record t xs p (other_block i l g f n) = (i, l, in_block refl g (inl (f, n)))
in-record t xs p (high_block i l g s n) = (i, l, in_block refl g (inr (inl (s, n))))
in-record t xs p (falling_block i j l g s b n) = (i, l, in_block refl g (inr (inr (s, j, b, n))))
in-record t xs p (other_frame i l g n) = (i, l, in_frame refl g n)
in-record t xs p (other_quality i l q) = (i, l, in_quality refl q)

wrong-record : (t : Terms) (xs : List ℕ) (i p : ℕ) → i < records_at xs → WrongIn t xs i p → WrongRecord t xs p
wrong-record t xs i p l (in_block e g (inl b)) = rw e (other_block i l g b.0 b.1)
wrong-record t xs i p l (in_block e g (inr (inl b))) = rw e (high_block i l g b.0 b.1)
wrong-record t xs i p l (in_block e g (inr (inr b))) = rw e (falling_block i b.1 l g b.0 b.2 b.3)
wrong-record t xs i p l (in_frame e g n) = rw e (other_frame i l g n)
wrong-record t xs i p l (in_quality e q) = rw e (other_quality i l q)

inside : (t : Terms) (xs : List ℕ) (i p : ℕ) → WrongIn t xs i p → (record_place t.block i ≤ p) × (p ≤ record_place t.block i + 2)
inside t xs i p (in_block e g b) = (omega arith, omega arith)
inside t xs i p (in_frame e g n) = (omega arith, omega arith)
inside t xs i p (in_quality e q) = (omega arith, omega arith)

apart : (size i j : ℕ) → i < j → record_place size i + (size + 3) ≤ record_place size j
apart size i j h = let m = mul-le-mul_right (size + 3) h in omega (arith, suc-mul i (size + 3))

-- Record i, and what is tried of it.
module _ (t : Terms) (xs : List ℕ) (known : Known (flags_at xs)) where
  abbrev place : ℕ → ℕ
  place i = record_place t.block i

  abbrev fits : ℕ → ℕ → Bool
  fits i least = block_fits (is_selective (flags_at xs)) i least (number_at t xs i)

  unfit-block : (i least : ℕ) → Least t xs i least → fits i least ≡ false → WrongBlock t xs i
  unfit-block i least h e =
      elim known [
        | inl f ↦ inl (f, eqb-false _ _ (rw (full-mode _ f) at e))
        | inr s ↦
            inr (elim (and_cases (leb least (number_at t xs i)) (ltb (number_at t xs i) 16) (rw (selective-mode _ s) at e)) [
              | inr l ↦ inl (s, ltb-false _ _ l)
              | inl l ↦
                  (let low = leb-false least (number_at t xs i) l in
                  elim h [ inl n ↦ absurd (omega arith) | inr g ↦ inr (s, g.0, g.1, omega arith) ])
            ])
      ]

  in_order : (i least : ℕ) → Selective xs → fits i least ≡ true → (least ≤ number_at t xs i) × (number_at t xs i < 16)
  in_order i least s e =
      let p = and_parts (leb least (number_at t xs i)) (ltb (number_at t xs i) 16) (rw (selective-mode _ s) at e) in
      (leb-true _ _ p.0, ltb-true _ _ p.1)

  fit-block : (i least : ℕ) → Least t xs i least → fits i least ≡ true → WrongBlock t xs i → ⊥
  fit-block i least h e (inl w) = w.1 (eqb-true _ _ (rw (full-mode _ w.0) at e))
  fit-block i least h e (inr (inl w)) = let o = in_order i least w.0 e in omega arith
  fit-block i least h e (inr (inr w)) =
      let o = in_order i least w.0 e in
      elim h [
        | inl n ↦ n.1 w.1 w.2.0 w.2.1
        | inr g ↦ (let same = ap (number_at t xs) (good-before-one t xs i w.1 g.0 w.2 g.1) in omega arith)
      ]

  abbrev good-fields : ℕ → ℕ → List (Bool × ℕ)
  good-fields i least = (fits i least, place i) ∷ ((eqb (frame_at t xs i) (records_at xs - 1 - i), place i + 1) ∷ [])

  good-record : (i least : ℕ) (rest : Result ℕ PacketFault) → Least t xs i least → GoodRecord t xs i → ByFields (first_wrong (good-fields i least) rest) rest (WrongIn t xs i)
  good-record i least rest h g =
      by-wrong _ _ (Fails (good-fields i least)) (WrongIn t xs i) fails (λ p low. wrong p low.0)
      (by-table (place i) (good-fields i least) rest (omega arith, (omega arith, tt)))
    where
      fails : (p : ℕ) → WrongIn t xs i p → Fails (good-fields i least) p
      fails p (in_block e g b) = inl (e, else-false _ (λ f. fit-block i least h f b))
      fails p (in_frame e g n) = inr (inl (e, ne_eqb _ _ n))
      fails p (in_quality e q) = absurd (omega arith)

      wrong : (p : ℕ) → Fails (good-fields i least) p → WrongIn t xs i p
      wrong p (inl e) = in_block e.0 g (unfit-block i least h e.1)
      wrong p (inr (inl e)) = in_frame e.0 g (eqb-false _ _ e.1)
      wrong p (inr (inr e)) = absurd e

  -- A record answers the least block number of the next, or its lowest wrong field.
  one-record : (i least : ℕ) → Least t xs i least
      → (next : ℕ) × Least t xs (i + 1) next × ByFields (record_of (header_at xs) xs i least (place i)) (Ok next) (WrongIn t xs i)
  one-record i least h =
      let q : ℕ = quality_at t xs i in
      elim (cases_eq q 1) [
        | inl b ↦ (least, least_stays t xs i least (λ g. omega arith) h, inl (cond-true (eqb q 1) _ _ (eq-eqb q 1 b), bad b))
        | inr b ↦
            elim (cases_eq q 0) [
              | inl g ↦ (
                number_at t xs i + 1,
                inr (i, (omega arith, g, λ b l m. absurd (omega arith)), refl),
                rw (ne_eqb q 1 b, eq-eqb q 0 g) (good-record i least (Ok (number_at t xs i + 1)) h g),
              )
              | inr g ↦ (
                least,
                least_stays t xs i least g h,
                inr (place i + 2, cond-false (eqb q 1) _ _ (ne_eqb q 1 b) ∙ cond-false (eqb q 0) _ _ (ne_eqb q 0 g), (in_quality refl (omega arith), neither g)),
              )
            ]
      ]
    where
      bad : quality_at t xs i ≡ 1 → None (WrongIn t xs i)
      bad b p (in_block e g w) = omega arith
      bad b p (in_frame e g n) = omega arith
      bad b p (in_quality e l) = omega arith

      neither : (GoodRecord t xs i → ⊥) → (lower : ℕ) → lower < place i + 2 → WrongIn t xs i lower → ⊥
      neither n lower l (in_block e g w) = n g
      neither n lower l (in_frame e g w) = n g
      neither n lower l (in_quality e w) = omega arith

  records-from : (n i least : ℕ) → i + n ≡ records_at xs → Least t xs i least → ((j : ℕ) → j < i → None (WrongIn t xs j))
      → ByFields (and_then (records_from t.block (header_at xs) xs n i least) (λ _. Ok (header_at xs))) (Ok (header_at xs)) (WrongRecord t xs)
  records-from zero i least e h right = inl (refl, λ p w. let r = in-record t xs p w in right r.0 (omega (arith, r.1)) p r.2)
  records-from (suc n) i least e h right =
      let one = one-record i least h in
      elim one.2 [
        | inl r ↦ rw r.0 (records-from n (i + 1) one.0 (omega arith) one.1 (below_more (λ j. None (WrongIn t xs j)) i right r.1))
        | inr r ↦
            inr (
              r.0,
              rw r.1,
              (
                wrong-record t xs i r.0 (omega arith) r.2.0,
                λ lower l w.
                    let v = in-record t xs lower w in
                    elim (cases_order v.0 i) [
                      | inl s ↦ r.2.1 lower l (rw s at v.2)
                      | inr o ↦
                          elim o [
                            | inl b ↦ right v.0 b lower v.2
                            | inr b ↦ omega (arith, inside t xs i r.0 r.2.0, inside t xs v.0 lower v.2, apart t.block i v.0 b)
                          ]
                    ],
              ),
            )
      ]

  -- The records answer the header, or the lowest wrong field of all.
  pub by-records : ByFields (and_then (records_from t.block (header_at xs) xs (records_at xs) 0 0) (λ _. Ok (header_at xs))) (Ok (header_at xs)) (WrongRecord t xs)
  by-records = records-from (records_at xs) 0 0 (omega arith) (inl (refl, λ j l. absurd (omega arith))) (λ j l. absurd (omega arith))
