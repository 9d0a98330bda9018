-- Octets that are read in stages: their number, their kind, the fields in front, their whole number, the fields behind.
use Rattle.std.proofs.Common.{◌≡◌, ℕ, Bool, false, cond, leb, ◌⊎◌, ◌↔◌, List, length, Ok, Err, Decides, Result, sym, refl, ◌∙◌, inl, inr, arith}
use Rattle.std.proofs.lemmas.Bool.{cases_Bool, both_ways, cond-true, cond-false, leb-false, lt-leb}
use Rattle.std.proofs.lemmas.Bool.Decides.{not_from_Decides}
use Rattle.fault.specs.declared.PacketFault.{PacketFault}
use Rattle.fault.specs.declared.PacketFault.TheVariants.{Length, Kind, Field}
use Rattle.fault.specs.Faults.{packet_number, packet_place}
use Rattle.packet.specs.Refusals as refusals
use Rattle.packet.specs.Refusals.{Refused, Lowest}
use Rattle.packet.proofs.Refusals.{else-true, else-false, None, ByFields, right-fields, wrong-field, refused-when, accepted-when}

pub is-short : (xs : List ℕ) → (leb 10 (length xs) ≡ false) ↔ refusals.Short xs
is-short xs = (leb-false 10 (length xs), lt-leb 10 (length xs))

module _ {A : Type 0} (len : ℕ) (a : A) (Short OfKind Whole : Type 0) (Front Back : ℕ → Type 0) where
  abbrev pub Headed : Type 0
  Headed = (Short → ⊥) × OfKind × None Front

  abbrev pub WrongLength : Type 0
  WrongLength = Short ⊎ (Headed × (Whole → ⊥))

  abbrev pub WrongKind : Type 0
  WrongKind = (Short → ⊥) × (OfKind → ⊥)

  abbrev pub WrongField : ℕ → Type 0
  WrongField p = ((Short → ⊥) × OfKind × Lowest Front p) ⊎ (Headed × Whole × Lowest Back p)

  abbrev pub Right : Type 0
  Right = Headed × Whole × None Back

  -- What is answered, number by number.
  pub record Staged (r : Result A PacketFault) : Type 0 where
    pub number_3 : (place : ℕ) → Refused r 3 place ↔ ((place ≡ len) × WrongLength)
    pub number_4 : (place : ℕ) → Refused r 4 place ↔ ((place ≡ 0) × WrongKind)
    pub number_5 : (place : ℕ) → Refused r 5 place ↔ WrongField place
    pub no_other : (number place : ℕ) → Refused r number place → (number ≡ 3) ⊎ ((number ≡ 4) ⊎ (number ≡ 5))
    pub accepted : (b : A) → (r ≡ Ok b) ↔ ((b ≡ a) × Headed × Whole × None Back)

  -- Why a refusal has this number and place.
  data Cause (n p : ℕ) : Type 0 where
    of_length : n ≡ 3 → p ≡ len → WrongLength → Cause n p
    of_kind : n ≡ 4 → p ≡ 0 → WrongKind → Cause n p
    of_field : n ≡ 5 → WrongField p → Cause n p

  module _ (long kind whole : Bool) (front back : Result A PacketFault)
      (is-short : (long ≡ false) ↔ Short) (is-kind : Decides kind OfKind) (is_whole : Decides whole Whole)
      (by_front : ByFields front (cond whole back (Err (Length len))) Front) (by-back : None Front → ByFields back (Ok a) Back) where
    abbrev answer : Result A PacketFault
    answer = cond long (cond kind front (Err Kind)) (Err (Length len))

    gives-kind : (Short → ⊥) → answer ≡ cond kind front (Err Kind)
    gives-kind h = cond-true long _ _ (else-true long (λ e. h (is-short.0 e)))

    gives-front : (Short → ⊥) → OfKind → answer ≡ front
    gives-front h k = gives-kind h ∙ cond-true kind _ _ (is-kind.1 k)

    gives-rest : Headed → answer ≡ cond whole back (Err (Length len))
    gives-rest h = gives-front h.0 h.1 ∙ right-fields front _ Front by_front h.2

    gives_back : Headed → Whole → answer ≡ back
    gives_back h w = gives-rest h ∙ cond-true whole _ _ (is_whole.1 w)

    accepts : Right → answer ≡ Ok a
    accepts h = gives_back h.0 h.1 ∙ right-fields back _ Back (by-back h.0.2) h.2

    refuses : (n p : ℕ) → Cause n p → Refused answer n p
    refuses n p (of_length en ep h) = (
      Length len,
      elim h [
        | inl s ↦ cond-false long _ _ (is-short.1 s)
        | inr q ↦ gives-rest q.0 ∙ cond-false whole _ _ (else-false whole (λ e. q.1 (is_whole.0 e)))
      ],
      sym en,
      sym ep,
    )
    refuses n p (of_kind en ep h) = (Kind, gives-kind h.0 ∙ cond-false kind _ _ (else-false kind (λ e. h.1 (is-kind.0 e))), sym en, sym ep)
    refuses n p (of_field en h) = (
      Field p,
      elim h [
        | inl q ↦ gives-front q.0 q.1 ∙ wrong-field front _ Front by_front p q.2
        | inr q ↦ gives_back q.0 q.1 ∙ wrong-field back _ Back (by-back q.0.2) p q.2
      ],
      sym en,
      refl,
    )

    decided : ((n : ℕ) × (p : ℕ) × Cause n p) ⊎ Right
    decided =
        elim (cases_Bool long) [
          | inr e ↦ inl (3, len, of_length refl refl (inl (is-short.0 e)))
          | inl e ↦
              (let l : Short → ⊥ = λ h. both_ways long (is-short.1 h) e in
              elim (cases_Bool kind) [
                | inr e ↦ inl (4, 0, of_kind refl refl (l, not_from_Decides kind is-kind e))
                | inl e ↦
                    elim by_front [
                      | inr h ↦ inl (5, h.0, of_field refl (inl (l, is-kind.0 e, h.2)))
                      | inl h ↦
                          (let head : Headed = (l, is-kind.0 e, h.1) in
                          elim (cases_Bool whole) [
                            | inr e ↦ inl (3, len, of_length refl refl (inr (head, not_from_Decides whole is_whole e)))
                            | inl e ↦
                                elim (by-back h.1) [
                                  | inr h ↦ inl (5, h.0, of_field refl (inr (head, is_whole.0 e, h.2)))
                                  | inl h ↦ inr (head, is_whole.0 e, h.1)
                                ]
                          ])
                    ]
              ])
        ]

    pub staged : Staged answer
    staged =
        record {
          number_3 = λ p. (
            λ h. elim ((when 3 p).0 h) [ of_length _ e c ↦ (e, c) | of_kind e _ _ ↦ absurd (omega arith) | of_field e _ ↦ absurd (omega arith) ],
            λ h. refuses 3 p (of_length refl h.0 h.1),
          );
          number_4 = λ p. (
            λ h. elim ((when 4 p).0 h) [ of_length e _ _ ↦ absurd (omega arith) | of_kind _ e c ↦ (e, c) | of_field e _ ↦ absurd (omega arith) ],
            λ h. refuses 4 p (of_kind refl h.0 h.1),
          );
          number_5 = λ p. (
            λ h. elim ((when 5 p).0 h) [ of_length e _ _ ↦ absurd (omega arith) | of_kind e _ _ ↦ absurd (omega arith) | of_field _ c ↦ c ],
            λ h. refuses 5 p (of_field refl h),
          );
          no_other = λ n p h. elim ((when n p).0 h) [ of_length e _ _ ↦ inl e | of_kind e _ _ ↦ inr (inl e) | of_field e _ ↦ inr (inr e) ];
          accepted = λ b. (λ h. let c = (right b).0 h in (c.0, c.1.0, c.1.1, c.1.2), λ h. (right b).1 (h.0, (h.1, h.2, h.3)));
        }
      where
        when : (n p : ℕ) → Refused answer n p ↔ Cause n p
        when = refused-when packet_number packet_place answer a Cause Right decided refuses accepts

        right : (b : A) → (answer ≡ Ok b) ↔ ((b ≡ a) × Right)
        right = accepted-when packet_number packet_place answer a Cause Right decided refuses accepts
