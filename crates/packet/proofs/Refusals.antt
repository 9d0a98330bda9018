-- Fields that are tested in order, and answers that have one cause.
use Rattle.std.proofs.Common.{◌≡◌, ℕ, ◌≤◌, Bool, true, false, cond, ◌⊎◌, ◌↔◌, List, [], ◌∷◌, Ok, Err, Result, sym, refl, ap, ◌∙◌, subst₂, inl, inr, arith}
use Rattle.std.proofs.lemmas.Bool.{cases_order, both_ways, cond-true, cond-false}
use Rattle.fault.specs.declared.PacketFault.{PacketFault}
use Rattle.fault.specs.declared.PacketFault.TheVariants.{Field}
use Rattle.packet.specs.Refusals.{Lowest}

pub else-true : (b : Bool) → (b ≡ false → ⊥) → b ≡ true
else-true true h = refl
else-true false h = absurd (h refl)

pub else-false : (b : Bool) → (b ≡ true → ⊥) → b ≡ false
else-false true h = absurd (h refl)
else-false false h = refl

abbrev pub None : (ℕ → Type 0) → Type 0
None Wrong = (place : ℕ) → Wrong place → ⊥

lowest-one : (Wrong : ℕ → Type 0) (p q : ℕ) → Lowest Wrong p → Lowest Wrong q → p ≡ q
lowest-one Wrong p q hp hq =
    elim (cases_order p q) [
      | inl e ↦ e
      | inr o ↦ elim o [ inl l ↦ absurd (hq.1 p l hp.0) | inr l ↦ absurd (hp.1 q l hq.0) ]
    ]

-- An answer is another one where no field is wrong, and else names the lowest wrong field.
abbrev pub ByFields : {A : Type 0} → Result A PacketFault → Result A PacketFault → (ℕ → Type 0) → Type 0
ByFields r rest Wrong = ((r ≡ rest) × None Wrong) ⊎ ((place : ℕ) × (r ≡ Err (Field place)) × Lowest Wrong place)

module _ {A : Type 0} (r rest : Result A PacketFault) (Wrong : ℕ → Type 0) (told : ByFields r rest Wrong) where
  pub right-fields : None Wrong → r ≡ rest
  right-fields none = elim told [ inl h ↦ h.0 | inr h ↦ absurd (none h.0 h.2.0) ]

  pub wrong-field : (p : ℕ) → Lowest Wrong p → r ≡ Err (Field p)
  wrong-field p low =
      elim told [ inl h ↦ absurd (h.1 p low.0) | inr h ↦ h.1 ∙ ap (λ q. Err (Field q)) (lowest-one Wrong h.0 p h.2 low) ]

-- A table of fields, each a test and the octet that names it, gives the first that fails.
abbrev pub first_wrong : {A : Type 0} → List (Bool × ℕ) → Result A PacketFault → Result A PacketFault
first_wrong [] rest = rest
first_wrong (t ∷ ts) rest = cond t.0 (first_wrong ts rest) (Err (Field t.1))

abbrev pub Fails : List (Bool × ℕ) → ℕ → Type 0
Fails [] place = ⊥
Fails (t ∷ ts) place = ((place ≡ t.1) × (t.0 ≡ false)) ⊎ Fails ts place

abbrev pub Ascending : ℕ → List (Bool × ℕ) → Type 0
Ascending from [] = Unit {0}
Ascending from (t ∷ ts) = (from ≤ t.1) × Ascending t.1 ts

fails-from : (from : ℕ) (ts : List (Bool × ℕ)) (place : ℕ) → Ascending from ts → Fails ts place → from ≤ place
fails-from from [] place up h = absurd h
fails-from from (t ∷ ts) place up h =
    elim h [ inl e ↦ omega arith | inr e ↦ (let l = fails-from t.1 ts place up.1 e in omega arith) ]

pub by-table : {A : Type 0} (from : ℕ) (ts : List (Bool × ℕ)) (rest : Result A PacketFault) → Ascending from ts → ByFields (first_wrong ts rest) rest (Fails ts)
by-table from [] rest up = inl (refl, λ place h. h)
by-table from (t ∷ ts) rest up = go t.0 refl (by-table t.1 ts rest up.1)
  where
    go : (b : Bool) → t.0 ≡ b → ByFields (first_wrong ts rest) rest (Fails ts) → ByFields (first_wrong (t ∷ ts) rest) rest (Fails (t ∷ ts))
    go false e more =
        inr (t.1, cond-false t.0 _ _ e, (inl (refl, e), λ lower l h. elim h [ inl p ↦ omega arith | inr p ↦ (let f = fails-from t.1 ts lower up.1 p in omega arith) ]))
    go true e more =
        elim more [
          | inl h ↦ inl (cond-true t.0 _ _ e ∙ h.0, λ place w. elim w [ inl p ↦ both_ways t.0 p.1 e | inr p ↦ h.1 place p ])
          | inr h ↦
              inr (h.0, cond-true t.0 _ _ e ∙ h.1, (inr h.2.0, λ lower l w. elim w [ inl p ↦ both_ways t.0 p.1 e | inr p ↦ h.2.1 lower l p ]))
        ]

-- The wrong fields fail their tests, and the lowest that fails is wrong.
pub by-wrong : {A : Type 0} (r rest : Result A PacketFault) (Fail Wrong : ℕ → Type 0) → ((p : ℕ) → Wrong p → Fail p) → ((p : ℕ) → Lowest Fail p → Wrong p)
    → ByFields r rest Fail → ByFields r rest Wrong
by-wrong r rest Fail Wrong fails wrong told =
    elim told [
      | inl h ↦ inl (h.0, λ p w. h.1 p (fails p w))
      | inr h ↦ inr (h.0, h.1, (wrong h.0 h.2, λ lower l w. h.2.1 lower l (fails lower w)))
    ]

-- Every answer has one cause.
module _ {A F : Type 0} (number place : F → ℕ) (r : Result A F) (a : A) (Cause : ℕ → ℕ → Type 0) (Right : Type 0)
    (decided : ((n : ℕ) × (p : ℕ) × Cause n p) ⊎ Right)
    (refuses : (n p : ℕ) → Cause n p → (fault : F) × (r ≡ Err fault) × (number fault ≡ n) × (place fault ≡ p))
    (accepts : Right → r ≡ Ok a) where
  pub refused-when : (n p : ℕ) → ((fault : F) × (r ≡ Err fault) × (number fault ≡ n) × (place fault ≡ p)) ↔ Cause n p
  refused-when n p = (
    λ h.
        elim decided [
          | inl c ↦
              (let g = refuses c.0 c.1 c.2 in
              let en : c.0 ≡ n = cc in
              let ep : c.1 ≡ p = cc in
              subst₂ Cause en ep c.2)
          | inr c ↦ (let e = accepts c in let z : ◌≡◌ {A = ℕ} 0 1 = cc in absurd (omega arith))
        ],
    refuses n p,
  )

  pub accepted-when : (b : A) → (r ≡ Ok b) ↔ ((b ≡ a) × Right)
  accepted-when b = (
    λ h.
        elim decided [
          | inl c ↦ (let g = refuses c.0 c.1 c.2 in let z : ◌≡◌ {A = ℕ} 0 1 = cc in absurd (omega arith))
          | inr c ↦ (let e = accepts c in let same : b ≡ a = cc in (same, c))
        ],
    λ h. accepts h.1 ∙ ap Ok (sym h.0),
  )
