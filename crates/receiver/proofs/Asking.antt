-- The set that asks for the missing blocks has exactly those.
use Rattle.std.proofs.Common.{◌≡◌, ℕ, zero, suc, ◌+◌, ◌-◌, ◌*◌, ◌/◌, ◌%◌, ◌^◌, ◌<◌, ◌≤◌, Bool, true, false, cond, not, eqb, ◌⊎◌, ◌↔◌, get_or, sum_by, filter, refl, ap, ◌∙◌, subst, inl, inr, add-zero, add-one, arith, pow_mono}
use native.Mathlib.Nat.{zero-div, div-eq_of_lt, add-mul-div_right}
use Rattle.std.specs.List.{range_with_len}
use Rattle.std.proofs.lemmas.Nat.{pow_pos, pow-add, shr_high}
use Rattle.std.proofs.lemmas.Bool.{cases_lt, cases_eq, cases_Bool, eqb-true, eq-eqb, ne_eqb, not-true}
use Rattle.packet.specs.Blocks.{has, asking}
use Rattle.receiver.specs.declared.state.BlockStore.{BlockStore}
use Rattle.receiver.specs.Store.{missing_of}
use Rattle.receiver.specs.Laws.{Missing, AllIn}
use Rattle.receiver.proofs.Storing.{flags-more, doubled}

module _ (p : ℕ → Bool) where
  abbrev flags : ℕ → ℕ
  flags n = sum_by (λ j. 2 ^ j) (filter p (range_with_len 0 n))

  -- One block further, whether it is asked for or not.
  more : (n : ℕ) → ((flags (n + 1) ≡ flags n + 2 ^ n) × (p n ≡ true)) ⊎ ((flags (n + 1) ≡ flags n) × (p n ≡ false))
  more n =
      elim (cases_Bool (p n)) [
        | inl e ↦ inl (flags-more p n true e, e)
        | inr e ↦ inr (flags-more p n false e ∙ add-zero (flags n), e)
      ]

  pub flags-below : (n : ℕ) → flags n < 2 ^ n
  flags-below zero = omega arith
  flags-below (suc n) =
      let below = flags-below n in
      let twice = doubled n in
      subst (λ k. flags k < 2 ^ k) (add-one n) (elim (more n) [ inl m ↦ omega arith | inr m ↦ omega arith ])

  -- A power above j adds nothing to bit j.
  bit-stays : (x n j : ℕ) → j < n → (x + 2 ^ n) / 2 ^ j % 2 ≡ x / 2 ^ j % 2
  bit-stays x n j l =
      let d : n ≡ (n - j - 1) + 1 + j = omega arith in
      let split : 2 ^ n ≡ 2 ^ ((n - j - 1) + 1) * 2 ^ j = ap (λ k. 2 ^ k) d ∙ pow-add 2 ((n - j - 1) + 1) j in
      let quotient = add-mul-div_right x (2 ^ ((n - j - 1) + 1)) (pow_pos j) in
      let even = doubled (n - j - 1) in
      rw (split, quotient) (omega arith)

  bit_is : (n j : ℕ) → j < n → flags n / 2 ^ j % 2 ≡ cond (p j) 1 0
  bit_is zero j l = absurd (omega arith)
  bit_is (suc n) j l =
      let below = flags-below n in
      let before = bit_is n j in
      let Bit : ℕ → Type 0 = λ k. flags k / 2 ^ j % 2 ≡ cond (p j) 1 0 in
      subst Bit (add-one n)
      (elim (cases_eq j n) [
        | inl e ↦
            elim (more n) [
              | inl m ↦ (let sum : flags n + 2 ^ n ≡ 1 * 2 ^ n + flags n = omega arith in rw (m.0, e, m.1, sum, shr_high 1 n (flags n) below))
              | inr m ↦ rw (m.0, e, m.1, div-eq_of_lt below)
            ]
        | inr e ↦
            elim (more n) [
              | inl m ↦ rw (m.0, bit-stays (flags n) n j (omega arith)) (before (omega arith))
              | inr m ↦ rw m.0 (before (omega arith))
            ]
      ])

  -- The set has the blocks below n that are asked for.
  pub asked : (n j : ℕ) → (has (asking (filter p (range_with_len 0 n))) j ≡ true) ↔ ((j < n) × (p j ≡ true))
  asked n j = (
    λ e.
        elim (cases_lt j n) [
          | inl l ↦ (l, elim (cases_Bool (p j)) [ inl q ↦ q | inr q ↦ (let bit = rw q at (bit_is n j l) in absurd (omega (arith, eqb-true _ 1 e))) ])
          | inr l ↦ (let high : flags n / 2 ^ j ≡ 0 = div-eq_of_lt (past j l) in absurd (omega (arith, eqb-true _ 1 e)))
        ],
    λ h. eq-eqb _ 1 (rw h.1 at (bit_is n j h.0)),
  )
    where
      past : (j : ℕ) → n ≤ j → flags n < 2 ^ j
      past j l = let q : 2 ^ n ≤ 2 ^ j = pow_mono l in let below = flags-below n in omega arith

  none-asked : (n : ℕ) → ((j : ℕ) → j < n → p j ≡ false) → flags n ≡ 0
  none-asked zero none = refl
  none-asked (suc n) none =
      let before = none-asked n (λ j l. none j (omega arith)) in
      subst (λ k. flags k ≡ 0) (add-one n) (flags-more p n false (none n (omega arith)) ∙ (omega arith))

module _ (b : BlockStore) (n : ℕ) where
  pub missing-asked : (j : ℕ) → (has (missing_of n b) j ≡ true) ↔ Missing b n j
  missing-asked j =
      let a = asked (λ k. not (get_or b.held k false)) n j in
      (λ e. let h = a.0 e in (h.0, not-true _ h.1), λ h. a.1 (h.0, ap not h.1))

  pub some-missing : (j : ℕ) → Missing b n j → eqb (missing_of n b).0 0 ≡ false
  some-missing j h =
      ne_eqb _ 0 (λ z. let e = eqb-true _ 1 ((missing-asked j).1 h) in let q : (missing_of n b).0 / 2 ^ j % 2 ≡ 0 = rw (z, zero-div (2 ^ j)) in omega arith)

  pub none-missing : AllIn b n → eqb (missing_of n b).0 0 ≡ true
  none-missing all = eq-eqb _ 0 (none-asked (λ k. not (get_or b.held k false)) n (λ j l. ap not (all j l)))
