-- Sets of blocks as numbers, and the blocks that a packet carries.
use Rattle.std.proofs.Common.{◌≡◌, ℕ, zero, suc, ◌+◌, ◌/◌, ◌%◌, ◌^◌, ◌<◌, ◌≤◌, Bool, true, false, cond, not, eqb, ltb, [], ◌∷◌, ◌++◌, length, filter, sym, ap, ◌∙◌, inl, inr, add-one, arith, pow_mono}
use native.Mathlib.Nat.{div-eq_of_lt}
use Rattle.std.specs.List.{range_with_len}
use Rattle.std.proofs.lemmas.List.{map-id, length-append}
use Rattle.std.proofs.lemmas.Bool.{cases_eq, cases_lt, both_ways, eq-eqb, eqb-false, ltb-true, not-true, and_parts}
use Rattle.std.proofs.lemmas.Nat.{shr-shr}
use Rattle.fragment.specs.Carriers.{Terms}
use Rattle.packet.specs.declared.values.Blocks.{Blocks}
use Rattle.packet.specs.declared.values.Blocks.TheVariants.{All, Only}
use Rattle.packet.specs.Blocks.{has, carried, fitting}
use Rattle.std.proofs.lemmas.List.FromFn.{filter_of_map_range_with_len_more}

-- A set of 16 bits has no block past 15.
pub small-set : (x j : ℕ) → x < 65536 → 16 ≤ j → x < 2 ^ j
small-set x j h l = let p : 2 ^ 16 ≤ 2 ^ j = pow_mono l in omega arith

pub none-high : (x j : ℕ) → x < 65536 → 16 ≤ j → x / 2 ^ j ≡ 0
none-high x j h l = div-eq_of_lt (small-set x j h l)

-- One block further.
pub kept_more : (p : ℕ → Bool) (j : ℕ) → filter p (range_with_len 0 (j + 1)) ≡ filter p (range_with_len 0 j) ++ cond (p j) (j ∷ []) []
kept_more p j =
    ap (filter p) (sym (map-id (range_with_len 0 (j + 1))))
    ∙ filter_of_map_range_with_len_more p (λ x. x) 0 j j (omega arith)
    ∙ ap (λ l. filter p l ++ cond (p j) (j ∷ []) []) (map-id (range_with_len 0 j))

-- A number that is not 0 has a bit.
pub some_bit : (most x : ℕ) → x ≤ most → 0 < x → (j : ℕ) × (x / 2 ^ j % 2 ≡ 1)
some_bit zero x h l = absurd (omega arith)
some_bit (suc most) x h l =
    elim (cases_eq (x % 2) 1) [
      | inl e ↦ (0, omega arith)
      | inr e ↦ (let b = some_bit most (x / 2) (omega arith) (omega arith) in (1 + b.0, ap (λ n. n % 2) (sym (shr-shr x 1 b.0)) ∙ b.1))
    ]

-- It has none past those below 2^n.
pub no-bit : (n x j : ℕ) → x < 2 ^ n → n ≤ j → eqb (x / 2 ^ j % 2) 1 ≡ false
no-bit n x j h l = let p : 2 ^ n ≤ 2 ^ j = pow_mono l in let q : x < 2 ^ j = omega arith in rw (div-eq_of_lt q)

-- A number that passes a test is kept.
kept-some : (p : ℕ → Bool) (n j : ℕ) → j < n → p j ≡ true → 1 ≤ length (filter p (range_with_len 0 n))
kept-some p zero j h e = absurd (omega arith)
kept-some p (suc n) j h e =
    let more = ap (λ k. length (filter p (range_with_len 0 k))) (sym (add-one n)) ∙ ap length (kept_more p n) ∙ length-append (filter p (range_with_len 0 n)) (cond (p n) (n ∷ []) []) in
    elim (cases_lt j n) [
      | inl l ↦ (let some = kept-some p n j l e in omega (arith, more, some))
      | inr l ↦ (let same : n ≡ j = omega arith in let here : p n ≡ true = ap p same ∙ e in let one : length (cond (p n) (n ∷ []) []) ≡ 1 = ap (λ b. length (cond b (n ∷ []) [])) here in omega (arith, more, one))
    ]

-- A packet that fits carries some block.
pub some-carried : (t : Terms) (n : ℕ) (blocks : Blocks) → 1 ≤ n → fitting t n blocks ≡ true → 1 ≤ length (carried blocks n)
some-carried t zero All h e = absurd (omega arith)
some-carried t (suc n) All h e = omega arith
some-carried t n (Only set) h e =
    let p = and_parts t.selective _ e in
    let q = and_parts (not (eqb set.0 0)) (ltb set.0 (2 ^ n)) p.1 in
    let some : set.0 ≡ 0 → ⊥ = eqb-false set.0 0 (not-true (eqb set.0 0) q.0) in
    let b = some_bit set.0 set.0 (omega arith) (omega arith) in
    elim (cases_lt b.0 n) [
      | inl l ↦ kept-some (has set) n b.0 l (eq-eqb _ 1 b.1)
      | inr l ↦ absurd (both_ways _ (no-bit n set.0 b.0 (ltb-true set.0 (2 ^ n) q.1) l) (eq-eqb _ 1 b.1))
    ]
