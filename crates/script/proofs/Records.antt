-- A list of bad records, one more at a time.
use Rattle.std.proofs.Common.{◌≡◌, ℕ, suc, ◌+◌, ◌*◌, ◌^◌, ◌<◌, ◌≤◌, leb, List, Some, None, codes, sym, refl, ap, ◌∙◌, inl, inr, add-one, arith}
use native.Mathlib.Nat.{pow-succ'}
use Rattle.std.proofs.lemmas.Nat.{pow_below}
use Rattle.std.proofs.lemmas.Bool.{cases_lt, cond-true, cond-false, le-leb, lt-leb}
use Rattle.script.specs.Words.{read_on, past, figure_to}
use Rattle.script.specs.Turns.{ascending, records_from}

pub pow_mono : (i j : ℕ) → i ≤ j → 2 ^ i ≤ 2 ^ j
pow_mono i j h =
    elim (cases_lt i j) [
      | inl l ↦ (let below = pow_below i j l in omega arith)
      | inr l ↦ (let e : i ≡ j = omega arith in let same : 2 ^ i ≡ 2 ^ j = ap (λ n. 2 ^ n) e in omega arith)
    ]

-- Room for one record more.
pub record-room : (least bad numbered : ℕ) → bad < 2 ^ least → least ≤ numbered → numbered ≤ 15
    → (bad + 2 ^ numbered < 2 ^ (numbered + 1)) × (bad + 2 ^ numbered < 65536)
record-room least bad numbered below up few =
    let low = pow_mono least numbered up in
    let twice : 2 ^ (numbered + 1) ≡ 2 * 2 ^ numbered = ap (λ n. 2 ^ n) (add-one numbered) ∙ pow-succ' 2 numbered in
    let high = pow_mono (numbered + 1) 16 (omega arith) in
    let most : 2 ^ 16 ≡ 65536 = refl in (omega arith, omega arith)

-- The text goes on with a record.
record-next : (n least bad : ℕ) (text more : List ℕ) → Some more ≡ past (codes " ") text
    → records_from (suc n) least bad text
    ≡ read_on (read_on (figure_to 15 more) (ascending least)) (λ p. records_from n (p.0 + 1) (bad + 2 ^ p.0) p.1)
unfolding records_from
record-next n least bad text more there = rw (← there) refl

-- One record less to read.
pub record-more : (n least bad numbered : ℕ) (text more rest : List ℕ) → Some more ≡ past (codes " ") text → Some (numbered, rest) ≡ figure_to 15 more
    → least ≤ numbered → records_from n (numbered + 1) (bad + 2 ^ numbered) rest ≡ records_from (suc n) least bad text
record-more n least bad numbered text more rest there figure up =
    sym (record-next n least bad text more there
    ∙ ap (λ o. read_on (read_on o (ascending least)) (λ p. records_from n (p.0 + 1) (bad + 2 ^ p.0) p.1)) (sym figure)
    ∙ ap (λ o. read_on o (λ p. records_from n (p.0 + 1) (bad + 2 ^ p.0) p.1)) (cond-true (leb least numbered) (Some (numbered, rest)) None (le-leb least numbered up)))

-- A record that is not above the one before.
pub record-low : (n least bad numbered : ℕ) (text more rest : List ℕ) → Some more ≡ past (codes " ") text → Some (numbered, rest) ≡ figure_to 15 more
    → numbered < least → None ≡ records_from (suc n) least bad text
record-low n least bad numbered text more rest there figure low =
    sym (record-next n least bad text more there
    ∙ ap (λ o. read_on (read_on o (ascending least)) (λ p. records_from n (p.0 + 1) (bad + 2 ^ p.0) p.1)) (sym figure)
    ∙ ap (λ o. read_on o (λ p. records_from n (p.0 + 1) (bad + 2 ^ p.0) p.1)) (cond-false (leb least numbered) (Some (numbered, rest)) None (lt-leb least numbered low)))

-- What is no record.
pub record-none : (n least bad : ℕ) (text more : List ℕ) → Some more ≡ past (codes " ") text → None ≡ figure_to 15 more
    → None ≡ records_from (suc n) least bad text
record-none n least bad text more there figure =
    sym (record-next n least bad text more there
    ∙ ap (λ o. read_on (read_on o (ascending least)) (λ p. records_from n (p.0 + 1) (bad + 2 ^ p.0) p.1)) (sym figure))

-- No record more.
pub records-end : (n least bad : ℕ) (text : List ℕ) → None ≡ past (codes " ") text → Some (bad, text) ≡ records_from (suc n) least bad text
unfolding records_from
records-end n least bad text there = rw (← there) refl

pub records-all : (least bad : ℕ) (text : List ℕ) → Some (bad, text) ≡ records_from 0 least bad text
unfolding records_from
records-all least bad text = refl
