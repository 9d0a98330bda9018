-- Eight bits at once: the lower octets of the register only move up, and the top one leaves its entry of the table behind.
use Rattle.std.proofs.Common.{◌≡◌, ℕ, zero, suc, ◌+◌, ◌-◌, ◌*◌, ◌/◌, ◌%◌, ◌^◌, ◌<◌, ◌≤◌, sym, ap, ◌∙◌, ap₂, mul_assoc, mul_comm, le-mul_of_pos_right, arith, lit<, pow_pos}
use lib.Bits.{bit_xor, xor_assoc, xor_comm, xor_zero_r, xor_lt, xor_block, xor_shifted}
use native.Mathlib.Nat.{pow-succ'}
use Rattle.check32.specs.Division.{generator, bit_step, bit_steps, octet_step}
use Rattle.check32.specs.Register.{nought, one, leaves, bit-small}

xor-twice : (a b : ℕ) → bit_xor (2 * a) (2 * b) ≡ 2 * bit_xor a b
xor-twice a b =
    let e : 2 * a ≡ a * 2 ^ 1 + 0 = omega arith in
    let f : 2 * b ≡ b * 2 ^ 1 + 0 = omega arith in
    let g : bit_xor a b * 2 ^ 1 + bit_xor 0 0 ≡ 2 * bit_xor a b = omega arith in
    rw (e, f) (xor_block 1 a b 0 0 (lit< tt) (lit< tt) ∙ g)

xor-swap : (a b c : ℕ) → bit_xor (bit_xor a b) c ≡ bit_xor (bit_xor a c) b
xor-swap a b c = xor_assoc a b c ∙ ap (bit_xor a) (xor_comm b c) ∙ sym (xor_assoc a c b)

xor-below-top : (m l : ℕ) → m < 2 ^ 31 → l < 2 ^ 31 → bit_xor (2 ^ 31 + m) l ≡ 2 ^ 31 + bit_xor m l
xor-below-top m l h k =
    let s : 2 ^ 31 + m ≡ 1 * 2 ^ 31 + m = omega arith in
    let t : l ≡ 0 * 2 ^ 31 + l = omega arith in
    let g : bit_xor 1 0 * 2 ^ 31 + bit_xor m l ≡ 2 ^ 31 + bit_xor m l = omega arith in
    ap₂ bit_xor s t ∙ xor_block 31 1 0 m l h k ∙ g

-- a bit, where the second part has no one at the top
bit-apart : (a l : ℕ) → a < 2 ^ 32 → l < 2 ^ 31 → bit_step (bit_xor a l) ≡ bit_xor (bit_step a) (2 * l)
bit-apart a l h k = elim (leaves a) [
  | nought p e ↦
      (let small : bit_xor a l < 2 ^ 31 = xor_lt 31 a l p k in
      elim (leaves (bit_xor a l)) [
        | nought q f ↦ f ∙ sym (xor-twice a l) ∙ ap (λ n. bit_xor n (2 * l)) (sym e)
        | one q f ↦ absurd (omega arith)
      ])
  | one p e ↦
      (let m : ℕ = a - 2 ^ 31 in
      let s : a ≡ 2 ^ 31 + m = omega arith in
      let b : bit_xor a l ≡ 2 ^ 31 + bit_xor m l = ap (λ n. bit_xor n l) s ∙ xor-below-top m l (omega arith) k in
      elim (leaves (bit_xor a l)) [
        | nought q f ↦ absurd (omega arith)
        | one q f ↦
            (let d : bit_xor a l - 2 ^ 31 ≡ bit_xor m l = omega arith in
            f ∙ ap (λ n. bit_xor (2 * n) generator) d ∙ ap (λ n. bit_xor n generator) (sym (xor-twice m l))
            ∙ xor-swap (2 * m) (2 * l) generator ∙ ap (λ n. bit_xor n (2 * l)) (sym e))
      ])
]

-- so many bits, where the second part does not reach the top
bits-apart : (n a l : ℕ) → a < 2 ^ 32 → l * 2 ^ n < 2 ^ 32 → bit_steps n (bit_xor a l) ≡ bit_xor (bit_steps n a) (l * 2 ^ n)
unfolding bit_steps
bits-apart zero a l h k =
    let e : l ≡ l * 1 = omega arith in
    ap (bit_xor a) e
bits-apart (suc n) a l h k =
    let e : 2 * l * 2 ^ n ≡ l * 2 ^ suc n =
    ap (λ m. m * 2 ^ n) (mul_comm 2 l) ∙ mul_assoc l 2 (2 ^ n) ∙ ap (λ m. l * m) (sym (pow-succ' 2 n))
    in
    let p : 2 * l ≤ 2 * l * 2 ^ n = le-mul_of_pos_right (2 * l) (pow_pos n) in
    ap (bit_steps n) (bit-apart a l h (omega arith)) ∙ bits-apart n (bit_step a) (2 * l) (bit-small a h) (omega arith)
    ∙ ap (bit_xor (bit_steps n (bit_step a))) e

pub octet-by-top :
    (r x : ℕ) → r < 2 ^ 32 → x < 256
    → bit_xor (r * 2 ^ 8 % 2 ^ 32) (bit_steps 8 (bit_xor (r / 2 ^ 24) x * 2 ^ 24)) ≡ octet_step r x
unfolding octet_step
octet-by-top r x h k =
    let l : ℕ = r % 2 ^ 24 in
    let i : ℕ = bit_xor (r / 2 ^ 24) x in
    let hl : r % 2 ^ 24 < 2 ^ 24 = omega arith in
    let hi : bit_xor (r / 2 ^ 24) x < 256 = xor_lt 8 (r / 2 ^ 24) x (omega arith) k in
    let e : r ≡ r / 2 ^ 24 * 2 ^ 24 + r % 2 ^ 24 = omega arith in
    let f : x % 256 * 2 ^ 24 ≡ x * 2 ^ 24 + 0 = omega arith in
    let g : bit_xor r (x % 256 * 2 ^ 24) ≡ bit_xor (i * 2 ^ 24) l =
    ap₂ bit_xor e f ∙ xor_block 24 (r / 2 ^ 24) x l 0 hl (lit< tt) ∙ ap (λ n. i * 2 ^ 24 + n) (xor_zero_r l)
    ∙ sym (xor_shifted i 24 l hl)
    in
    let m : r * 2 ^ 8 % 2 ^ 32 ≡ l * 2 ^ 8 = omega arith in
    ap (λ n. bit_xor n (bit_steps 8 (i * 2 ^ 24))) m ∙ xor_comm (l * 2 ^ 8) (bit_steps 8 (i * 2 ^ 24)) ∙ sym (bits-apart 8 (i * 2 ^ 24) l (omega arith) (omega arith))
    ∙ ap (bit_steps 8) (sym g)
