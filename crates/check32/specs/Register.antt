-- The polynomial's register: a bit, and so an octet, loses nothing.
use Rattle.std.specs.Prelude.{◌≡◌, ℕ, zero, suc, ◌-◌, ◌*◌, ◌%◌, ◌^◌, ◌<◌, ◌≤◌, Bool, true, false, bit_xor, nat_lt, refl}
use Rattle.std.proofs.Common.{sym, ap, ◌∙◌, arith, mod-eq_of_lt, ltb-true, ltb-false}
use Rattle.std.specs.Int.Bits.{xor_assoc, xor_self, xor_zero_r}
use Rattle.std.proofs.lemmas.Nat.{xor_comm, xor_lt, xor_mod}
use Rattle.check32.specs.Division.{generator, bit_step, bit_steps, octet_step}
use Rattle.check32.specs.OneOctet.{Faithful}

xor-cancel : (a b c : ℕ) → bit_xor a c ≡ bit_xor b c → a ≡ b
xor-cancel a b c e = sym (back a) ∙ ap (λ n. bit_xor n c) e ∙ back b
  where
    back : (n : ℕ) → bit_xor (bit_xor n c) c ≡ n
    back n = xor_assoc n c c ∙ ap (λ m. bit_xor n m) (xor_self c) ∙ xor_zero_r n

xor-cancel-left : (a b c : ℕ) → bit_xor c a ≡ bit_xor c b → a ≡ b
xor-cancel-left a b c e = xor-cancel a b c (xor_comm a c ∙ e ∙ xor_comm c b)

-- what leaves at the top: a zero, or a one that adds the generator
pub data Leaves (r : ℕ) : Type 0 where
  nought : r < 2 ^ 31 → bit_step r ≡ 2 * r → Leaves r
  one : 2 ^ 31 ≤ r → bit_step r ≡ bit_xor (2 * (r - 2 ^ 31)) generator → Leaves r

pub leaves : (r : ℕ) → Leaves r
unfolding bit_step
leaves r = go (nat_lt r (2 ^ 31)) refl
  where
    go : (b : Bool) → nat_lt r (2 ^ 31) ≡ b → Leaves r
    go true e = nought (ltb-true r (2 ^ 31) e) (rw e)
    go false e = one (ltb-false r (2 ^ 31) e) (rw e)

-- the generator is odd, so the lowest bit tells what left
odd : (n : ℕ) → bit_xor (2 * n) generator % 2 ≡ 1
odd n = xor_mod (2 * n) generator 1 ∙ ap (λ m. bit_xor m 1) even
  where
    even : 2 * n % 2 ≡ 0
    even = omega arith

pub bit-small : (r : ℕ) → r < 2 ^ 32 → bit_step r < 2 ^ 32
bit-small r h = elim (leaves r) [
  | nought l e ↦ omega arith
  | one l e ↦ rw e (xor_lt 32 (2 * (r - 2 ^ 31)) generator (omega arith) (omega arith))
]

bit-keeps : (r s : ℕ) → r < 2 ^ 32 → s < 2 ^ 32 → bit_step r ≡ bit_step s → r ≡ s
bit-keeps r s h k e = elim (leaves r) [
  | nought l p ↦ elim (leaves s) [
    | nought m q ↦ omega arith
    | one m q ↦
        let o : bit_step s % 2 ≡ 1 = ap (λ n. n % 2) q ∙ odd (s - 2 ^ 31) in
        omega arith
  ]
  | one l p ↦ elim (leaves s) [
    | nought m q ↦
        let o : bit_step r % 2 ≡ 1 = ap (λ n. n % 2) p ∙ odd (r - 2 ^ 31) in
        omega arith
    | one m q ↦
        let t : 2 * (r - 2 ^ 31) ≡ 2 * (s - 2 ^ 31) = xor-cancel _ _ generator (sym p ∙ e ∙ q) in
        omega arith
  ]
]

bits_small : (n r : ℕ) → r < 2 ^ 32 → bit_steps n r < 2 ^ 32
unfolding bit_steps
bits_small zero r h = h
bits_small (suc n) r h = bits_small n (bit_step r) (bit-small r h)

bits-keep : (n r s : ℕ) → r < 2 ^ 32 → s < 2 ^ 32 → bit_steps n r ≡ bit_steps n s → r ≡ s
unfolding bit_steps
bits-keep zero r s h k e = e
bits-keep (suc n) r s h k e =
    bit-keeps r s h k (bits-keep n (bit_step r) (bit_step s) (bit-small r h) (bit-small s k) e)

entered : (r x : ℕ) → r < 2 ^ 32 → bit_xor r (x % 256 * 2 ^ 24) < 2 ^ 32
entered r x h = xor_lt 32 r (x % 256 * 2 ^ 24) h (omega arith)

octet-small : (r x : ℕ) → r < 2 ^ 32 → octet_step r x < 2 ^ 32
unfolding octet_step
octet-small r x h = bits_small 8 _ (entered r x h)

octet-keeps : (r s x : ℕ) → r < 2 ^ 32 → s < 2 ^ 32 → octet_step r x ≡ octet_step s x → r ≡ s
unfolding octet_step
octet-keeps r s x h k e = xor-cancel r s (x % 256 * 2 ^ 24) (bits-keep 8 _ _ (entered r x h) (entered s x k) e)

octet-tells : (r x y : ℕ) → r < 2 ^ 32 → x < 256 → y < 256 → octet_step r x ≡ octet_step r y → x ≡ y
unfolding octet_step
octet-tells r x y h p q e =
    let t : x % 256 * 2 ^ 24 ≡ y % 256 * 2 ^ 24 =
    xor-cancel-left _ _ r (bits-keep 8 _ _ (entered r x h) (entered r y h) e)
    in
    let u : x % 256 ≡ y % 256 = omega arith in
    sym (mod-eq_of_lt p) ∙ u ∙ mod-eq_of_lt q

pub faithful-octet : Faithful octet_step
faithful-octet = record { small = octet-small; keeps = octet-keeps; tells = octet-tells }
