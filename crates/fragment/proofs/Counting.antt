-- The least number of parts, and where parts begin.
use Rattle.std.proofs.Common.{◌≡◌, ℕ, zero, suc, ◌+◌, ◌-◌, ◌*◌, ◌/◌, ◌%◌, ◌<◌, ◌≤◌, min, inl, inr, mod-lt, suc-mul, div-lt_iff_lt-mul, add-mul, mul-le-mul, le_refl, div-add-mod', zero-mul, arith}
use Rattle.std.proofs.lemmas.Bool.{cases_lt}
use Rattle.std.proofs.lemmas.Grind.{div_ceil_times}
use Rattle.fragment.specs.Carriers.{Terms, Sound}
use Rattle.fragment.specs.Counts.{parts_of, Least, capacity}
use Rattle.fragment.specs.Cutting.{greatest}

pub parts-least : (size octets : ℕ) → 1 ≤ size → Least size octets (parts_of size octets)
parts-least size octets h =
    let e = div-add-mod' (octets + (size - 1)) size in
    let r = mod-lt (octets + (size - 1)) {m = size} h in
    record {
      holds = omega arith;
      least = λ m l.
          let x : octets + (size - 1) < (m + 1) * size = let a = add-mul m 1 size in omega arith in
          let y : (octets + (size - 1)) / size < m + 1 = (div-lt_iff_lt-mul h).1 x in
          omega arith;
    }

-- It is the quotient, rounded up.
pub rounded-up : (size octets : ℕ) → 1 ≤ size → octets / size + min 1 (octets % size) ≡ parts_of size octets
rounded-up size octets h =
    let up : ℕ = octets / size + min 1 (octets % size) in
    let parts : ℕ = parts_of size octets in
    let near = div_ceil_times octets size h in
    let l = parts-least size octets h in
    let least : parts ≤ up = l.least up near.0 in
    let more : up < parts + 1 = elim (cases_lt up (parts + 1)) [
      | inl p ↦ p
      | inr p ↦ (let past = mul-le-mul p (le_refl size) in let e = add-mul parts 1 size in absurd (omega (arith, l.holds)))
    ] in
    omega arith

-- Each of the parts begins before the octets end.
pub part-begins : {size octets n : ℕ} → Least size octets n → (index : ℕ) → index < n → index * size < octets
part-begins {size = size} {octets = octets} {n = n} l index h =
    elim (cases_lt (index * size) octets) [ inl p ↦ p | inr p ↦ let q = l.least index p in absurd (omega arith) ]

-- Less than one part is to spare.
pub part-spares : {size octets n : ℕ} → Least size octets n → 1 ≤ octets → n * size < octets + size
part-spares {size = size} {octets = octets} {n = zero} l h = let z : zero * size ≡ 0 = zero-mul size in omega arith
part-spares {size = size} {octets = octets} {n = suc n} l h = let b = part-begins l n (omega arith) in omega (arith, suc-mul n size)

-- Some octets make some part.
pub parts-some : {size octets n : ℕ} → Least size octets n → 1 ≤ octets → 1 ≤ n
parts-some {size = size} {octets = octets} {n = n} l h = some n l.holds
  where
    some : (k : ℕ) → octets ≤ k * size → 1 ≤ k
    some zero p = let z : zero * size ≡ 0 = zero-mul size in omega arith
    some (suc k) p = omega arith

-- No carrier's longest message is longer than the data call's.
pub greatest-bound : (t : Terms) → Sound t → greatest t ≤ 161788
greatest-bound t s =
    let octets : capacity t ≤ 316 = let h = s.few_octets in omega arith in
    omega (arith, mul-le-mul s.few_fragments octets)
