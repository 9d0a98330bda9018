-- Reading what was written gives the octets back.
use Rattle.std.proofs.Common.{◌≡◌, ℕ, suc, ◌+◌, ◌*◌, ◌/◌, ◌%◌, ◌<◌, List, [], ◌∷◌, get_or, Some, refl, ap, arith}
use Rattle.std.proofs.lemmas.Bool.Decides.{nat_tests}
use Rattle.hex_digits.specs.Digits.{digit_of, value_of, hex_of, octet_of, octets_of}

value-digit : (value : ℕ) → value < 16 → value_of (digit_of value) ≡ Some value
value-digit value h = grind (arith, nat_tests)

octet-back : (octet : ℕ) → octet < 256 → octet_of (value_of (digit_of (octet / 16))) (value_of (digit_of (octet % 16))) ≡ Some octet
octet-back octet h =
    let high : octet / 16 < 16 = omega arith in
    let low : octet % 16 < 16 = omega arith in
    let whole : 16 * (octet / 16) + octet % 16 ≡ octet = omega arith in
    rw (value-digit (octet / 16) high, value-digit (octet % 16) low) (ap (λ x. Some x) whole)

pub octets-back : (octets : List ℕ) → ((k : ℕ) → get_or octets k 0 < 256) → octets_of (hex_of octets) ≡ Some octets
octets-back [] h = refl
octets-back (octet ∷ octets) h =
    let rest = octets-back octets (λ k. h (suc k)) in
    rw (octet-back octet (h 0), rest) refl
