-- Octets as lowercase hexadecimal digits in ASCII, two each, the high one first.
use Rattle.std.specs.Prelude.{ℕ, ◌+◌, ◌-◌, ◌*◌, ◌/◌, ◌%◌, cond, ◌&&◌, List, [], ◌∷◌, Some, None, Option, nat_le, nat_lt}

-- The digit of a number below 16: from '0' at 48 on, then from 'a' at 97 on.
abbrev pub digit_of : ℕ → ℕ
digit_of value = cond (nat_lt value 10) (48 + value) (87 + value)

-- The number of a digit, or none where it is no lowercase digit.
abbrev pub value_of : ℕ → Option ℕ
value_of digit =
    cond (nat_le 48 digit && nat_le digit 57) (Some (digit - 48)) (cond (nat_le 97 digit && nat_le digit 102) (Some (digit - 87)) None)

abbrev pub hex_of : List ℕ → List ℕ
hex_of [] = []
hex_of (octet ∷ octets) = digit_of (octet / 16) ∷ (digit_of (octet % 16) ∷ hex_of octets)

-- The octet of two numbers.
abbrev pub octet_of : Option ℕ → Option ℕ → Option ℕ
octet_of (Some high) (Some low) = Some (16 * high + low)
octet_of (Some high) None = None
octet_of None low = None

-- An octet before others.
abbrev pub before : Option ℕ → Option (List ℕ) → Option (List ℕ)
before (Some octet) (Some octets) = Some (octet ∷ octets)
before (Some octet) None = None
before None octets = None

-- The octets that digits stand for, or none where they are an odd number of digits or have another character among them.
abbrev pub octets_of : List ℕ → Option (List ℕ)
octets_of [] = Some []
octets_of (high ∷ []) = None
octets_of (high ∷ (low ∷ digits)) = before (octet_of (value_of high) (value_of low)) (octets_of digits)
