-- The polynomial check: the octets as one row of bits, high bit first, divided by the generator; the register holds the remainder.
use Rattle.std.specs.Prelude.{ℕ, zero, suc, ◌-◌, ◌*◌, ◌%◌, ◌^◌, cond, List, bit_xor, nat_lt}
use Rattle.std.specs.List.{fold}

-- the generator without its highest term
abbrev pub generator : ℕ
generator = 0x04C11DB7

-- the register before the first octet: all ones
abbrev pub all_ones : ℕ
all_ones = 0xFFFFFFFF

-- one bit: the register moves up a place, and a one that leaves at the top adds the generator
unfoldable pub bit_step : ℕ → ℕ
bit_step register = cond (nat_lt register (2 ^ 31)) (2 * register) (bit_xor (2 * (register - 2 ^ 31)) generator)

-- so many bits
unfoldable pub bit_steps : ℕ → ℕ → ℕ
bit_steps zero register = register
bit_steps (suc bits) register = bit_steps bits (bit_step register)

-- one octet enters at the top of the register, and its eight bits leave
unfoldable pub octet_step : ℕ → ℕ → ℕ
octet_step register octet = bit_steps 8 (bit_xor register (octet % 256 * 2 ^ 24))

-- the number of the octets to come, from a register
abbrev pub polynomial_from : ℕ → List ℕ → ℕ
polynomial_from register octets = fold octet_step register octets

-- the polynomial number of a list of octets: the last register as it stands
abbrev pub polynomial_of : List ℕ → ℕ
polynomial_of octets = polynomial_from all_ones octets
