-- Octets in a lent buffer.
use Rattle.std.specs.Prelude.{ℕ, ◌+◌, ◌*◌, ◌/◌, ◌%◌, List, [], ◌∷◌, ◌++◌, length, take, drop, slice_index}

-- A number of 16 bits as two octets, high octet first.
abbrev pub two_octets : ℕ → List ℕ
two_octets x = x / 256 % 256 ∷ (x % 256 ∷ [])

-- The number that the two octets from a place on are.
abbrev pub two_at : List ℕ → ℕ → ℕ
two_at xs place = slice_index xs place * 256 + slice_index xs (place + 1)

-- A buffer after octets were written into it from a place on: what stood before and after them stays.
abbrev pub over : ℕ → List ℕ → List ℕ → List ℕ
over place xs buffer = take place buffer ++ (xs ++ drop (place + length xs) buffer)
