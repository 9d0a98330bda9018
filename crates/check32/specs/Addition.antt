-- The sum check: the octets added modulo 2^32.
use Rattle.std.specs.Prelude.{ℕ, ◌+◌, ◌%◌, ◌^◌, List}
use Rattle.std.specs.List.{fold}

-- one octet more
abbrev pub add_step : ℕ → ℕ → ℕ
add_step total octet = (total + octet) % 2 ^ 32

-- the number of the octets to come, from a total
abbrev pub sum_from : ℕ → List ℕ → ℕ
sum_from total octets = fold add_step total octets

-- the sum number of a list of octets
abbrev pub sum_of : List ℕ → ℕ
sum_of octets = sum_from 0 octets
