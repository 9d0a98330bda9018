-- Sets of blocks, and which blocks a packet carries.
use Rattle.std.specs.Prelude.{ℕ, ◌/◌, ◌%◌, ◌^◌, Bool, true, false, not, ◌&&◌, List, sum_by, filter, ◌==◌, nat_lt}
use Rattle.std.specs.List.{range_with_len}
use Rattle.fragment.specs.Carriers.{Terms}
use Rattle.packet.specs.declared.values.BlockSet.{BlockSet}
use Rattle.packet.specs.declared.values.Blocks.{Blocks}
use Rattle.packet.specs.declared.values.Blocks.TheVariants.{All, Only}

-- Whether a set has block j: 2^j is in its number.
abbrev pub has : BlockSet → ℕ → Bool
has set j = (set.0 / 2 ^ j % 2) == 1

-- The set that asks for these blocks.
abbrev pub asking : List ℕ → BlockSet
asking js = record { 0 = sum_by (λ j. 2 ^ j) js }

-- Whether a packet of these blocks carries block j.
abbrev pub carries : Blocks → ℕ → Bool
carries All j = true
carries (Only set) j = has set j

-- The blocks that it carries of a fragment with n blocks, ascending.
abbrev pub carried : Blocks → ℕ → List ℕ
carried blocks n = filter (carries blocks) (range_with_len 0 n)

-- A set that can be asked for: the carrier has selective retry, and the set has some block, and none past the last.
abbrev pub askable : Terms → ℕ → BlockSet → Bool
askable t n set = t.selective && (not (set.0 == 0) && nat_lt set.0 (2 ^ n))

abbrev pub fitting : Terms → ℕ → Blocks → Bool
fitting t n All = true
fitting t n (Only set) = askable t n set

abbrev pub is_selective : Blocks → Bool
is_selective All = false
is_selective (Only set) = true
