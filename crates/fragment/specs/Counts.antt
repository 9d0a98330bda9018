-- How many parts a number of octets makes.
use Rattle.std.specs.Prelude.{ℕ, ◌+◌, ◌-◌, ◌*◌, ◌/◌, ◌≤◌, cond, Some, None, Option, nat_le}
use Rattle.fragment.specs.Carriers.{Terms}

-- n is the least number of parts of `size` octets that hold `octets` octets.
pub record Least (size octets n : ℕ) : Type 0 where
  pub holds : octets ≤ n * size
  pub least : (m : ℕ) → octets ≤ m * size → n ≤ m

-- That number, worked out.
abbrev pub parts_of : ℕ → ℕ → ℕ
parts_of size octets = (octets + (size - 1)) / size

-- The most data octets of a fragment: 16 blocks, less the 4 octets of the check.
abbrev pub capacity : Terms → ℕ
capacity t = 16 * t.block - 4

-- The blocks of a fragment with so many data octets and the check, or none where they are more than a fragment holds.
abbrev pub blocks_for : Terms → ℕ → Option ℕ
blocks_for t octets = cond (nat_le (octets + 4) (16 * t.block)) (Some (parts_of t.block (octets + 4))) None
