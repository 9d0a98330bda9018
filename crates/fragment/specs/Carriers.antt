-- What a carrier fixes, and the two carriers.
use Rattle.std.specs.Prelude.{◌≡◌, ℕ, ◌≤◌, Bool, true, false}

-- Octets in a block, the greatest number of fragments, and whether single blocks can be asked for again.
pub record Terms : Type 0 where
  pub block : ℕ
  pub most : ℕ
  pub selective : Bool

-- What holds of every carrier: a panel keeps blocks of at most 20 octets, a fragment's number has 9 bits,
-- and a message is one fragment where no block can be asked for again.
pub record Sound (t : Terms) : Type 0 where
  pub some_octets : 1 ≤ t.block
  pub few_octets : t.block ≤ 20
  pub some_fragments : 1 ≤ t.most
  pub few_fragments : t.most ≤ 512
  pub single : t.selective ≡ false → t.most ≡ 1

abbrev pub data_call : Terms
data_call = record { block = 20; most = 512; selective = true }

abbrev pub voice_along_call : Terms
voice_along_call = record { block = 8; most = 1; selective = false }
