-- What is known of a packet that was read.
use Rattle.std.specs.Prelude.{◌≡◌, ℕ, ◌<◌, ◌≤◌, List, length, Some}
use Rattle.fragment.specs.Carriers.{Terms}
use Rattle.packet.specs.declared.values.Header.{Header}
use Rattle.packet.specs.Reading.{Block, block_at}

-- Its good blocks can be stored: they have numbers under 16, and all have the carrier's block size.
pub record Storable (size : ℕ) (h : Header) (xs : List ℕ) : Type 0 where
  pub narrow : size ≤ 20
  pub each : (i : ℕ) (b : Block) → block_at size h xs i ≡ Some b → (b.number < 16) × (length b.octets ≡ size)

-- It has few records, blocks of the carrier's size, and they can be stored.
pub record Admitted (t : Terms) (size : ℕ) (h : Header) (xs : List ℕ) : Type 0 where
  pub records : h.records ≤ 16
  pub sized : size ≡ t.block
  pub storable : Storable size h xs
