-- What the code's read packets and blocks are, as values.
use Rattle.std.specs.Prelude.{ℕ, List, Some, None, Ok, Err, Option, Result}
use Rattle.fault.specs.declared.PacketFault.{PacketFault}
use Rattle.fragment.specs.Carriers.{Terms}
use Rattle.packet.specs.declared.packets.Block.{Block}
use Rattle.packet.specs.declared.packets.Packet.{Packet}
use Rattle.packet.specs.declared.values.Header.{Header}
use Rattle.packet.specs.Reading as reading
use Rattle.packet.specs.Reading.{and_then, read_of}

-- A packet that was read: its header, octets in each block, and its octets.
pub record Seen : Type 0 where
  pub header : Header
  pub size : ℕ
  pub octets : List ℕ

-- A packet that was read, as a value.
abbrev pub seen_by : Packet → Seen
seen_by p = record { header = p.header; size = p.size; octets = p.octets.now }

-- What reading these octets gives.
abbrev pub seen_of : Terms → List ℕ → Result Seen PacketFault
seen_of t xs = and_then (read_of t xs) (λ h. Ok (record { header = h; size = t.block; octets = xs }))

abbrev pub seen_in : Result Packet PacketFault → Result Seen PacketFault
seen_in (Ok p) = Ok (seen_by p)
seen_in (Err fault) = Err fault

-- The header of the packet that was read.
abbrev pub header_in : Result Packet PacketFault → Result Header PacketFault
header_in (Ok p) = Ok p.header
header_in (Err fault) = Err fault

abbrev pub block_in : Option Block → Option reading.Block
block_in None = None
block_in (Some b) = Some (record { number = b.number; octets = b.octets.now })
