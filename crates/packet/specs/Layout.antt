-- The octets of packets and responses.
use Rattle.std.specs.Prelude.{ℕ, ◌+◌, ◌-◌, ◌*◌, Bool, cond, List, [], ◌∷◌, ◌++◌, length, Ok, Err, Result, ◌==◌, nat_le}
use Rattle.fault.specs.declared.PacketFault.TheVariants.{Buffer, Message}
use Rattle.fault.specs.declared.EndFault.{EndFault}
use Rattle.fault.specs.declared.EndFault.TheVariants as end
use Rattle.fragment.specs.Carriers.{Terms}
use Rattle.fragment.specs.Cutting.{Piece}
use Rattle.fragment.specs.Streams.{stream_of}
use Rattle.packet.specs.declared.values.Route.{Route}
use Rattle.packet.specs.declared.values.Kind.{Kind}
use Rattle.packet.specs.declared.values.Kind.TheVariants as kind
use Rattle.packet.specs.declared.values.Quality.{Quality}
use Rattle.packet.specs.declared.values.Quality.TheVariants.{Good, Bad}
use Rattle.packet.specs.declared.values.Header.{Header}
use Rattle.packet.specs.declared.values.Blocks.{Blocks}
use Rattle.packet.specs.Octets.{two_octets, over}
use Rattle.packet.specs.Blocks.{carried, fitting, is_selective}
use Rattle.packet.specs.Images.{image_of, block_of}

abbrev pub kind_number : Kind → ℕ
kind_number kind.Packet = 1
kind_number kind.Response = 2

abbrev pub quality_number : Quality → ℕ
quality_number Good = 0
quality_number Bad = 1

-- The flags octet: 1 for the first fragment, 4 for a selective packet.
abbrev pub flags_of : Bool → Bool → ℕ
flags_of start selective = cond start 1 0 + cond selective 4 0

-- The ten octets before the records; octet 8 is one less than their number.
abbrev pub header_octets : Header → List ℕ
header_octets h =
    kind_number kind.Packet ∷ (two_octets h.route.source ++ (two_octets h.route.destination
    ++ (flags_of h.start h.selective ∷ (two_octets h.number ++ ((h.records - 1) ∷ (h.pad ∷ []))))))

-- A good record: block number, frame number, quality, block.
abbrev pub record_octets : ℕ → ℕ → List ℕ → List ℕ
record_octets number frame block = number ∷ (frame ∷ (quality_number Good ∷ block))

-- The records of some blocks of an image; the frame number says how many records follow.
abbrev pub records_octets : ℕ → List ℕ → List ℕ → List ℕ
records_octets size image [] = []
records_octets size image (j ∷ js) = record_octets j (length js) (block_of size image j) ++ records_octets size image js

-- The header of a packet of these blocks of a fragment.
abbrev pub header_for : Route → Piece → Blocks → Header
header_for route f blocks =
    record {
      route = route;
      start = f.start;
      selective = is_selective blocks;
      number = f.number;
      records = length (carried blocks f.blocks);
      pad = f.pad;
    }

-- The packet of these blocks of a fragment of a stream.
abbrev pub packet_octets : (List ℕ → ℕ) → Route → Piece → List ℕ → Blocks → List ℕ
packet_octets number route f stream blocks =
    header_octets (header_for route f blocks) ++ records_octets f.block (image_of number f stream) (carried blocks f.blocks)

-- The octets of a packet with k records of blocks of this size.
abbrev pub packet_length : ℕ → ℕ → ℕ
packet_length size k = 10 + k * (size + 3)

-- What writing leaves: how many octets were written, or why not, and the buffer.
pub record Written (E : Type 0) : Type 0 where
  pub answer : Result ℕ E
  pub buffer : List ℕ

abbrev pub written : {E : Type 0} → Result ℕ E → List ℕ → Written E
written answer buffer = record { answer = answer; buffer = buffer }

abbrev pub refused_by : {E : Type 0} → E → List ℕ → Written E
refused_by fault buffer = written (Err fault) buffer

-- Writing refuses a message of another length and a buffer too short for this very packet, and then blocks that can't be asked for.
abbrev pub written_of : Terms → (List ℕ → ℕ) → Route → ℕ → Piece → Blocks → List ℕ → List ℕ → Written EndFault
written_of t number route serial f blocks message buffer =
    cond (length message == f.message)
    (cond (nat_le (packet_length f.block (length (carried blocks f.blocks))) (length buffer))
    (cond (fitting t f.blocks blocks)
    (written
    (Ok (packet_length f.block (length (carried blocks f.blocks))))
    (over 0 (packet_octets number route f (stream_of serial message) blocks) buffer))
    (refused_by end.Blocks buffer))
    (refused_by (end.Packet Buffer) buffer))
    (refused_by (end.Packet Message) buffer)
