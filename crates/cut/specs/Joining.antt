-- What joining packets gives: the data of each, and the serial and message of all.
use Rattle.std.specs.Prelude.{ℕ, ◌+◌, ◌-◌, Bool, false, cond, ◌&&◌, List, [], length, take, drop, Some, None, Ok, Err, Option, Result, ◌==◌, nat_le}
use Rattle.std.specs.List.{flat_map, range_with_len}
use Rattle.std.specs.Str.{bytes_eq}
use Rattle.fault.specs.declared.PacketFault.{PacketFault}
use Rattle.fragment.specs.Carriers.{Terms}
use Rattle.fragment.specs.Streams.{Content, four_at}
use Rattle.packet.specs.Reading.{Block, block_at}
use Rattle.packet.specs.Views.{Seen, seen_of}

abbrev pub octets_in : Option Block → List ℕ
octets_in None = []
octets_in (Some block) = block.octets

-- The blocks of a packet's records, joined; a bad record has none.
abbrev pub image_of : Seen → List ℕ
image_of p = flat_map (λ i. octets_in (block_at p.size p.header p.octets i)) (range_with_len 0 p.header.records)

-- The data of an image: all but pad and check, or none where the check is wrong.
abbrev pub data_of : (List ℕ → ℕ) → List ℕ → ℕ → Option (List ℕ)
data_of number image pad =
    cond (nat_le (pad + 4) (length image))
    (cond (four_at (drop (length image - 4) image) == number (take (length image - 4) image))
    (Some (take (length image - 4 - pad) image))
    None)
    None

abbrev pub data_seen : (List ℕ → ℕ) → Result Seen PacketFault → Option (List ℕ)
data_seen number (Ok p) = data_of number (image_of p) p.header.pad
data_seen number (Err fault) = None

-- The data of a packet, or none where the octets are no packet or its check is wrong.
abbrev pub packet_data : Terms → (List ℕ → ℕ) → List ℕ → Option (List ℕ)
packet_data t number octets = data_seen number (seen_of t octets)

-- Whether a stream holds this serial and this message.
abbrev pub holding : Option Content → ℕ → List ℕ → Bool
holding None serial message = false
holding (Some c) serial message = c.serial == serial && bytes_eq c.message message
