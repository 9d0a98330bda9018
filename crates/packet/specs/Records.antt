-- A packet's records in turn.
use Rattle.std.specs.Prelude.{ℕ, ◌-◌, List, map, Option}
use Rattle.std.specs.List.{range_with_len}
use Rattle.packet.specs.declared.packets.Records.{Records}
use Rattle.packet.specs.Reading.{Block, block_at}
use Rattle.packet.specs.Views.{Seen}

-- n records of a packet, from the i-th on: a good one's block, or none for a bad one.
abbrev pub records_between : Seen → ℕ → ℕ → List (Option Block)
records_between p i n = map (λ j. block_at p.size p.header p.octets j) (range_with_len i n)

-- All of them.
abbrev pub records_in : Seen → List (Option Block)
records_in p = records_between p 0 p.header.records

-- Those still to come.
abbrev pub records_left : Records → List (Option Block)
records_left s = records_between (record { header = s.packet.header; size = s.packet.size; octets = s.packet.octets.now }) s.places.start (s.places.end - s.places.start)
