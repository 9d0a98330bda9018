-- The worked figures, as one table and one statement over it.
use Rattle.std.specs.Prelude.{◌≡◌, ℕ, ◌+◌, List, [], ◌∷◌, map, length, replicate, Some, slice_index}
use Rattle.std.specs.List.{range_with_len, AllByRecursion}
use Rattle.check32.specs.Addition.{sum_of}
use Rattle.fragment.specs.Carriers.{Terms, data_call, voice_along_call}
use Rattle.fragment.specs.Cutting.{piece_at}
use Rattle.fragment.specs.Streams.{stream_of}
use Rattle.packet.specs.declared.values.Blocks.TheVariants.{Only}
use Rattle.packet.specs.Blocks.{asking}
use Rattle.packet.specs.Layout.{packet_octets, packet_length}
use Rattle.packet.specs.Reading.{record_place}
use Rattle.figures.specs.Shapes.{shape_of}

pub data Figure : Type 0 where
  -- on a carrier a message of m octets makes so many fragments, the last with d data octets, n blocks and p pad octets
  cuts : (carrier : Terms) (m fragments d n p : ℕ) → Figure
  -- the longest packet of a carrier has so many octets
  longest : (carrier : Terms) (octets : ℕ) → Figure
  -- asking for these blocks has these flags, and the selective packet's records then have these frame numbers
  asks : (blocks : List ℕ) (flags : ℕ) (frames : List ℕ) → Figure

-- A selective data-call packet of some blocks of a message of 60 octets, which has four blocks.
abbrev pub selective_packet : List ℕ → List ℕ
selective_packet blocks =
    packet_octets sum_of (record { source = 258; destination = 772 }) (piece_at data_call 60 0) (stream_of 7 (replicate 60 65)) (Only (asking blocks))

abbrev pub Stands : Figure → Type 0
Stands (cuts carrier m fragments d n p) = shape_of carrier m ≡ Some (record { fragments = fragments; octets = d; blocks = n; pad = p })
Stands (longest carrier octets) = packet_length carrier.block 16 ≡ octets
Stands (asks blocks flags frames) =
    ((asking blocks).0 ≡ flags) × (map (λ i. slice_index (selective_packet blocks) (record_place 20 i + 1)) (range_with_len 0 (length blocks)) ≡ frames)

abbrev pub table : List Figure
table =
    cuts data_call 1 1 5 1 11
    ∷ (cuts data_call 12 1 16 1 0
    ∷ (cuts data_call 13 1 17 2 19
    ∷ (cuts data_call 312 1 316 16 0
    ∷ (cuts data_call 313 2 1 1 15
    ∷ (cuts voice_along_call 1 1 5 2 7
    ∷ (cuts voice_along_call 120 1 124 16 0
    ∷ (longest data_call 378
    ∷ (longest voice_along_call 186
    ∷ (asks (1 ∷ (3 ∷ [])) 10 (1 ∷ (0 ∷ []))
    ∷ [])))))))))

abbrev pub FiguresStand : Type 0
FiguresStand = AllByRecursion Stands table
