-- When octets are refused: each number exactly when its condition holds and none that is tried before it does.
use Rattle.std.specs.Prelude.{◌≡◌, ℕ, ◌+◌, ◌-◌, ◌*◌, ◌<◌, ◌≤◌, true, false, ◌≢◌, ◌⊎◌, ◌↔◌, List, length, Ok, Err, Result, slice_index}
use Rattle.fault.specs.declared.PacketFault.{PacketFault}
use Rattle.fault.specs.declared.EndFault.{EndFault}
use Rattle.fault.specs.Faults.{packet_number, packet_place, end_number, end_place}
use Rattle.fragment.specs.Carriers.{Terms}
use Rattle.fragment.specs.Cutting.{Piece}
use Rattle.packet.specs.declared.values.Blocks.{Blocks}
use Rattle.packet.specs.declared.values.Blocks.TheVariants.{All, Only}
use Rattle.packet.specs.declared.values.Header.{Header}
use Rattle.packet.specs.declared.values.Response.{Response}
use Rattle.packet.specs.Octets.{two_at}
use Rattle.packet.specs.Blocks.{has, carried}
use Rattle.packet.specs.Layout.{packet_length}
use Rattle.packet.specs.Reading.{header_at, record_place}
use Rattle.packet.specs.Responses.{response_at}

-- The answer is a refusal with this number and octet place.
abbrev pub Refused : {A : Type 0} → Result A PacketFault → ℕ → ℕ → Type 0
Refused r number place = (fault : PacketFault) × (r ≡ Err fault) × (packet_number fault ≡ number) × (packet_place fault ≡ place)

-- The lowest of the wrong places.
abbrev pub Lowest : (ℕ → Type 0) → ℕ → Type 0
Lowest Wrong place = Wrong place × ((lower : ℕ) → lower < place → Wrong lower → ⊥)

abbrev pub Short : List ℕ → Type 0
Short xs = length xs < 10

abbrev pub OfKind : ℕ → List ℕ → Type 0
OfKind kind xs = slice_index xs 0 ≡ kind

-- Packets

abbrev pub flags_at : List ℕ → ℕ
flags_at xs = slice_index xs 5

abbrev pub records_at : List ℕ → ℕ
records_at xs = slice_index xs 8 + 1

abbrev pub pad_at : List ℕ → ℕ
pad_at xs = slice_index xs 9

-- By its flags a packet is full, with or without the start flag, or selective, without or with it.
abbrev pub Full : List ℕ → Type 0
Full xs = (flags_at xs ≡ 0) ⊎ (flags_at xs ≡ 1)

abbrev pub Selective : List ℕ → Type 0
Selective xs = (flags_at xs ≡ 4) ⊎ (flags_at xs ≡ 5)

-- The wrong fields of a header, each by its first octet.
pub data WrongHeader (t : Terms) (xs : List ℕ) : ℕ → Type 0 where
  other_flags : (Full xs → ⊥) → (Selective xs → ⊥) → WrongHeader t xs 5
  -- selective, or no start, on a carrier without selective retry
  unfit_flags : t.selective ≡ false → flags_at xs ≢ 1 → WrongHeader t xs 5
  high_number : t.most ≤ two_at xs 6 → WrongHeader t xs 6
  many_records : 16 < records_at xs → WrongHeader t xs 8
  long_pad : t.block ≤ pad_at xs → WrongHeader t xs 9
  -- no data octet, or no message octet behind the serial
  no_data : Full xs → records_at xs * t.block < pad_at xs + 4 + 1 → WrongHeader t xs 9
  no_message : flags_at xs ≡ 1 → records_at xs * t.block < pad_at xs + 4 + 5 → WrongHeader t xs 9

abbrev pub number_at : Terms → List ℕ → ℕ → ℕ
number_at t xs i = slice_index xs (record_place t.block i)

abbrev pub frame_at : Terms → List ℕ → ℕ → ℕ
frame_at t xs i = slice_index xs (record_place t.block i + 1)

abbrev pub quality_at : Terms → List ℕ → ℕ → ℕ
quality_at t xs i = slice_index xs (record_place t.block i + 2)

abbrev pub GoodRecord : Terms → List ℕ → ℕ → Type 0
GoodRecord t xs i = quality_at t xs i ≡ 0

-- j is the good record before record i.
abbrev pub GoodBefore : Terms → List ℕ → ℕ → ℕ → Type 0
GoodBefore t xs j i = (j < i) × GoodRecord t xs j × ((between : ℕ) → j < between → between < i → GoodRecord t xs between → ⊥)

-- The wrong fields of records, each by its octet. Of a bad record nothing but the quality is read.
pub data WrongRecord (t : Terms) (xs : List ℕ) : ℕ → Type 0 where
  other_block : (i : ℕ) → i < records_at xs → GoodRecord t xs i → Full xs → number_at t xs i ≢ i → WrongRecord t xs (record_place t.block i)
  high_block : (i : ℕ) → i < records_at xs → GoodRecord t xs i → Selective xs → 15 < number_at t xs i → WrongRecord t xs (record_place t.block i)
  falling_block : (i j : ℕ) → i < records_at xs → GoodRecord t xs i → Selective xs → GoodBefore t xs j i → number_at t xs i ≤ number_at t xs j
      → WrongRecord t xs (record_place t.block i)
  other_frame : (i : ℕ) → i < records_at xs → GoodRecord t xs i → frame_at t xs i ≢ records_at xs - 1 - i → WrongRecord t xs (record_place t.block i + 1)
  other_quality : (i : ℕ) → i < records_at xs → 1 < quality_at t xs i → WrongRecord t xs (record_place t.block i + 2)

-- The octets begin as a packet does.
abbrev pub Headed : Terms → List ℕ → Type 0
Headed t xs = (Short xs → ⊥) × OfKind 1 xs × ((place : ℕ) → WrongHeader t xs place → ⊥)

abbrev pub Whole : Terms → List ℕ → Type 0
Whole t xs = length xs ≡ packet_length t.block (records_at xs)

-- What reading a packet answers, number by number.
pub record PacketRefusals (t : Terms) (xs : List ℕ) (r : Result Header PacketFault) : Type 0 where
  pub number_3 : (place : ℕ) → Refused r 3 place ↔ ((place ≡ length xs) × (Short xs ⊎ (Headed t xs × (Whole t xs → ⊥))))
  pub number_4 : (place : ℕ) → Refused r 4 place ↔ ((place ≡ 0) × ((Short xs → ⊥) × (OfKind 1 xs → ⊥)))
  pub number_5 : (place : ℕ) → Refused r 5 place
      ↔ (((Short xs → ⊥) × OfKind 1 xs × Lowest (WrongHeader t xs) place) ⊎ (Headed t xs × Whole t xs × Lowest (WrongRecord t xs) place))
  pub no_other : (number place : ℕ) → Refused r number place → (number ≡ 3) ⊎ ((number ≡ 4) ⊎ (number ≡ 5))
  pub accepted : (h : Header) → (r ≡ Ok h) ↔ ((h ≡ header_at xs) × Headed t xs × Whole t xs × ((place : ℕ) → WrongRecord t xs place → ⊥))

-- Responses

abbrev pub code_at : List ℕ → ℕ
code_at xs = slice_index xs 5

pub data WrongResponse (t : Terms) (xs : List ℕ) : ℕ → Type 0 where
  other_code : (code_at xs < 1) ⊎ (4 < code_at xs) → WrongResponse t xs 5
  high_number : t.most ≤ two_at xs 6 → WrongResponse t xs 6
  -- block flags without the code that asks for blocks
  flags : code_at xs ≢ 2 → two_at xs 8 ≢ 0 → WrongResponse t xs 8

abbrev pub RightResponse : Terms → List ℕ → Type 0
RightResponse t xs = (Short xs → ⊥) × OfKind 2 xs × ((place : ℕ) → WrongResponse t xs place → ⊥)

-- What reading a response answers, number by number.
pub record ResponseRefusals (t : Terms) (xs : List ℕ) (r : Result Response PacketFault) : Type 0 where
  pub number_3 : (place : ℕ) → Refused r 3 place ↔ ((place ≡ length xs) × (Short xs ⊎ (RightResponse t xs × (length xs ≢ 10))))
  pub number_4 : (place : ℕ) → Refused r 4 place ↔ ((place ≡ 0) × ((Short xs → ⊥) × (OfKind 2 xs → ⊥)))
  pub number_5 : (place : ℕ) → Refused r 5 place ↔ ((Short xs → ⊥) × OfKind 2 xs × Lowest (WrongResponse t xs) place)
  pub no_other : (number place : ℕ) → Refused r number place → (number ≡ 3) ⊎ ((number ≡ 4) ⊎ (number ≡ 5))
  pub accepted : (response : Response) → (r ≡ Ok response) ↔ ((response ≡ response_at xs) × RightResponse t xs × (length xs ≡ 10))

-- Writing

-- The answer of an end is a refusal with this number and octet place.
abbrev pub RefusedAtEnd : {A : Type 0} → Result A EndFault → ℕ → ℕ → Type 0
RefusedAtEnd r number place = (fault : EndFault) × (r ≡ Err fault) × (end_number fault ≡ number) × (end_place fault ≡ place)

-- The blocks of a selective packet can't be asked for: the carrier has no selective retry, or there is no block, or one that the fragment hasn't.
abbrev pub Unaskable : Terms → ℕ → Blocks → Type 0
Unaskable t n All = ⊥
Unaskable t n (Only set) = (t.selective ≡ false) ⊎ (((j : ℕ) → has set j ≡ false) ⊎ ((j : ℕ) × (n ≤ j) × (has set j ≡ true)))

-- The lent message is not of the started length, or the lent buffer is too short for this very packet.
abbrev pub Unlent : Piece → Blocks → List ℕ → List ℕ → Type 0
Unlent f blocks message buffer = (length message ≢ f.message) ⊎ (length buffer < packet_length f.block (length (carried blocks f.blocks)))

-- What writing a packet answers, number by number.
pub record WriteRefusals (t : Terms) (f : Piece) (blocks : Blocks) (message buffer : List ℕ) (r : Result ℕ EndFault) : Type 0 where
  pub number_7 : (place : ℕ) → RefusedAtEnd r 7 place ↔ ((place ≡ 0) × Unlent f blocks message buffer)
  pub number_11 : (place : ℕ) → RefusedAtEnd r 11 place ↔ ((place ≡ 8) × ((Unlent f blocks message buffer → ⊥) × Unaskable t f.blocks blocks))
  pub no_other : (number place : ℕ) → RefusedAtEnd r number place → (number ≡ 7) ⊎ (number ≡ 11)
  pub accepted : (n : ℕ) → (r ≡ Ok n)
      ↔ ((n ≡ packet_length f.block (length (carried blocks f.blocks))) × ((Unlent f blocks message buffer → ⊥) × (Unaskable t f.blocks blocks → ⊥)))
