-- What the receiver's calls keep to, in the words of the protocol.
use Rattle.std.specs.Prelude.{◌≡◌, ℕ, ◌+◌, ◌-◌, ◌*◌, ◌<◌, ◌≤◌, true, false, ◌≢◌, ◌⊎◌, ◌↔◌, List, length, take, drop, Some, None, Ok, Err, Result, slice_index_or}
use Rattle.fault.specs.declared.EndFault.{EndFault}
use Rattle.fragment.specs.Carriers.{Terms}
use Rattle.fragment.specs.Cutting.{Piece, piece_at, fragments_of}
use Rattle.fragment.specs.Laws.{data_in}
use Rattle.fragment.specs.Streams.{four_at, split_of, stream_of}
use Rattle.packet.specs.declared.values.Header.{Header}
use Rattle.packet.specs.declared.values.Route.{Route}
use Rattle.packet.specs.declared.values.BlockSet.{BlockSet}
use Rattle.packet.specs.declared.values.Code.TheVariants.{Ack, AckSelective, FullRetry, OutOfStep}
use Rattle.packet.specs.Octets.{over}
use Rattle.packet.specs.Blocks.{has}
use Rattle.packet.specs.Images.{image_of, block_of}
use Rattle.packet.specs.Reading.{record_place, read_of}
use Rattle.packet.specs.Refusals.{Refused, RefusedAtEnd, records_at, number_at, GoodRecord}
use Rattle.receiver.specs.declared.state.BlockStore.{BlockStore}
use Rattle.receiver.specs.declared.state.Gathering.{Gathering}
use Rattle.receiver.specs.declared.state.Phase.{Phase}
use Rattle.receiver.specs.declared.state.Phase.TheVariants.{Idle, Collecting, Waiting, Done}
use Rattle.receiver.specs.declared.state.Last.{Last}
use Rattle.receiver.specs.declared.state.State.{State}
use Rattle.receiver.specs.declared.state.Heard.{Heard}
use Rattle.receiver.specs.Store.{anew, filled_by, is_right}
use Rattle.receiver.specs.Rows.{idle, gathering}
use Rattle.receiver.specs.Fill.{After, after, answered, moved, serial_in, octets_of, finished, heard_of}
use Rattle.receiver.specs.Calls.{part_of}

-- Rows

-- A full packet without start that a phase expects: for the fragment that is being collected, for the one that is in, or for the next.
abbrev pub Expects : Phase → Header → Type 0
Expects Idle h = ⊥
Expects (Collecting g) h = (h.number ≡ g.number) × (g.start ≡ false)
Expects (Waiting v) h = (h.number ≡ v) ⊎ (h.number + 1 ≡ v)
Expects Done h = h.number ≡ 0

-- A selective packet that a phase expects: for the fragment that is being collected, or for the one that is in, whatever its start flag.
abbrev pub ExpectsSelective : Phase → Header → Type 0
ExpectsSelective Idle h = ⊥
ExpectsSelective (Collecting g) h = (h.number ≡ g.number) × (h.start ≡ g.start)
ExpectsSelective (Waiting v) h = h.number ≡ v
ExpectsSelective Done h = h.number ≡ 0

-- A fragment is collected in this block store, behind so many octets of its message: the good blocks of the packet go in.
abbrev pub fills : Terms → (List ℕ → ℕ) → State → List ℕ → Header → List ℕ → Gathering → BlockStore → ℕ → After
fills t number s store h xs g blocks octets =
    finished t number (record { phase = Collecting g; blocks = filled_by t.block h xs blocks; filled = octets; last = s.last }) store g

-- What a packet that is not refused gets and leaves, by phase.
pub record PacketRows (t : Terms) (number : List ℕ → ℕ) (s : State) (store : List ℕ) (h : Header) (xs : List ℕ) : Type 0 where
  -- full with start: both stores are made anew
  pub full_start : h.selective ≡ false → h.start ≡ true → heard_of t number s store h xs ≡ fills t number s store h xs (gathering true h) (anew s.blocks) 0
  -- full without start
  pub full_same : h.selective ≡ false → h.start ≡ false → (g : Gathering) → s.phase ≡ Collecting g → h.number ≡ g.number → g.start ≡ false
      → h.records ≡ g.blocks → h.pad ≡ g.pad → heard_of t number s store h xs ≡ fills t number s store h xs (gathering false h) s.blocks s.filled
  pub full_other : h.selective ≡ false → h.start ≡ false → (g : Gathering) → s.phase ≡ Collecting g → h.number ≡ g.number → g.start ≡ false
      → ((h.records ≡ g.blocks) × (h.pad ≡ g.pad) → ⊥) → heard_of t number s store h xs ≡ fills t number s store h xs (gathering false h) (anew s.blocks) s.filled
  pub full_again : h.selective ≡ false → h.start ≡ false → s.phase ≡ Waiting h.number → heard_of t number s store h xs ≡ answered s store Ack
  pub full_done : h.selective ≡ false → h.start ≡ false → s.phase ≡ Done → h.number ≡ 0 → heard_of t number s store h xs ≡ answered s store Ack
  pub full_next : h.selective ≡ false → h.start ≡ false → s.phase ≡ Waiting (h.number + 1)
      → heard_of t number s store h xs ≡ fills t number s store h xs (gathering false h) (anew s.blocks) s.filled
  pub full_unexpected : h.selective ≡ false → h.start ≡ false → (Expects s.phase h → ⊥) → heard_of t number s store h xs ≡ answered (idle s) store OutOfStep
  -- selective
  pub selective_same : h.selective ≡ true → (g : Gathering) → s.phase ≡ Collecting g → h.number ≡ g.number → h.start ≡ g.start
      → heard_of t number s store h xs ≡ fills t number s store h xs g s.blocks s.filled
  pub selective_again : h.selective ≡ true → s.phase ≡ Waiting h.number → heard_of t number s store h xs ≡ answered s store Ack
  pub selective_done : h.selective ≡ true → s.phase ≡ Done → h.number ≡ 0 → heard_of t number s store h xs ≡ answered s store Ack
  pub selective_start : h.selective ≡ true → h.start ≡ true → (ExpectsSelective s.phase h → ⊥) → heard_of t number s store h xs ≡ answered s store FullRetry
  pub selective_unexpected : h.selective ≡ true → h.start ≡ false → (ExpectsSelective s.phase h → ⊥) → heard_of t number s store h xs ≡ answered (idle s) store OutOfStep

-- Block j of n is missing, or all are in.
abbrev pub Missing : BlockStore → ℕ → ℕ → Type 0
Missing b n j = (j < n) × (slice_index_or b.held j false ≡ false)

abbrev pub AllIn : BlockStore → ℕ → Type 0
AllIn b n = (j : ℕ) → j < n → slice_index_or b.held j false ≡ true

-- The last four octets of n blocks are the check of those before them.
abbrev pub Checked : Terms → (List ℕ → ℕ) → BlockStore → ℕ → Type 0
Checked t number b n = number (take (n * t.block - 4) b.octets) ≡ four_at (drop (n * t.block - 4) b.octets)

-- The message store, and its octets, once the data of the fragment stands behind what it held.
abbrev pub store_with : Terms → State → List ℕ → Gathering → List ℕ
store_with t s store g = over s.filled (take (octets_of t g) s.blocks.octets) store

abbrev pub filled_with : Terms → State → Gathering → ℕ
filled_with t s g = s.filled + octets_of t g

-- What tells the message whose last fragment this is.
abbrev pub last_with : Terms → State → List ℕ → Gathering → Last
last_with t s store g = record { serial = serial_in (store_with t s store g); check = four_at (drop (g.blocks * t.block - 4) s.blocks.octets) }

-- What follows once the good blocks of a packet for the fragment are in.
pub record FillRows (t : Terms) (number : List ℕ → ℕ) (s : State) (store : List ℕ) (g : Gathering) : Type 0 where
  -- a block is missing: exactly the missing ones are asked for, or without selective retry the whole fragment
  pub missing : t.selective ≡ true → (j : ℕ) → Missing s.blocks g.blocks j
      → (set : BlockSet) × (finished t number s store g ≡ answered s store (AckSelective set)) × ((i : ℕ) → (has set i ≡ true) ↔ Missing s.blocks g.blocks i)
  pub missing_full : t.selective ≡ false → (j : ℕ) → Missing s.blocks g.blocks j → finished t number s store g ≡ answered (idle s) store FullRetry
  -- the check is wrong: the octets stay, and no block is held
  pub spoilt : t.selective ≡ true → AllIn s.blocks g.blocks → (Checked t number s.blocks g.blocks → ⊥)
      → finished t number s store g ≡ answered (record { phase = s.phase; blocks = anew s.blocks; filled = s.filled; last = s.last }) store FullRetry
  pub spoilt_full : t.selective ≡ false → AllIn s.blocks g.blocks → (Checked t number s.blocks g.blocks → ⊥)
      → finished t number s store g ≡ answered (idle s) store FullRetry
  -- the data does not fit the lent store
  pub too_long : AllIn s.blocks g.blocks → Checked t number s.blocks g.blocks → length store < filled_with t s g
      → finished t number s store g ≡ answered (idle s) store OutOfStep
  -- others follow
  pub more : AllIn s.blocks g.blocks → Checked t number s.blocks g.blocks → filled_with t s g ≤ length store → 0 < g.number
      → finished t number s store g ≡ answered (moved s (Waiting g.number) (filled_with t s g) s.last) (store_with t s store g) Ack
  -- the message is whole: it is handed up, unless it is one fragment and was handed up last
  pub handed_up : AllIn s.blocks g.blocks → Checked t number s.blocks g.blocks → filled_with t s g ≤ length store → g.number ≡ 0
      → ((g.start ≡ true) × (s.last ≡ Some (last_with t s store g)) → ⊥)
      → finished t number s store g
      ≡ after (moved s Done (filled_with t s g) (Some (last_with t s store g))) (store_with t s store g)
      (record { code = Ack; up = Some (record { serial = serial_in (store_with t s store g); place = 4; length = filled_with t s g - 4 }) })
  pub repeated : AllIn s.blocks g.blocks → Checked t number s.blocks g.blocks → filled_with t s g ≤ length store → g.number ≡ 0
      → g.start ≡ true → s.last ≡ Some (last_with t s store g)
      → finished t number s store g ≡ answered (moved s Done (filled_with t s g) s.last) (store_with t s store g) Ack

-- Every packet and every fill keeps to its rows.
pub record Rows (t : Terms) (number : List ℕ → ℕ) : Type 0 where
  pub packet : (s : State) (store : List ℕ) (h : Header) (xs : List ℕ) → PacketRows t number s store h xs
  pub fill : (s : State) (store : List ℕ) (g : Gathering) → FillRows t number s store g
  -- what is handed up is the message of the stream that the store holds: the part after the serial
  pub part : (store : List ℕ) (octets : ℕ) → 4 ≤ octets → octets ≤ length store
      → split_of (take octets store) ≡ Some (record { serial = serial_in store; message = part_of store 4 (octets - 4) })
  -- only a hand-up changes what was handed up last, and Idle never does
  pub last_kept : (s : State) (store : List ℕ) (h : Header) (xs : List ℕ) → (heard_of t number s store h xs).heard.up ≡ None → (heard_of t number s store h xs).state.last ≡ s.last
  pub idle_keeps : (s : State) (store : List ℕ) (h : Header) (xs : List ℕ) → (heard_of t number s store h xs).state.phase ≡ Idle → (heard_of t number s store h xs).state.last ≡ s.last

-- The wait runs out, from one state to another.
pub record ExpiryRows (s s' : State) : Type 0 where
  -- the message store is emptied; block store and last message stay
  pub collecting : (g : Gathering) → s.phase ≡ Collecting g → s' ≡ record { phase = Idle; blocks = s.blocks; filled = 0; last = s.last }
  pub waiting : (v : ℕ) → s.phase ≡ Waiting v → s' ≡ record { phase = Idle; blocks = s.blocks; filled = 0; last = s.last }
  pub idle_stays : s.phase ≡ Idle → s' ≡ s
  pub done_stays : s.phase ≡ Done → s' ≡ s

-- Refusals

-- There is room for the response, and the packet is read.
abbrev pub ReadWith : Terms → List ℕ → ℕ → Header → Type 0
ReadWith t xs room h = (10 ≤ room) × (read_of t xs ≡ Ok h)

-- It comes from the peer, and is for this receiver, whose route is that of its responses.
abbrev pub FromPeer : Route → Header → Type 0
FromPeer route h = h.route.source ≡ route.destination

abbrev pub ToHere : Route → Header → Type 0
ToHere route h = h.route.destination ≡ route.source

-- It is a selective packet for the fragment that is being collected.
abbrev pub Joins : Phase → Header → Gathering → Type 0
Joins phase h g = (phase ≡ Collecting g) × (h.selective ≡ true) × (h.number ≡ g.number) × (h.start ≡ g.start)

-- Record i is good and has a block past the last of n; it is the first such record.
abbrev pub PastLast : Terms → List ℕ → ℕ → ℕ → Type 0
PastLast t xs n i = (i < records_at xs) × GoodRecord t xs i × (n ≤ number_at t xs i)

abbrev pub FirstPast : Terms → List ℕ → ℕ → ℕ → Type 0
FirstPast t xs n i = PastLast t xs n i × ((j : ℕ) → j < i → PastLast t xs n j → ⊥)

-- Why a packet that is read is refused.
module _ (t : Terms) (route : Route) (phase : Phase) (xs : List ℕ) (room : ℕ) where
  abbrev pub OfStranger : Type 0
  OfStranger = (h : Header) × ReadWith t xs room h × (FromPeer route h → ⊥)

  abbrev pub ForAnother : Type 0
  ForAnother = (h : Header) × ReadWith t xs room h × FromPeer route h × (ToHere route h → ⊥)

  abbrev pub Joining : Header → Gathering → Type 0
  Joining h g = ReadWith t xs room h × FromPeer route h × ToHere route h × Joins phase h g

  abbrev pub OtherPad : Type 0
  OtherPad = (h : Header) × (g : Gathering) × Joining h g × (h.pad ≢ g.pad)

  abbrev pub OtherBlock : ℕ → Type 0
  OtherBlock i = (h : Header) × (g : Gathering) × Joining h g × (h.pad ≡ g.pad) × FirstPast t xs g.blocks i

  -- What a packet's call answers, number by number.
  pub record CallRefusals (r : Result Heard EndFault) : Type 0 where
    pub number_7 : (place : ℕ) → RefusedAtEnd r 7 place ↔ ((place ≡ 0) × (room < 10))
    pub number_3 : (place : ℕ) → RefusedAtEnd r 3 place ↔ ((10 ≤ room) × Refused (read_of t xs) 3 place)
    pub number_4 : (place : ℕ) → RefusedAtEnd r 4 place ↔ ((10 ≤ room) × Refused (read_of t xs) 4 place)
    pub number_5 : (place : ℕ) → RefusedAtEnd r 5 place ↔ ((10 ≤ room) × Refused (read_of t xs) 5 place)
    pub number_6 : (place : ℕ) → RefusedAtEnd r 6 place ↔ (((place ≡ 1) × OfStranger) ⊎ ((place ≡ 3) × ForAnother))
    pub number_13 : (place : ℕ) → RefusedAtEnd r 13 place ↔ (((place ≡ 9) × OtherPad) ⊎ ((i : ℕ) × (place ≡ record_place t.block i) × OtherBlock i))
    pub no_other : (number place : ℕ) → RefusedAtEnd r number place
        → (number ≡ 3) ⊎ ((number ≡ 4) ⊎ ((number ≡ 5) ⊎ ((number ≡ 6) ⊎ ((number ≡ 7) ⊎ (number ≡ 13)))))
    pub accepted : ((heard : Heard) × (r ≡ Ok heard))
        ↔ ((h : Header) × ReadWith t xs room h × FromPeer route h × ToHere route h
        × ((g : Gathering) → Joins phase h g → (h.pad ≡ g.pad) × ((i : ℕ) → PastLast t xs g.blocks i → ⊥)))

-- A refusal leaves everything as it was.
abbrev pub RefusedKeeps : Result Heard EndFault → State → State → List ℕ → List ℕ → List ℕ → List ℕ → Type 0
RefusedKeeps r s s' store store' response response' = (fault : EndFault) → r ≡ Err fault → (s' ≡ s) × (store' ≡ store) × (response' ≡ response)

-- Filling in

-- Record i of a packet is good and has block j.
abbrev pub Brings : Terms → List ℕ → ℕ → ℕ → Type 0
Brings t xs i j = (i < records_at xs) × GoodRecord t xs i × (number_at t xs i ≡ j)

-- A block store before and after the good blocks of a packet went in.
pub record Filled (t : Terms) (xs : List ℕ) (b b' : BlockStore) : Type 0 where
  pub held : (j : ℕ) → j < 16 → (slice_index_or b'.held j false ≡ true) ↔ ((slice_index_or b.held j false ≡ true) ⊎ ((i : ℕ) × Brings t xs i j))
  pub kept : (j : ℕ) → ((i : ℕ) → Brings t xs i j → ⊥) → block_of t.block b'.octets j ≡ block_of t.block b.octets j
  pub brought : (i j : ℕ) → Brings t xs i j → block_of t.block b'.octets j ≡ take t.block (drop (record_place t.block i + 3) xs)

-- So it is with every packet that is read.
abbrev pub FillHolds : Terms → Type 0
FillHolds t = (xs : List ℕ) (h : Header) (b : BlockStore) → read_of t xs ≡ Ok h → length b.octets ≡ 320 → length b.held ≡ 16
    → Filled t xs b (filled_by t.block h xs b)

-- A block store whose first octets are the image of a fragment: the check is right, and what would be appended is the fragment's data.
pub record Appends (t : Terms) (number : List ℕ → ℕ) (f : Piece) (stream : List ℕ) (g : Gathering) (b : BlockStore) : Type 0 where
  pub right : is_right number t.block g.blocks b ≡ true
  pub checked : Checked t number b g.blocks
  pub content : take (octets_of t g) b.octets ≡ data_in f stream

-- So it is with every fragment of a message that is cut.
abbrev pub AppendsData : Terms → (List ℕ → ℕ) → Type 0
AppendsData t number =
    (serial : ℕ) (message : List ℕ) (count n : ℕ) → fragments_of t (length message) ≡ Ok count → n < count
    → (g : Gathering) (b : BlockStore) → g.blocks ≡ (piece_at t (length message) n).blocks → g.pad ≡ (piece_at t (length message) n).pad
    → take (g.blocks * t.block) b.octets ≡ image_of number (piece_at t (length message) n) (stream_of serial message)
    → Appends t number (piece_at t (length message) n) (stream_of serial message) g b
