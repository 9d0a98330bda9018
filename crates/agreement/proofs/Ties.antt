-- How a receiver stands to the fragment that is on its way: the words of the proof.
use Rattle.std.proofs.Common.{◌≡◌, ℕ, suc, ◌+◌, ◌^◌, ◌<◌, ◌≤◌, Bool, true, false, ◌⊎◌, List, length, get_or, take, drop, set, Some, None, Ok, Option}
use Rattle.fragment.specs.Carriers.{Terms, Sound}
use Rattle.fragment.specs.Cutting.{Piece, fragments_of}
use Rattle.fragment.specs.Laws.{data_in}
use Rattle.fragment.specs.Streams.{stream_of}
use Rattle.packet.specs.declared.values.BlockSet.{BlockSet}
use Rattle.packet.specs.declared.values.Blocks.{Blocks}
use Rattle.packet.specs.declared.values.Blocks.TheVariants.{All, Only}
use Rattle.packet.specs.declared.values.Code.{Code}
use Rattle.packet.specs.declared.values.Code.TheVariants.{Ack, AckSelective, FullRetry, OutOfStep}
use Rattle.packet.specs.declared.values.Header.{Header}
use Rattle.packet.specs.Blocks.{has, carries, askable, fitting}
use Rattle.packet.specs.Images.{covered, image_of, block_of}
use Rattle.packet.specs.Reading.{read_of, record_place}
use Rattle.receiver.specs.declared.state.BlockStore.{BlockStore}
use Rattle.receiver.specs.declared.state.Gathering.{Gathering}
use Rattle.receiver.specs.declared.state.Phase.{Phase}
use Rattle.receiver.specs.declared.state.Phase.TheVariants.{Idle, Collecting, Waiting, Done}
use Rattle.receiver.specs.declared.state.Last.{Last}
use Rattle.receiver.specs.declared.state.State.{State}
use Rattle.receiver.specs.declared.state.HandUp.{HandUp}
use Rattle.receiver.specs.Fill.{After}
use Rattle.receiver.specs.Calls.{part_of}
use Rattle.receiver.specs.Laws.{Brings}
use Rattle.agreement.specs.Histories.{Octets}

-- What is known of carrier and check.
pub record Lawful (t : Terms) (number : List ℕ → ℕ) : Type 0 where
  pub sound : Sound t
  pub small : (xs : List ℕ) → number xs < 2 ^ 32
  pub single : (xs : List ℕ) (i v : ℕ) → i < length xs → get_or xs i 0 < 256 → v < 256 → (v ≡ get_or xs i 0 → ⊥) → number (set xs i v) ≡ number xs → ⊥

-- A message that was started.
pub record Sending (t : Terms) (serial : ℕ) (message : List ℕ) (count : ℕ) : Type 0 where
  pub fits : fragments_of t (length message) ≡ Ok count
  pub serial_small : serial < 2 ^ 32
  pub octets : Octets message

-- y is x with one octet replaced, perhaps by itself or past the end.
abbrev pub OneOff : List ℕ → List ℕ → Type 0
OneOff x y = (i v : ℕ) × (v < 256) × (y ≡ set x i v)

-- Where a fragment ends in its stream.
abbrev pub reach : Piece → ℕ
reach f = f.offset + f.octets

-- The fragment as it is collected.
abbrev pub gathered : Piece → Gathering
gathered f = record { number = f.number; start = f.start; blocks = f.blocks; pad = f.pad }

pub record Sized (b : BlockStore) : Type 0 where
  pub octets : length b.octets ≡ 320
  pub held : length b.held ≡ 16

abbrev pub LastBelow : ℕ → Option Last → Type 0
LastBelow serial None = Unit {0}
LastBelow serial (Some l) = l.serial < serial

-- Whether the message is up after a hearing.
abbrev pub up_after : Bool → Option HandUp → Bool
up_after u None = u
up_after u (Some up) = true

module _ (t : Terms) (number : List ℕ → ℕ) (serial : ℕ) (message : List ℕ) (f : Piece) where
  abbrev pub image : List ℕ
  image = image_of number f (stream_of serial message)

  -- Block j as it was sent.
  abbrev pub sent : ℕ → List ℕ
  sent j = block_of t.block image j

  -- Block j came as it was sent, or it is block a, with one octet replaced.
  abbrev pub Came : ℕ → ℕ → List ℕ → Type 0
  Came a j b = (b ≡ sent j) ⊎ ((j ≡ a) × OneOff (sent j) b)

  abbrev pub NearHeld : ℕ → BlockStore → Type 0
  NearHeld a b = (j : ℕ) → j < f.blocks → get_or b.held j false ≡ true → Came a j (block_of t.block b.octets j)

  -- So many octets of the stream are in the message store.
  abbrev pub Stored : ℕ → ℕ → List ℕ → Type 0
  Stored n filled store = (filled ≡ n) × (take n store ≡ take n (stream_of serial message))

  -- A packet of the fragment as it is heard: its good blocks came as they were sent, but for block a.
  pub record Carries (a : ℕ) (h : Header) (xs : List ℕ) : Type 0 where
    pub read : read_of t xs ≡ Ok h
    pub number_is : h.number ≡ f.number
    pub start_is : h.start ≡ f.start
    pub pad_is : h.pad ≡ f.pad
    pub records_are : h.selective ≡ false → h.records ≡ f.blocks
    pub near : (i j : ℕ) → Brings t xs i j → (j < f.blocks) × Came a j (take t.block (drop (record_place t.block i + 3) xs))

  -- u: the message is up.
  abbrev pub LastOk : Bool → Option Last → Type 0
  LastOk true last = last ≡ Some (record { serial = serial; check = number (covered (data_in f (stream_of serial message)) f.pad) })
  LastOk false last = LastBelow serial last

  abbrev pub Tied : ℕ → Bool → Phase → BlockStore → ℕ → List ℕ → Type 0
  Tied a u Idle b filled store = Unit {0}
  Tied a u (Collecting g) b filled store =
      ((g ≡ gathered f) × NearHeld a b × Stored f.offset filled store)
      ⊎ ((g.number ≡ suc f.number) × (g.start ≡ true) × (f.start ≡ false))
  Tied a u (Waiting v) b filled store =
      ((v ≡ f.number) × (0 < f.number) × Stored (reach f) filled store)
      ⊎ ((v ≡ suc f.number) × (f.start ≡ false) × Stored f.offset filled store)
  Tied a u Done b filled store = (f.number ≡ 0) × (u ≡ true)

  -- A receiver that a packet of this session has reached.
  pub record Touched (a : ℕ) (u : Bool) (s : State) (store : List ℕ) : Type 0 where
    pub sized : Sized s.blocks
    pub tied : Tied a u s.phase s.blocks s.filled store
    pub latest : LastOk u s.last
    pub when_up : u ≡ true → (f.number ≡ 0) × (reach f ≤ length store) × ((f.start ≡ true) ⊎ (s.phase ≡ Done))

  -- One that none has reached: the first fragment is on its way.
  pub record Untouched (u : Bool) (s : State) : Type 0 where
    pub down : u ≡ false
    pub starting : f.start ≡ true
    pub sized : Sized s.blocks
    pub latest : LastBelow serial s.last

  -- What faces a full or a selective packet.
  abbrev pub Facing : ℕ → Bool → State → List ℕ → Bool → Type 0
  Facing a u s store selective = Touched a u s store ⊎ (Untouched u s × (selective ≡ false))

  -- What is handed up is the message, and was not up before.
  abbrev pub UpOk : Bool → Option HandUp → List ℕ → Type 0
  UpOk u None store = Unit {0}
  UpOk u (Some up) store = (u ≡ false) × (f.number ≡ 0) × (up.serial ≡ serial) × (part_of store up.place up.length ≡ message)

  abbrev pub PostAck : Bool → State → List ℕ → Type 0
  PostAck u s store =
      (f.number ≡ 0 → u ≡ true) × (0 < f.number → (f.start ≡ true) ⊎ ((s.phase ≡ Waiting f.number) × Stored (reach f) s.filled store))

  abbrev pub PostLost : Bool → State → List ℕ → Type 0
  PostLost u s store = ((f.start ≡ false) × (s.phase ≡ Idle) × (u ≡ false)) ⊎ (length store < reach f)

  -- What a code that was answered tells of the receiver.
  abbrev pub CodeOk : Bool → Option Code → State → List ℕ → Type 0
  CodeOk u None s store = Unit {0}
  CodeOk u (Some Ack) s store = PostAck u s store
  CodeOk u (Some (AckSelective set)) s store = askable t f.blocks set ≡ true
  CodeOk u (Some FullRetry) s store = Unit {0}
  CodeOk u (Some OutOfStep) s store = PostLost u s store

  -- What one hearing leaves.
  pub record StepOk (a : ℕ) (u : Bool) (store : List ℕ) (o : After) : Type 0 where
    pub touched : Touched a (up_after u o.heard.up) o.state o.store
    pub up_ok : UpOk u o.heard.up o.store
    pub code_ok : CodeOk (up_after u o.heard.up) (Some o.heard.code) o.state o.store
    pub same_room : length o.store ≡ length store

  -- What holds where the fragment is collected.
  pub record Ready (u : Bool) (last : Option Last) (store : List ℕ) : Type 0 where
    pub latest : LastOk u last
    pub when_up : u ≡ true → (f.number ≡ 0) × (reach f ≤ length store) × (f.start ≡ true)

  -- Words of progress

  -- The blocks that are held are as they were sent.
  abbrev pub Exact : BlockStore → Type 0
  Exact b = (j : ℕ) → j < f.blocks → get_or b.held j false ≡ true → block_of t.block b.octets j ≡ sent j

  -- The packet brings what is missing.
  abbrev pub Covers : BlockStore → Blocks → Type 0
  Covers b All = Unit {0}
  Covers b (Only set) = (j : ℕ) → j < f.blocks → get_or b.held j false ≡ false → has set j ≡ true

  abbrev pub CleanPhase : Blocks → Phase → BlockStore → Type 0
  CleanPhase blocks Idle b = ⊥
  CleanPhase blocks (Collecting g) b = (g.number ≡ f.number) × Exact b × Covers b blocks
  CleanPhase blocks (Waiting v) b = (v ≡ f.number) ⊎ (blocks ≡ All)
  CleanPhase blocks Done b = Unit {0}

  -- The receiver follows: a packet of these blocks, heard whole, is acknowledged.
  abbrev pub Clean : Blocks → Phase → BlockStore → Type 0
  Clean blocks phase b = (fitting t f.blocks blocks ≡ true) × (((f.start ≡ true) × (blocks ≡ All)) ⊎ CleanPhase blocks phase b)

  -- Every good block of the packet is as it was sent.
  abbrev pub ExactlyBrings : List ℕ → Type 0
  ExactlyBrings xs = (i j : ℕ) → Brings t xs i j → take t.block (drop (record_place t.block i + 3) xs) ≡ sent j

  -- Every block that the packet carries is good.
  abbrev pub BringsAll : Blocks → List ℕ → Type 0
  BringsAll blocks xs = (j : ℕ) → j < f.blocks → carries blocks j ≡ true → (i : ℕ) × Brings t xs i j

  -- What a hearing that nothing alters leaves.
  pub record Fine (blocks : Blocks) (xs : List ℕ) (o : After) : Type 0 where
    pub not_lost : o.heard.code ≡ OutOfStep → ⊥
    pub kept : Clean blocks o.state.phase o.state.blocks
    pub asked : (set : BlockSet) → o.heard.code ≡ AckSelective set → Clean (Only set) o.state.phase o.state.blocks
    pub anew : o.heard.code ≡ FullRetry → Clean All o.state.phase o.state.blocks
    pub acked : BringsAll blocks xs → o.heard.code ≡ Ack
    pub on_ack : o.heard.code ≡ Ack → 0 < f.number → o.state.phase ≡ Waiting f.number
