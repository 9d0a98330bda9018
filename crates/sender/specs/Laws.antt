-- What the calls of a sender amount to.
use Rattle.std.specs.Prelude.{◌≡◌, ℕ, ◌+◌, ◌*◌, ◌<◌, ◌≤◌, true, false, ◌≢◌, ◌⊎◌, ◌↔◌, List, length, take, Some, None, Ok, Option, Result}
use Rattle.fault.specs.declared.EndFault.{EndFault}
use Rattle.fragment.specs.Carriers.{Terms}
use Rattle.fragment.specs.Cutting.{Piece, greatest, fragment_at}
use Rattle.packet.specs.declared.values.BlockSet.{BlockSet}
use Rattle.packet.specs.declared.values.Blocks.{Blocks}
use Rattle.packet.specs.declared.values.Blocks.TheVariants.{All, Only}
use Rattle.packet.specs.declared.values.Code.{Code}
use Rattle.packet.specs.declared.values.Code.TheVariants.{Ack, AckSelective, FullRetry, OutOfStep}
use Rattle.packet.specs.Blocks.{carried, askable, fitting}
use Rattle.packet.specs.Layout.{packet_length}
use Rattle.packet.specs.Refusals.{Refused, RefusedAtEnd}
use Rattle.packet.specs.Responses.{response_at, response_of}
use Rattle.sender.specs.declared.values.Base.{Base}
use Rattle.sender.specs.declared.values.Session.{Session}
use Rattle.sender.specs.declared.values.Outcome.TheVariants.{Delivered, NotDelivered, Unknown}
use Rattle.sender.specs.declared.values.Report.{Report}
use Rattle.sender.specs.Steps.{Stepped}
use Rattle.sender.specs.declared.values.Next.TheVariants.{On, Ended}
use Rattle.sender.specs.Steps.{is_last, may_retry, end_of, next_fragment, again, block_count}
use Rattle.sender.specs.Runs.{run_of}

-- Making

-- When a sender is not made.
pub record NewRefusals (limit : ℕ) (r : Result Base EndFault) : Type 0 where
  pub number_8 : (place : ℕ) → RefusedAtEnd r 8 place ↔ ((place ≡ 0) × (15 < limit))
  pub no_other : (number place : ℕ) → RefusedAtEnd r number place → number ≡ 8

-- Starting

-- When the start of a message of m octets is refused, number by number.
pub record StartRefusals (t : Terms) (b : Base) (m : ℕ) (r : Result (Base × Session) EndFault) : Type 0 where
  pub number_1 : (place : ℕ) → RefusedAtEnd r 1 place ↔ ((place ≡ 0) × (m ≡ 0))
  pub number_2 : (place : ℕ) → RefusedAtEnd r 2 place ↔ ((place ≡ 0) × (m ≢ 0) × (greatest t < m))
  pub number_12 : (place : ℕ) → RefusedAtEnd r 12 place ↔ ((place ≡ 0) × (m ≢ 0) × (m ≤ greatest t) × (b.next ≡ None))
  pub no_other : (number place : ℕ) → RefusedAtEnd r number place → (number ≡ 1) ⊎ ((number ≡ 2) ⊎ (number ≡ 12))

-- A session that is started takes the next serial. Serials rise by one, and after the last of 32 bits there is none.
pub record TakesSerial (before : Base) (s : Session) (after : Base) : Type 0 where
  pub taken : before.next ≡ Some s.serial
  pub rises : s.serial ≢ 4294967295 → after.next ≡ Some (s.serial + 1)
  pub last : s.serial ≡ 4294967295 → after.next ≡ None
  pub same_route : after.route ≡ before.route
  pub same_limit : after.limit ≡ before.limit

-- Putting out a packet

-- The session's packet can be made: its fragment is there, and has the blocks that the packet carries.
abbrev pub Sendable : Terms → Session → Type 0
Sendable t s = (f : Piece) × (fragment_at t s.length s.number ≡ Some f) × (fitting t f.blocks s.blocks ≡ true)

-- How many octets the session's packet has.
abbrev pub packet_size : Terms → Session → ℕ
packet_size t s = packet_length t.block (length (carried s.blocks (block_count t s)))

-- When a packet that can be made is refused.
pub record PutRefusals (t : Terms) (s : Session) (message packet : List ℕ) (r : Result ℕ EndFault) : Type 0 where
  pub number_7 : (place : ℕ) → RefusedAtEnd r 7 place ↔ ((place ≡ 0) × ((length message ≢ s.length) ⊎ (length packet < packet_size t s)))
  pub no_other : (number place : ℕ) → RefusedAtEnd r number place → number ≡ 7

-- Hearing

-- The octets are a response.
abbrev pub Readable : Terms → List ℕ → Type 0
Readable t xs = response_of t xs ≡ Ok (response_at xs)

abbrev pub FromPeer : Base → List ℕ → Type 0
FromPeer b xs = (response_at xs).route.source ≡ b.route.destination

abbrev pub ToThisEnd : Base → List ℕ → Type 0
ToThisEnd b xs = (response_at xs).route.destination ≡ b.route.source

abbrev pub ForFragment : Session → List ℕ → Type 0
ForFragment s xs = (response_at xs).number ≡ s.number

-- It asks for blocks that can't be asked for.
abbrev pub AsksAmiss : Terms → Session → List ℕ → Type 0
AsksAmiss t s xs = (set : BlockSet) × ((response_at xs).code ≡ AckSelective set) × (askable t (block_count t s) set ≡ false)

-- When a response is refused, number by number.
pub record HearRefusals (t : Terms) (b : Base) (s : Session) (xs : List ℕ) (r : Result Stepped EndFault) : Type 0 where
  pub number_3 : (place : ℕ) → RefusedAtEnd r 3 place ↔ Refused (response_of t xs) 3 place
  pub number_4 : (place : ℕ) → RefusedAtEnd r 4 place ↔ Refused (response_of t xs) 4 place
  pub number_5 : (place : ℕ) → RefusedAtEnd r 5 place ↔ Refused (response_of t xs) 5 place
  pub number_6 : (place : ℕ) → RefusedAtEnd r 6 place
      ↔ (Readable t xs × (((place ≡ 1) × (FromPeer b xs → ⊥)) ⊎ ((place ≡ 3) × FromPeer b xs × (ToThisEnd b xs → ⊥))))
  pub number_10 : (place : ℕ) → RefusedAtEnd r 10 place
      ↔ ((place ≡ 6) × Readable t xs × FromPeer b xs × ToThisEnd b xs × (ForFragment s xs → ⊥))
  pub number_11 : (place : ℕ) → RefusedAtEnd r 11 place
      ↔ ((place ≡ 8) × Readable t xs × FromPeer b xs × ToThisEnd b xs × ForFragment s xs × AsksAmiss t s xs)
  pub no_other : (number place : ℕ) → RefusedAtEnd r number place
      → Refused (response_of t xs) number place ⊎ ((number ≡ 6) ⊎ ((number ≡ 10) ⊎ (number ≡ 11)))

-- A session that goes on has a packet that can be made.
abbrev pub OnSendable : Terms → Stepped → Type 0
OnSendable t (On s) = Sendable t s
OnSendable t (Ended report left) = Unit {0}

-- A retry with these blocks, while one is left.
pub record Retried (b : Base) (s : Session) (blocks : Blocks) (after : Stepped) : Type 0 where
  pub left : may_retry b s ≡ true → after ≡ On (again s blocks)
  pub none_left_last : may_retry b s ≡ false → is_last s ≡ true → after ≡ end_of s Unknown
  pub none_left_before : may_retry b s ≡ false → is_last s ≡ false → after ≡ end_of s NotDelivered

-- What is heard after a packet, or nothing in time, and what it makes of the session.
pub record Rows (b : Base) (s : Session) (heard : Option Code) (after : Stepped) : Type 0 where
  pub ack_last : heard ≡ Some Ack → is_last s ≡ true → after ≡ end_of s Delivered
  pub ack_before : heard ≡ Some Ack → is_last s ≡ false → after ≡ On (next_fragment s)
  pub out_of_step : heard ≡ Some OutOfStep → after ≡ end_of s NotDelivered
  pub blocks_asked : (set : BlockSet) → heard ≡ Some (AckSelective set) → Retried b s (Only set) after
  pub full_retry : heard ≡ Some FullRetry → Retried b s All after
  pub unheard : heard ≡ None → Retried b s s.blocks after

-- Whole sessions

-- A run that has ended, by the packets in its report.
pub record RunEnded (b : Base) (s : Session) (count : ℕ) (heard : List (Option Code)) (report : Report) : Type 0 where
  pub serial : report.serial ≡ s.serial
  pub few : report.packets ≤ count * (b.limit + 1)
  -- it ended at the response to its last packet, and at none before
  pub there : report.packets ≤ length heard
  pub ends : run_of b s (take report.packets heard) ≡ Ended report tt
  pub not_before : (k : ℕ) → k < report.packets → (now : Session) × (run_of b s (take k heard) ≡ On now)

-- A run that goes on.
pub record RunGoesOn (t : Terms) (b : Base) (s : Session) (count : ℕ) (heard : List (Option Code)) (now : Session) : Type 0 where
  pub serial : now.serial ≡ s.serial
  pub message : now.length ≡ s.length
  pub each : now.packets ≡ length heard
  pub fewer : now.packets < count * (b.limit + 1)
  pub fragment : (f : Piece) × (fragment_at t now.length now.number ≡ Some f)

-- A session of so many fragments, whatever is heard in it: it puts out at most R + 1 packets for each.
pub record Bounded (t : Terms) (b : Base) (s : Session) (count : ℕ) : Type 0 where
  pub ended : (heard : List (Option Code)) (report : Report) → run_of b s heard ≡ Ended report tt → RunEnded b s count heard report
  pub on : (heard : List (Option Code)) (now : Session) → run_of b s heard ≡ On now → RunGoesOn t b s count heard now
