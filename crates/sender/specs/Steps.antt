-- What each call of a sender does, on plain values.
use Rattle.std.specs.Prelude.{ℕ, ◌+◌, ◌-◌, Bool, true, cond, List, [], ◌∷◌, ◌++◌, Some, None, Ok, Err, Option, Result, ◌==◌, nat_le, nat_lt}
use Rattle.fault.specs.declared.PacketFault.{PacketFault}
use Rattle.fault.specs.declared.PacketFault.TheVariants.{Message}
use Rattle.fault.specs.declared.EndFault.{EndFault}
use Rattle.fault.specs.declared.EndFault.TheVariants as end
use Rattle.fragment.specs.Carriers.{Terms}
use Rattle.fragment.specs.Cutting.{Piece, fragments_of, fragment_at}
use Rattle.packet.specs.declared.values.Blocks.{Blocks}
use Rattle.packet.specs.declared.values.Blocks.TheVariants.{All, Only}
use Rattle.packet.specs.declared.values.Code.{Code}
use Rattle.packet.specs.declared.values.Code.TheVariants.{Ack, AckSelective, FullRetry, OutOfStep}
use Rattle.packet.specs.declared.values.Response.{Response}
use Rattle.packet.specs.Blocks.{askable}
use Rattle.packet.specs.Routes.{route_tests}
use Rattle.packet.specs.Layout.{Written, written_of, refused_by}
use Rattle.packet.specs.Reading.{first_of, and_then}
use Rattle.packet.specs.Responses.{response_of}
use Rattle.sender.specs.declared.values.Base.{Base}
use Rattle.sender.specs.declared.values.Session.{Session}
use Rattle.sender.specs.declared.values.Outcome.{Outcome}
use Rattle.sender.specs.declared.values.Outcome.TheVariants.{Delivered, NotDelivered, Unknown}
use Rattle.sender.specs.declared.values.Next.{Next}
use Rattle.sender.specs.declared.values.Next.TheVariants.{On, Ended}

-- What a response, or none in time, makes of a session.
abbrev pub Stepped : Type 0
Stepped = Next Session (Unit {0})

-- Making

-- What a fresh sender holds: own and peer's address, the retry limit of at most 15, and the first serial.
abbrev pub fresh_of : ℕ → ℕ → ℕ → ℕ → Result Base EndFault
fresh_of own peer limit first =
    cond (nat_le limit 15)
    (Ok (record { route = record { source = own; destination = peer }; limit = limit; next = Some first }))
    (Err end.Retries)

-- Starting

-- The serial after one, or none after the last of 32 bits.
abbrev pub serial_after : ℕ → Option ℕ
serial_after serial = cond (serial == 4294967295) None (Some (serial + 1))

-- A session for a message of m octets, before the first of its fragments.
abbrev pub session_of : ℕ → ℕ → ℕ → Session
session_of serial m count = record { serial = serial; length = m; number = count - 1; blocks = All; used = 0; packets = 0 }

-- A session takes the next serial.
abbrev pub with_serial : Base → ℕ → ℕ → Option ℕ → Result (Base × Session) EndFault
with_serial b m count (Some serial) = Ok (record { route = b.route; limit = b.limit; next = serial_after serial }, session_of serial m count)
with_serial b m count None = Err end.SerialsUsed

-- The session of a message of m octets and what lasts past it, or why it is refused.
abbrev pub start_of : Terms → Base → ℕ → Result (Base × Session) EndFault
start_of t b m = and_then (fragments_of t m) (λ count. with_serial b m count b.next)

-- Putting out a packet

-- The packet of a fragment. Without one, which no started session is, no message is of the right length.
abbrev pub packet_of : Terms → (List ℕ → ℕ) → Base → Session → List ℕ → List ℕ → Option Piece → Written EndFault
packet_of t number b s message packet (Some f) = written_of t number b.route s.serial f s.blocks message packet
packet_of t number b s message packet None = refused_by (end.Packet Message) packet

-- The packet that a session puts out into a lent buffer.
abbrev pub sent_of : Terms → (List ℕ → ℕ) → Base → Session → List ℕ → List ℕ → Written EndFault
sent_of t number b s message packet = packet_of t number b s message packet (fragment_at t s.length s.number)

-- One more packet was put out.
abbrev pub counted : Session → Session
counted s = record { serial = s.serial; length = s.length; number = s.number; blocks = s.blocks; used = s.used; packets = s.packets + 1 }

abbrev pub after_put : Session → Result ℕ EndFault → Session
after_put s (Ok n) = counted s
after_put s (Err fault) = s

-- What putting out a packet leaves: its length, or why it is refused, the session, and the lent buffer.
pub record Put : Type 0 where
  pub answer : Result ℕ EndFault
  pub session : Session
  pub packet : List ℕ

abbrev pub put_with : Session → Written EndFault → Put
put_with s w = record { answer = w.answer; session = after_put s w.answer; packet = w.buffer }

abbrev pub put_of : Terms → (List ℕ → ℕ) → Base → Session → List ℕ → List ℕ → Put
put_of t number b s message packet = put_with s (sent_of t number b s message packet)

-- Going on

-- Whether the fragment is the last of its session.
abbrev pub is_last : Session → Bool
is_last s = s.number == 0

-- Whether the fragment may be put out again.
abbrev pub may_retry : Base → Session → Bool
may_retry b s = nat_lt s.used b.limit

-- The session ends, and its report tells how and after how many packets.
abbrev pub end_of : Session → Outcome → Stepped
end_of s outcome = Ended (record { serial = s.serial; outcome = outcome; packets = s.packets }) tt

-- The next fragment: a full packet, with no retries used.
abbrev pub next_fragment : Session → Session
next_fragment s = record { serial = s.serial; length = s.length; number = s.number - 1; blocks = All; used = 0; packets = s.packets }

-- These blocks of the same fragment, for one retry.
abbrev pub again : Session → Blocks → Session
again s blocks = record { serial = s.serial; length = s.length; number = s.number; blocks = blocks; used = s.used + 1; packets = s.packets }

-- How a session ends whose retries are used: whether the last fragment was taken isn't known.
abbrev pub lost_of : Session → Outcome
lost_of s = cond (is_last s) Unknown NotDelivered

abbrev pub acked_of : Session → Stepped
acked_of s = cond (is_last s) (end_of s Delivered) (On (next_fragment s))

abbrev pub retry_of : Base → Session → Blocks → Stepped
retry_of b s blocks = cond (may_retry b s) (On (again s blocks)) (end_of s (lost_of s))

-- What the code of a response, or none in time, makes of a session.
abbrev pub step_of : Base → Session → Option Code → Stepped
step_of b s (Some Ack) = acked_of s
step_of b s (Some (AckSelective set)) = retry_of b s (Only set)
step_of b s (Some FullRetry) = retry_of b s All
step_of b s (Some OutOfStep) = end_of s NotDelivered
step_of b s None = retry_of b s s.blocks

-- Hearing

abbrev pub blocks_in : Option Piece → ℕ
blocks_in (Some f) = f.blocks
blocks_in None = 0

-- The blocks of the session's fragment.
abbrev pub block_count : Terms → Session → ℕ
block_count t s = blocks_in (fragment_at t s.length s.number)

-- Whether a code asks for nothing that a fragment with n blocks hasn't.
abbrev pub answerable : Terms → ℕ → Code → Bool
answerable t n Ack = true
answerable t n (AckSelective set) = askable t n set
answerable t n FullRetry = true
answerable t n OutOfStep = true

-- A response is from the peer, to this end, for this fragment, and asks for no other blocks than it has.
abbrev pub answer_tests : Terms → Base → Session → Response → List (Bool × EndFault)
answer_tests t b s r =
    route_tests b.route r.route
    ++ (((r.number == s.number), end.Number)
    ∷ ((answerable t (block_count t s) r.code, end.Blocks)
    ∷ []))

abbrev pub answer_of : Terms → Base → Session → Response → Result Code EndFault
answer_of t b s r = first_of (answer_tests t b s r) r.code

-- A fault of the octets stays what it is.
abbrev pub read_as : {A : Type 0} → Result A PacketFault → Result A EndFault
read_as (Ok a) = Ok a
read_as (Err fault) = Err (end.Packet fault)

-- The code of a response to the session's packet, or why it is refused.
abbrev pub admit_of : Terms → Base → Session → List ℕ → Result Code EndFault
admit_of t b s xs = and_then (read_as (response_of t xs)) (answer_of t b s)

abbrev pub hear_of : Terms → Base → Session → List ℕ → Result Stepped EndFault
hear_of t b s xs = and_then (admit_of t b s xs) (λ code. Ok (step_of b s (Some code)))
