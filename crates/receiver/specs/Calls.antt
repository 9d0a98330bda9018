-- What the receiver's calls answer and leave.
use Rattle.std.specs.Prelude.{ℕ, ◌+◌, cond, ◌&&◌, List, [], length, take, drop, Some, None, Ok, Err, Option, Result, ◌==◌, nat_le}
use Rattle.fault.specs.declared.PacketFault.{PacketFault}
use Rattle.fault.specs.declared.PacketFault.TheVariants.{Buffer}
use Rattle.fault.specs.declared.EndFault.{EndFault}
use Rattle.fault.specs.declared.EndFault.TheVariants.{Packet, Store, Unfit}
use Rattle.fragment.specs.Carriers.{Terms}
use Rattle.packet.specs.declared.values.Header.{Header}
use Rattle.packet.specs.declared.values.Route.{Route}
use Rattle.packet.specs.Octets.{over}
use Rattle.packet.specs.Routes.{route_tests}
use Rattle.packet.specs.Reading.{read_of, and_then, first_of}
use Rattle.packet.specs.Responses.{response_octets}
use Rattle.packet.specs.Views.{Seen}
use Rattle.receiver.specs.declared.state.Phase.{Phase}
use Rattle.receiver.specs.declared.state.Phase.TheVariants.{Idle, Collecting, Waiting, Done}
use Rattle.receiver.specs.declared.state.State.{State}
use Rattle.receiver.specs.declared.state.Event.TheVariants.{Expiry}
use Rattle.receiver.specs.declared.state.Heard.{Heard}
use Rattle.receiver.specs.Store.{fresh, past_from}
use Rattle.receiver.specs.Rows.{same, row_of}
use Rattle.receiver.specs.Fill.{After, heard_of}

-- A fresh receiver: idle, no message known, no octet stored. It is refused a store that holds no message.
abbrev pub fresh_state : State
fresh_state = record { phase = Idle; blocks = fresh; filled = 0; last = None }

abbrev pub made_of : List ℕ → Result State EndFault
made_of store = cond (nat_le 5 (length store)) (Ok fresh_state) (Err Store)

-- Where a selective packet for the fragment that is being collected does not fit it: another pad, or a good block past the last.
abbrev pub unfit_of : ℕ → Phase → List ℕ → Header → Option ℕ
unfit_of size Idle xs h = None
unfit_of size (Collecting g) xs h =
    cond (h.selective && (h.number == g.number && same h.start g.start))
    (cond (h.pad == g.pad) (past_from size h xs g.blocks h.records 0) (Some 9))
    None
unfit_of size (Waiting v) xs h = None
unfit_of size Done xs h = None

abbrev pub in_packet : {A : Type 0} → Result A PacketFault → Result A EndFault
in_packet (Ok a) = Ok a
in_packet (Err fault) = Err (Packet fault)

abbrev pub unless_unfit : {A : Type 0} → Option ℕ → A → Result A EndFault
unless_unfit None a = Ok a
unless_unfit (Some place) a = Err (Unfit place)

-- What is known of a packet once it was read. It comes from the peer and is for this receiver, whose route is that of its responses.
abbrev pub placed_of : Terms → Route → Phase → List ℕ → Header → Result Header EndFault
placed_of t route phase xs h = and_then (first_of (route_tests route h.route) h) (λ _. unless_unfit (unfit_of t.block phase xs h) h)

-- Every refusal of a packet, in order, with so much room for the response.
abbrev pub admit_of : Terms → Route → Phase → List ℕ → ℕ → Result Header EndFault
admit_of t route phase xs room = cond (nat_le 10 room) (and_then (in_packet (read_of t xs)) (placed_of t route phase xs)) (Err (Packet Buffer))

-- What a call leaves: its answer, the state, the message store, the response buffer.
pub record Called : Type 0 where
  pub answer : Result Heard EndFault
  pub state : State
  pub store : List ℕ
  pub response : List ℕ

abbrev pub called : Result Heard EndFault → State → List ℕ → List ℕ → Called
called answer state store response = record { answer = answer; state = state; store = store; response = response }

abbrev pub responded_to : Route → Header → List ℕ → After → Called
responded_to route h response a =
    called (Ok a.heard) a.state a.store (over 0 (response_octets (record { route = route; number = h.number; code = a.heard.code })) response)

abbrev pub on_admitted : Terms → (List ℕ → ℕ) → Route → State → List ℕ → List ℕ → List ℕ → Result Header EndFault → Called
on_admitted t number route s store xs response (Ok h) = responded_to route h response (heard_of t number s store h xs)
on_admitted t number route s store xs response (Err fault) = called (Err fault) s store response

-- A packet: refused, and then nothing changes, or heard and answered.
abbrev pub call_of : Terms → (List ℕ → ℕ) → Route → State → List ℕ → List ℕ → List ℕ → Called
call_of t number route s store xs response = on_admitted t number route s store xs response (admit_of t route s.phase xs (length response))

-- The wait runs out.
abbrev pub expired : State → State
expired s = (row_of s Expiry).state

-- The part of a store, or an empty one where it does not lie within.
abbrev pub part_of : List ℕ → ℕ → ℕ → List ℕ
part_of store place count = cond (nat_le (place + count) (length store)) (take count (drop place store)) []

-- An admitted packet, with its octets.
abbrev pub admitted_of : Terms → Route → Phase → List ℕ → ℕ → Result Seen EndFault
admitted_of t route phase xs room = and_then (admit_of t route phase xs room) (λ h. Ok (record { header = h; size = t.block; octets = xs }))
