-- A turn: one packet goes out, the air gives it a fate, and the sender hears a response or none.
use Rattle.std.specs.Prelude.{ℕ, Bool, true, false, cond, List, [], ◌∷◌, take, replicate, Some, None, Ok, Err, Option, Result}
use Rattle.fault.specs.declared.EndFault.{EndFault}
use Rattle.fragment.specs.Carriers.{Terms}
use Rattle.packet.specs.declared.values.Code.{Code}
use Rattle.packet.specs.declared.values.Route.{Route}
use Rattle.sender.specs.declared.values.Base.{Base}
use Rattle.sender.specs.declared.values.Session.{Session}
use Rattle.sender.specs.Steps.{Stepped}
use Rattle.sender.specs.Steps.{Put, put_of, admit_of, step_of}
use Rattle.receiver.specs.declared.state.State.{State}
use Rattle.receiver.specs.declared.state.Heard.{Heard}
use Rattle.receiver.specs.declared.state.HandUp.{HandUp}
use Rattle.receiver.specs.Calls.{Called, call_of, expired, part_of}
use Rattle.air.specs.declared.fate.Fate.{Fate}
use Rattle.air.specs.declared.fate.Hearing.{Hearing}
use Rattle.air.specs.Few.{listed}
use Rattle.air.specs.Fates.{tail}
use Rattle.damage.specs.Damage.{damaged}

-- Both ends between sessions, and what is lent to them.
pub record Pair : Type 0 where
  -- what the sender keeps
  pub base : Base
  -- the route of the receiver's responses
  pub route : Route
  pub state : State
  pub store : List ℕ
  -- the fates that the air will answer
  pub fates : ℕ → Fate

-- Hearing

-- A message handed up: where it lies, and its octets when the hearing ends.
pub record Handed : Type 0 where
  pub up : HandUp
  pub octets : List ℕ

-- What a turn has brought to the receiver so far: its state and store, what was handed up, newest first, and the first response that is heard.
pub record Reception : Type 0 where
  pub state : State
  pub store : List ℕ
  pub ups : List Handed
  pub response : Option (List ℕ)

abbrev pub handed_in : List ℕ → Option HandUp → List Handed → List Handed
handed_in store None ups = ups
handed_in store (Some up) ups = record { up = up; octets = part_of store up.place up.length } ∷ ups

-- Only the first response heard counts.
abbrev pub first_heard : Option (List ℕ) → Bool → List ℕ → Option (List ℕ)
first_heard (Some xs) reply response = Some xs
first_heard None reply response = cond reply (Some response) None

-- A refused packet has no response.
abbrev pub received_by : Reception → Bool → Called → Result Heard EndFault → Reception
received_by x reply c (Ok heard) =
    record { state = c.state; store = c.store; ups = handed_in c.store heard.up x.ups; response = first_heard x.response reply c.response }
received_by x reply c (Err fault) = record { state = c.state; store = c.store; ups = x.ups; response = x.response }

abbrev pub received : Reception → Bool → Called → Reception
received x reply c = received_by x reply c c.answer

-- Room for one response.
abbrev pub no_response : List ℕ
no_response = replicate 10 0

-- The receiver's call with the packet as it is heard.
abbrev pub call_with : Terms → (List ℕ → ℕ) → Route → List ℕ → Reception → Hearing → Called
call_with t number route packet x h = call_of t number route x.state x.store (damaged t.block h packet) no_response

abbrev pub heard_once : Terms → (List ℕ → ℕ) → Route → List ℕ → Reception → Hearing → Reception
heard_once t number route packet x h = received x h.reply (call_with t number route packet x h)

-- One hearing after another.
abbrev pub all_heard : Terms → (List ℕ → ℕ) → Route → List ℕ → Reception → List Hearing → Reception
all_heard t number route packet x [] = x
all_heard t number route packet x (h ∷ hs) = all_heard t number route packet (heard_once t number route packet x h) hs

abbrev pub waited : Bool → State → State
waited true s = expired s
waited false s = s

-- Before the first hearing.
abbrev pub unheard : Bool → Pair → Reception
unheard wait p = record { state = waited wait p.state; store = p.store; ups = []; response = None }

-- What a packet with this fate brings to the receiver.
abbrev pub reception_of : Terms → (List ℕ → ℕ) → Pair → List ℕ → Fate → Reception
reception_of t number p packet fate = all_heard t number p.route packet (unheard fate.wait p) (listed fate.heard)

-- Turning

abbrev pub ok_of : {A E : Type 0} → Result A E → Option A
ok_of (Ok a) = Some a
ok_of (Err e) = None

-- The code that reaches the sender. A response that it refuses is as none.
abbrev pub reached_by : Terms → Base → Session → Option (List ℕ) → Option Code
reached_by t b s None = None
reached_by t b s (Some response) = ok_of (admit_of t b s response)

-- What a turn leaves: both ends, what became of the session, what was handed up, and the code that reached the sender.
pub record Turned : Type 0 where
  pub pair : Pair
  pub stepped : Stepped
  pub ups : List Handed
  pub code : Option Code

abbrev pub turned_with : Terms → Pair → Session → Reception → Turned
turned_with t p s r =
    record {
      pair = record { base = p.base; route = p.route; state = r.state; store = r.store; fates = tail p.fates };
      stepped = step_of p.base s (reached_by t p.base s r.response);
      ups = r.ups;
      code = reached_by t p.base s r.response;
    }

-- Room for the longest packet of any carrier.
abbrev pub no_packet : List ℕ
no_packet = replicate 378 0

abbrev pub on_put : Terms → (List ℕ → ℕ) → Pair → Session → List ℕ → Result ℕ EndFault → Result Turned EndFault
on_put t number p s packet (Ok n) = Ok (turned_with t p s (reception_of t number p (take n packet) (p.fates 0)))
on_put t number p s packet (Err fault) = Err fault

abbrev pub turn_with : Terms → (List ℕ → ℕ) → Pair → Put → Result Turned EndFault
turn_with t number p put = on_put t number p put.session put.packet put.answer

-- A turn of a session with its message, or why no packet goes out: then no fate is asked for.
abbrev pub turn_of : Terms → (List ℕ → ℕ) → Pair → Session → List ℕ → Result Turned EndFault
turn_of t number p s message = turn_with t number p (put_of t number p.base s message no_packet)
