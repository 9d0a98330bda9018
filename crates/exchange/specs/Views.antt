-- What a pair holds, without carrier and check, and what its calls give.
use Rattle.std.specs.Prelude.{ℕ, cond, List, [], ◌∷◌, ◌++◌, length, Ok, Err, Option, Result, nat_le}
use Rattle.fault.specs.declared.EndFault.{EndFault}
use Rattle.packet.specs.declared.values.Route.{Route}
use Rattle.packet.specs.Octets.{over}
use Rattle.packet.specs.Reading.{and_then}
use Rattle.sender.specs.declared.values.Base.{Base}
use Rattle.sender.specs.declared.values.Session.{Session}
use Rattle.sender.specs.Steps.{Stepped}
use Rattle.sender.specs.declared.values.Next.{Next}
use Rattle.sender.specs.declared.values.Next.TheVariants.{On, Ended}
use Rattle.sender.specs.declared.states.Ready.{Ready}
use Rattle.sender.specs.declared.states.InSession.{InSession}
use Rattle.sender.specs.declared.states.Refusal.{Refusal}
use Rattle.sender.specs.Steps.{fresh_of}
use Rattle.sender.specs.Views.{next_in, next_base}
use Rattle.receiver.specs.declared.state.State.{State}
use Rattle.receiver.specs.declared.receiver.Receiver.{Receiver}
use Rattle.receiver.specs.Calls.{made_of}
use Rattle.air.specs.declared.fate.Fate.{Fate}
use Rattle.air.specs.declared.few.UpToThree.{UpToThree}
use Rattle.air.specs.declared.few.UpToThree.TheVariants.{Empty, One, Two, Three}
use Rattle.agreement.specs.Turns.{Pair, Handed, Reception}
use Rattle.agreement.specs.Turns as turns
use Rattle.exchange.specs.declared.pair.Ends.{Ends}
use Rattle.exchange.specs.declared.pair.Up.{Up}
use Rattle.exchange.specs.declared.pair.Turned.{Turned}

-- Both ends between sessions, and within one.
abbrev pub Rested : Type 0 → Type 0 → Type 0
Rested C K = Ends (Ready C K) (Receiver C K)

abbrev pub Going : Type 0 → Type 0 → Type 0
Going C K = Ends (InSession C K 0) (Receiver C K)

-- Making

-- What a fresh pair holds: what its sender keeps, the route of its receiver's responses, and its receiver's state.
pub record FreshPair : Type 0 where
  pub base : Base
  pub route : Route
  pub state : State

-- The sender is at its own address, and the receiver at the peer's. A store that holds no message is refused first.
abbrev pub fresh_pair_of : ℕ → ℕ → ℕ → ℕ → List ℕ → Result FreshPair EndFault
fresh_pair_of own peer retries first store =
    and_then (made_of store) (λ state. and_then (fresh_of own peer retries first) (λ base.
    Ok (record { base = base; route = record { source = peer; destination = own }; state = state })))

-- What making a pair gave.
abbrev pub fresh_pair_in : {C K : Type 0} → Result (Rested C K) EndFault → Result FreshPair EndFault
fresh_pair_in (Ok y) = Ok (record { base = y.sender.base; route = y.receiver.route; state = y.receiver.state })
fresh_pair_in (Err fault) = Err fault

-- Starting

-- What a start gave.
abbrev pub start_in : {C K : Type 0} → Result (Going C K) (Refusal (Rested C K)) → Result (Base × Session) EndFault
start_in (Ok y) = Ok (y.sender.base, y.sender.session)
start_in (Err y) = Err y.fault

-- Hearing

-- What the hearings of a turn handed up, newest first.
abbrev pub ups_in : UpToThree Up → List Up
ups_in Empty = []
ups_in (One a) = a ∷ []
ups_in (Two a b) = b ∷ (a ∷ [])
ups_in (Three a b c) = c ∷ (b ∷ (a ∷ []))

-- What is told of messages handed up: the serial, and how many octets.
abbrev pub ups_of : List Handed → List Up
ups_of [] = []
ups_of (h ∷ older) = record { serial = h.up.serial; octets = length h.octets } ∷ ups_of older

-- Octets go over the front of a panel if they fit.
abbrev pub shown : List ℕ → List ℕ → List ℕ
shown octets panel = cond (nat_le (length octets) (length panel)) (over 0 octets panel) panel

-- What the panel shows after messages were handed up, the oldest first.
abbrev pub shown_of : List Handed → List ℕ → List ℕ
shown_of [] panel = panel
shown_of (h ∷ older) panel = shown h.octets (shown_of older panel)

-- Nothing handed up yet.
abbrev pub begun : State → List ℕ → Option (List ℕ) → Reception
begun state store response = record { state = state; store = store; ups = []; response = response }

-- What hearings leave: the receiver's state and store, what was handed up, newest first, the first response that is heard, and the panel.
pub record Seen : Type 0 where
  pub state : State
  pub store : List ℕ
  pub ups : List Up
  pub response : Option (List ℕ)
  pub panel : List ℕ

abbrev pub seen : State → List ℕ → List Up → Option (List ℕ) → List ℕ → Seen
seen state store ups response panel = record { state = state; store = store; ups = ups; response = response; panel = panel }

-- What was handed up before stands behind.
abbrev pub behind : List Up → Seen → Seen
behind older x = seen x.state x.store (x.ups ++ older) x.response x.panel

abbrev pub seen_of : Reception → List ℕ → Seen
seen_of x panel = seen x.state x.store (ups_of x.ups) x.response (shown_of x.ups panel)

-- Turning

-- Both ends after a turn, and what became of the session.
pub record Joined : Type 0 where
  pub base : Base
  pub route : Route
  pub state : State
  pub stepped : Stepped

abbrev pub join_of : {C K : Type 0} → Next (InSession C K 0) (Ready C K) → Receiver C K → Joined
join_of stage y = record { base = next_base stage; route = y.route; state = y.state; stepped = next_in stage }

abbrev pub joined_in : {C K : Type 0} → Next (Going C K) (Rested C K) → Joined
joined_in (On y) = record { base = y.sender.base; route = y.receiver.route; state = y.receiver.state; stepped = On y.sender.session }
joined_in (Ended report y) = record { base = y.sender.base; route = y.receiver.route; state = y.receiver.state; stepped = Ended report tt }

-- An exchange, and a transfer, with what is lent to it.
abbrev pub rest_of : {C K : Type 0} → Rested C K → List ℕ → (ℕ → Fate) → Pair
rest_of y store fates = record { base = y.sender.base; route = y.receiver.route; state = y.receiver.state; store = store; fates = fates }

abbrev pub pair_of : {C K : Type 0} → Going C K → List ℕ → (ℕ → Fate) → Pair
pair_of y store fates = record { base = y.sender.base; route = y.receiver.route; state = y.receiver.state; store = store; fates = fates }

-- What a turn leaves to its caller: both ends, what became of the session, and what was handed up, newest first.
pub record Brief : Type 0 where
  pub pair : Pair
  pub stepped : Stepped
  pub ups : List Up

abbrev pub brief_of : Result turns.Turned EndFault → Result Brief EndFault
brief_of (Ok x) = Ok (record { pair = x.pair; stepped = x.stepped; ups = ups_of x.ups })
brief_of (Err fault) = Err fault

abbrev pub brief_with : Joined → List Up → List ℕ → (ℕ → Fate) → Brief
brief_with j ups store fates =
    record { pair = record { base = j.base; route = j.route; state = j.state; store = store; fates = fates }; stepped = j.stepped; ups = ups }

-- What a turn gave, with the store and the fates after it.
abbrev pub turn_in : {C K : Type 0} → Result (Turned C K) (Refusal (Going C K)) → List ℕ → (ℕ → Fate) → Result Brief EndFault
turn_in (Ok y) store fates = Ok (brief_with (joined_in y.next) (ups_in y.ups) store fates)
turn_in (Err y) store fates = Err y.fault

-- The panel after a turn.
abbrev pub panel_of : Result turns.Turned EndFault → List ℕ → List ℕ
panel_of (Ok x) panel = shown_of x.ups panel
panel_of (Err fault) panel = panel
