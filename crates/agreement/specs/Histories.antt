-- Histories: what a list of starts and turns left behind, from a fresh pair on.
use Rattle.std.specs.Prelude.{◌≡◌, ℕ, ◌^◌, ◌<◌, List, [], ◌∷◌, map, length, Some, None, Ok, Err, Option}
use Rattle.fault.specs.declared.EndFault.{EndFault}
use Rattle.fragment.specs.Carriers.{Terms}
use Rattle.packet.specs.declared.values.Code.{Code}
use Rattle.packet.specs.Blocks.{carried}
use Rattle.sender.specs.declared.values.Base.{Base}
use Rattle.sender.specs.declared.values.Session.{Session}
use Rattle.sender.specs.declared.values.Report.{Report}
use Rattle.sender.specs.Steps.{Stepped}
use Rattle.sender.specs.declared.values.Next.TheVariants.{On, Ended}
use Rattle.sender.specs.Steps.{fresh_of, start_of, block_count}
use Rattle.receiver.specs.declared.state.State.{State}
use Rattle.receiver.specs.Calls.{made_of}
use Rattle.air.specs.declared.fate.Fate.{Fate}
use Rattle.agreement.specs.Turns.{Pair, Handed, Turned, turn_of}

-- A message, known by its serial.
pub record Message : Type 0 where
  pub serial : ℕ
  pub octets : List ℕ

-- What a turn left: of which session and fragment a packet went out, and with which blocks, by record; the fate that the air gave it;
-- the messages handed up, newest first; the code that reached the sender, if any; and the report, if the session ended.
pub record Turn : Type 0 where
  pub serial : ℕ
  pub number : ℕ
  pub blocks : List ℕ
  pub fate : Fate
  pub ups : List Message
  pub code : Option Code
  pub report : Option Report

-- What one call left.
pub data Event : Type 0 where
  refused : EndFault → Event
  started : Message → Event
  turned : Turn → Event

-- Newest first.
abbrev pub History : Type 0
History = List Event

-- Where a history led: between sessions, or within one and its message.
pub data World : Type 0 where
  between : Pair → World
  within : Pair → Session → List ℕ → World

-- What a fresh pair is made with: the retry limit, the first serial, the octets of its message store, and its air.
pub record Origin : Type 0 where
  pub limit : ℕ
  pub first : ℕ
  pub room : ℕ
  pub fates : ℕ → Fate

abbrev pub message_of : Handed → Message
message_of h = record { serial = h.up.serial; octets = h.octets }

abbrev pub report_in : Stepped → Option Report
report_in (On s) = None
report_in (Ended report left) = Some report

-- What is written down of a turn.
abbrev pub note_of : Terms → Pair → Session → Turned → Turn
note_of t p s r =
    record {
      serial = s.serial;
      number = s.number;
      blocks = carried s.blocks (block_count t s);
      fate = p.fates 0;
      ups = map message_of r.ups;
      code = r.code;
      report = report_in r.stepped;
    }

abbrev pub left_by : Pair → List ℕ → Stepped → World
left_by p message (On s) = within p s message
left_by p message (Ended report left) = between p

-- The sender goes on with this base.
abbrev pub with_base : Base → Pair → Pair
with_base b p = record { base = b; route = p.route; state = p.state; store = p.store; fates = p.fates }

abbrev pub Every : {A : Type 0} → (A → Type 0) → List A → Type 0
Every P [] = Unit {0}
Every P (x ∷ xs) = P x × Every P xs

abbrev pub Octets : List ℕ → Type 0
Octets xs = Every (λ x. x < 256) xs

-- The history leads from a fresh pair to this world.
pub data Reached (t : Terms) (number : List ℕ → ℕ) (o : Origin) : History → World → Type 0 where
  fresh : (own peer : ℕ) (base : Base) (state : State) (store : List ℕ) → own < 65536 → peer < 65536 → o.first < 2 ^ 32
      → fresh_of own peer o.limit o.first ≡ Ok base → made_of store ≡ Ok state → o.room ≡ length store
      → Reached t number o [] (between (record { base = base; route = record { source = peer; destination = own }; state = state; store = store; fates = o.fates }))
  start_refused : (log : History) (p : Pair) (message : List ℕ) (fault : EndFault) → start_of t p.base (length message) ≡ Err fault
      → Reached t number o log (between p) → Reached t number o (refused fault ∷ log) (between p)
  start : (log : History) (p : Pair) (message : List ℕ) (b : Base) (s : Session) → Octets message → start_of t p.base (length message) ≡ Ok (b, s)
      → Reached t number o log (between p) → Reached t number o (started (record { serial = s.serial; octets = message }) ∷ log) (within (with_base b p) s message)
  turn_refused : (log : History) (p : Pair) (s : Session) (message lent : List ℕ) (fault : EndFault) → turn_of t number p s lent ≡ Err fault
      → Reached t number o log (within p s message) → Reached t number o (refused fault ∷ log) (within p s message)
  turn : (log : History) (p : Pair) (s : Session) (message : List ℕ) (r : Turned) → turn_of t number p s message ≡ Ok r
      → Reached t number o log (within p s message) → Reached t number o (turned (note_of t p s r) ∷ log) (left_by r.pair message r.stepped)
