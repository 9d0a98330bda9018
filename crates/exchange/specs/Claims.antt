-- What each call of a pair does to the histories that led to it.
use Rattle.std.specs.Prelude.{◌≡◌, ℕ, List, [], length, Ok, Err, Result}
use Rattle.fault.specs.declared.EndFault.{EndFault}
use Rattle.fragment.specs.Carriers.{Terms}
use Rattle.air.specs.declared.fate.Fate.{Fate}
use Rattle.agreement.specs.Turns as turns
use Rattle.agreement.specs.Turns.{turn_of}
use Rattle.agreement.specs.Histories.{refused, started, turned, World, between, within, note_of, Reached}
use Rattle.agreement.specs.Agreement.{Goes}
use Rattle.sender.specs.declared.values.Next.{Next}
use Rattle.sender.specs.declared.values.Next.TheVariants as next
use Rattle.sender.specs.declared.states.Refusal.{Refusal}
use Rattle.exchange.specs.declared.pair.Turned.{Turned}
use Rattle.exchange.specs.Views.{Rested, Going, rest_of, pair_of}

-- A fresh pair has the empty history, whatever air it will meet.
abbrev pub FreshReached : {C K : Type 0} → Terms → (List ℕ → ℕ) → ℕ → ℕ → List ℕ → Result (Rested C K) EndFault → Type 0
FreshReached t number retries first store (Ok y) =
    (fates : ℕ → Fate) → Reached t number (record { limit = retries; first = first; room = length store; fates = fates }) [] (between (rest_of y store fates))
FreshReached t number retries first store (Err fault) = Unit {0}

-- A start, whatever store and air the pair has.
abbrev pub StartAgrees : {C K : Type 0} → Terms → (List ℕ → ℕ) → Rested C K → List ℕ → Result (Going C K) (Refusal (Rested C K)) → Type 0
StartAgrees t number x message (Ok y) =
    (store : List ℕ) (fates : ℕ → Fate)
    → Goes t number (between (rest_of x store fates)) (started (record { serial = y.sender.session.serial; octets = message }))
    (within (pair_of y store fates) y.sender.session message)
StartAgrees t number x message (Err y) =
    (store : List ℕ) (fates : ℕ → Fate) → Goes t number (between (rest_of x store fates)) (refused y.fault) (between (rest_of y.kept store fates))

-- Where a turn leads.
abbrev pub world_in : {C K : Type 0} → Next (Going C K) (Rested C K) → List ℕ → List ℕ → (ℕ → Fate) → World
world_in (next.On y) message store fates = within (pair_of y store fates) y.sender.session message
world_in (next.Ended report y) message store fates = between (rest_of y store fates)

-- A turn with its session's message; or a refused one, whatever the session's message is.
abbrev pub TurnAgrees : {C K : Type 0} → Terms → (List ℕ → ℕ) → Going C K → List ℕ → List ℕ → (ℕ → Fate)
    → Result (Turned C K) (Refusal (Going C K)) → List ℕ → (ℕ → Fate) → Type 0
TurnAgrees t number x message store fates (Ok y) store' fates' =
    (r : turns.Turned) × (turn_of t number (pair_of x store fates) x.sender.session message ≡ Ok r)
    × Goes t number (within (pair_of x store fates) x.sender.session message) (turned (note_of t (pair_of x store fates) x.sender.session r))
    (world_in y.next message store' fates')
TurnAgrees t number x message store fates (Err y) store' fates' =
    (own : List ℕ)
    → Goes t number (within (pair_of x store fates) x.sender.session own) (refused y.fault) (within (pair_of y.kept store' fates') y.kept.sender.session own)
