-- What a call leaves leads every history on, which agrees.
use Rattle.std.proofs.Common.{◌≡◌, ℕ, suc, ◌^◌, ◌<◌, List, [], ◌∷◌, length, get_or, set, IfOk, IfErr, Ok, Err, Result, sym, refl, ap, ◌∙◌, subst}
use Rattle.fault.specs.declared.EndFault.{EndFault}
use Rattle.fragment.specs.Carriers.{Terms, Sound}
use Rattle.packet.specs.Reading.{and_then}
use Rattle.sender.specs.declared.values.Base.{Base}
use Rattle.sender.specs.Steps.{fresh_of, start_of}
use Rattle.receiver.specs.declared.state.State.{State}
use Rattle.receiver.specs.Calls.{made_of}
use Rattle.air.specs.declared.fate.Fate.{Fate}
use Rattle.agreement.specs.Turns as turns
use Rattle.agreement.specs.Turns.{turn_of}
use Rattle.agreement.specs.Histories as histories
use Rattle.agreement.specs.Histories.{World, between, within, left_by, note_of, turned, Octets, Reached}
use Rattle.agreement.specs.Agreement.{Goes}
use Rattle.agreement.proofs.Basics.{clash, ok_same}
use Rattle.agreement.proofs.Ties.{Lawful}
use Rattle.agreement.proofs.Agreed.{start-goes, start-refused-goes, turn-goes, turn-refused-goes}
use Rattle.sender.specs.declared.values.Next.{Next}
use Rattle.sender.specs.declared.values.Next.TheVariants as next
use Rattle.sender.specs.declared.states.Refusal.{Refusal}
use Rattle.exchange.specs.declared.pair.Turned.{Turned}
use Rattle.exchange.specs.Views.{Rested, Going, FreshPair, fresh_pair_of, fresh_pair_in, start_in, joined_in, rest_of, pair_of, Brief, brief_of, brief_with, turn_in, ups_in}
use Rattle.exchange.specs.Claims.{FreshReached, StartAgrees, world_in, TurnAgrees}

-- A lent message is octets.
pub octets-lent : (xs : List ℕ) → ((i : ℕ) → get_or xs i 0 < 256) → Octets xs
octets-lent [] h = tt
octets-lent (x ∷ xs) h = (h 0, octets-lent xs (λ i. h (suc i)))

-- Both parts of a pair were made.
parts : (first : Result State EndFault) (second : Result Base EndFault) (make : State → Base → FreshPair) (p : FreshPair)
    → Ok p ≡ and_then first (λ state. and_then second (λ base. Ok (make state base)))
    → (state : State) × (base : Base) × (first ≡ Ok state) × (second ≡ Ok base) × (p ≡ make state base)
parts (Ok state) (Ok base) make p e = (state, base, refl, refl, ok_same p (make state base) e)
parts (Ok state) (Err fault) make p e = clash cc
parts (Err fault) second make p e = clash cc

pub fresh-reached : {C K : Type 0} (t : Terms) (number : List ℕ → ℕ) (own peer retries first : ℕ) (store : List ℕ) → own < 65536 → peer < 65536 → first < 2 ^ 32
    → (r : Result (Rested C K) EndFault) → fresh_pair_in r ≡ fresh_pair_of own peer retries first store → FreshReached t number retries first store r
fresh-reached t number own peer retries first store own_small peer_small first_small (Ok y) e =
    λ fates.
    let x = parts (made_of store) (fresh_of own peer retries first) (λ state base. record { base = base; route = record { source = peer; destination = own }; state = state })
    (record { base = y.sender.base; route = y.receiver.route; state = y.receiver.state }) e in
    subst (λ (p : FreshPair). Reached t number (record { limit = retries; first = first; room = length store; fates = fates }) []
    (between (record { base = p.base; route = p.route; state = p.state; store = store; fates = fates }))) (sym x.4)
    (histories.fresh own peer x.1 x.0 store own_small peer_small first_small x.3 x.2 refl)
fresh-reached t number own peer retries first store own_small peer_small first_small (Err fault) e = tt

pub start-agrees : {C K : Type 0} (t : Terms) (number : List ℕ → ℕ) → Lawful t number → (x : Rested C K) (message : List ℕ) → Octets message
    → (r : Result (Going C K) (Refusal (Rested C K))) → start_in r ≡ start_of t x.sender.base (length message)
    → IfOk r (λ y. y.receiver ≡ x.receiver) → IfErr r (λ y. y.kept ≡ x) → StartAgrees t number x message r
start-agrees t number law x message octets (Ok y) e same back =
    λ store fates.
    subst (λ z. Goes t number (between (rest_of x store fates)) (histories.started (record { serial = y.sender.session.serial; octets = message }))
    (within (record { base = y.sender.base; route = z.route; state = z.state; store = store; fates = fates }) y.sender.session message)) (sym same)
    (start-goes t number law (rest_of x store fates) message y.sender.base y.sender.session octets (sym e))
start-agrees t number law x message octets (Err y) e same back =
    λ store fates.
    subst (λ z. Goes t number (between (rest_of x store fates)) (histories.refused y.fault) (between (rest_of z store fates))) (sym back)
    (start-refused-goes t number law (rest_of x store fates) message y.fault (sym e))

-- Where the brief of a turn leads is where the turn leads.
abbrev world_by : List ℕ → Brief → World
world_by message b = left_by b.pair message b.stepped

world_is : {C K : Type 0} (n : Next (Going C K) (Rested C K)) (message store : List ℕ) (fates : ℕ → Fate) (ups : _) → world_by message (brief_with (joined_in n) ups store fates) ≡ world_in n message store fates
world_is (next.On y) message store fates ups = refl
world_is (next.Ended report y) message store fates ups = refl

-- Carrier and check keep their laws.
pub lawful : (t : Terms) (number : List ℕ → ℕ) → Sound t → ((xs : List ℕ) → number xs < 2 ^ 32)
    → ((xs : List ℕ) (i v : ℕ) → i < length xs → get_or xs i 0 < 256 → v < 256 → (v ≡ get_or xs i 0 → ⊥) → number (set xs i v) ≡ number xs → ⊥) → Lawful t number
lawful t number sound small single = record { sound = sound; small = small; single = single }

module _ {C K : Type 0} (t : Terms) (number : List ℕ → ℕ) (law : Lawful t number) (x : Going C K) (message store : List ℕ) (fates : ℕ → Fate) where
  done : (y : Turned C K) (store' : List ℕ) (fates' : ℕ → Fate) (z : Result turns.Turned EndFault) → turn_of t number (pair_of x store fates) x.sender.session message ≡ z
      → Ok (brief_with (joined_in y.next) (ups_in y.ups) store' fates') ≡ brief_of z → TurnAgrees t number x message store fates (Ok y) store' fates'
  done y store' fates' (Ok r) is e =
      let b = ok_same (brief_with (joined_in y.next) (ups_in y.ups) store' fates') _ e in (
        r,
        is,
        subst (Goes t number (within (pair_of x store fates) x.sender.session message) (turned (note_of t (pair_of x store fates) x.sender.session r)))
            (ap (world_by message) (sym b) ∙ world_is y.next message store' fates' (ups_in y.ups))
            (turn-goes t number law (pair_of x store fates) x.sender.session message r is),
      )
  done y store' fates' (Err fault) is e = clash cc

  undone : (y : Refusal (Going C K)) (z : Result turns.Turned EndFault) → turn_of t number (pair_of x store fates) x.sender.session message ≡ z
      → Err y.fault ≡ brief_of z → turn_of t number (pair_of x store fates) x.sender.session message ≡ Err y.fault
  undone y (Ok r) is e = clash cc
  undone y (Err fault) is e = is ∙ (cc)

  pub turn-agrees : (r : Result (Turned C K) (Refusal (Going C K))) (store' : List ℕ) (fates' : ℕ → Fate)
      → turn_in r store' fates' ≡ brief_of (turn_of t number (pair_of x store fates) x.sender.session message)
      → IfErr r (λ y. y.kept ≡ x) → IfErr r (λ _. (store' ≡ store) × (fates' ≡ fates)) → TurnAgrees t number x message store fates r store' fates'
  turn-agrees (Ok y) store' fates' e back kept = done y store' fates' (turn_of t number (pair_of x store fates) x.sender.session message) refl e
  turn-agrees (Err y) store' fates' e back kept =
      λ own.
      let is = undone y (turn_of t number (pair_of x store fates) x.sender.session message) refl e in
      subst (λ w. Goes t number (within (pair_of x store fates) x.sender.session own) (histories.refused y.fault) (within (pair_of w store' fates') w.sender.session own)) (sym back)
      (subst (λ s. Goes t number (within (pair_of x store fates) x.sender.session own) (histories.refused y.fault) (within (pair_of x s fates') x.sender.session own)) (sym kept.0)
      (subst (λ f. Goes t number (within (pair_of x store fates) x.sender.session own) (histories.refused y.fault) (within (pair_of x store f) x.sender.session own)) (sym kept.1)
      (turn-refused-goes t number law (pair_of x store fates) x.sender.session own message y.fault is)))
