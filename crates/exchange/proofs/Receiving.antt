-- What the hearings of a turn bring, one after another, whatever the receiver answers.
use Rattle.std.proofs.Common.{◌≡◌, ℕ, ◌+◌, ◌≤◌, Bool, List, [], ◌∷◌, ◌++◌, length, arith, Some, None, Ok, Err, Option, Result, refl, ap, ◌∙◌}
use Rattle.fault.specs.declared.EndFault.{EndFault}
use Rattle.fragment.specs.Carriers.{Terms}
use Rattle.packet.specs.declared.values.Route.{Route}
use Rattle.receiver.specs.declared.state.State.{State}
use Rattle.receiver.specs.declared.state.Heard.{Heard}
use Rattle.receiver.specs.declared.state.HandUp.{HandUp}
use Rattle.receiver.specs.Calls.{Called, call_of}
use Rattle.air.specs.declared.fate.Hearing.{Hearing}
use Rattle.air.specs.declared.few.UpToThree.{UpToThree}
use Rattle.air.specs.declared.few.UpToThree.TheVariants.{Empty, One, Two, Three}
use Rattle.air.specs.Few.{listed}
use Rattle.damage.specs.Damage.{damaged}
use Rattle.agreement.specs.Turns.{Handed, Reception, handed_in, first_heard, received_by, received, no_response, call_with, heard_once, all_heard}
use Rattle.exchange.specs.declared.pair.Up.{Up}
use Rattle.exchange.specs.Views.{Seen, seen, seen_of, behind, ups_of, shown_of, begun}

module _ (x : Reception) (reply : Bool) (c : Called) (panel : List ℕ) where
  up-behind : (o : Option HandUp) (response : Option (List ℕ))
      → behind (ups_of x.ups) (seen_of (record { state = c.state; store = c.store; ups = handed_in c.store o []; response = response }) (shown_of x.ups panel))
      ≡ seen_of (record { state = c.state; store = c.store; ups = handed_in c.store o x.ups; response = response }) panel
  up-behind None response = refl
  up-behind (Some up) response = refl

  received-behind : (a : Result Heard EndFault)
      → behind (ups_of x.ups) (seen_of (received_by (begun x.state x.store x.response) reply c a) (shown_of x.ups panel)) ≡ seen_of (received_by x reply c a) panel
  received-behind (Ok heard) = up-behind heard.up (first_heard x.response reply c.response)
  received-behind (Err fault) = refl

-- One hearing more, where f is what the receiver does by its route, state and store.
heard-next : (f : Route → State → List ℕ → Called) (reply : Bool) (x : Reception) (panel : List ℕ) (route route' : Route)
    (s : State) (st : List ℕ) (us : List Up) (resp : Option (List ℕ)) (p : List ℕ) (y : Seen)
    → route' ≡ route → seen s st us resp p ≡ seen_of x panel
    → y ≡ behind us (seen_of (received (begun s st resp) reply (f route' s st)) p)
    → y ≡ seen_of (received x reply (f route x.state x.store)) panel
heard-next f reply x panel route route' s st us resp p y same before e =
    e
    ∙ ap (λ (z : Seen). behind z.ups (seen_of (received (begun z.state z.store z.response) reply (f route' z.state z.store)) z.panel)) before
    ∙ received-behind x reply (f route' x.state x.store) panel (f route' x.state x.store).answer
    ∙ ap (λ (r : Route). seen_of (received x reply (f r x.state x.store)) panel) same

-- One hearing of a packet more.
pub heard-then : (t : Terms) (number : List ℕ → ℕ) (packet : List ℕ) (h : Hearing) (x : Reception) (panel : List ℕ) (route route' : Route)
    (s : State) (st : List ℕ) (us : List Up) (resp : Option (List ℕ)) (p : List ℕ) (y : Seen)
    → route' ≡ route → seen s st us resp p ≡ seen_of x panel
    → y ≡ behind us (seen_of (heard_once t number route' packet (begun s st resp) h) p)
    → y ≡ seen_of (heard_once t number route packet x h) panel
heard-then t number packet h = heard-next (λ route s st. call_of t number route s st (damaged t.block h packet) no_response) h.reply

-- Hearings

pub listed-few : (hs : UpToThree Hearing) → length (listed hs) ≤ 3
listed-few Empty = omega arith
listed-few (One a) = omega arith
listed-few (Two a b) = omega arith
listed-few (Three a b c) = omega arith

handed-few : (store : List ℕ) (o : Option HandUp) (ups : List Handed) → length (ups_of (handed_in store o ups)) ≤ length (ups_of ups) + 1
handed-few store None ups = omega arith
handed-few store (Some up) ups = omega arith

received-few : (x : Reception) (reply : Bool) (c : Called) (a : Result Heard EndFault) → length (ups_of (received_by x reply c a).ups) ≤ length (ups_of x.ups) + 1
received-few x reply c (Ok heard) = handed-few c.store heard.up x.ups
received-few x reply c (Err fault) = omega arith

module _ (t : Terms) (number : List ℕ → ℕ) (route : Route) (packet : List ℕ) where
  -- Each hearing hands up at most one message.
  pub all-few : (x : Reception) (hs : List Hearing) → length (ups_of (all_heard t number route packet x hs).ups) ≤ length (ups_of x.ups) + length hs
  all-few x [] = omega arith
  all-few x (h ∷ hs) =
      let c : Called = call_with t number route packet x h in
      let y : Reception = heard_once t number route packet x h in
      let here : length (ups_of y.ups) ≤ length (ups_of x.ups) + 1 = received-few x h.reply c c.answer in
      let later : length (ups_of (all_heard t number route packet y hs).ups) ≤ length (ups_of y.ups) + length hs = all-few y hs in
      omega arith

  pub all-then : (x : Reception) (hs : List Hearing) (h : Hearing)
      → heard_once t number route packet (all_heard t number route packet x hs) h ≡ all_heard t number route packet x (hs ++ (h ∷ []))
  all-then x [] h = refl
  all-then x (k ∷ hs) h = all-then (heard_once t number route packet x k) hs h
