-- What one hearing of a packet leaves, by the receiver's phase.
use Rattle.std.proofs.Common.{◌≡◌, ℕ, suc, ◌+◌, ◌<◌, ◌≤◌, Bool, true, false, ◌&&◌, eqb, leb, ◌⊎◌, List, length, take, replicate, Some, None, Ok, Option, sym, refl, ap, ◌∙◌, subst, inl, inr, arith}
use Rattle.std.proofs.lemmas.List.{length-take}
use Rattle.std.proofs.lemmas.Bool.{cases_Bool, both_ways, leb-true, eq-eqb, cond_both}
use Rattle.fragment.specs.Carriers.{Terms}
use Rattle.fragment.specs.Cutting.{Piece, piece_at}
use Rattle.fragment.specs.Laws.{WellCut}
use Rattle.fragment.proofs.Cuts.{well-cut}
use Rattle.packet.specs.declared.values.Code.{Code}
use Rattle.packet.specs.declared.values.Code.TheVariants.{Ack, AckSelective, FullRetry, OutOfStep}
use Rattle.packet.specs.declared.values.Header.{Header}
use Rattle.packet.specs.declared.values.Route.{Route}
use Rattle.packet.specs.Octets.{over}
use Rattle.packet.specs.Refusals.{number_at}
use Rattle.packet.proofs.Over.{length_over}
use Rattle.receiver.specs.declared.state.Gathering.{Gathering}
use Rattle.receiver.specs.declared.state.Phase.{Phase}
use Rattle.receiver.specs.declared.state.Phase.TheVariants.{Idle, Collecting, Waiting, Done}
use Rattle.receiver.specs.declared.state.State.{State}
use Rattle.receiver.specs.declared.state.Act.{Act}
use Rattle.receiver.specs.declared.state.Act.TheVariants.{Rest, Answer, Fill}
use Rattle.receiver.specs.declared.state.HandUp.{HandUp}
use Rattle.receiver.specs.Store.{anew, missing_of, is_right}
use Rattle.receiver.specs.Rows.{idle, gathering, expiry_row, row_of, event_of}
use Rattle.receiver.specs.Fill.{After, answered, is_last, serial_in, appended, octets_of, finished, filled, done_by, heard_of}
use Rattle.receiver.specs.Calls.{unfit_of, admit_of, call_of, on_admitted, responded_to, expired}
use Rattle.receiver.specs.Laws.{Expects, ExpectsSelective, Joins, PastLast, PacketRows, fills}
use Rattle.receiver.proofs.Hearing.{packet-rows}
use Rattle.receiver.proofs.Joining.{joins-decided, joins-unfit, none-unfit, past-none}
use Rattle.agreement.proofs.Ties.{Lawful, Sending, Sized, up_after, reach, gathered, NearHeld, Stored, Carries, LastOk, Tied, Touched, Untouched, Facing, PostAck, CodeOk, StepOk, Ready}
use Rattle.agreement.proofs.Filled.{fill-good, anew-near, anew-sized}

-- Phases are told apart.

idle-done : Idle ≡ Done → ⊥
idle-done e = let z : ◌≡◌ {A = ℕ} 0 1 = cc in omega arith

waiting-done : (v : ℕ) → Waiting v ≡ Done → ⊥
waiting-done v e = let z : ◌≡◌ {A = ℕ} 0 1 = cc in omega arith

collecting-done : (g : Gathering) → Collecting g ≡ Done → ⊥
collecting-done g e = let z : ◌≡◌ {A = ℕ} 0 1 = cc in omega arith

-- No hearing changes the room of the message store.
module _ (t : Terms) (number : List ℕ → ℕ) (store : List ℕ) where
  abbrev SameRoom : After → Type 0
  SameRoom o = length o.store ≡ length store

  room-over : (place k : ℕ) (xs : List ℕ) → place + k ≤ length store → length (over place (take k xs) store) ≡ length store
  room-over place k xs l = length_over place (take k xs) store (let e = length-take k xs in omega arith)

  room-appended : (s : State) (octets check : ℕ) (g : Gathering) → s.filled + octets ≤ length store → SameRoom (appended s store octets check g)
  room-appended s octets check g l =
      let e = room-over s.filled octets s.blocks.octets l in
      cond_both (eqb g.number 0) _ _ SameRoom
      (λ _. cond_both (g.start && is_last s.last (serial_in (over s.filled (take octets s.blocks.octets) store)) check) _ _ SameRoom (λ _. e) (λ _. e))
      (λ _. e)

  room-finished : (s : State) (g : Gathering) → SameRoom (finished t number s store g)
  room-finished s g =
      cond_both (eqb (missing_of g.blocks s.blocks).0 0) _ _ SameRoom
      (λ _. cond_both (is_right number t.block g.blocks s.blocks) _ _ SameRoom
      (λ _. cond_both (leb (s.filled + octets_of t g) (length store)) _ _ SameRoom (λ l. room-appended s (octets_of t g) _ g (leb-true _ _ l)) (λ _. refl))
      (λ _. cond_both t.selective _ _ SameRoom (λ _. refl) (λ _. refl)))
      (λ _. cond_both t.selective _ _ SameRoom (λ _. refl) (λ _. refl))

  room-done : (h : Header) (xs : List ℕ) (s : State) (act : Act) → SameRoom (done_by t number h xs store s act)
  room-done h xs s Rest = refl
  room-done h xs s (Answer code) = refl
  room-done h xs s (Fill g) = room-finished (filled t.block h xs s) g

  room-heard : (s : State) (h : Header) (xs : List ℕ) → SameRoom (heard_of t number s store h xs)
  room-heard s h xs = room-done h xs (row_of s (event_of h)).state (row_of s (event_of h)).act

-- The wait leaves the state, or Idle where it was not Done.
expiry-leaves : (s : State) (p : Phase) → s.phase ≡ p → ((expiry_row s p).state ≡ s) ⊎ (((expiry_row s p).state ≡ idle s) × (s.phase ≡ Done → ⊥))
expiry-leaves s Idle e = inl refl
expiry-leaves s (Collecting g) e = inr (refl, λ d. collecting-done g (sym e ∙ d))
expiry-leaves s (Waiting v) e = inr (refl, λ d. waiting-done v (sym e ∙ d))
expiry-leaves s Done e = inl refl

up-stays : (u : Bool) (up : Option HandUp) → u ≡ true → up_after u up ≡ true
up-stays u None e = e
up-stays u (Some up) e = refl

module _ (t : Terms) (number : List ℕ → ℕ) (law : Lawful t number) (serial : ℕ) (message : List ℕ) (count n : ℕ) (sending : Sending t serial message count) (below : n < count) where
  abbrev f : Piece
  f = piece_at t (length message) n

  module _ (a : ℕ) (u : Bool) (s : State) (store : List ℕ) (x : Touched t number serial message f a u s store) (other : s.phase ≡ Done → ⊥) where
    -- Up outside of Done only where the first fragment is the last.
    up-starts : u ≡ true → f.start ≡ true
    up-starts e = elim (x.when_up e).2 [ inl b ↦ b | inr d ↦ absurd (other d) ]

    not-up : f.start ≡ false → u ≡ false
    not-up st = elim (cases_Bool u) [ inl e ↦ absurd (both_ways f.start st (up-starts e)) | inr e ↦ e ]

    idle-touched : Touched t number serial message f a u (idle s) store
    idle-touched = record { sized = x.sized; tied = tt; latest = x.latest; when_up = λ e. ((x.when_up e).0, (x.when_up e).1, inl (up-starts e)) }

  -- One hearing of a packet.
  module _ (a : ℕ) (u : Bool) (s : State) (store : List ℕ) (h : Header) (xs : List ℕ) (c : Carries t number serial message f a h xs) where
    abbrev Good : After → Type 0
    Good o = StepOk t number serial message f a u store o

    abbrev heard : After
    heard = heard_of t number s store h xs

    abbrev Now : Type 0
    Now = Touched t number serial message f a u s store

    rows : PacketRows t number s store h xs
    rows = packet-rows t number s store h xs

    by_row : (o : After) → heard ≡ o → Good o → Good heard
    by_row o e g = subst Good (sym e) g

    -- What a full packet begins is the fragment.
    begun : (b : Bool) → h.selective ≡ false → b ≡ f.start → gathering b h ≡ gathered f
    begun b full e = rw (c.number_is, e, c.records_are full, c.pad_is)

    -- In the block store as it is, or made anew.
    same_good : (g : Gathering) → g ≡ gathered f → Sized s.blocks → Ready t number serial message f u s.last store
        → NearHeld t number serial message f a s.blocks → Stored t number serial message f f.offset s.filled store
        → heard ≡ fills t number s store h xs g s.blocks s.filled → Good heard
    same_good g e sized ready near stored row =
        by_row _ row (fill-good t number law serial message count n sending below a u s store h xs g s.blocks s.filled c e sized ready near stored)

    anew-good : (g : Gathering) (octets : ℕ) → g ≡ gathered f → Sized s.blocks → Ready t number serial message f u s.last store
        → Stored t number serial message f f.offset octets store → heard ≡ fills t number s store h xs g (anew s.blocks) octets → Good heard
    anew-good g octets e sized ready stored row =
        by_row _ row
        (fill-good t number law serial message count n sending below a u s store h xs g (anew s.blocks) octets c e (anew-sized s.blocks sized) ready
        (anew-near t number serial message f a s.blocks) stored)

    ready-down : u ≡ false → LastOk t number serial message f u s.last → Ready t number serial message f u s.last store
    ready-down down l = record { latest = l; when_up = λ e. absurd (both_ways u down e) }

    lost-good : Now → (s.phase ≡ Done → ⊥) → f.start ≡ false → heard ≡ answered (idle s) store OutOfStep → Good heard
    lost-good x other st row =
        by_row _ row
        (record { touched = idle-touched a u s store x other; up_ok = tt; code_ok = inl (st, refl, not-up a u s store x other st); same_room = refl })

    ack-good : Now → PostAck t number serial message f u s store → heard ≡ answered s store Ack → Good heard
    ack-good x p row = by_row _ row (record { touched = x; up_ok = tt; code_ok = p; same_room = refl })

    again-acks : (v : ℕ) → s.phase ≡ Waiting v → v ≡ f.number → 0 < f.number → Stored t number serial message f (reach f) s.filled store
        → PostAck t number serial message f u s store
    again-acks v e is some stored = (λ z. absurd (omega arith), λ z. inr (e ∙ ap Waiting is, stored))

    done-acks : f.number ≡ 0 → u ≡ true → PostAck t number serial message f u s store
    done-acks zero up = (λ z. up, λ z. absurd (omega arith))

    start-good : h.selective ≡ false → h.start ≡ true → Sized s.blocks → Ready t number serial message f u s.last store → Good heard
    start-good full on sized ready =
        let st : f.start ≡ true = sym c.start_is ∙ on in
        let w = well-cut t law.sound (length message) count n sending.fits below in
        let zero : f.offset ≡ 0 = w.begins (w.first.0 st) in
        anew-good (gathering true h) 0 (begun true full (sym st)) sized ready (rw zero (refl, refl)) (rows.full_start full on)

    full-good : h.selective ≡ false → h.start ≡ false → f.start ≡ false → Now
        → (p : Phase) → s.phase ≡ p → Tied t number serial message f a u p s.blocks s.filled store → Good heard
    full-good full off st x Idle e y = lost-good x (λ d. idle-done (sym e ∙ d)) st (rows.full_unexpected full off (subst (λ (p : Phase). Expects p h) e))
    full-good full off st x (Collecting g) e (inl (is, near, stored)) =
        same_good (gathering false h) (begun false full (sym st)) x.sized (ready-down (not-up a u s store x (λ d. collecting-done g (sym e ∙ d)) st) x.latest) near stored
        (rows.full_same full off g e (c.number_is ∙ ap (λ (k : Gathering). k.number) (sym is)) (ap (λ (k : Gathering). k.start) is ∙ st)
        (c.records_are full ∙ ap (λ (k : Gathering). k.blocks) (sym is)) (c.pad_is ∙ ap (λ (k : Gathering). k.pad) (sym is)))
    full-good full off st x (Collecting g) e (inr y) =
        lost-good x (λ d. collecting-done g (sym e ∙ d)) st
        (rows.full_unexpected full off (λ z. let k = (subst (λ (p : Phase). Expects p h) e z).0 in omega (arith, y.0, c.number_is)))
    full-good full off st x (Waiting v) e (inl (is, some, stored)) =
        ack-good x (again-acks v e is some stored) (rows.full_again full off (e ∙ ap Waiting (is ∙ sym c.number_is)))
    full-good full off st x (Waiting v) e (inr (is, _, stored)) =
        anew-good (gathering false h) s.filled (begun false full (sym st)) x.sized (ready-down (not-up a u s store x (λ d. waiting-done v (sym e ∙ d)) st) x.latest) stored
        (rows.full_next full off (e ∙ ap Waiting (omega (arith, c.number_is))))
    full-good full off st x Done e (zero, up) = ack-good x (done-acks zero up) (rows.full_done full off e (c.number_is ∙ zero))

    -- A selective packet that no phase expects.
    stray-good : h.selective ≡ true → Now → (s.phase ≡ Done → ⊥) → (ExpectsSelective s.phase h → ⊥) → Good heard
    stray-good sel x other none =
        elim (cases_Bool f.start) [
          | inl st ↦ by_row _ (rows.selective_start sel (c.start_is ∙ st) none) (record { touched = x; up_ok = tt; code_ok = tt; same_room = refl })
          | inr st ↦ lost-good x other st (rows.selective_unexpected sel (c.start_is ∙ st) none)
        ]

    selective-good : h.selective ≡ true → Now
        → (p : Phase) → s.phase ≡ p → Tied t number serial message f a u p s.blocks s.filled store → Good heard
    selective-good sel x Idle e y = stray-good sel x (λ d. idle-done (sym e ∙ d)) (subst (λ (p : Phase). ExpectsSelective p h) e)
    selective-good sel x (Collecting g) e (inl (is, near, stored)) =
        same_good g is x.sized
        (record { latest = x.latest; when_up = λ v. ((x.when_up v).0, (x.when_up v).1, up-starts a u s store x (λ d. collecting-done g (sym e ∙ d)) v) }) near stored
        (rows.selective_same sel g e (c.number_is ∙ ap (λ (k : Gathering). k.number) (sym is)) (c.start_is ∙ ap (λ (k : Gathering). k.start) (sym is)))
    selective-good sel x (Collecting g) e (inr y) =
        stray-good sel x (λ d. collecting-done g (sym e ∙ d))
        (λ z. let k = (subst (λ (p : Phase). ExpectsSelective p h) e z).0 in omega (arith, y.0, c.number_is))
    selective-good sel x (Waiting v) e (inl (is, some, stored)) =
        ack-good x (again-acks v e is some stored) (rows.selective_again sel (e ∙ ap Waiting (is ∙ sym c.number_is)))
    selective-good sel x (Waiting v) e (inr y) =
        stray-good sel x (λ d. waiting-done v (sym e ∙ d))
        (λ z. let k = subst (λ (p : Phase). ExpectsSelective p h) e z in omega (arith, y.0, c.number_is))
    selective-good sel x Done e (zero, up) = ack-good x (done-acks zero up) (rows.selective_done sel e (c.number_is ∙ zero))

    heard-as : Facing t number serial message f a u s store h.selective → (sel start : Bool) → h.selective ≡ sel → h.start ≡ start → Good heard
    heard-as (inl x) true start sel e = selective-good sel x s.phase refl x.tied
    heard-as (inr x) true start sel e = absurd (both_ways h.selective x.1 sel)
    heard-as (inl x) false true full e =
        start-good full e x.sized (record { latest = x.latest; when_up = λ v. ((x.when_up v).0, (x.when_up v).1, sym c.start_is ∙ e) })
    heard-as (inr x) false true full e = start-good full e x.0.sized (ready-down x.0.down (rw x.0.down x.0.latest))
    heard-as (inl x) false false full e = full-good full e (sym c.start_is ∙ e) x s.phase refl x.tied
    heard-as (inr x) false false full e = absurd (both_ways f.start (sym c.start_is ∙ e) x.0.starting)

    pub hear-good : Facing t number serial message f a u s store h.selective → StepOk t number serial message f a u store (heard_of t number s store h xs)
    hear-good x = heard-as x h.selective h.start refl refl

    -- A packet of a later fragment is only acknowledged where the fragment is in, and only out of step at Idle.
    waiting-heard : f.start ≡ false → s.phase ≡ Waiting f.number → heard ≡ answered s store Ack
    waiting-heard st e =
        let here : s.phase ≡ Waiting h.number = e ∙ ap Waiting (sym c.number_is) in
        elim (cases_Bool h.selective) [
          | inl sel ↦ rows.selective_again sel here
          | inr full ↦ rows.full_again full (c.start_is ∙ st) here
        ]

    idle-heard : f.start ≡ false → s.phase ≡ Idle → heard ≡ answered (idle s) store OutOfStep
    idle-heard st e =
        elim (cases_Bool h.selective) [
          | inl sel ↦ rows.selective_unexpected sel (c.start_is ∙ st) (subst (λ (p : Phase). ExpectsSelective p h) e)
          | inr full ↦ rows.full_unexpected full (c.start_is ∙ st) (subst (λ (p : Phase). Expects p h) e)
        ]

    abbrev In : After → Type 0
    In o = (o.state.phase ≡ Waiting f.number) × Stored t number serial message f (reach f) o.state.filled o.store

    -- What a code of an earlier hearing told still holds.
    abbrev Holds : Option Code → After → Type 0
    Holds r o = CodeOk t number serial message f (up_after u o.heard.up) r o.state o.store

    pub keeps : (r : Option Code) → CodeOk t number serial message f u r s store
        → CodeOk t number serial message f (up_after u (heard_of t number s store h xs).heard.up) r (heard_of t number s store h xs).state (heard_of t number s store h xs).store
    keeps None k = tt
    keeps (Some Ack) k = (λ z. up-stays u heard.heard.up (k.0 z), λ z. stays (k.1 z))
      where
        stays : (f.start ≡ true) ⊎ In (answered s store Ack) → (f.start ≡ true) ⊎ In heard
        stays (inl b) = inl b
        stays (inr k) = elim (cases_Bool f.start) [ inl st ↦ inl st | inr st ↦ inr (subst In (sym (waiting-heard st k.0)) k) ]
    keeps (Some (AckSelective set)) k = k
    keeps (Some FullRetry) k = tt
    keeps (Some OutOfStep) (inl (st, e, down)) = subst (Holds (Some OutOfStep)) (sym (idle-heard st e)) (inl (st, refl, down))
    keeps (Some OutOfStep) (inr k) = inr (rw (room-heard t number store s h xs) k)

  -- No packet of the fragment is refused: pad and blocks fit the fragment that is collected.
  module _ (a : ℕ) (u : Bool) (s : State) (store : List ℕ) (h : Header) (xs : List ℕ) (route : Route) (c : Carries t number serial message f a h xs)
      (x : Facing t number serial message f a u s store h.selective) where
    joined : (g : Gathering) → Joins s.phase h g → g ≡ gathered f
    joined g j =
        elim x [
          | inl y ↦
              elim (subst (λ (p : Phase). Tied t number serial message f a u p s.blocks s.filled store) j.0 y.tied) [
                | inl z ↦ z.0
                | inr z ↦ absurd (omega (arith, z.0, j.2, c.number_is))
              ]
          | inr y ↦ absurd (both_ways h.selective y.1 j.1)
        ]

    none-past : (i : ℕ) → PastLast t xs f.blocks i → ⊥
    none-past i (there, good, past) = let k = (c.near i (number_at t xs i) (there, good, refl)).0 in omega arith

    fits : unfit_of t.block s.phase xs h ≡ None
    fits =
        elim (joins-decided h s.phase) [
          | inl (g, j) ↦
              (let is = joined g j in
              joins-unfit h t.block s.phase xs g j
              ∙ (rw (is, eq-eqb h.pad f.pad c.pad_is) (past-none t xs h c.read f.blocks none-past)))
          | inr none ↦ none-unfit h t.block s.phase xs none
        ]

    pub admitted : h.route.source ≡ route.destination → h.route.destination ≡ route.source → admit_of t route s.phase xs 10 ≡ Ok h
    admitted from to = rw (c.read, eq-eqb _ _ from, eq-eqb _ _ to, fits)

    pub called_is : h.route.source ≡ route.destination → h.route.destination ≡ route.source
        → call_of t number route s store xs (replicate 10 0) ≡ responded_to route h (replicate 10 0) (heard_of t number s store h xs)
    called_is from to = ap (on_admitted t number route s store xs (replicate 10 0)) (admitted from to)

  -- The wait runs out.

  pub expired-touched : (a : ℕ) (u : Bool) (s : State) (store : List ℕ) → Touched t number serial message f a u s store → Touched t number serial message f a u (expired s) store
  expired-touched a u s store x =
      elim (expiry-leaves s s.phase refl) [
        | inl e ↦ subst (λ (y : State). Touched t number serial message f a u y store) (sym e) x
        | inr (e, other) ↦ subst (λ (y : State). Touched t number serial message f a u y store) (sym e) (idle-touched a u s store x other)
      ]

  pub expired-untouched : (u : Bool) (s : State) → Untouched t number serial message f u s → Untouched t number serial message f u (expired s)
  expired-untouched u s x =
      elim (expiry-leaves s s.phase refl) [
        | inl e ↦ subst (λ (y : State). Untouched t number serial message f u y) (sym e) x
        | inr (e, _) ↦
            subst (λ (y : State). Untouched t number serial message f u y) (sym e)
            (record { down = x.down; starting = x.starting; sized = x.sized; latest = x.latest })
      ]

-- On to the next fragment once this one is acknowledged.
module _ (t : Terms) (number : List ℕ → ℕ) (law : Lawful t number) (serial : ℕ) (message : List ℕ) (count n : ℕ) (sending : Sending t serial message count) (below : suc n < count) where
  abbrev this : Piece
  this = piece_at t (length message) (suc n)

  abbrev next : Piece
  next = piece_at t (length message) n

  next-cut : WellCut t (length message) count n
  next-cut = well-cut t law.sound (length message) count n sending.fits (omega arith)

  next-later : next.start ≡ false
  next-later = elim (cases_Bool next.start) [ inl e ↦ absurd (let z = next-cut.first.0 e in omega arith) | inr e ↦ e ]

  next-stored : (k : ℕ) (store : List ℕ) → Stored t number serial message this (reach this) k store → Stored t number serial message next next.offset k store
  next-stored k store x = subst (λ m. Stored t number serial message next m k store) (sym (next-cut.follows below)) x

  module _ (a b : ℕ) (s : State) (store : List ℕ) where
    abbrev Acked : Type 0
    Acked = (this.start ≡ true) ⊎ ((s.phase ≡ Waiting (suc n)) × Stored t number serial message this (reach this) s.filled store)

    next-tied : (p : Phase) → s.phase ≡ p → Tied t number serial message this a false p s.blocks s.filled store → Acked
        → Tied t number serial message next b false p s.blocks s.filled store
    next-tied Idle e x y = tt
    next-tied (Collecting g) e (inl x) (inl y) = inr (ap (λ (k : Gathering). k.number) x.0, ap (λ (k : Gathering). k.start) x.0 ∙ y, next-later)
    next-tied (Collecting g) e (inr x) (inl y) = absurd (both_ways this.start x.2 y)
    next-tied (Collecting g) e x (inr y) = absurd (let z : ◌≡◌ {A = ℕ} 0 1 = cc (e, y.0) in omega arith)
    next-tied (Waiting v) e (inl x) y = inr (x.0, next-later, next-stored s.filled store x.2)
    next-tied (Waiting v) e (inr x) (inl y) = absurd (both_ways this.start x.1 y)
    next-tied (Waiting v) e (inr x) (inr y) = absurd (let z : v ≡ suc n = cc (e, y.0) in omega (arith, x.0))
    next-tied Done e x y = absurd (omega (arith, x.0))

  pub advance : (a b : ℕ) (u : Bool) (s : State) (store : List ℕ) → Touched t number serial message this a u s store → PostAck t number serial message this u s store
      → Touched t number serial message next b u s store
  advance a b true s store x p = absurd (omega (arith, (x.when_up refl).0))
  advance a b false s store x p =
      record {
        sized = x.sized;
        tied = next-tied a b s store s.phase refl x.tied (p.1 (omega arith));
        latest = x.latest;
        when_up = λ e. absurd (both_ways false refl e);
      }
