-- A story grows behind the steps that it began with, and its text behind theirs.
use Rattle.std.proofs.Common.{◌≡◌, ℕ, zero, suc, ◌+◌, ◌-◌, ◌<◌, ◌≤◌, List, [], ◌∷◌, ◌++◌, length, get_or, drop, Ok, Err, Result, sym, refl, ap, ◌∙◌, append_assoc, append-nil, arith}
use Rattle.std.proofs.lemmas.List.{drop_more, drop_all}
use Rattle.fault.specs.declared.EndFault.{EndFault}
use Rattle.fragment.specs.Carriers.{Terms}
use Rattle.sender.specs.declared.values.Base.{Base}
use Rattle.sender.specs.declared.values.Session.{Session}
use Rattle.sender.specs.Steps.{Stepped}
use Rattle.sender.specs.declared.values.Next.TheVariants as stepped
use Rattle.sender.specs.Steps.{start_of}
use Rattle.agreement.specs.Turns.{Pair, Turned, turn_of}
use Rattle.agreement.specs.Histories.{Event, refused, started, turned, World, between, within, note_of, with_base}
use Rattle.script.specs.declared.values.Message as script
use Rattle.play.specs.Stories.{Step, Story, story, noted, text_of, event_text, on_stepped, on_turned, turns_from, most_turns, on_started, octets_of, send_from, sends_from}
use Rattle.play.specs.Views.{Stand, resting, going, stand_in, world_with, Telling, telling_of, Place, on, over, Left, place_of, left_of}

-- x is the story y behind these steps.
pub record Behind (steps : List Step) (x y : Story) : Type 0 where
  pub text : text_of x.steps ≡ text_of steps ++ text_of y.steps
  pub world : x.world ≡ y.world

behind-none : (steps : List Step) (w : World) → Behind steps (story w steps) (story w [])
behind-none steps w = record { text = sym (append-nil (text_of steps)); world = refl }

-- Two stories that go on from one event.
behind-one : (line : ℕ) (e : Event) (steps : List Step) (x y z : Story) → Behind (noted line e steps) x z → Behind (noted line e []) y z → Behind steps x y
behind-one line e steps x y z p q =
    record {
      text = p.text ∙ append_assoc (text_of steps) (event_text line e) (text_of z.steps) ∙ ap (λ l. text_of steps ++ l) (sym q.text);
      world = p.world ∙ sym q.world;
    }

behind-event : (line : ℕ) (e : Event) (steps : List Step) (w : World) → Behind steps (story w (noted line e steps)) (story w (noted line e []))
behind-event line e steps w = record { text = refl; world = refl }

-- The story behind its first steps tells the same.
behind-told : (text : List ℕ) (steps : List Step) (x y : Story) → Behind steps x y → telling_of (text ++ text_of steps) y ≡ telling_of text x
behind-told text steps x y b =
    ap (λ l. record { text = l; stand = stand_in y.world }) (append_assoc text (text_of steps) (text_of y.steps) ∙ ap (λ l. text ++ l) (sym b.text))
    ∙ ap (λ w. record { text = text ++ text_of x.steps; stand = stand_in w }) (sym b.world)

-- After a turn, what is left of the session tells the rest.
abbrev pub goes_on : (Pair → Session → List Step → Story) → List ℕ → Place → Telling
goes_on go text (on p s) = telling_of text (go p s [])
goes_on go text (over stand) = record { text = text; stand = stand }

module _ (t : Terms) (number : List ℕ → ℕ) where
  module _ (go : Pair → Session → List Step → Story) (again : (p : Pair) (s : Session) (steps : List Step) → Behind steps (go p s steps) (go p s [])) where
    stepped-behind : (line : ℕ) (e : Event) (p : Pair) (steps : List Step) (d : Stepped)
        → Behind steps (on_stepped t number go p (noted line e steps) d) (on_stepped t number go p (noted line e []) d)
    stepped-behind line e p steps (stepped.On s) =
        behind-one line e steps (go p s (noted line e steps)) (go p s (noted line e [])) (go p s []) (again p s (noted line e steps)) (again p s (noted line e []))
    stepped-behind line e p steps (stepped.Ended report left) = behind-event line e steps (between p)

    turned-behind : (line : ℕ) (m : List ℕ) (p : Pair) (s : Session) (steps : List Step) (r : Result Turned EndFault)
        → Behind steps (on_turned t number line m go p s steps r) (on_turned t number line m go p s [] r)
    turned-behind line m p s steps (Ok x) = stepped-behind line (turned (note_of t p s x)) x.pair steps x.stepped
    turned-behind line m p s steps (Err fault) = behind-event line (refused fault) steps (within p s m)

    stepped-told : (line : ℕ) (e : Event) (text : List ℕ) (p : Pair) (d : Stepped)
        → goes_on go (text ++ event_text line e) (place_of p d) ≡ telling_of text (on_stepped t number go p (noted line e []) d)
    stepped-told line e text p (stepped.On s) = behind-told text (noted line e []) (go p s (noted line e [])) (go p s []) (again p s (noted line e []))
    stepped-told line e text p (stepped.Ended report left) = refl

    turned-told : (line : ℕ) (m text : List ℕ) (p : Pair) (s : Session) (r : Result Turned EndFault)
        → goes_on go (left_of t line text p s r).text (left_of t line text p s r).place ≡ telling_of text (on_turned t number line m go p s [] r)
    turned-told line m text p s (Ok x) = stepped-told line (turned (note_of t p s x)) text x.pair x.stepped
    turned-told line m text p s (Err fault) = refl

  turns-behind : (k line : ℕ) (m : List ℕ) (p : Pair) (s : Session) (steps : List Step)
      → Behind steps (turns_from t number k line m p s steps) (turns_from t number k line m p s [])
  turns-behind zero line m p s steps = behind-none steps (within p s m)
  turns-behind (suc k) line m p s steps = turned-behind (turns_from t number k line m) (turns-behind k line m) line m p s steps (turn_of t number p s m)

  -- One turn, and then the turns that are left.
  pub turn-told : (k line : ℕ) (m text : List ℕ) (p : Pair) (s : Session)
      → goes_on (turns_from t number k line m) (left_of t line text p s (turn_of t number p s m)).text (left_of t line text p s (turn_of t number p s m)).place
      ≡ telling_of text (turns_from t number (suc k) line m p s [])
  turn-told k line m text p s = turned-told (turns_from t number k line m) (turns-behind k line m) line m text p s (turn_of t number p s m)

  -- The turns that are left of so many, after one more.
  pub turns-left : (most n line : ℕ) (m text : List ℕ) (p : Pair) (s : Session) (x : Left) → n < most → x ≡ left_of t line text p s (turn_of t number p s m)
      → goes_on (turns_from t number (most - (n + 1)) line m) x.text x.place ≡ telling_of text (turns_from t number (most - n) line m p s [])
  turns-left most n line m text p s x h e =
      let one : suc (most - (n + 1)) ≡ most - n = omega arith in
      ap (λ (y : Left). goes_on (turns_from t number (most - (n + 1)) line m) y.text y.place) e
      ∙ turn-told (most - (n + 1)) line m text p s
      ∙ ap (λ k. telling_of text (turns_from t number k line m p s [])) one

  -- No turn is left.
  pub turns-none : (most n line : ℕ) (m text : List ℕ) (p : Pair) (s : Session) → most ≤ n
      → record { text = text; stand = going p s } ≡ telling_of text (turns_from t number (most - n) line m p s [])
  turns-none most n line m text p s h =
      let none : 0 ≡ most - n = omega arith in
      ap (λ l. record { text = l; stand = going p s }) (sym (append-nil text))
      ∙ ap (λ k. telling_of text (turns_from t number k line m p s [])) none

  -- Sending

  started-behind : (line : ℕ) (m : List ℕ) (p : Pair) (steps : List Step) (r : Result (Base × Session) EndFault)
      → Behind steps (on_started t number line m p steps r) (on_started t number line m p [] r)
  started-behind line m p steps (Ok x) =
      let e : Event = started (record { serial = x.1.serial; octets = m }) in
      behind-one line e steps (turns_from t number (most_turns t number) line m (with_base x.0 p) x.1 (noted line e steps))
      (turns_from t number (most_turns t number) line m (with_base x.0 p) x.1 (noted line e [])) (turns_from t number (most_turns t number) line m (with_base x.0 p) x.1 [])
      (turns-behind (most_turns t number) line m (with_base x.0 p) x.1 (noted line e steps)) (turns-behind (most_turns t number) line m (with_base x.0 p) x.1 (noted line e []))
  started-behind line m p steps (Err fault) = behind-event line (refused fault) steps (between p)

  send-behind : (send : script.Message) (steps : List Step) (w : World) → Behind steps (send_from t number send steps w) (send_from t number send [] w)
  send-behind send steps (between p) =
      started-behind send.line (octets_of t number send) p steps (start_of t p.base (length (octets_of t number send)))
  send-behind send steps (within p s m) = behind-none steps (within p s m)

  sends-told : (sends : List script.Message) (text : List ℕ) (x : Story)
      → telling_of text (sends_from t number sends x) ≡ telling_of (text ++ text_of x.steps) (sends_from t number sends (story x.world []))
  sends-told [] text x = ap (λ l. record { text = l; stand = stand_in x.world }) (sym (append-nil (text ++ text_of x.steps)))
  sends-told (send ∷ later) text x =
      let a : Story = send_from t number send x.steps x.world in
      let b : Story = send_from t number send [] x.world in
      let h : Behind x.steps a b = send-behind send x.steps x.world in
      sends-told later text a
      ∙ ap (λ l. telling_of l (sends_from t number later (story a.world []))) (ap (λ l. text ++ l) h.text ∙ sym (append_assoc text (text_of x.steps) (text_of b.steps)))
      ∙ ap (λ w. telling_of ((text ++ text_of x.steps) ++ text_of b.steps) (sends_from t number later (story w []))) h.world
      ∙ sym (sends-told later (text ++ text_of x.steps) b)

  -- Sends within a session change nothing, whatever its message.
  within-told : (sends : List script.Message) (text : List ℕ) (p : Pair) (s : Session) (m : List ℕ)
      → telling_of text (sends_from t number sends (story (within p s m) [])) ≡ telling_of text (sends_from t number sends (story (within p s []) []))
  within-told [] text p s m = refl
  within-told (send ∷ later) text p s m = within-told later text p s m

  world-told : (sends : List script.Message) (text : List ℕ) (w : World)
      → telling_of text (sends_from t number sends (story w [])) ≡ telling_of text (sends_from t number sends (story (world_with (stand_in w)) []))
  world-told sends text (between p) = refl
  world-told sends text (within p s m) = within-told sends text p s m

  stand-back : (stand : Stand) → stand ≡ stand_in (world_with stand)
  stand-back (resting p) = refl
  stand-back (going p s) = refl

  -- The messages that are left, told behind a text. It stays shut, since a session has too many turns to compute.
  pub sends_left : List script.Message → List ℕ → Stand → Telling
  sends_left sends text stand = telling_of text (sends_from t number sends (story (world_with stand) []))

  pub send-told : (sends : List script.Message) (i : ℕ) (text : List ℕ) (stand : Stand) (x : Telling) → i < length sends
      → x ≡ telling_of text (send_from t number (get_or sends i (record { line = 0; count = 0; value = 0 })) [] (world_with stand))
      → sends_left (drop (i + 1) sends) x.text x.stand ≡ sends_left (drop i sends) text stand
  unfolding sends_left
  send-told sends i text stand x h e =
      let none : script.Message = record { line = 0; count = 0; value = 0 } in
      let send : script.Message = get_or sends i none in
      let later : List script.Message = drop (i + 1) sends in
      let a : Story = send_from t number send [] (world_with stand) in
      ap (λ (y : Telling). telling_of y.text (sends_from t number later (story (world_with y.stand) []))) e
      ∙ sym (world-told later (text ++ text_of a.steps) a.world)
      ∙ sym (sends-told later text a)
      ∙ ap (λ l. telling_of text (sends_from t number l (story (world_with stand) []))) (sym (drop_more sends i none h))

  -- No message is left.
  pub sends_none : (sends : List script.Message) (i : ℕ) (text : List ℕ) (stand : Stand) → length sends ≤ i
      → record { text = text; stand = stand } ≡ sends_left (drop i sends) text stand
  unfolding sends_left
  sends_none sends i text stand h =
      ap (λ l. record { text = l; stand = stand }) (sym (append-nil text))
      ∙ ap (λ x. record { text = text ++ []; stand = x }) (stand-back stand)
      ∙ ap (λ l. telling_of text (sends_from t number l (story (world_with stand) []))) (sym (drop_all i sends h))

  pub sends-all : (sends : List script.Message) (text : List ℕ) (p : Pair) → sends_left sends text (resting p) ≡ telling_of text (sends_from t number sends (story (between p) []))
  unfolding sends_left
  sends-all sends text p = refl

  -- A start tells nothing: the turns of its session do.
  pub started-told : (line : ℕ) (m text : List ℕ) (p q : Pair) (b : Base) (s : Session) (r : Result (Base × Session) EndFault) → Ok (b, s) ≡ r → q ≡ with_base b p
      → telling_of text (turns_from t number (most_turns t number) line m q s []) ≡ telling_of text (on_started t number line m p [] r)
  started-told line m text p q b s r e same =
      let steps : List Step = noted line (started (record { serial = s.serial; octets = m })) [] in
      ap (λ x. telling_of text (turns_from t number (most_turns t number) line m x s [])) same
      ∙ ap (λ l. telling_of l (turns_from t number (most_turns t number) line m (with_base b p) s [])) (sym (append-nil text))
      ∙ behind-told text steps (turns_from t number (most_turns t number) line m (with_base b p) s steps) (turns_from t number (most_turns t number) line m (with_base b p) s [])
      (turns-behind (most_turns t number) line m (with_base b p) s steps)
      ∙ ap (λ x. telling_of text (on_started t number line m p [] x)) e
