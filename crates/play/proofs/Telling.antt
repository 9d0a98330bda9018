-- What a drill tells is a history of its pair, which agrees.
use Rattle.std.proofs.Common.{◌≡◌, ℕ, zero, suc, ◌≤◌, leb, List, [], ◌∷◌, length, replicate, Some, Ok, Err, Result, sym, refl, ap, subst, arith}
use Rattle.std.proofs.lemmas.List.{length-replicate}
use Rattle.std.proofs.lemmas.Bool.{le-leb, cond-true}
use Rattle.std.specs.List.{AllByRecursion as All}
use Rattle.fault.specs.declared.EndFault.{EndFault}
use Rattle.fragment.specs.Carriers.{Terms, Sound, data_call, voice_along_call}
use Rattle.sender.specs.declared.values.Base.{Base}
use Rattle.sender.specs.declared.values.Session.{Session}
use Rattle.sender.specs.Steps.{Stepped}
use Rattle.sender.specs.declared.values.Next.TheVariants.{On, Ended}
use Rattle.sender.specs.Steps.{start_of, fresh_of}
use Rattle.receiver.specs.Calls.{fresh_state, made_of}
use Rattle.air.specs.Fates.{scheduled}
use Rattle.agreement.specs.Turns.{Pair, Turned, turn_of}
use Rattle.agreement.specs.Histories as histories
use Rattle.agreement.specs.Histories.{World, between, within, Origin, with_base, note_of, Every, Octets, Reached}
use Rattle.agreement.proofs.Ties.{Lawful}
use Rattle.agreement.proofs.Agreed.{history-agrees}
use Rattle.agreement.proofs.Worked.{data-sound, voice-sound, lawful-polynomial, lawful-sum}
use Rattle.exchange.specs.Views.{FreshPair, fresh_pair_of}
use Rattle.fragment.specs.Names.{terms_of}
use Rattle.fragment.specs.declared.name.CarrierName.{CarrierName}
use Rattle.fragment.specs.declared.name.CarrierName.TheVariants.{Data, Voice}
use Rattle.check32.specs.Names.{number_by}
use Rattle.check32.specs.declared.name.CheckName.{CheckName}
use Rattle.check32.specs.declared.name.CheckName.TheVariants.{Polynomial, Sum}
use Rattle.script.specs.declared.values.Message as script
use Rattle.script.specs.Scripts.{Plan, script_of}
use Rattle.script.proofs.Ranges.{small-values, small-limit, small-serial}
use Rattle.play.specs.Stories.{Step, history_of, Story, story, noted, on_stepped, on_turned, turns_from, on_started, octets_of, send_from, sends_from, pair_with, story_with, told_by, told_of, answer_to}
use Rattle.play.specs.Laws.{origin_of, Told, TellsHistory}
use Rattle.play.proofs.Ending.{sessions-end, begun}

-- Every step of a story leads on.

module _ (t : Terms) (number : List ℕ → ℕ) (o : Origin) where
  -- The history that is told leads to where the story stands.
  abbrev pub Leads : Story → Type 0
  Leads x = Reached t number o (history_of x.steps) x.world

  turned-leads : (line : ℕ) (m : List ℕ) (on : Pair → Session → List Step → Story) (p : Pair) (s : Session) (steps : List Step)
      → ((q : Pair) (s' : Session) (later : List Step) → Reached t number o (history_of later) (within q s' m) → Leads (on q s' later))
      → Reached t number o (history_of steps) (within p s m) → (r : Result Turned EndFault) → turn_of t number p s m ≡ r → Leads (on_turned t number line m on p s steps r)
  turned-leads line m on p s steps further h (Err fault) e = histories.turn_refused (history_of steps) p s m m fault e h
  turned-leads line m on p s steps further h (Ok x) e = go x.stepped refl
    where
      after : (st : Stepped) → x.stepped ≡ st → Reached t number o (histories.turned (note_of t p s x) ∷ history_of steps) (histories.left_by x.pair m st)
      after st is = subst (λ st. Reached t number o (histories.turned (note_of t p s x) ∷ history_of steps) (histories.left_by x.pair m st)) is (histories.turn (history_of steps) p s m x e h)

      go : (st : Stepped) → x.stepped ≡ st → Leads (on_stepped t number on x.pair (noted line (histories.turned (note_of t p s x)) steps) st)
      go (On s') is = further x.pair s' (noted line (histories.turned (note_of t p s x)) steps) (after (On s') is)
      go (Ended report left) is = after (Ended report left) is

  turns-lead : (k line : ℕ) (m : List ℕ) (p : Pair) (s : Session) (steps : List Step) → Reached t number o (history_of steps) (within p s m) → Leads (turns_from t number k line m p s steps)
  turns-lead zero line m p s steps h = h
  turns-lead (suc k) line m p s steps h =
      turned-leads line m (turns_from t number k line m) p s steps (turns-lead k line m) h (turn_of t number p s m) refl

  started-leads : (line : ℕ) (m : List ℕ) (p : Pair) (steps : List Step) → Octets m → Reached t number o (history_of steps) (between p)
      → (r : Result (Base × Session) EndFault) → start_of t p.base (length m) ≡ r → Leads (on_started t number line m p steps r)
  started-leads line m p steps octets h (Ok x) e =
      turns-lead 8192 line m (with_base x.0 p) x.1 (noted line (histories.started (record { serial = x.1.serial; octets = m })) steps)
      (histories.start (history_of steps) p m x.0 x.1 octets e h)
  started-leads line m p steps octets h (Err fault) e = histories.start_refused (history_of steps) p m fault e h

  send-leads : (send : script.Message) (steps : List Step) (w : World) → Octets (octets_of t number send) → Reached t number o (history_of steps) w → Leads (send_from t number send steps w)
  send-leads send steps (between p) octets h = started-leads send.line (octets_of t number send) p steps octets h (start_of t p.base (length (octets_of t number send))) refl
  send-leads send steps (within p s m) octets h = h

  sends-lead : (sends : List script.Message) (x : Story) → Every (λ send. Octets (octets_of t number send)) sends → Leads x → Leads (sends_from t number sends x)
  sends-lead [] x octets h = h
  sends-lead (send ∷ later) x octets h = sends-lead later (send_from t number send x.steps x.world) octets.1 (send-leads send x.steps x.world octets.0 h)

-- The pair of a drill

fresh-pair : (room retries serial : ℕ) → 5 ≤ room → retries ≤ 15
    → (made_of (replicate room 0) ≡ Ok fresh_state)
    × (fresh_of 1 2 retries serial ≡ Ok (record { route = record { source = 1; destination = 2 }; limit = retries; next = Some serial }))
fresh-pair room retries serial enough few = (
  cond-true (leb 5 (length (replicate room 0))) _ _ (le-leb 5 (length (replicate room 0)) (omega (arith, length-replicate {A = ℕ} room 0))),
  cond-true (leb retries 15) _ _ (le-leb retries 15 few),
)

abbrev fresh_one : Plan → FreshPair
fresh_one plan =
    record {
      base = record { route = record { source = 1; destination = 2 }; limit = plan.head.retries; next = Some plan.head.serial };
      route = record { source = 2; destination = 1 };
      state = fresh_state;
    }

octets-repeated : (count value : ℕ) → value ≤ 255 → Octets (replicate count value)
octets-repeated zero value h = tt
octets-repeated (suc count) value h = (omega arith, octets-repeated count value h)

module _ (t : Terms) (number : List ℕ → ℕ) (law : Lawful t number) (text : List ℕ) (plan : Plan) (read : script_of text ≡ Ok plan) where
  made_pair : (room : ℕ) → 5 ≤ room → fresh_pair_of 1 2 plan.head.retries plan.head.serial (replicate room 0) ≡ Ok (fresh_one plan)
  made_pair room enough =
      let f = fresh-pair room plan.head.retries plan.head.serial enough (small-limit text plan read) in
      rw (f.0, f.1)

  sends-octets : (sends : List script.Message) → All (λ (m : script.Message). m.value ≤ 255) sends → Every (λ send. Octets (octets_of t number send)) sends
  sends-octets [] h = tt
  sends-octets (send ∷ later) h = (octets-repeated send.count send.value h.0, sends-octets later h.1)

  fresh-leads : (room : ℕ) → 5 ≤ room
      → Reached t number (record { limit = plan.head.retries; first = plan.head.serial; room = room; fates = scheduled plan.turns }) []
      (between (record { base = (fresh_one plan).base; route = (fresh_one plan).route; state = (fresh_one plan).state; store = replicate room 0; fates = scheduled plan.turns }))
  fresh-leads room enough =
      let f = fresh-pair room plan.head.retries plan.head.serial enough (small-limit text plan read) in
      histories.fresh 1 2 (fresh_one plan).base fresh_state (replicate room 0) (omega arith) (omega arith) (omega (arith, small-serial text plan read)) f.1 f.0 (sym (length-replicate room 0))

  leads : Leads t number (origin_of plan) (story_with t number plan (fresh_one plan))
  leads =
      sends-lead t number (origin_of plan) plan.sends (story (between (pair_with t number plan.turns (fresh_one plan))) [])
      (sends-octets plan.sends (small-values text plan read)) (fresh-leads 65536 (omega arith))

  pub told : (at_end : (p : Pair) × ((story_with t number plan (fresh_one plan)).world ≡ between p)) → Told t number plan (told_of t number plan)
  told at_end =
      record {
        pair = fresh_one plan;
        made = made_pair 65536 (omega arith);
        text_is = ap (told_by t number plan) (made_pair 65536 (omega arith));
        at_end = at_end;
        reached = leads;
        agrees = history-agrees t number law (origin_of plan) (history_of (story_with t number plan (fresh_one plan)).steps) (story_with t number plan (fresh_one plan)).world leads;
      }

-- Every drill ends between sessions.

module _ (t : Terms) (number : List ℕ → ℕ) (sound : Sound t) where
  -- Between sessions, with a retry limit of at most 15.
  abbrev Rests : Story → Type 0
  Rests x = (p : Pair) × (x.world ≡ between p) × (p.base.limit ≤ 15)

  started-rests : (line : ℕ) (m : List ℕ) (p : Pair) (steps : List Step) → p.base.limit ≤ 15 → (r : Result (Base × Session) EndFault) → start_of t p.base (length m) ≡ r
      → Rests (on_started t number line m p steps r)
  started-rests line m p steps few (Ok x) e =
      let q = sessions-end t sound number line m p x.0 x.1 (noted line (histories.started (record { serial = x.1.serial; octets = m })) steps) few e in
      let b = begun t sound p.base x.0 (length m) x.1 e in
      (q.0, q.1, omega (arith, ap (λ (y : Base). y.limit) q.2, b.same_limit))
  started-rests line m p steps few (Err fault) e = (p, refl, few)

  send-rests : (send : script.Message) (x : Story) → Rests x → Rests (send_from t number send x.steps x.world)
  send-rests send x r =
      subst (λ w. Rests (send_from t number send x.steps w)) (sym r.1)
      (started-rests send.line (octets_of t number send) r.0 x.steps r.2 (start_of t r.0.base (length (octets_of t number send))) refl)

  pub sends-rest : (sends : List script.Message) (x : Story) → Rests x → Rests (sends_from t number sends x)
  sends-rest [] x r = r
  sends-rest (send ∷ later) x r = sends-rest later (send_from t number send x.steps x.world) (send-rests send x r)

lawful-by : (carrier : CarrierName) (check : CheckName) → Lawful (terms_of carrier) (number_by check)
lawful-by Data Polynomial = lawful-polynomial data_call data-sound
lawful-by Data Sum = lawful-sum data_call data-sound
lawful-by Voice Polynomial = lawful-polynomial voice_along_call voice-sound
lawful-by Voice Sum = lawful-sum voice_along_call voice-sound

pub tells-history : (input : List ℕ) → TellsHistory input
tells-history input plan read =
    let t = terms_of plan.head.carrier in
    let number = number_by plan.head.check in
    let law = lawful-by plan.head.carrier plan.head.check in
    let rest = sends-rest t number law.sound plan.sends (story (between (pair_with t number plan.turns (fresh_one plan))) [])
    (pair_with t number plan.turns (fresh_one plan), refl, small-limit input plan read) in
    subst (Told t number plan) (sym (ap answer_to read)) (told t number law input plan read (rest.0, rest.1))
