-- Every history of a pair agrees.
use Rattle.std.proofs.Common.{◌≡◌, ℕ, suc, ◌+◌, ◌-◌, ◌^◌, ◌<◌, ◌≤◌, Bool, true, false, eqb, leb, List, [], ◌∷◌, map, length, get_or, Some, None, Ok, Err, Option, Result, sym, refl, ap, ◌∙◌, subst, inl, inr, arith}
use Rattle.std.proofs.lemmas.Bool.{eq-eqb, ne_eqb, eqb-false, cases_eq, cases_Bool, cond_both, cond-true, cond-false}
use Rattle.fault.specs.declared.EndFault.{EndFault}
use Rattle.fragment.specs.Carriers.{Terms}
use Rattle.fragment.specs.Counts.{capacity}
use Rattle.fragment.specs.Cutting.{Piece, piece_at, count_of, fragments_of}
use Rattle.fragment.proofs.Counting.{parts-least, parts-some}
use Rattle.fragment.proofs.Cuts.{count-is, well-cut}
use Rattle.packet.specs.declared.values.Blocks.TheVariants.{All}
use Rattle.packet.specs.declared.values.Code.{Code}
use Rattle.packet.specs.declared.values.Code.TheVariants.{Ack, AckSelective, FullRetry, OutOfStep}
use Rattle.packet.specs.Blocks.{carried}
use Rattle.packet.specs.Reading.{and_then}
use Rattle.sender.specs.declared.values.Base.{Base}
use Rattle.sender.specs.declared.values.Session.{Session}
use Rattle.sender.specs.Steps.{Stepped}
use Rattle.sender.specs.declared.values.Next.TheVariants.{On, Ended}
use Rattle.sender.specs.Steps.{fresh_of, start_of, with_serial, serial_after, counted, step_of, block_count}
use Rattle.receiver.specs.declared.state.State.{State}
use Rattle.receiver.specs.Calls.{fresh_state, made_of}
use Rattle.air.specs.declared.fate.Alteration.{Alteration}
use Rattle.air.specs.declared.fate.Fate.{Fate}
use Rattle.air.specs.declared.fate.Hearing.{Hearing}
use Rattle.air.specs.Fates.{tail}
use Rattle.air.specs.Few.{listed}
use Rattle.agreement.specs.Turns.{Pair, Reception, all_heard, waited, unheard, reached_by, Turned, turned_with, turn_of}
use Rattle.agreement.specs.Histories.{Message, Turn, Event, refused, started, turned, History, World, between, within, Origin, message_of, report_in, note_of, left_by, with_base, Every, Octets, Reached, fresh, start_refused, start, turn_refused, turn}
use Rattle.agreement.specs.Agreement.{Has, Within, turns_in, started_in, handed_up_in, turns_of, Numbered, FromAir, Altered, AtOneOctet, Agreement, Goes}
use Rattle.agreement.proofs.Ties.{Lawful, Sized, LastBelow}
use Rattle.agreement.proofs.Basics.{clash, ok_same, every_map}
use Rattle.agreement.proofs.Sessions.{Grew, SessionOk, not-begun, still_open}
use Rattle.agreement.proofs.Heard.{expired-touched, expired-untouched}
use Rattle.agreement.proofs.Turning.{OnlyThere, Stands, Sofar, codes_after, hear-all, turn-fine}
use Rattle.agreement.proofs.Outgoing as outgoing
use Rattle.agreement.proofs.Live.{other-turn, Order, ordered, Live, Comes, respond}
use Rattle.agreement.proofs.Apart.{starts_of, OwnTurn, OfSession, together}

module _ (t : Terms) (number : List ℕ → ℕ) (law : Lawful t number) (o : Origin) (pos : ℕ → ℕ → ℕ) where
  -- The alterations that count are, in each fragment, in this block.
  abbrev OnlyAt : History → Type 0
  OnlyAt log = (x : Turn) → Has x (turns_in log)
      → Every (λ h. (a : Alteration) → Altered t x h a → get_or x.blocks a.«record» 0 ≡ pos x.serial x.number) (listed x.fate.heard)

  module _ (own peer : ℕ) (own_small : own < 65536) (peer_small : peer < 65536) where
    -- A turn of an open session.
    module _ (p : Pair) (s : Session) (m : List ℕ) (log : History) (live : Live t number law o own peer own_small peer_small pos s m p.state p.store log)
        (way : p.base.route ≡ record { source = own; destination = peer }) (back : p.route ≡ record { source = peer; destination = own })
        (limit_is : p.base.limit ≡ o.limit) (room_is : length p.store ≡ o.room) where
      abbrev n : ℕ
      n = s.number

      abbrev a : ℕ
      a = pos s.serial s.number

      abbrev hs : List Hearing
      hs = listed (p.fates 0).heard

      abbrev first : Reception
      first = unheard (p.fates 0).wait p

      abbrev piece : Piece
      piece = piece_at t (length m) s.number

      before : (wait : Bool) → Stands t number law own peer own_small peer_small s.serial m (count_of t (length m)) n live.sending live.opened.high s.blocks live.fits a live.u None (waited wait p.state) p.store
      before true = elim live.near [
        | inl x ↦ inl (expired-touched t number law s.serial m (count_of t (length m)) n live.sending live.opened.high a live.u p.state p.store x, tt)
        | inr x ↦ inr (expired-untouched t number law s.serial m (count_of t (length m)) n live.sending live.opened.high live.u p.state x.0, refl, x.1)
      ]
      before false = elim live.near [ inl x ↦ inl (x, tt) | inr x ↦ inr (x.0, refl, x.1) ]

      abbrev So : Bool → Option Code → Reception → Type 0
      So u code x = Sofar t number law own peer own_small peer_small s.serial m (count_of t (length m)) n live.sending live.opened.high s.blocks live.fits a o.room live.u u code x

      begun : So live.u None first
      begun = record { answers = tt; grew = inl (refl, refl); stands = before (p.fates 0).wait; same_room = room_is }

      abbrev packet : List ℕ
      packet = outgoing.sendout t number law own peer own_small peer_small m (count_of t (length m)) s live.sending live.opened.high live.long live.fits p.base way

      abbrev heard : Reception
      heard = all_heard t number (record { source = peer; destination = own }) packet first hs

      abbrev code : Option Code
      code = codes_after t number law own peer own_small peer_small s.serial m (count_of t (length m)) n live.sending live.opened.high s.blocks live.fits None first hs

      result : Turned
      result = turned_with t p (counted s) heard

      is-result : (r : Turned) → turn_of t number p s m ≡ Ok r → r ≡ turned_with t p (counted s) heard
      is-result r e =
          ok_same r (turned_with t p (counted s) heard)
          (sym e ∙ outgoing.turn_is t number law own peer own_small peer_small m (count_of t (length m)) s live.sending live.opened.high live.long live.fits p.base way p refl
          ∙ ap (λ route. Ok (turned_with t p (counted s) (all_heard t number route packet first hs))) back)

      askable : (u : Bool) (c : Option Code) (r : State) (store : List ℕ)
          → Stands t number law own peer own_small peer_small s.serial m (count_of t (length m)) n live.sending live.opened.high s.blocks live.fits a u c r store
          → outgoing.Askable t number law own peer own_small peer_small m (count_of t (length m)) s live.sending live.opened.high live.long live.fits p.base way c
      askable u None r store x = tt
      askable u (Some Ack) r store x = tt
      askable u (Some (AckSelective set)) r store (inl x) = x.1
      askable u (Some (AckSelective set)) r store (inr x) = clash (let q = x.1 in cc)
      askable u (Some FullRetry) r store x = tt
      askable u (Some OutOfStep) r store x = tt

      same_blocks : block_count t s ≡ piece.blocks
      same_blocks = outgoing.count-is t number law own peer own_small peer_small m (count_of t (length m)) s live.sending live.opened.high live.long live.fits p.base way

      only : (r : Turned) → OnlyAt (turned (note_of t p s r) ∷ log)
          → Every (OnlyThere t number law own peer own_small peer_small s.serial m (count_of t (length m)) n live.sending live.opened.high s.blocks live.fits a) hs
      only r at =
          every_map _ _
          (λ h here y mark.
          ap (λ k. get_or (carried s.blocks k) y.«record» 0) (sym same_blocks)
          ∙ here y (record { marked = mark.0; there = subst (λ k. y.«record» < length (carried s.blocks k)) (sym same_blocks) mark.1; inside = mark.2; good = mark.3; changes = mark.4 }))
          hs (at (note_of t p s r) (inl refl))

      own-ups : (u u' : Bool) (ups : List Message) → Grew s.serial m u u' [] ups → Every (λ (y : Message). y.serial ≡ s.serial) ups
      own-ups u u' ups (inl g) = rw g.1 tt
      own-ups u u' ups (inr g) = rw g.2 (refl, tt)

      own-reports : (r : State) (store : List ℕ) (log' : History) (stepped : Stepped) → Comes t number law o own peer own_small peer_small pos s m r store log' stepped → OfSession s.serial (report_in stepped)
      own-reports r store log' (On s') c = tt
      own-reports r store log' (Ended report left) c = c.4

      -- What a turn leaves.
      record Taken (r : Turned) : Type 0 where
        comes : Comes t number law o own peer own_small peer_small pos s m r.pair.state r.pair.store (turned (note_of t p s r) ∷ log) r.stepped
        own_turn_is : OwnTurn (note_of t p s r)
        same_base : r.pair.base ≡ p.base
        same_route : r.pair.route ≡ p.route
        same_room : length r.pair.store ≡ o.room
        rest : r.pair.fates ≡ tail p.fates

      taken : OnlyAt (turned (note_of t p s (turned_with t p (counted s) heard)) ∷ log) → Taken (turned_with t p (counted s) heard)
      taken at =
          let all = hear-all t number law own peer own_small peer_small s.serial m (count_of t (length m)) n live.sending live.opened.high s.blocks live.fits a hs
          (only (turned_with t p (counted s) heard) at) o.room live.u live.u None first begun in
          let so = all.1 in
          let reached : reached_by t p.base (counted s) heard.response ≡ code =
          outgoing.reached-is t number law own peer own_small peer_small m (count_of t (length m)) s live.sending live.opened.high live.long live.fits p.base way
          heard.response code so.answers (askable all.0 code heard.state heard.store so.stands) in
          let come = respond t number law o own peer own_small peer_small pos p.base limit_is s m p.state p.store log live all.0 code (p.fates 0) (map message_of heard.ups) heard.state heard.store so.same_room so.stands so.grew
          (λ no_wait few quiet fit clean. turn-fine t number law own peer own_small peer_small s.serial m (count_of t (length m)) n live.sending live.opened.high s.blocks live.fits a hs few quiet o.room live.u live.u first begun fit
          (rw no_wait clean)) code refl in
          let comes : Comes t number law o own peer own_small peer_small pos s m heard.state heard.store (turned (note_of t p s (turned_with t p (counted s) heard)) ∷ log) (step_of p.base (counted s) (reached_by t p.base (counted s) heard.response)) =
          subst (λ k. Comes t number law o own peer own_small peer_small pos s m heard.state heard.store
          (turned (record {
            serial = s.serial;
            number = s.number;
            blocks = carried s.blocks k;
            fate = p.fates 0;
            ups = map message_of heard.ups;
            code = reached_by t p.base (counted s) heard.response;
            report = report_in (step_of p.base (counted s) (reached_by t p.base (counted s) heard.response));
          }) ∷ log)
          (step_of p.base (counted s) (reached_by t p.base (counted s) heard.response))) (sym same_blocks)
          (subst (λ c. Comes t number law o own peer own_small peer_small pos s m heard.state heard.store
          (turned (record {
            serial = s.serial;
            number = s.number;
            blocks = carried s.blocks piece.blocks;
            fate = p.fates 0;
            ups = map message_of heard.ups;
            code = c;
            report = report_in (step_of p.base (counted s) c);
          }) ∷ log) (step_of p.base (counted s) c)) (sym reached) come) in
          record {
            comes = comes;
            own_turn_is = (own-ups live.u all.0 (map message_of heard.ups) so.grew, own-reports heard.state heard.store _ (step_of p.base (counted s) (reached_by t p.base (counted s) heard.response)) comes);
            same_base = refl;
            same_route = refl;
            same_room = so.same_room;
            rest = refl;
          }

      take-turn : (r : Turned) → turn_of t number p s m ≡ Ok r → OnlyAt (turned (note_of t p s r) ∷ log) → Taken r
      take-turn r e at =
          let is = is-result r e in
          subst Taken (sym is) (taken (subst (λ x. OnlyAt (turned (note_of t p s x) ∷ log)) is at))

  -- The serial of the next start, if there is one left.
  abbrev NextIs : Option ℕ → ℕ → Type 0
  NextIs None k = Unit {0}
  NextIs (Some serial) k = (serial ≡ k) × (serial < 2 ^ 32)

  -- What holds of both ends after every history.
  record Common (own peer : ℕ) (log : History) (p : Pair) : Type 0 where
    way : p.base.route ≡ record { source = own; destination = peer }
    back : p.route ≡ record { source = peer; destination = own }
    limit_is : p.base.limit ≡ o.limit
    room_is : length p.store ≡ o.room
    fates_are : (i : ℕ) → p.fates i ≡ o.fates (length (turns_in log) + i)
    from_air : FromAir o.fates (turns_in log)
    numbered : Numbered o.first (started_in log)
    next_is : NextIs p.base.next (o.first + length (started_in log))
    no_turns : (s : ℕ) → o.first + length (started_in log) ≤ s → turns_of s log ≡ []
    no_starts : (s : ℕ) → o.first + length (started_in log) ≤ s → starts_of s log ≡ []
    own_turns : Every OwnTurn (turns_in log)

  abbrev Each : History → ℕ → Type 0
  Each log s = SessionOk t o.limit o.room s (starts_of s log) (turns_of s log)

  record Rests (log : History) (p : Pair) : Type 0 where
    each : (s : ℕ) → Each log s
    order : Within (handed_up_in log) (started_in log)
    latest : LastBelow (o.first + length (started_in log)) p.state.last
    sized : Sized p.state.blocks

  record Runs (own peer : ℕ) (own_small : own < 65536) (peer_small : peer < 65536) (log : History) (p : Pair) (s : Session) (m : List ℕ) : Type 0 where
    live : Live t number law o own peer own_small peer_small pos s m p.state p.store log
    newest : suc s.serial ≡ o.first + length (started_in log)
    its_start : starts_of s.serial log ≡ record { serial = s.serial; octets = m } ∷ []
    others : (s' : ℕ) → (s.serial ≡ s' → ⊥) → Each log s'

  abbrev Holds : (own peer : ℕ) → own < 65536 → peer < 65536 → History → World → Type 0
  Holds own peer own_small peer_small log (between p) = Common own peer log p × Rests log p
  Holds own peer own_small peer_small log (within p s m) = Common own peer log p × Runs own peer own_small peer_small log p s m

  record Inv (log : History) (w : World) : Type 0 where
    own : ℕ
    peer : ℕ
    own_small : own < 65536
    peer_small : peer < 65536
    holds : Holds own peer own_small peer_small log w

  -- A fresh pair

  fresh-base : (own peer : ℕ) (base : Base) → fresh_of own peer o.limit o.first ≡ Ok base
      → (base.route ≡ record { source = own; destination = peer }) × (base.limit ≡ o.limit) × (base.next ≡ Some o.first)
  fresh-base own peer base e =
      elim (cases_Bool (leb o.limit 15)) [
        | inl l ↦ let is = sym (cond-true (leb o.limit 15) _ _ l) ∙ e in
            let q = ok_same (record { route = record { source = own; destination = peer }; limit = o.limit; next = Some o.first }) base is in
            (ap (λ (b : Base). b.route) (sym q), ap (λ (b : Base). b.limit) (sym q), ap (λ (b : Base). b.next) (sym q))
        | inr l ↦ clash (let is = sym (cond-false (leb o.limit 15) _ _ l) ∙ e in cc)
      ]

  fresh-state : (store : List ℕ) (state : State) → made_of store ≡ Ok state → fresh_state ≡ state
  fresh-state store state e =
      elim (cases_Bool (leb 5 (length store))) [
        | inl l ↦ ok_same fresh_state state (sym (cond-true (leb 5 (length store)) _ _ l) ∙ e)
        | inr l ↦ clash (let is = sym (cond-false (leb 5 (length store)) _ _ l) ∙ e in cc)
      ]

  fresh_holds : (own peer : ℕ) (own_small : own < 65536) (peer_small : peer < 65536) (base : Base) (state : State) (store : List ℕ) → o.first < 2 ^ 32
      → fresh_of own peer o.limit o.first ≡ Ok base → made_of store ≡ Ok state → o.room ≡ length store
      → Holds own peer own_small peer_small [] (between (record { base = base; route = record { source = peer; destination = own }; state = state; store = store; fates = o.fates }))
  fresh_holds own peer own_small peer_small base state store small made-base made-state room =
      let b = fresh-base own peer base made-base in
      let st = fresh-state store state made-state in (
        record {
          way = b.0;
          back = refl;
          limit_is = b.1;
          room_is = sym room;
          fates_are = λ i. ap o.fates (omega arith);
          from_air = tt;
          numbered = tt;
          next_is = rw b.2 (omega arith, small);
          no_turns = λ _ _. refl;
          no_starts = λ _ _. refl;
          own_turns = tt;
        },
        record {
          each = λ s. not-begun t o.limit o.room s;
          order = tt;
          latest = rw (← st) tt;
          sized = rw (← st) (record { octets = refl; held = refl });
        },
      )

  -- A start

  starts_with : (b b' : Base) (m : ℕ) (s : Session) (count : ℕ) (next : Option ℕ) → with_serial b m count next ≡ Ok (b', s)
      → (serial : ℕ) × (next ≡ Some serial) × (b' ≡ record { route = b.route; limit = b.limit; next = serial_after serial })
      × (s ≡ record { serial = serial; length = m; number = count - 1; blocks = All; used = 0; packets = 0 })
  starts_with b b' m s count (Some serial) e =
      let q = ok_same (record { route = b.route; limit = b.limit; next = serial_after serial }, record { serial = serial; length = m; number = count - 1; blocks = All; used = 0; packets = 0 }) (b', s) e in
      (serial, refl, ap (λ (x : Base × Session). x.0) (sym q), ap (λ (x : Base × Session). x.1) (sym q))
  starts_with b b' m s count None e = clash cc

  start-known : (b b' : Base) (m : ℕ) (s : Session) (r : Result ℕ EndFault) → and_then r (λ count. with_serial b m count b.next) ≡ Ok (b', s)
      → (count : ℕ) × (r ≡ Ok count) × (with_serial b m count b.next ≡ Ok (b', s))
  start-known b b' m s (Ok count) e = (count, refl, e)
  start-known b b' m s (Err fault) e = clash cc

  some_fragments : (m : ℕ) → 1 ≤ count_of t m
  some_fragments m =
      let c : 1 ≤ capacity t = omega (arith, law.sound.some_octets) in
      parts-some (parts-least (capacity t) (m + 4) c) (omega arith)

  next-after : (serial k : ℕ) → serial ≡ k → serial < 2 ^ 32 → NextIs (serial_after serial) (suc k)
  next-after serial k e small =
      cond_both (eqb serial 4294967295) None (Some (serial + 1)) (λ x. NextIs x (suc k)) (λ _. tt)
      (λ ne. (omega arith, (let d = eqb-false serial 4294967295 ne in omega arith)))

  other-start : (s : ℕ) (m : Message) (log : History) → (m.serial ≡ s → ⊥) → starts_of s (started m ∷ log) ≡ starts_of s log
  other-start s m log ne = rw (ne_eqb m.serial s ne)

  module _ (own peer : ℕ) (own_small : own < 65536) (peer_small : peer < 65536) where
    begin : (log : History) (p : Pair) (m : List ℕ) (serial : ℕ) (b : Base) → Octets m → fragments_of t (length m) ≡ Ok (count_of t (length m))
        → p.base.next ≡ Some serial → b ≡ record { route = p.base.route; limit = p.base.limit; next = serial_after serial } → Holds own peer own_small peer_small log (between p)
        → Holds own peer own_small peer_small (started (record { serial = serial; octets = m }) ∷ log)
        (within (with_base b p) (record { serial = serial; length = length m; number = count_of t (length m) - 1; blocks = All; used = 0; packets = 0 }) m)
    begin log p m serial b octets fits next is (c, rests) =
        let k : NextIs (Some serial) (o.first + length (started_in log)) = subst (λ x. NextIs x (o.first + length (started_in log))) next c.next_is in
        let none : turns_of serial log ≡ [] = c.no_turns serial (omega (arith, k.0)) in
        let count = count_of t (length m) in
        let some-count = some_fragments (length m) in
        let cut = well-cut t law.sound (length m) (count_of t (length m)) (count_of t (length m) - 1) fits (omega arith) in
        let starting : (piece_at t (length m) (count_of t (length m) - 1)).start ≡ true = cut.first.1 refl in
        let rising : o.first + suc (length (started_in log)) ≡ suc (o.first + length (started_in log)) = omega arith in (
          record {
            way = rw is c.way;
            back = c.back;
            limit_is = rw is c.limit_is;
            room_is = c.room_is;
            fates_are = c.fates_are;
            from_air = c.from_air;
            numbered = (k.0, c.numbered);
            next_is = subst (λ x. NextIs b.next x) (sym rising) (rw is (next-after serial (o.first + length (started_in log)) k.0 k.1));
            no_turns = λ s le. c.no_turns s (omega arith);
            no_starts = λ s le. other-start s (record { serial = serial; octets = m }) log (λ e. omega (arith, k.0)) ∙ c.no_starts s (omega arith);
            own_turns = c.own_turns;
          },
          record {
            live = record {
              u = false;
              sending = record { fits = fits; serial_small = k.1; octets = octets };
              long = refl;
              fits = refl;
              opened = rw none (record {
                no_report = tt;
                ups_no = λ _ h. h;
                ups_yes = λ e. clash cc;
                bound = omega arith;
                used_small = omega arith;
                high = omega arith;
                last_zero = λ _. refl;
                last_pos = λ _. refl;
                unsettled = tt;
              });
              each_turn = rw none;
              near = inr (record { down = refl; starting = starting; sized = rests.sized; latest = subst (λ x. LastBelow x p.state.last) (sym k.0) rests.latest }, refl);
              order = (started_in log, refl, rests.order);
              going = λ _ _. ((refl, inl (starting, refl)), [], [], none, refl, tt);
            };
            newest = omega (arith, k.0);
            its_start = rw (eq-eqb serial serial refl) (ap (λ xs. record { serial = serial; octets = m } ∷ xs) (c.no_starts serial (omega (arith, k.0))));
            others = λ s ne. rw (other-start s (record { serial = serial; octets = m }) log ne) (rests.each s);
          },
        )

    start-holds : (log : History) (p : Pair) (m : List ℕ) (b : Base) (s : Session) → Octets m → start_of t p.base (length m) ≡ Ok (b, s)
        → Holds own peer own_small peer_small log (between p) → Holds own peer own_small peer_small (started (record { serial = s.serial; octets = m }) ∷ log) (within (with_base b p) s m)
    start-holds log p m b s octets e h =
        let cut = start-known p.base b (length m) s (fragments_of t (length m)) e in
        let with-serial = starts_with p.base b (length m) s cut.0 p.base.next cut.2 in
        let counts : cut.0 ≡ count_of t (length m) = (count-is t (length m) cut.0 cut.1).0 in
        let is : s ≡ record { serial = with-serial.0; length = length m; number = count_of t (length m) - 1; blocks = All; used = 0; packets = 0 } =
        with-serial.3 ∙ ap (λ x. record { serial = with-serial.0; length = length m; number = x - 1; blocks = All; used = 0; packets = 0 }) counts in
        subst (λ x. Holds own peer own_small peer_small (started (record { serial = x.serial; octets = m }) ∷ log) (within (with_base b p) x m)) (sym is)
        (begin log p m with-serial.0 b octets (cut.1 ∙ ap Ok counts) with-serial.1 with-serial.2 h)

    -- A turn

    common-after : (log : History) (p : Pair) (s : Session) (r : Turned) → Common own peer log p → s.serial < o.first + length (started_in log)
        → r.pair.base ≡ p.base → r.pair.route ≡ p.route → length r.pair.store ≡ o.room → r.pair.fates ≡ tail p.fates → OwnTurn (note_of t p s r)
        → Common own peer (turned (note_of t p s r) ∷ log) r.pair
    common-after log p s r c old base route room fates own-one =
        record {
          way = ap (λ (b : Base). b.route) base ∙ c.way;
          back = route ∙ c.back;
          limit_is = ap (λ (b : Base). b.limit) base ∙ c.limit_is;
          room_is = room;
          fates_are = λ i. ap (λ (f : ℕ → Fate). f i) fates ∙ c.fates_are (suc i) ∙ ap o.fates (omega arith);
          from_air = (c.fates_are 0 ∙ ap o.fates (omega arith), c.from_air);
          numbered = c.numbered;
          next_is = subst (λ (b : Base). NextIs b.next (o.first + length (started_in log))) (sym base) c.next_is;
          no_turns = λ s' le. other-turn s' (note_of t p s r) log (λ e. omega arith) ∙ c.no_turns s' le;
          no_starts = c.no_starts;
          own_turns = (own-one, c.own_turns);
        }

    left-holds : (log : History) (p : Pair) (s : Session) (m : List ℕ) (r : Turned) → Common own peer (turned (note_of t p s r) ∷ log) r.pair → Runs own peer own_small peer_small log p s m
        → (stepped : Stepped) → Comes t number law o own peer own_small peer_small pos s m r.pair.state r.pair.store (turned (note_of t p s r) ∷ log) stepped
        → Holds own peer own_small peer_small (turned (note_of t p s r) ∷ log) (left_by r.pair m stepped)
    left-holds log p s m r c runs (On s') (live, same) = (
      c,
      record {
        live = live;
        newest = ap suc same ∙ runs.newest;
        its_start = subst (λ x. starts_of x log ≡ record { serial = x; octets = m } ∷ []) (sym same) runs.its_start;
        others = λ s'' ne. let d : s.serial ≡ s'' → ⊥ = λ e. ne (same ∙ e) in rw (other-turn s'' (note_of t p s r) log d) (runs.others s'' d);
      },
    )
    left-holds log p s m r c runs (Ended report left) (ok, latest, order, sized, same) = (
      c,
      record {
        each = λ s''. elim (cases_eq s.serial s'') [
          | inl e ↦ subst (Each (turned (note_of t p s r) ∷ log)) e (rw runs.its_start ok)
          | inr ne ↦ rw (other-turn s'' (note_of t p s r) log ne) (runs.others s'' ne)
        ];
        order = order;
        latest = subst (λ x. LastBelow x r.pair.state.last) runs.newest latest;
        sized = sized;
      },
    )

    turn_holds : (log : History) (p : Pair) (s : Session) (m : List ℕ) (r : Turned) → turn_of t number p s m ≡ Ok r → OnlyAt (turned (note_of t p s r) ∷ log)
        → Holds own peer own_small peer_small log (within p s m) → Holds own peer own_small peer_small (turned (note_of t p s r) ∷ log) (left_by r.pair m r.stepped)
    turn_holds log p s m r e at (c, runs) =
        let x = take-turn own peer own_small peer_small p s m log runs.live c.way c.back c.limit_is c.room_is r e at in
        left-holds log p s m r (common-after log p s r c (omega (arith, runs.newest)) x.same_base x.same_route x.same_room x.rest x.own_turn_is) runs r.stepped x.comes

    -- A refusal leaves everything as it was.

    common-kept : (log : History) (p : Pair) (fault : EndFault) → Common own peer log p → Common own peer (refused fault ∷ log) p
    common-kept log p fault c =
        record {
          way = c.way;
          back = c.back;
          limit_is = c.limit_is;
          room_is = c.room_is;
          fates_are = c.fates_are;
          from_air = c.from_air;
          numbered = c.numbered;
          next_is = c.next_is;
          no_turns = c.no_turns;
          no_starts = c.no_starts;
          own_turns = c.own_turns;
        }

    order-kept : (s : ℕ) (m : List ℕ) (u : Bool) (fault : EndFault) (log : History) → Order s m u log → Order s m u (refused fault ∷ log)
    order-kept s m true fault log h = h
    order-kept s m false fault log h = h

    refused-between : (log : History) (p : Pair) (fault : EndFault) → Holds own peer own_small peer_small log (between p) → Holds own peer own_small peer_small (refused fault ∷ log) (between p)
    refused-between log p fault (c, rests) =
        (common-kept log p fault c, record { each = rests.each; order = rests.order; latest = rests.latest; sized = rests.sized })

    refused-within : (log : History) (p : Pair) (s : Session) (m : List ℕ) (fault : EndFault) → Holds own peer own_small peer_small log (within p s m) → Holds own peer own_small peer_small (refused fault ∷ log) (within p s m)
    refused-within log p s m fault (c, runs) =
        let l = runs.live in (
          common-kept log p fault c,
          record {
            live = record {
              u = l.u;
              sending = l.sending;
              long = l.long;
              fits = l.fits;
              opened = l.opened;
              each_turn = l.each_turn;
              near = l.near;
              order = order-kept s.serial m l.u fault log l.order;
              going = l.going;
            };
            newest = runs.newest;
            its_start = runs.its_start;
            others = runs.others;
          },
        )

  inv : (log : History) (w : World) → Reached t number o log w → OnlyAt log → Inv log w
  inv log w (fresh own peer base state store own_small peer_small small made-base made-state room) at =
      record { own = own; peer = peer; own_small = own_small; peer_small = peer_small; holds = fresh_holds own peer own_small peer_small base state store small made-base made-state room }
  inv log w (start_refused log' p m fault e r) at =
      let i = inv log' (between p) r at in
      record { own = i.own; peer = i.peer; own_small = i.own_small; peer_small = i.peer_small; holds = refused-between i.own i.peer i.own_small i.peer_small log' p fault i.holds }
  inv log w (start log' p m b s octets e r) at =
      let i = inv log' (between p) r at in
      record { own = i.own; peer = i.peer; own_small = i.own_small; peer_small = i.peer_small; holds = start-holds i.own i.peer i.own_small i.peer_small log' p m b s octets e i.holds }
  inv log w (turn_refused log' p s m lent fault e r) at =
      let i = inv log' (within p s m) r at in
      record { own = i.own; peer = i.peer; own_small = i.own_small; peer_small = i.peer_small; holds = refused-within i.own i.peer i.own_small i.peer_small log' p s m fault i.holds }
  inv log w (turn log' p s m x e r) at =
      let i = inv log' (within p s m) r (λ y h. at y (inr h)) in
      record { own = i.own; peer = i.peer; own_small = i.own_small; peer_small = i.peer_small; holds = turn_holds i.own i.peer i.own_small i.peer_small log' p s m x e at i.holds }

  every-session : (own peer : ℕ) (own_small : own < 65536) (peer_small : peer < 65536) (log : History) (p : Pair) (s : Session) (m : List ℕ) → Runs own peer own_small peer_small log p s m → (s' : ℕ) → Each log s'
  every-session own peer own_small peer_small log p s m runs s' = elim (cases_eq s.serial s') [
    | inl e ↦ subst (Each log) e (rw runs.its_start (still_open t o.limit o.room s.serial m s.number s.used runs.live.u (turns_of s.serial log) runs.live.opened))
    | inr ne ↦ runs.others s' ne
  ]

  agrees : (log : History) (w : World) → Inv log w → Agreement t o log
  agrees log (between p) i =
      let c = i.holds.0 in
      together t o log i.holds.1.each c.own_turns i.holds.1.order c.numbered c.from_air
  agrees log (within p s m) i =
      let c = i.holds.0 in
      let runs = i.holds.1 in
      together t o log (every-session i.own i.peer i.own_small i.peer_small log p s m runs) c.own_turns
      (ordered s.serial m runs.live.u log runs.live.order) c.numbered c.from_air

-- Whatever history led from a fresh pair to some world: it agrees, if the alterations that count are, in each fragment, at one octet.
pub history-agrees : (t : Terms) (number : List ℕ → ℕ) → Lawful t number → (o : Origin) (log : History) (w : World) → Reached t number o log w → AtOneOctet t log → Agreement t o log
history-agrees t number law o log w r at =
    agrees t number law o (λ s n. (at s n).0) log w
    (inv t number law o (λ s n. (at s n).0) log w r
    (λ x h. every_map _ _ (λ y all a al. (all a al).0) (listed x.fate.heard) ((at x.serial x.number).2 x h refl refl)))

module _ (t : Terms) (number : List ℕ → ℕ) (law : Lawful t number) where
  -- What leads on is a history too, so it agrees.
  goes : (w : World) (e : Event) (w' : World) → ((o : Origin) (log : History) → Reached t number o log w → Reached t number o (e ∷ log) w') → Goes t number w e w'
  goes w e w' on o log r = (on o log r, history-agrees t number law o (e ∷ log) w' (on o log r))

  pub start-goes : (p : Pair) (m : List ℕ) (b : Base) (s : Session) → Octets m → start_of t p.base (length m) ≡ Ok (b, s)
      → Goes t number (between p) (started (record { serial = s.serial; octets = m })) (within (with_base b p) s m)
  start-goes p m b s octets e = goes _ _ _ (λ o log. start log p m b s octets e)

  pub start-refused-goes : (p : Pair) (m : List ℕ) (fault : EndFault) → start_of t p.base (length m) ≡ Err fault → Goes t number (between p) (refused fault) (between p)
  start-refused-goes p m fault e = goes _ _ _ (λ o log. start_refused log p m fault e)

  pub turn-goes : (p : Pair) (s : Session) (m : List ℕ) (r : Turned) → turn_of t number p s m ≡ Ok r
      → Goes t number (within p s m) (turned (note_of t p s r)) (left_by r.pair m r.stepped)
  turn-goes p s m r e = goes _ _ _ (λ o log. turn log p s m r e)

  pub turn-refused-goes : (p : Pair) (s : Session) (m lent : List ℕ) (fault : EndFault) → turn_of t number p s lent ≡ Err fault → Goes t number (within p s m) (refused fault) (within p s m)
  turn-refused-goes p s m lent fault e = goes _ _ _ (λ o log. turn_refused log p s m lent fault e)
