-- One turn of an open session: it goes on, or ends with a report that its turns bear out.
use Rattle.std.proofs.Common.{◌≡◌, ℕ, suc, ◌+◌, ◌-◌, ◌<◌, ◌≤◌, Bool, true, false, eqb, ltb, ◌⊎◌, List, [], ◌∷◌, ◌++◌, length, Some, None, Option, sym, refl, ap, ◌∙◌, subst, inl, inr, arith}
use Rattle.std.proofs.lemmas.Bool.{eq-eqb, ne_eqb, ltb-true, ltb-false, cases_eq, cases_Bool, cond-true, cond-false}
use Rattle.fragment.specs.Carriers.{Terms}
use Rattle.fragment.specs.Cutting.{Piece, piece_at, count_of}
use Rattle.fragment.proofs.Cuts.{well-cut}
use Rattle.packet.specs.declared.values.Blocks.{Blocks}
use Rattle.packet.specs.declared.values.Blocks.TheVariants.{All, Only}
use Rattle.packet.specs.declared.values.Code.{Code}
use Rattle.packet.specs.declared.values.Code.TheVariants.{Ack, AckSelective, FullRetry, OutOfStep}
use Rattle.packet.specs.Blocks.{carried, fitting, is_selective}
use Rattle.sender.specs.declared.values.Base.{Base}
use Rattle.sender.specs.declared.values.Session.{Session}
use Rattle.sender.specs.declared.values.Outcome.{Outcome}
use Rattle.sender.specs.declared.values.Outcome.TheVariants.{Delivered, NotDelivered, Unknown}
use Rattle.sender.specs.Steps.{Stepped}
use Rattle.sender.specs.declared.values.Next.TheVariants.{On, Ended}
use Rattle.sender.specs.Steps.{counted, again, next_fragment, end_of, retry_of, acked_of, step_of}
use Rattle.receiver.specs.declared.state.Last.{Last}
use Rattle.receiver.specs.declared.state.State.{State}
use Rattle.air.specs.declared.fate.Alteration.{Alteration}
use Rattle.air.specs.declared.fate.Fate.{Fate}
use Rattle.air.specs.declared.fate.Hearing.{Hearing}
use Rattle.air.specs.Few.{listed}
use Rattle.agreement.specs.Histories.{Message, Turn, turned, History, Origin, report_in, Every}
use Rattle.agreement.specs.Agreement.{Any, Within, started_in, handed_up_in, turns_of, settles, Unaltered, Through, Calm, OneOfEach}
use Rattle.agreement.proofs.Ties.{Lawful, Sending, reach, Sized, LastBelow, Touched, Untouched, LastOk, PostAck, PostLost, CodeOk, Clean}
use Rattle.agreement.proofs.Basics.{clash, true≢false, every_map}
use Rattle.agreement.proofs.Sessions.{Grew, SessionOk, Open, OneMore, Fair, retried, advanced, reported}
use Rattle.agreement.proofs.Heard.{advance}
use Rattle.agreement.proofs.Turning.{Marked, Stands, TurnFine}

-- The session's own turn comes in front of its turns.
pub own_turn : (s : ℕ) (x : Turn) (log : History) → x.serial ≡ s → turns_of s (turned x ∷ log) ≡ x ∷ turns_of s log
own_turn s x log e = rw (eq-eqb x.serial s e)

pub other-turn : (s : ℕ) (x : Turn) (log : History) → (x.serial ≡ s → ⊥) → turns_of s (turned x ∷ log) ≡ turns_of s log
other-turn s x log ne = rw (ne_eqb x.serial s ne)

pub within-skip : (xs ys : List Message) (y : Message) → Within xs ys → Within xs (y ∷ ys)
within-skip [] ys y h = tt
within-skip (x ∷ xs) ys y h = inr h

pub below_more : (s : ℕ) (l : Option Last) → LastBelow s l → LastBelow (suc s) l
below_more s None h = tt
below_more s (Some l) h = omega arith

-- u: the message of the newest start is up.
abbrev pub Order : ℕ → List ℕ → Bool → History → Type 0
Order s m true log = Within (handed_up_in log) (started_in log)
Order s m false log = (older : List Message) × (started_in log ≡ record { serial = s; octets = m } ∷ older) × Within (handed_up_in log) older

pub ordered : (s : ℕ) (m : List ℕ) (u : Bool) (log : History) → Order s m u log → Within (handed_up_in log) (started_in log)
ordered s m true log h = h
ordered s m false log h = rw h.1 (within-skip (handed_up_in log) h.0 (record { serial = s; octets = m }) h.2)

order-kept : (s : ℕ) (m : List ℕ) (u : Bool) (x : Turn) (log : History) → x.ups ≡ [] → Order s m u log → Order s m u (turned x ∷ log)
order-kept s m true x log e h = rw e h
order-kept s m false x log e h = (h.0, h.1, rw e h.2)

pub order-step : (s : ℕ) (m : List ℕ) (u u' : Bool) (x : Turn) (log : History) → Order s m u log → Grew s m u u' [] x.ups → Order s m u' (turned x ∷ log)
order-step s m u u' x log h (inl g) = rw g.0 (order-kept s m u x log g.1 h)
order-step s m u u' x log h (inr g) =
    let o : Order s m false log = subst (λ v. Order s m v log) g.0 h in
    rw (g.1, g.2, o.1) (inl (refl, o.2))

some-none : {A : Type 0} (P : A → Type 0) (row : List A) → Any P row → Every (λ x. P x → ⊥) row → ⊥
some-none P [] h e = h
some-none P (x ∷ xs) (inl h) e = e.0 h
some-none P (x ∷ xs) (inr h) e = some-none P xs h e.1

module _ (t : Terms) (number : List ℕ → ℕ) (law : Lawful t number) (o : Origin) (own peer : ℕ) (own_small : own < 65536) (peer_small : peer < 65536) (pos : ℕ → ℕ → ℕ) where
  -- Where the receiver stands before a packet.
  abbrev pub Near : ℕ → List ℕ → ℕ → Blocks → Bool → State → List ℕ → Type 0
  Near serial m n blocks u r store =
      Touched t number serial m (piece_at t (length m) n) (pos serial n) u r store
      ⊎ (Untouched t number serial m (piece_at t (length m) n) u r × (is_selective blocks ≡ false))

  -- The turns so far bear out that the receiver follows, and that none of this fragment's went through.
  abbrev pub Going : ℕ → List ℕ → ℕ → Blocks → ℕ → State → List Turn → Type 0
  Going serial m n blocks used r xs =
      length m + 4 ≤ o.room → Every (Calm t) xs
      → Clean t number serial m (piece_at t (length m) n) blocks r.phase r.blocks
      × (row older : List Turn) × (xs ≡ row ++ older) × (length row ≡ used) × Every (λ x. Through t x → ⊥) row

  -- A session that is open after this history, with the receiver's state and store.
  pub record Live (s : Session) (m : List ℕ) (r : State) (store : List ℕ) (log : History) : Type 0 where
    pub u : Bool
    pub sending : Sending t s.serial m (count_of t (length m))
    pub long : s.length ≡ length m
    pub fits : fitting t (piece_at t (length m) s.number).blocks s.blocks ≡ true
    pub opened : Open t o.limit o.room s.serial m s.number s.used u (turns_of s.serial log)
    pub each_turn : s.packets ≡ length (turns_of s.serial log)
    pub near : Near s.serial m s.number s.blocks u r store
    pub order : Order s.serial m u log
    pub going : Going s.serial m s.number s.blocks s.used r (turns_of s.serial log)

  -- What a turn comes to.
  abbrev pub Comes : Session → List ℕ → State → List ℕ → History → Stepped → Type 0
  Comes s m r store log (On s') = Live s' m r store log × (s'.serial ≡ s.serial)
  Comes s m r store log (Ended report left) =
      SessionOk t o.limit o.room s.serial (record { serial = s.serial; octets = m } ∷ []) (turns_of s.serial log)
      × LastBelow (suc s.serial) r.last × Within (handed_up_in log) (started_in log) × Sized r.blocks × (report.serial ≡ s.serial)

  module _ (b : Base) (limit_is : b.limit ≡ o.limit) (s : Session) (m : List ℕ) (r₀ : State) (store₀ : List ℕ) (log : History) (live : Live s m r₀ store₀ log)
      (u' : Bool) (code : Option Code) (fate : Fate) (ups : List Message) (r : State) (store : List ℕ) (same_room : length store ≡ o.room)
      (stands : Stands t number law own peer own_small peer_small s.serial m (count_of t (length m)) s.number live.sending live.opened.high s.blocks live.fits (pos s.serial s.number) u' code r store)
      (grew : Grew s.serial m live.u u' [] ups) where
    abbrev piece : Piece
    piece = piece_at t (length m) s.number

    -- The turn, by what became of the session.
    abbrev pub turn_by : Stepped → Turn
    turn_by stepped =
        record {
          serial = s.serial;
          number = s.number;
          blocks = carried s.blocks (piece_at t (length m) s.number).blocks;
          fate = fate;
          ups = ups;
          code = code;
          report = report_in stepped;
        }

    abbrev older : List Turn
    older = turns_of s.serial log

    abbrev Fine : Type 0
    Fine = TurnFine t number law own peer own_small peer_small s.serial m (count_of t (length m)) s.number live.sending live.opened.high s.blocks live.fits (pos s.serial s.number) (listed fate.heard) code r

    abbrev Quiet : Hearing → Type 0
    Quiet h = (x : Alteration) → Marked t number law own peer own_small peer_small s.serial m (count_of t (length m)) s.number live.sending live.opened.high s.blocks live.fits h x → ⊥

    module _ (follows : fate.wait ≡ false → length (listed fate.heard) ≤ 1 → Every Quiet (listed fate.heard) → reach piece ≤ o.room
        → Clean t number s.serial m piece s.blocks r₀.phase r₀.blocks → Fine) where
      all : (stepped : Stepped) → turns_of s.serial (turned (turn_by stepped) ∷ log) ≡ turn_by stepped ∷ older
      all stepped = own_turn s.serial (turn_by stepped) log refl

      within-stream : length m + 4 ≤ o.room → reach piece ≤ o.room
      within-stream room =
          let cut = well-cut t law.sound (length m) (count_of t (length m)) s.number live.sending.fits live.opened.high in
          omega (arith, cut.some_data)

      fine : (stepped : Stepped) → length m + 4 ≤ o.room → Every (Calm t) (turn_by stepped ∷ older)
          → Fine × (row rest : List Turn) × (older ≡ row ++ rest) × (length row ≡ s.used) × Every (λ x. Through t x → ⊥) row
      fine stepped room calm =
          let g = live.going room calm.1 in
          let quiet : Every Quiet (listed fate.heard) =
          every_map (Unaltered t (turn_by stepped)) Quiet (λ h un x y. un x (record { marked = y.0; there = y.1; inside = y.2; good = y.3; changes = y.4 })) (listed fate.heard) calm.0.unaltered in
          (follows calm.0.no_wait calm.0.unrepeated quiet (within-stream room) g.0, g.1, g.2, g.3, g.4, g.5)

      acked : (stepped : Stepped) → Fine → Through t (turn_by stepped) → code ≡ Some Ack
      acked stepped g th = g.acked (record { hearing = th.hearing; once = th.once; none_bad = th.none_bad; replied = th.replied })

      -- With the retries used, none of the last R + 1 turns went through.
      exhausted : o.limit ≤ s.used → (code ≡ Some Ack → ⊥) → (stepped : Stepped) → length m + 4 ≤ o.room → Every (Calm t) (turn_by stepped ∷ older) → OneOfEach t o.limit (turn_by stepped ∷ older) → ⊥
      exhausted full not-ack stepped room calm rows =
          let g = fine stepped room calm in
          let long : length (turn_by stepped ∷ g.1) ≡ suc o.limit = omega (arith, g.4, live.opened.used_small) in
          some-none (Through t) (turn_by stepped ∷ g.1) (rows [] (turn_by stepped ∷ g.1) g.2 (ap (λ xs. turn_by stepped ∷ xs) g.3) long)
          ((λ th. not-ack (acked stepped g.0 th)), g.5)

      more : (stepped : Stepped) → OneMore t o.limit o.room s.serial m s.number live.u u' (turn_by stepped)
      more stepped = record { number_is = refl; grew = grew }

      last-below : LastBelow (suc s.serial) r.last
      last-below = elim stands [ inl x ↦ go u' r.last x.0.latest | inr x ↦ below_more s.serial r.last x.0.latest ]
        where
          go : (u : Bool) (l : Option Last) → LastOk t number s.serial m piece u l → LastBelow (suc s.serial) l
          go true l e = rw e (omega arith)
          go false l e = below_more s.serial l e

      sized-now : Sized r.blocks
      sized-now = elim stands [ inl x ↦ x.0.sized | inr x ↦ x.0.sized ]

      -- Before the last fragment the message is not up.
      down : 0 < s.number → u' ≡ false
      down z = elim (cases_Bool u') [ inl e ↦ absurd (elim stands [ inl x ↦ omega (arith, (x.0.when_up e).0) | inr x ↦ true≢false e x.0.down ]) | inr e ↦ e ]

      abbrev Result : Stepped → Type 0
      Result stepped = Comes s m r store (turned (turn_by stepped) ∷ log) stepped

      ended : (outcome : Outcome)
          → Fair t o.limit o.room s.serial m s.number s.used live.u u' (turn_by (end_of (counted s) outcome)) older live.opened (more (end_of (counted s) outcome)) outcome
          → (length m + 4 ≤ o.room → Every (Calm t) (turn_by (end_of (counted s) outcome) ∷ older) → OneOfEach t o.limit (turn_by (end_of (counted s) outcome) ∷ older) → outcome ≡ Delivered)
          → Result (end_of (counted s) outcome)
      ended outcome fair prog = (
        rw (all (end_of (counted s) outcome))
            (reported t o.limit o.room s.serial m s.number s.used live.u u' (turn_by (end_of (counted s) outcome)) older live.opened (more (end_of (counted s) outcome))
            outcome (s.packets + 1) refl (omega (arith, live.each_turn)) fair prog),
        last-below,
        ordered s.serial m u' (turned (turn_by (end_of (counted s) outcome)) ∷ log) (order-step s.serial m live.u u' (turn_by (end_of (counted s) outcome)) log live.order grew),
        sized-now,
        refl,
      )

      not-acked : settles code ≡ false → code ≡ Some Ack → ⊥
      not-acked q e = true≢false (ap settles e) q

      again-live : (blocks : Blocks) → fitting t piece.blocks blocks ≡ true → settles code ≡ false → Near s.serial m s.number blocks u' r store
          → (Fine → Clean t number s.serial m piece blocks r.phase r.blocks) → s.used < o.limit → Result (On (again (counted s) blocks))
      again-live blocks fit q near clean less =
          let st = On (again (counted s) blocks) in
          let one : suc s.used ≡ s.used + 1 = omega arith in (
            record {
              u = u';
              sending = live.sending;
              long = live.long;
              fits = fit;
              opened = rw (all st) (subst (λ k. Open t o.limit o.room s.serial m s.number k u' (turn_by st ∷ older)) one
                  (retried t o.limit o.room s.serial m s.number s.used live.u u' (turn_by st) older live.opened (more st) refl q less));
              each_turn = rw (all st) (omega (arith, live.each_turn));
              near = near;
              order = order-step s.serial m live.u u' (turn_by st) log live.order grew;
              going = λ room calm.
                  let g = fine st room (subst (Every (Calm t)) (all st) calm) in
                  (clean g.0, turn_by st ∷ g.1, g.2, all st ∙ ap (λ xs. turn_by st ∷ xs) g.3, omega (arith, g.4), ((λ th. not-acked q (acked st g.0 th)), g.5));
            },
            refl,
          )

      retry-case : (blocks : Blocks) → fitting t piece.blocks blocks ≡ true → settles code ≡ false → Near s.serial m s.number blocks u' r store
          → (Fine → Clean t number s.serial m piece blocks r.phase r.blocks) → Result (retry_of b (counted s) blocks)
      retry-case blocks fit q near clean = elim (cases_Bool (ltb s.used b.limit)) [
        | inl l ↦ subst Result (sym (cond-true (ltb s.used b.limit) _ _ l)) (again-live blocks fit q near clean (omega (arith, ltb-true s.used b.limit l, limit_is)))
        | inr l ↦
            let full : o.limit ≤ s.used = omega (arith, ltb-false s.used b.limit l, limit_is) in
            subst Result (sym (cond-false (ltb s.used b.limit) _ _ l)) (elim (cases_eq s.number 0) [
              | inl z ↦ subst (λ out. Result (end_of (counted s) out)) (sym (cond-true (eqb s.number 0) Unknown NotDelivered (eq-eqb s.number 0 z)))
                  (ended Unknown (z, q, omega (arith, live.opened.used_small)) (λ room calm rows. absurd (exhausted full (not-acked q) (end_of (counted s) Unknown) room calm rows)))
              | inr z ↦ subst (λ out. Result (end_of (counted s) out)) (sym (cond-false (eqb s.number 0) Unknown NotDelivered (ne_eqb s.number 0 z)))
                  (ended NotDelivered (down (omega arith), inl (omega arith)) (λ room calm rows. absurd (exhausted full (not-acked q) (end_of (counted s) NotDelivered) room calm rows)))
            ])
      ]

      touched : (code ≡ None → ⊥)
          → Touched t number s.serial m piece (pos s.serial s.number) u' r store × CodeOk t number s.serial m piece u' code r store
      touched some-code = elim stands [ inl x ↦ x | inr x ↦ absurd (some-code x.1) ]

      post-ack : code ≡ Some Ack → Touched t number s.serial m piece (pos s.serial s.number) u' r store × PostAck t number s.serial m piece u' r store
      post-ack c = let w = touched (λ e. clash cc) in (w.0, subst (λ k. CodeOk t number s.serial m piece u' k r store) c w.1)

      next-live : code ≡ Some Ack → (n : ℕ) → s.number ≡ suc n → s.number - 1 ≡ n → Result (On (next_fragment (counted s)))
      next-live c n e e' =
          let st = On (next_fragment (counted s)) in
          let w = post-ack c in
          let low : suc n < count_of t (length m) = omega (arith, live.opened.high) in (
            record {
              u = u';
              sending = live.sending;
              long = live.long;
              fits = refl;
              opened = rw (all st) (subst (λ k. Open t o.limit o.room s.serial m k 0 u' (turn_by st ∷ older)) (sym e')
                  (advanced t o.limit o.room s.serial m s.number s.used live.u u' (turn_by st) older live.opened (more st) n e refl));
              each_turn = rw (all st) (omega (arith, live.each_turn));
              near = subst (λ k. Near s.serial m k All u' r store) (sym e')
                  (inl (advance t number law s.serial m (count_of t (length m)) n live.sending low (pos s.serial s.number) (pos s.serial n) u' r store
                  (subst (λ k. Touched t number s.serial m (piece_at t (length m) k) (pos s.serial s.number) u' r store) e w.0)
                  (subst (λ k. PostAck t number s.serial m (piece_at t (length m) k) u' r store) e w.1)));
              order = order-step s.serial m live.u u' (turn_by st) log live.order grew;
              going = λ room calm.
                  let g = fine st room (subst (Every (Calm t)) (all st) calm) in
                  let ph = g.0.on_ack c (omega arith) in
                  ((refl, inr (rw ph (inr refl))), [], turns_of s.serial (turned (turn_by st) ∷ log), refl, refl, tt);
            },
            refl,
          )

      ack-case : code ≡ Some Ack → Result (acked_of (counted s))
      ack-case c = elim (cases_eq s.number 0) [
        | inl z ↦ subst Result (sym (cond-true (eqb s.number 0) _ _ (eq-eqb s.number 0 z)))
            (ended Delivered ((post-ack c).1.0 z, z, ap settles c) (λ _ _ _. refl))
        | inr z ↦ subst Result (sym (cond-false (eqb s.number 0) _ _ (ne_eqb s.number 0 z))) (next-live c (s.number - 1) (omega arith) refl)
      ]

      lost-case : code ≡ Some OutOfStep → Result (end_of (counted s) NotDelivered)
      lost-case c =
          let w = touched (λ e. clash cc) in
          let post : PostLost t number s.serial m piece u' r store = subst (λ k. CodeOk t number s.serial m piece u' k r store) c w.1 in
          ended NotDelivered
          (elim post [ inl x ↦ x.2 | inr x ↦ elim (cases_Bool u') [ inl e ↦ absurd (omega (arith, (w.0.when_up e).1)) | inr e ↦ e ] ], inr (ap settles c))
          (λ room calm rows. absurd ((fine (end_of (counted s) NotDelivered) room calm).0.not_lost c))

      pub respond : (c : Option Code) → code ≡ c → Result (step_of b (counted s) c)
      respond None c =
          retry-case s.blocks live.fits (ap settles c) (elim stands [ inl x ↦ inl x.0 | inr x ↦ inr (x.0, x.2) ]) (λ g. g.silent c)
      respond (Some Ack) c = ack-case c
      respond (Some (AckSelective set)) c =
          let w = touched (λ e. clash cc) in
          retry-case (Only set) (subst (λ k. CodeOk t number s.serial m piece u' k r store) c w.1) (ap settles c) (inl w.0) (λ g. g.asked set c)
      respond (Some FullRetry) c = retry-case All refl (ap settles c) (inl (touched (λ e. clash cc)).0) (λ g. g.anew c)
      respond (Some OutOfStep) c = lost-case c
