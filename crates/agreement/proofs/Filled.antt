-- Filling in the good blocks of a packet of the fragment: what the check tells, and what is left.
use Rattle.std.proofs.Common.{◌≡◌, ℕ, zero, suc, ◌+◌, ◌-◌, ◌*◌, ◌^◌, ◌<◌, ◌≤◌, Bool, true, false, not, eqb, ltb, ◌⊎◌, List, ◌++◌, length, get_or, take, drop, set, replicate, Some, None, Ok, Option, sym, refl, ap, ◌∙◌, subst, ap₂, inl, inr, arith}
use Rattle.std.proofs.lemmas.List.{length-set, get_or-take, get_or_past, get_or-replicate, drop-take, drop_at, take-take, take_at, take_all, set-append_left, set-append_right, set-get_or}
use Rattle.std.proofs.lemmas.Bool.{cases_Bool, cases_lt, cases_eq, cond_both, cond-false, both_ways, and_from, eqb-true, eq-eqb, lt-ltb}
use Rattle.fragment.specs.Carriers.{Terms, Sound}
use Rattle.fragment.specs.Cutting.{Piece, piece_at}
use Rattle.fragment.specs.Laws.{WellCut, data_in}
use Rattle.fragment.specs.Streams.{Content, four_at, four_octets, stream_of, split_of}
use Rattle.fragment.proofs.Cuts.{well-cut, cuts}
use Rattle.packet.specs.declared.values.Code.{Code}
use Rattle.packet.specs.declared.values.Code.TheVariants.{FullRetry, OutOfStep}
use Rattle.packet.specs.declared.values.Header.{Header}
use Rattle.packet.specs.Octets.{over}
use Rattle.packet.specs.Images.{covered}
use Rattle.packet.specs.Reading.{Block, block_at, read_of}
use Rattle.packet.specs.Refusals.{records_at, number_at, quality_at}
use Rattle.packet.proofs.Over.{length_over}
use Rattle.packet.proofs.Sealed.{length_part, length-covered, length-sealed}
use Rattle.receiver.specs.declared.state.BlockStore.{BlockStore}
use Rattle.receiver.specs.declared.state.Phase.TheVariants.{Collecting}
use Rattle.receiver.specs.declared.state.Gathering.{Gathering}
use Rattle.receiver.specs.declared.state.Last.{Last}
use Rattle.receiver.specs.declared.state.State.{State}
use Rattle.receiver.specs.Store.{anew, put_in, filled_from, filled_by, missing_of, is_right}
use Rattle.receiver.specs.Rows.{idle}
use Rattle.receiver.specs.Fill.{After, answered, serial_in, octets_of, lacking, finished}
use Rattle.receiver.specs.Calls.{part_of}
use Rattle.receiver.specs.Laws.{Brings, Filled, AllIn, Checked, FillRows, store_with, filled_with, last_with, fills}
use Rattle.receiver.proofs.Asking.{flags-below}
use Rattle.receiver.proofs.Storing.{block_within}
use Rattle.receiver.proofs.Reading.{storable}
use Rattle.receiver.proofs.Holding.{fill_holds}
use Rattle.receiver.proofs.Filling.{fill-rows, part-after}
use Rattle.receiver.proofs.Appending.{appends-data}
use Rattle.receiver.proofs.Asking.{some-missing}
use Rattle.agreement.specs.Histories.{Octets}
use Rattle.agreement.proofs.Ties.{Lawful, Sending, OneOff, reach, gathered, Sized, image, Came, NearHeld, Stored, Carries, LastBelow, CodeOk, StepOk, Ready}
use Rattle.agreement.proofs.Replaced.{octets-append, octets-take, octets-drop, octets-zeros, octets-four, octet-small, over-reaches, blocks-near, four-at, four-tells}

-- The size of the block store

pub anew-sized : (b : BlockStore) → Sized b → Sized (anew b)
anew-sized b sized = record { octets = sized.octets; held = refl }

module _ (t : Terms) (sound : Sound t) (h : Header) (xs : List ℕ) (read : read_of t xs ≡ Ok h) where
  put-sized : (o : Option Block) → ((b : Block) → o ≡ Some b → (b.number < 16) × (length b.octets ≡ t.block)) → (s : BlockStore) → Sized s → Sized (put_in t.block o s)
  put-sized None each s sized = sized
  put-sized (Some b) each s sized =
      let fits = each b refl in
      let within = block_within b.number t.block fits.0 sound.few_octets in
      record {
        octets = length_over (b.number * t.block) b.octets s.octets (omega (arith, fits.1, sized.octets)) ∙ sized.octets;
        held = length-set s.held b.number true ∙ sized.held;
      }

  from-sized : (n i : ℕ) (s : BlockStore) → Sized s → Sized (filled_from t.block h xs n i s)
  from-sized zero i s sized = sized
  from-sized (suc n) i s sized =
      from-sized n (i + 1) _ (put-sized (block_at t.block h xs i) ((storable t xs h read sound).each i) s sized)

  pub filled-sized : (b : BlockStore) → Sized b → Sized (filled_by t.block h xs b)
  filled-sized b sized = from-sized h.records 0 b sized

-- Whether one of n has a property, or all have its opposite.
some-or-all : (P Q : ℕ → Type 0) → ((i : ℕ) → P i ⊎ Q i) → (n : ℕ) → ((i : ℕ) × (i < n) × P i) ⊎ ((i : ℕ) → i < n → Q i)
some-or-all P Q each zero = inr (λ i l. absurd (omega arith))
some-or-all P Q each (suc n) =
    elim (some-or-all P Q each n) [
      | inl some ↦ inl (some.0, omega (arith, some.1), some.2)
      | inr all ↦
          elim (each n) [
            | inl p ↦ inl (n, omega arith, p)
            | inr q ↦ inr (λ i l. elim (cases_eq i n) [ inl e ↦ rw e q | inr e ↦ all i (omega arith) ])
          ]
    ]

-- Whether a packet brings block j.
module _ (t : Terms) (xs : List ℕ) (j : ℕ) where
  abbrev Has : ℕ → Type 0
  Has i = (quality_at t xs i ≡ 0) × (number_at t xs i ≡ j)

  has-or-not : (i : ℕ) → Has i ⊎ (Has i → ⊥)
  has-or-not i =
      elim (cases_eq (quality_at t xs i) 0) [
        | inl good ↦ elim (cases_eq (number_at t xs i) j) [ inl e ↦ inl (good, e) | inr e ↦ inr (λ h. e h.1) ]
        | inr bad ↦ inr (λ h. bad h.0)
      ]

  brings-or-not : ((i : ℕ) × Brings t xs i j) ⊎ ((i : ℕ) → Brings t xs i j → ⊥)
  brings-or-not =
      elim (some-or-all Has (λ i. Has i → ⊥) has-or-not (records_at xs)) [
        | inl some ↦ inl (some.0, (some.1, some.2.0, some.2.1))
        | inr none ↦ inr (λ i b. none i b.0 (b.1, b.2))
      ]

-- What is missing

pub missing-below : (b : BlockStore) (n : ℕ) → (missing_of n b).0 < 2 ^ n
missing-below b n = flags-below (λ j. not (get_or b.held j false)) n

all_in : (b : BlockStore) (n : ℕ) → eqb (missing_of n b).0 0 ≡ true → AllIn b n
all_in b n e j l =
    elim (cases_Bool (get_or b.held j false)) [ inl held ↦ held | inr lacks ↦ absurd (both_ways (eqb (missing_of n b).0 0) (some-missing b n j (l, lacks)) e) ]

none-held : (j : ℕ) → get_or (replicate 16 false) j false ≡ false
none-held j = elim (cases_lt j 16) [ inl l ↦ get_or-replicate 16 j false false l | inr l ↦ get_or_past (replicate 16 false) j false l ]

-- What the check tells

-- The number of four octets behind others depends on nothing more.
four-behind : (place : ℕ) (xs : List ℕ) → four_at (drop place xs) ≡ four_at (drop place (take (place + 4) xs))
four-behind place xs =
    rw (
      drop-take place 4 xs,
      get_or-take 4 (drop place xs) 0 0 (omega arith),
      get_or-take 4 (drop place xs) 1 0 (omega arith),
      get_or-take 4 (drop place xs) 2 0 (omega arith),
      get_or-take 4 (drop place xs) 3 0 (omega arith),
    )

-- Octets that begin with some others and their check, of which at most one was replaced, have their own check only if none was.
module _ (t : Terms) (number : List ℕ → ℕ) (law : Lawful t number) (body : List ℕ) (octets : Octets body) (xs : List ℕ) (place : ℕ) (long : length body ≡ place) where
  abbrev four : List ℕ
  four = four_octets (number body)

  -- What stands in front of the check, and the check.
  module _ (front back : List ℕ) (e : take (place + 4) xs ≡ front ++ back) (l : length front ≡ place) where
    front-is : take place xs ≡ front
    front-is = sym (take-take place (place + 4) xs (omega arith)) ∙ ap (take place) e ∙ take_at front back place l

    back_is : four_at (drop place xs) ≡ four_at back
    back_is = four-behind place xs ∙ ap (λ l. four_at (drop place l)) e ∙ ap four_at (drop_at front back place l)

  one-tells : OneOff (body ++ four) (take (place + 4) xs) → number (take place xs) ≡ four_at (drop place xs) → take (place + 4) xs ≡ body ++ four
  one-tells o right =
      elim (cases_lt o.0 (length body)) [
        | inl l ↦
            (let is : take (place + 4) xs ≡ set body o.0 o.1 ++ four = o.3 ∙ set-append_left body four o.0 o.1 l in
            let size : length (set body o.0 o.1) ≡ place = length-set body o.0 o.1 ∙ long in
            let same : number (set body o.0 o.1) ≡ number body =
            ap number (sym (front-is (set body o.0 o.1) four is size)) ∙ right ∙ back_is (set body o.0 o.1) four is size ∙ four-at (number body) (law.small body) in
            elim (cases_eq o.1 (get_or body o.0 0)) [
              | inl e ↦ is ∙ ap (λ l. l ++ four) (ap (set body o.0) e ∙ set-get_or body o.0 0)
              | inr e ↦ absurd (law.single body o.0 o.1 l (octet-small body o.0 octets) o.2 e same)
            ])
        | inr l ↦
            (let k : ℕ = o.0 - length body in
            let is : take (place + 4) xs ≡ body ++ set four k o.1 = o.3 ∙ set-append_right body four (length body) o.0 o.1 refl l in
            let same : four_at (set four k o.1) ≡ four_at four =
            sym (back_is body (set four k o.1) is long) ∙ sym right ∙ ap number (front-is body (set four k o.1) is long) ∙ sym (four-at (number body) (law.small body)) in
            is ∙ ap (λ l. body ++ l) (four-tells (number body) k o.1 same))
      ]

-- The image in the block store

pub anew-near : (t : Terms) (number : List ℕ → ℕ) (serial : ℕ) (message : List ℕ) (f : Piece) (a : ℕ) (b : BlockStore) → NearHeld t number serial message f a (anew b)
anew-near t number serial message f a b j l held = absurd (both_ways (get_or (replicate 16 false) j false) (none-held j) held)

module _ (t : Terms) (number : List ℕ → ℕ) (law : Lawful t number) (serial : ℕ) (message : List ℕ) (count n : ℕ) (sending : Sending t serial message count) (below : n < count) where
  abbrev f : Piece
  f = piece_at t (length message) n

  abbrev body : List ℕ
  body = covered (data_in f (stream_of serial message)) f.pad

  cut : WellCut t (length message) count n
  cut = well-cut t law.sound (length message) count n sending.fits below

  pub filled-near : (a : ℕ) (h : Header) (xs : List ℕ) (b : BlockStore) → Carries t number serial message f a h xs → Sized b
      → NearHeld t number serial message f a b → NearHeld t number serial message f a (filled_by t.block h xs b)
  filled-near a h xs b c sized near j l held =
      let few : j < 16 = omega (arith, cut.few_blocks) in
      let went : Filled t xs b (filled_by t.block h xs b) = fill_holds t law.sound xs h b c.read sized.octets sized.held in
      elim (brings-or-not t xs j) [
        | inl i ↦ subst (Came t number serial message f a j) (sym (went.brought i.0 j i.1)) (c.near i.0 j i.1).1
        | inr none ↦
            subst (Came t number serial message f a j) (sym (went.kept j none))
            (near j l (elim ((went.held j few).0 held) [ inl e ↦ e | inr i ↦ absurd (none i.0 i.1) ]))
      ]

  inside : f.offset + f.octets ≤ length (stream_of serial message)
  inside = omega (arith, cut.some_data)

  length-body : length body ≡ f.blocks * t.block - 4
  length-body =
      let size = length_part (stream_of serial message) f.offset f.octets inside in
      let whole = length-covered (data_in f (stream_of serial message)) f.pad in
      omega (arith, cut.image)

  length-image : length (image t number serial message f) ≡ f.blocks * t.block
  length-image = length-sealed (stream_of serial message) (four_octets (number body)) f.offset f.octets f.pad f.blocks t.block refl inside cut.image

  octets-body : Octets body
  octets-body =
      octets-append (data_in f (stream_of serial message)) (replicate f.pad 0)
      (octets-take f.octets _ (octets-drop f.offset (stream_of serial message) (octets-append (four_octets serial) message (octets-four serial) sending.octets)))
      (octets-zeros f.pad)

  pub held-image : (a : ℕ) (b : BlockStore) → NearHeld t number serial message f a b → AllIn b f.blocks
      → OneOff (image t number serial message f) (take (f.blocks * t.block) b.octets)
  held-image a b near all =
      subst (λ x. OneOff x (take (f.blocks * t.block) b.octets))
      (take_all (f.blocks * t.block) (image t number serial message f) (omega (arith, length-image)))
      (blocks-near t.block (image t number serial message f) b.octets a f.blocks (λ j l. near j l (all j l)))

  pub check-tells : (b : BlockStore) → OneOff (image t number serial message f) (take (f.blocks * t.block) b.octets)
      → is_right number t.block f.blocks b ≡ true → take (f.blocks * t.block) b.octets ≡ image t number serial message f
  check-tells b o right =
      let place : f.blocks * t.block - 4 + 4 ≡ f.blocks * t.block = omega (arith, cut.image) in
      subst (λ k. take k b.octets ≡ image t number serial message f) place
      (one-tells t number law body octets-body b.octets (f.blocks * t.block - 4) length-body
      (subst (λ k. OneOff (image t number serial message f) (take k b.octets)) (sym place) o) (eqb-true _ _ right))

  taken : octets_of t (gathered f) ≡ f.octets
  taken = omega (arith, cut.image)

  -- What is left

  module _ (a : ℕ) (u : Bool) (last : Option Last) (store : List ℕ) (b : BlockStore) (sized : Sized b) (near : NearHeld t number serial message f a b)
      (ready : Ready t number serial message f u last store) (stored : take f.offset store ≡ take f.offset (stream_of serial message)) where
    -- The fragment is collected in these blocks.
    abbrev within : BlockStore → State
    within blocks = record { phase = Collecting (gathered f); blocks = blocks; filled = f.offset; last = last }

    abbrev Good : After → Type 0
    Good = StepOk t number serial message f a u store

    abbrev Tells : Code → State → Type 0
    Tells code s = CodeOk t number serial message f u (Some code) s store

    -- Nothing was stored: it is collected on, or given up.
    on-good : (blocks : BlockStore) (code : Code) → Sized blocks → NearHeld t number serial message f a blocks → Tells code (within blocks) → Good (answered (within blocks) store code)
    on-good blocks code whole close tells =
        record {
          touched = record { sized = whole; tied = inl (refl, close, (refl, stored)); latest = ready.latest; when_up = λ e. let w = ready.when_up e in (w.0, w.1, inl w.2) };
          up_ok = tt;
          code_ok = tells;
          same_room = refl;
        }

    idle-good : (code : Code) → Tells code (idle (within b)) → Good (answered (idle (within b)) store code)
    idle-good code tells =
        record {
          touched = record { sized = sized; tied = tt; latest = ready.latest; when_up = λ e. let w = ready.when_up e in (w.0, w.1, inl w.2) };
          up_ok = tt;
          code_ok = tells;
          same_room = refl;
        }

    lacking-good : eqb (missing_of f.blocks b).0 0 ≡ false → Good (lacking t (within b) store (gathered f))
    lacking-good some =
        cond_both t.selective _ _ Good
        (λ e. on-good b _ sized near
        (and_from t.selective _ e
        (and_from (not (eqb (missing_of f.blocks b).0 0)) (ltb (missing_of f.blocks b).0 (2 ^ f.blocks)) (ap not some) (lt-ltb _ _ (missing-below b f.blocks)))))
        (λ e. idle-good FullRetry tt)

    -- All blocks are in.
    module _ (all : AllIn b f.blocks) where
      rows : FillRows t number (within b) store (gathered f)
      rows = fill-rows t number (within b) store (gathered f)

      spoilt-good : (Checked t number b f.blocks → ⊥) → Good (finished t number (within b) store (gathered f))
      spoilt-good wrong =
          elim (cases_Bool t.selective) [
            | inl e ↦ subst Good (sym (rows.spoilt e all wrong)) (on-good (anew b) FullRetry (anew-sized b sized) (anew-near t number serial message f a b) tt)
            | inr e ↦ subst Good (sym (rows.spoilt_full e all wrong)) (idle-good FullRetry tt)
          ]

      -- The check is right: they are the image.
      module _ (right : Checked t number b f.blocks) where
        whole : take (f.blocks * t.block) b.octets ≡ image t number serial message f
        whole = check-tells b (held-image a b near all) (eq-eqb _ _ right)

        content : take (octets_of t (gathered f)) b.octets ≡ data_in f (stream_of serial message)
        content = (appends-data t law.sound number law.small serial message count n sending.fits below (gathered f) b refl refl whole).content

        end_is : filled_with t (within b) (gathered f) ≡ reach f
        end_is = ap (λ k. f.offset + k) taken

        long-good : length store < reach f → Good (finished t number (within b) store (gathered f))
        long-good l = subst Good (sym (rows.too_long all right (omega (arith, end_is)))) (idle-good OutOfStep (inr l))

        -- The data goes in.
        module _ (room : reach f ≤ length store) where
          abbrev after-it : List ℕ
          after-it = store_with t (within b) store (gathered f)

          store_is : after-it ≡ over f.offset (data_in f (stream_of serial message)) store
          store_is = ap (λ l. over f.offset l store) content

          room_is : length after-it ≡ length store
          room_is =
              ap length store_is
              ∙ length_over f.offset (data_in f (stream_of serial message)) store (omega (arith, length_part (stream_of serial message) f.offset f.octets inside))

          reached : take (reach f) after-it ≡ take (reach f) (stream_of serial message)
          reached = ap (take (reach f)) store_is ∙ over-reaches f.offset f.octets store (stream_of serial message) room inside stored

          fits : filled_with t (within b) (gathered f) ≤ length store
          fits = omega (arith, end_is)

          more-good : 0 < f.number → Good (finished t number (within b) store (gathered f))
          more-good others =
              subst Good (sym (rows.more all right fits others))
              (record {
                touched =
                    record { sized = sized; tied = inl (refl, others, (end_is, reached)); latest = ready.latest; when_up = λ (e : u ≡ true). absurd (omega (arith, (ready.when_up e).0)) };
                up_ok = tt;
                code_ok = (λ z. absurd (omega arith), λ z. inr (refl, (end_is, reached)));
                same_room = room_is;
              })

          -- The message is whole.
          module _ (z : f.number ≡ 0) where
            stream-is : take (reach f) (stream_of serial message) ≡ stream_of serial message
            stream-is = take_all (reach f) (stream_of serial message) (omega (arith, cut.ends z))

            abbrev in_store : Content
            in_store = record { serial = serial_in after-it; message = part_of after-it 4 (reach f - 4) }

            abbrev sent_out : Content
            sent_out = record { serial = serial; message = message }

            split-is : Some in_store ≡ Some sent_out
            split-is =
                sym (part-after after-it (reach f) (omega (arith, cut.ends z)) (omega (arith, room_is)))
                ∙ ap split_of (reached ∙ stream-is)
                ∙ (cuts t law.sound).splits serial message sending.serial_small

            content-is : in_store ≡ sent_out
            content-is = cc split-is

            serial-is : serial_in after-it ≡ serial
            serial-is = ap (λ (c : Content). c.serial) content-is

            message-is : part_of after-it 4 (filled_with t (within b) (gathered f) - 4) ≡ message
            message-is = ap (λ k. part_of after-it 4 (k - 4)) end_is ∙ ap (λ (c : Content). c.message) content-is

            check-is : four_at (drop (f.blocks * t.block - 4) b.octets) ≡ number body
            check-is =
                sym right
                ∙ ap number (sym (take-take (f.blocks * t.block - 4) (f.blocks * t.block) b.octets (omega arith)) ∙ ap (take (f.blocks * t.block - 4)) whole
                ∙ take_at body (four_octets (number body)) (f.blocks * t.block - 4) length-body)

            last-is : last_with t (within b) store (gathered f) ≡ record { serial = serial; check = number body }
            last-is = ap₂ (λ (x y : ℕ). record { serial = x; check = y }) serial-is check-is

            still-room : reach f ≤ length after-it
            still-room = omega (arith, room_is)

            -- It is handed up exactly where it is not up yet.
            done-good : (v : Bool) → u ≡ v → Good (finished t number (within b) store (gathered f))
            done-good true e =
                let known : last ≡ Some (record { serial = serial; check = number body }) = rw e at ready.latest in
                subst Good (sym (rows.repeated all right fits z (ready.when_up e).2 (known ∙ ap Some (sym last-is))))
                (record {
                  touched = record { sized = sized; tied = (z, e); latest = ready.latest; when_up = λ _. (z, still-room, inr refl) };
                  up_ok = tt;
                  code_ok = (λ _. e, λ others. absurd (omega arith));
                  same_room = room_is;
                })
            done-good false e =
                let lower : LastBelow serial last = rw e at ready.latest in
                let other : (f.start ≡ true) × (last ≡ Some (last_with t (within b) store (gathered f))) → ⊥ =
                λ same. let under = subst (LastBelow serial) (same.1 ∙ ap Some last-is) lower in omega arith in
                subst Good (sym (rows.handed_up all right fits z other))
                (record {
                  touched = record { sized = sized; tied = (z, refl); latest = ap Some last-is; when_up = λ _. (z, still-room, inr refl) };
                  up_ok = (e, z, serial-is, message-is);
                  code_ok = (λ _. refl, λ others. absurd (omega arith));
                  same_room = room_is;
                })

        right-good : Good (finished t number (within b) store (gathered f))
        right-good =
            elim (cases_lt (length store) (reach f)) [
              | inl l ↦ long-good l
              | inr l ↦ elim (cases_eq f.number 0) [ inl z ↦ done-good l z u refl | inr some ↦ more-good l (omega arith) ]
            ]

      whole-good : Good (finished t number (within b) store (gathered f))
      whole-good =
          elim (cases_eq (number (take (f.blocks * t.block - 4) b.octets)) (four_at (drop (f.blocks * t.block - 4) b.octets))) [
            | inl right ↦ right-good right
            | inr wrong ↦ spoilt-good wrong
          ]

    finish-good : Good (finished t number (within b) store (gathered f))
    finish-good =
        elim (cases_Bool (eqb (missing_of f.blocks b).0 0)) [
          | inl none ↦ whole-good (all_in b f.blocks none)
          | inr some ↦ subst Good (sym (cond-false (eqb (missing_of f.blocks b).0 0) _ _ some)) (lacking-good some)
        ]

  pub fill-good : (a : ℕ) (u : Bool) (s : State) (store : List ℕ) (h : Header) (xs : List ℕ) (g : Gathering) (blocks : BlockStore) (octets : ℕ)
      → Carries t number serial message f a h xs → g ≡ gathered f → Sized blocks → Ready t number serial message f u s.last store
      → NearHeld t number serial message f a blocks → Stored t number serial message f f.offset octets store
      → StepOk t number serial message f a u store (fills t number s store h xs g blocks octets)
  fill-good a u s store h xs g blocks octets c same sized ready near stored =
      rw (same, stored.0)
      (finish-good a u s.last store (filled_by t.block h xs blocks) (filled-sized t law.sound h xs c.read blocks sized)
      (filled-near a h xs blocks c sized near) ready stored.1)
