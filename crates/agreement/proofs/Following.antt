-- A hearing that nothing alters keeps the receiver following, and a packet heard whole is acknowledged.
use Rattle.std.proofs.Common.{◌≡◌, ℕ, zero, suc, ◌+◌, ◌-◌, ◌*◌, ◌^◌, ◌<◌, ◌≤◌, Bool, true, false, not, ◌&&◌, eqb, leb, ◌⊎◌, List, ◌++◌, length, get_or, take, Ok, Option, sym, refl, ap, ◌∙◌, subst, inl, inr, suc-mul, zero-mul, arith}
use Rattle.std.proofs.lemmas.List.{take_all, get_or-replicate}
use Rattle.std.proofs.lemmas.Bool.{cases_Bool, both_ways, and_parts, and_from, eq-eqb, lt-ltb, le-leb, eqb-true, cond_both, cond-true}
use Rattle.fragment.specs.Carriers.{Terms, Sound}
use Rattle.fragment.specs.Cutting.{Piece, piece_at}
use Rattle.fragment.specs.Laws.{WellCut, data_in}
use Rattle.fragment.specs.Streams.{four_octets, stream_of}
use Rattle.fragment.proofs.Cuts.{well-cut}
use Rattle.packet.specs.declared.values.BlockSet.{BlockSet}
use Rattle.packet.specs.declared.values.Blocks.{Blocks}
use Rattle.packet.specs.declared.values.Blocks.TheVariants.{All, Only}
use Rattle.packet.specs.declared.values.Code.TheVariants.{Ack}
use Rattle.packet.specs.declared.values.Header.{Header}
use Rattle.packet.specs.Blocks.{carries, askable, fitting, is_selective}
use Rattle.packet.specs.Images.{covered, block_of}
use Rattle.packet.specs.Reading.{read_of}
use Rattle.packet.proofs.Sealed.{length-sealed}
use Rattle.receiver.specs.declared.state.BlockStore.{BlockStore}
use Rattle.receiver.specs.declared.state.Gathering.{Gathering}
use Rattle.receiver.specs.declared.state.Phase.{Phase}
use Rattle.receiver.specs.declared.state.Phase.TheVariants.{Idle, Collecting, Waiting, Done}
use Rattle.receiver.specs.declared.state.Last.{Last}
use Rattle.receiver.specs.declared.state.State.{State}
use Rattle.receiver.specs.Store.{anew, filled_by, missing_of, check_in, is_right}
use Rattle.receiver.specs.Rows.{gathering}
use Rattle.receiver.specs.Fill.{After, answered, is_last, serial_in, completed, appended, finished, lacking, octets_of, heard_of}
use Rattle.receiver.specs.Laws.{Brings, Filled, AllIn, Checked, PacketRows, fills}
use Rattle.receiver.proofs.Holding.{fill_holds}
use Rattle.receiver.proofs.Appending.{appends-data}
use Rattle.receiver.proofs.Hearing.{packet-rows}
use Rattle.receiver.proofs.Asking.{missing-asked, some-missing, none-missing}
use Rattle.agreement.proofs.Basics.{clash}
use Rattle.agreement.proofs.Replaced.{take-add}
use Rattle.agreement.proofs.Filled.{missing-below}
use Rattle.agreement.proofs.Ties.{Lawful, Sending, reach, gathered, Sized, image, Stored, Carries, Tied, Touched, Exact, Covers, CleanPhase, Clean, ExactlyBrings, BringsAll, Fine}

-- Lists with the same n blocks begin with the same octets.
same_blocks : (size n : ℕ) (xs ys : List ℕ) → ((j : ℕ) → j < n → block_of size xs j ≡ block_of size ys j) → take (n * size) xs ≡ take (n * size) ys
same_blocks size zero xs ys same = rw zero-mul
same_blocks size (suc n) xs ys same =
    let before = same_blocks size n xs ys (λ j l. same j (omega arith)) in
    let here = same n (omega arith) in
    let e : n * size + size ≡ suc n * size = omega (arith, suc-mul n size) in
    subst (λ k. take k xs ≡ take k ys) e
    (take-add (n * size) size xs ∙ (let q : take (n * size) xs ++ block_of size xs n ≡ take (n * size) ys ++ block_of size ys n = cc in q) ∙ sym (take-add (n * size) size ys))

anew-holds-none : (b : BlockStore) (j : ℕ) → j < 16 → get_or (anew b).held j false ≡ false
anew-holds-none b j l = get_or-replicate 16 j false false l

-- A block store, before and after the good blocks of a packet went in.
module _ (t : Terms) (sound : Sound t) (xs : List ℕ) (h : Header) (read : read_of t xs ≡ Ok h) (b : BlockStore) (sized : Sized b) where
  abbrev later : BlockStore
  later = filled_by t.block h xs b

  filled-later : Filled t xs b later
  filled-later = fill_holds t sound xs h b read sized.octets sized.held

  -- Whether a block is brought shows in a block store that held none.
  brought-or-not : (j : ℕ) → j < 16 → ((i : ℕ) × Brings t xs i j) ⊎ ((i : ℕ) → Brings t xs i j → ⊥)
  brought-or-not j l =
      let from-none = (fill_holds t sound xs h (anew b) read sized.octets refl).held j l in
      elim (cases_Bool (get_or (filled_by t.block h xs (anew b)).held j false)) [
        | inl e ↦ elim (from-none.0 e) [ inl q ↦ absurd (both_ways _ (anew-holds-none b j l) q) | inr w ↦ inl w ]
        | inr e ↦ inr (λ i w. both_ways _ e (from-none.1 (inr (i, w))))
      ]

  stays-held : (j : ℕ) → j < 16 → get_or b.held j false ≡ true → get_or later.held j false ≡ true
  stays-held j l e = (filled-later.held j l).1 (inl e)

  missing-before : (j : ℕ) → j < 16 → get_or later.held j false ≡ false → get_or b.held j false ≡ false
  missing-before j l e = elim (cases_Bool (get_or b.held j false)) [ inl q ↦ absurd (both_ways _ e (stays-held j l q)) | inr q ↦ q ]

  module _ (number : List ℕ → ℕ) (serial : ℕ) (message : List ℕ) (f : Piece) (few : f.blocks ≤ 16) where
    exact-later : ExactlyBrings t number serial message f xs → Exact t number serial message f b → Exact t number serial message f later
    exact-later exactly exact j l e =
        elim (brought-or-not j (omega arith)) [
          | inl w ↦ filled-later.brought w.0 j w.1 ∙ exactly w.0 j w.1
          | inr none ↦
              filled-later.kept j none
              ∙ exact j l (elim ((filled-later.held j (omega arith)).0 e) [ inl q ↦ q | inr w ↦ absurd (none w.0 w.1) ])
        ]

    covers-later : (blocks : Blocks) → Covers t number serial message f b blocks → Covers t number serial message f later blocks
    covers-later All covers = tt
    covers-later (Only set) covers = λ j l e. covers j l (missing-before j (omega arith) e)

    missing-carried : (blocks : Blocks) → Covers t number serial message f b blocks → (j : ℕ) → j < f.blocks → get_or b.held j false ≡ false → carries blocks j ≡ true
    missing-carried All covers j l e = refl
    missing-carried (Only set) covers j l e = covers j l e

    -- Heard whole, the packet brings what was missing.
    all-later : (blocks : Blocks) → Covers t number serial message f b blocks → BringsAll t number serial message f blocks xs → AllIn later f.blocks
    all-later blocks covers brings j l =
        elim (cases_Bool (get_or b.held j false)) [
          | inl e ↦ stays-held j (omega arith) e
          | inr e ↦ (filled-later.held j (omega arith)).1 (inr (brings j l (missing-carried blocks covers j l e)))
        ]

-- What is known of a fragment that was cut.
record Cut (t : Terms) (number : List ℕ → ℕ) (serial : ℕ) (message : List ℕ) (f : Piece) : Type 0 where
  few : f.blocks ≤ 16
  data_is : f.blocks * t.block - 4 - f.pad ≡ f.octets
  long : length (image t number serial message f) ≡ f.blocks * t.block
  checks : (b : BlockStore) → take (f.blocks * t.block) b.octets ≡ image t number serial message f → Checked t number b f.blocks
  begins : f.start ≡ true → f.offset ≡ 0
  starts : t.selective ≡ false → f.start ≡ true

module _ (t : Terms) (number : List ℕ → ℕ) (serial : ℕ) (message : List ℕ) (f : Piece) (cut : Cut t number serial message f) (blocks : Blocks) (xs : List ℕ) where
  abbrev Follows : After → Type 0
  Follows o = Fine t number serial message f blocks xs o

  abbrev Fits : Type 0
  Fits = fitting t f.blocks blocks ≡ true

  all_without : t.selective ≡ false → (some : Blocks) → fitting t f.blocks some ≡ true → some ≡ All
  all_without e All fits = refl
  all_without e (Only set) fits = absurd (both_ways _ e (and_parts t.selective _ fits).0)

  ack-fine : (o : After) → o.heard.code ≡ Ack → Clean t number serial message f blocks o.state.phase o.state.blocks
      → (0 < f.number → o.state.phase ≡ Waiting f.number) → Follows o
  ack-fine o e clean waits =
      record { not_lost = λ q. clash cc; kept = clean; asked = λ set q. clash cc; anew = λ q. clash cc; acked = λ _. e; on_ack = λ _ l. waits l }

  completed-fine : (s : State) (store : List ℕ) → Fits → (filled check : ℕ) (g : Gathering) → f.number ≡ 0 → Follows (completed s store filled check g)
  completed-fine s store fits filled check g z =
      cond_both (g.start && is_last s.last (serial_in store) check) _ _ Follows
      (λ _. ack-fine _ refl (fits, inr tt) (λ l. absurd (omega arith)))
      (λ _. ack-fine _ refl (fits, inr tt) (λ l. absurd (omega arith)))

  appended-fine : (s : State) (store : List ℕ) → Fits → (octets check : ℕ) → Follows (appended s store octets check (gathered f))
  appended-fine s store fits octets check =
      cond_both (eqb f.number 0) _ _ Follows
      (λ z. completed-fine s _ fits (s.filled + octets) check (gathered f) (eqb-true _ 0 z))
      (λ _. ack-fine _ refl (fits, inr (inl refl)) (λ _. refl))

  -- The fragment is collected in this block store.
  module _ (b : BlockStore) (filled : ℕ) (last : Option Last) (store : List ℕ) (fits : Fits) (exact : Exact t number serial message f b) where
    abbrev collecting : State
    collecting = record { phase = Collecting (gathered f); blocks = b; filled = filled; last = last }

    abbrev wanted : BlockSet
    wanted = missing_of f.blocks b

    wanted-askable : t.selective ≡ true → eqb wanted.0 0 ≡ false → askable t f.blocks wanted ≡ true
    wanted-askable e some =
        and_from t.selective _ e (and_from (not (eqb wanted.0 0)) _ (ap not some) (lt-ltb wanted.0 (2 ^ f.blocks) (missing-below b f.blocks)))

    lacking-fine : eqb wanted.0 0 ≡ false → Covers t number serial message f b blocks → (BringsAll t number serial message f blocks xs → ⊥)
        → Follows (lacking t collecting store (gathered f))
    lacking-fine some covers not-all =
        cond_both t.selective _ _ Follows
        (λ e. record {
          not_lost = λ q. clash cc;
          kept = (fits, inr (refl, exact, covers));
          asked = λ set q.
              let is : wanted ≡ set = cc in
              subst (λ (x : BlockSet). Clean t number serial message f (Only x) (Collecting (gathered f)) b) is
              (wanted-askable e some, inr (refl, exact, λ j l w. (missing-asked b f.blocks j).1 (l, w)));
          anew = λ q. clash cc;
          acked = λ brings. absurd (not-all brings);
          on_ack = λ q _. clash cc;
        })
        (λ e. record {
          not_lost = λ q. clash cc;
          kept = (fits, inl (cut.starts e, all_without e blocks fits));
          asked = λ set q. clash cc;
          anew = λ _. (refl, inl (cut.starts e, refl));
          acked = λ brings. absurd (not-all brings);
          on_ack = λ q _. clash cc;
        })

    all_held : eqb wanted.0 0 ≡ true → AllIn b f.blocks
    all_held none j l =
        elim (cases_Bool (get_or b.held j false)) [ inl e ↦ e | inr e ↦ absurd (both_ways _ (some-missing b f.blocks j (l, e)) none) ]

    holds-image : AllIn b f.blocks → take (f.blocks * t.block) b.octets ≡ image t number serial message f
    holds-image all =
        same_blocks t.block f.blocks b.octets (image t number serial message f) (λ j l. exact j l (all j l))
        ∙ take_all (f.blocks * t.block) (image t number serial message f) (omega (arith, cut.long))

    finished-fine : Covers t number serial message f b blocks → (BringsAll t number serial message f blocks xs → AllIn b f.blocks)
        → filled ≡ f.offset → reach f ≤ length store → Follows (finished t number collecting store (gathered f))
    finished-fine covers whole offset room =
        cond_both (eqb wanted.0 0) _ _ Follows
        (λ none.
        let checked = cut.checks b (holds-image (all_held none)) in
        let within : filled + octets_of t (gathered f) ≤ length store = omega (arith, cut.data_is) in
        subst Follows
        (sym (cond-true (is_right number t.block f.blocks b) _ _ (eq-eqb _ _ checked)
        ∙ cond-true (leb (filled + octets_of t (gathered f)) (length store)) _ _ (le-leb _ _ within)))
        (appended-fine collecting store fits (octets_of t (gathered f)) (check_in t.block f.blocks b)))
        (λ some. lacking-fine some covers (λ brings. both_ways _ some (none-missing b f.blocks (whole brings))))

  -- The good blocks of the packet go in.
  module _ (sound : Sound t) (s : State) (store : List ℕ) (h : Header) (read : read_of t xs ≡ Ok h) (exactly : ExactlyBrings t number serial message f xs)
      (fits : Fits) (room : reach f ≤ length store) (g : Gathering) (collects : g ≡ gathered f) (octets : ℕ) (offset : octets ≡ f.offset) where
    fills-fine : (b : BlockStore) → Sized b → Exact t number serial message f b → Covers t number serial message f b blocks → Follows (fills t number s store h xs g b octets)
    fills-fine b sized exact covers =
        subst (λ (x : Gathering). Follows (fills t number s store h xs x b octets)) (sym collects)
        (finished-fine (later t sound xs h read b sized) octets s.last store fits
        (exact-later t sound xs h read b sized number serial message f cut.few exactly exact)
        (covers-later t sound xs h read b sized number serial message f cut.few blocks covers)
        (all-later t sound xs h read b sized number serial message f cut.few blocks covers) offset room)

    anew-fine : Sized s.blocks → blocks ≡ All → Follows (fills t number s store h xs g (anew s.blocks) octets)
    anew-fine sized all =
        fills-fine (anew s.blocks) (record { octets = sized.octets; held = refl })
        (λ j l q. absurd (both_ways _ (anew-holds-none s.blocks j (omega (arith, cut.few))) q))
        (subst (λ (x : Blocks). Covers t number serial message f (anew s.blocks) x) (sym all) tt)

-- A packet of the fragment is heard.
module _ (t : Terms) (number : List ℕ → ℕ) (serial : ℕ) (message : List ℕ) (f : Piece) (cut : Cut t number serial message f) (sound : Sound t)
    (a : ℕ) (u : Bool) (s : State) (store : List ℕ) (h : Header) (xs : List ℕ)
    (room : reach f ≤ length store) (from : Carries t number serial message f a h xs) (exactly : ExactlyBrings t number serial message f xs) (sized : Sized s.blocks) where
  abbrev Ends : Blocks → After → Type 0
  Ends blocks o = Fine t number serial message f blocks xs o

  abbrev heard : After
  heard = heard_of t number s store h xs

  rows : PacketRows t number s store h xs
  rows = packet-rows t number s store h xs

  gathers : h.selective ≡ false → (start : Bool) → f.start ≡ start → gathering start h ≡ gathered f
  gathers full start e = rw (from.number_is, from.pad_is, from.records_are full, e)

  -- It gets an Ack, and nothing else happens.
  again-fine : (blocks : Blocks) → fitting t f.blocks blocks ≡ true → (p : Phase) → s.phase ≡ p → CleanPhase t number serial message f blocks p s.blocks
      → (0 < f.number → p ≡ Waiting f.number) → Ends blocks (answered s store Ack)
  again-fine blocks fits p is clean waits =
      ack-fine t number serial message f cut blocks xs (answered s store Ack) refl
      (fits, inr (subst (λ (q : Phase). CleanPhase t number serial message f blocks q s.blocks) (sym is) clean)) (λ l. is ∙ waits l)

  start_fine : h.selective ≡ false → f.start ≡ true → Ends All heard
  start_fine full e =
      subst (Ends All) (sym (rows.full_start full (from.start_is ∙ e)))
      (anew-fine t number serial message f cut All xs sound s store h from.read exactly refl room (gathering true h) (gathers full true e) 0 (sym (cut.begins e)) sized refl)

  next-fine : h.selective ≡ false → f.start ≡ false → (p : Phase) → s.phase ≡ p → Tied t number serial message f a u p s.blocks s.filled store
      → CleanPhase t number serial message f All p s.blocks → Ends All heard
  next-fine full e Idle is tied clean = absurd clean
  next-fine full e (Collecting g) is (inl tied) clean =
      let start = ap (λ (x : Gathering). x.start) tied.0 in
      let blocks = ap (λ (x : Gathering). x.blocks) tied.0 in
      let pad = ap (λ (x : Gathering). x.pad) tied.0 in
      subst (Ends All)
      (sym (rows.full_same full (from.start_is ∙ e) g is (from.number_is ∙ sym clean.0) (start ∙ e) (from.records_are full ∙ sym blocks) (from.pad_is ∙ sym pad)))
      (fills-fine t number serial message f cut All xs sound s store h from.read exactly refl room (gathering false h) (gathers full false e) s.filled tied.2.0
      s.blocks sized clean.1 tt)
  next-fine full e (Collecting g) is (inr tied) clean = absurd (omega (arith, tied.0, clean.0))
  next-fine full e (Waiting v) is (inl tied) clean =
      subst (Ends All) (sym (rows.full_again full (from.start_is ∙ e) (is ∙ ap Waiting (tied.0 ∙ sym from.number_is))))
      (again-fine All refl (Waiting v) is clean (λ _. ap Waiting tied.0))
  next-fine full e (Waiting v) is (inr tied) clean =
      let v-is : v ≡ h.number + 1 = omega (arith, tied.0, from.number_is) in
      subst (Ends All) (sym (rows.full_next full (from.start_is ∙ e) (is ∙ ap Waiting v-is)))
      (anew-fine t number serial message f cut All xs sound s store h from.read exactly refl room (gathering false h) (gathers full false e) s.filled tied.2.0 sized refl)
  next-fine full e Done is tied clean =
      subst (Ends All) (sym (rows.full_done full (from.start_is ∙ e) is (from.number_is ∙ tied.0)))
      (again-fine All refl Done is clean (λ l. absurd (omega (arith, tied.0))))

  selective-fine : (set : BlockSet) → h.selective ≡ true → fitting t f.blocks (Only set) ≡ true → (p : Phase) → s.phase ≡ p
      → Tied t number serial message f a u p s.blocks s.filled store → CleanPhase t number serial message f (Only set) p s.blocks → Ends (Only set) heard
  selective-fine set some fits Idle is tied clean = absurd clean
  selective-fine set some fits (Collecting g) is (inl tied) clean =
      let start = ap (λ (x : Gathering). x.start) tied.0 in
      subst (Ends (Only set)) (sym (rows.selective_same some g is (from.number_is ∙ sym clean.0) (from.start_is ∙ sym start)))
      (fills-fine t number serial message f cut (Only set) xs sound s store h from.read exactly fits room g tied.0 s.filled tied.2.0
      s.blocks sized clean.1 clean.2)
  selective-fine set some fits (Collecting g) is (inr tied) clean = absurd (omega (arith, tied.0, clean.0))
  selective-fine set some fits (Waiting v) is (inl tied) clean =
      subst (Ends (Only set)) (sym (rows.selective_again some (is ∙ ap Waiting (tied.0 ∙ sym from.number_is))))
      (again-fine (Only set) fits (Waiting v) is clean (λ _. ap Waiting tied.0))
  selective-fine set some fits (Waiting v) is (inr tied) clean = elim clean [ inl q ↦ absurd (omega (arith, tied.0, q)) | inr q ↦ clash cc ]
  selective-fine set some fits Done is tied clean =
      subst (Ends (Only set)) (sym (rows.selective_done some is (from.number_is ∙ tied.0)))
      (again-fine (Only set) fits Done is clean (λ l. absurd (omega (arith, tied.0))))

  heard-fine : (blocks : Blocks) → h.selective ≡ is_selective blocks → Touched t number serial message f a u s store ⊎ ((f.start ≡ true) × (blocks ≡ All))
      → Clean t number serial message f blocks s.phase s.blocks → Ends blocks heard
  heard-fine All full (inr first) clean = start_fine full first.0
  heard-fine All full (inl touched) clean =
      elim (cases_Bool f.start) [
        | inl e ↦ start_fine full e
        | inr e ↦
            elim clean.1 [
              | inl first ↦ start_fine full first.0
              | inr phase ↦ next-fine full e s.phase refl touched.tied phase
            ]
      ]
  heard-fine (Only set) some (inr first) clean = let q = first.1 in clash cc
  heard-fine (Only set) some (inl touched) clean =
      elim clean.1 [
        | inl first ↦ (let q = first.1 in clash cc)
        | inr phase ↦ selective-fine set some clean.0 s.phase refl touched.tied phase
      ]

-- The fragments of a message that was started.
module _ (t : Terms) (number : List ℕ → ℕ) (law : Lawful t number) (serial : ℕ) (message : List ℕ) (count n : ℕ) (sending : Sending t serial message count) (below : n < count) where
  abbrev f : Piece
  f = piece_at t (length message) n

  well : (k : ℕ) → k < count → WellCut t (length message) count k
  well k l = well-cut t law.sound (length message) count k sending.fits l

  inside : reach f ≤ length (stream_of serial message)
  inside = omega (arith, (well n below).some_data)

  -- A carrier without selective retry has one fragment.
  only-first : t.selective ≡ false → n ≡ count - 1
  only-first e =
      let one = law.sound.single e in
      omega (arith, (well (count - 1) (omega arith)).counted)

  cut-well : Cut t number serial message f
  cut-well =
      record {
        few = (well n below).few_blocks;
        data_is = omega (arith, (well n below).image);
        long =
            length-sealed (stream_of serial message) (four_octets (number (covered (data_in f (stream_of serial message)) f.pad))) f.offset f.octets f.pad f.blocks t.block
            refl inside (well n below).image;
        checks = λ b e. (appends-data t law.sound number law.small serial message count n sending.fits below (gathered f) b refl refl e).checked;
        begins = λ e. (well n below).begins ((well n below).first.0 e);
        starts = λ e. (well n below).first.1 (only-first e);
      }

  pub fill-fine : (blocks : Blocks) (s : State) (store : List ℕ) (h : Header) (xs : List ℕ) (g : Gathering) (b : BlockStore) (octets : ℕ)
      → read_of t xs ≡ Ok h → ((i j : ℕ) → Brings t xs i j → j < f.blocks) → ExactlyBrings t number serial message f xs
      → g ≡ gathered f → Sized b → Exact t number serial message f b → Covers t number serial message f b blocks → fitting t f.blocks blocks ≡ true
      → Stored t number serial message f f.offset octets store → reach f ≤ length store
      → Fine t number serial message f blocks xs (fills t number s store h xs g b octets)
  fill-fine blocks s store h xs g b octets read _ exactly e sized exact covers fits stored room =
      fills-fine t number serial message f cut-well blocks xs law.sound s store h read exactly fits room g e octets stored.0 b sized exact covers

  pub hear-fine : (a : ℕ) (u : Bool) (blocks : Blocks) (s : State) (store : List ℕ) (h : Header) (xs : List ℕ) → reach f ≤ length store
      → Carries t number serial message f a h xs → h.selective ≡ is_selective blocks → ExactlyBrings t number serial message f xs
      → Touched t number serial message f a u s store ⊎ ((f.start ≡ true) × (blocks ≡ All)) → Sized s.blocks
      → Clean t number serial message f blocks s.phase s.blocks
      → Fine t number serial message f blocks xs (heard_of t number s store h xs)
  hear-fine a u blocks s store h xs room from form exactly touched sized clean =
      heard-fine t number serial message f cut-well law.sound a u s store h xs room from exactly sized blocks form touched clean
