-- Every session of a drill ends within its most turns, whatever the air does.
use Rattle.std.proofs.Common.{◌≡◌, ℕ, zero, suc, ◌+◌, ◌<◌, ◌≤◌, not, ltb, List, [], ◌∷◌, length, take, Some, None, Ok, Err, Option, Result, sym, refl, ap, ◌∙◌, subst, inl, inr, mul-le-mul, arith}
use Rattle.std.specs.List.{range_with_len}
use Rattle.std.proofs.lemmas.List.FromFn.{length-range_with_len}
use Rattle.std.proofs.lemmas.List.Filters.{length-filter_both}
use Rattle.std.proofs.lemmas.Bool.{cond_both, ltb-true}
use Rattle.fault.specs.declared.EndFault.{EndFault}
use Rattle.fault.specs.Faults.{end_number, end_place}
use Rattle.fragment.specs.Carriers.{Terms, Sound}
use Rattle.fragment.specs.Cutting.{count_of, fragments_of, piece_at, where_cut}
use Rattle.fragment.proofs.Cuts.{count-is, well-cut}
use Rattle.packet.specs.declared.values.Blocks.{Blocks}
use Rattle.packet.specs.declared.values.Code.{Code}
use Rattle.packet.specs.Blocks.{carries, carried}
use Rattle.packet.specs.Reading.{and_then}
use Rattle.sender.specs.declared.values.Base.{Base}
use Rattle.sender.specs.declared.values.Session.{Session}
use Rattle.sender.specs.Steps.{Stepped}
use Rattle.sender.specs.declared.values.Next.TheVariants.{On, Ended}
use Rattle.sender.specs.Steps.{serial_after, session_of, with_serial, start_of, sent_of, counted, after_put, step_of, blocks_in, block_count, admit_of}
use Rattle.sender.specs.Runs.{onward, run_of}
use Rattle.sender.specs.Laws.{Sendable, OnSendable, Bounded, packet_size}
use Rattle.sender.proofs.Putting.{put-refusals, unheard-sendable}
use Rattle.sender.proofs.Hearing.{hear-sendable}
use Rattle.sender.proofs.Running.{start-bounded, start-sendable}
use Rattle.agreement.specs.Turns.{Pair, Turned, Reception, reception_of, ok_of, reached_by, turned_with, no_packet, on_put, turn_of}
use Rattle.agreement.specs.Histories.{turned, between, note_of, with_base}
use Rattle.play.specs.Stories.{Step, Story, noted, on_stepped, on_turned, turns_from, most_turns}

carried-few : (blocks : Blocks) (n : ℕ) → length (carried blocks n) ≤ n
carried-few blocks n = let l = length-range_with_len 0 n in omega (arith, length-filter_both (carries blocks) (λ j. not (carries blocks j)) (λ _. refl) (range_with_len 0 n))

-- A start that is not refused keeps the retry limit, and its message makes few fragments.
pub record Begun (t : Terms) (before after : Base) (m : ℕ) (s : Session) : Type 0 where
  pub same_limit : after.limit ≡ before.limit
  pub message : s.length ≡ m
  pub few : count_of t m ≤ 512

module _ (t : Terms) (sound : Sound t) where
  few_fragments : (m count : ℕ) → fragments_of t m ≡ Ok count → count_of t m ≤ 512
  few_fragments m zero e = omega (arith, (count-is t m zero e).0)
  few_fragments m (suc k) e = omega (arith, (count-is t m (suc k) e).0, (well-cut t sound m (suc k) k e (omega arith)).counted, sound.few_fragments)

  pub begun : (before after : Base) (m : ℕ) (s : Session) → start_of t before m ≡ Ok (after, s) → Begun t before after m s
  begun before after m s e = from (fragments_of t m) refl before.next e
    where
      from : (answer : Result ℕ EndFault) → fragments_of t m ≡ answer → (next : Option ℕ) → and_then answer (λ count. with_serial before m count next) ≡ Ok (after, s)
          → Begun t before after m s
      from (Ok count) i (Some serial) h =
          let same : (record { route = before.route; limit = before.limit; next = serial_after serial }, session_of serial m count) ≡ (after, s) = cc in
          let limit : Base × Session → ℕ = λ x. x.0.limit in
          let message : Base × Session → ℕ = λ x. x.1.length in
          record { same_limit = sym (ap limit same); message = sym (ap message same); few = few_fragments m count i }
      from (Ok count) i None h = absurd (let z : ◌≡◌ {A = ℕ} 0 1 = cc in omega arith)
      from (Err fault) i next h = absurd (let z : ◌≡◌ {A = ℕ} 0 1 = cc in omega arith)

  few_blocks : (s : Session) → block_count t s ≤ 16
  few_blocks s = from (fragments_of t s.length) refl
    where
      from : (answer : Result ℕ EndFault) → fragments_of t s.length ≡ answer → blocks_in (where_cut t s.length s.number answer) ≤ 16
      from (Ok count) e =
          cond_both (ltb s.number count) (Some (piece_at t s.length s.number)) None (λ o. blocks_in o ≤ 16)
          (λ l. (well-cut t sound s.length count s.number e (ltb-true s.number count l)).few_blocks)
          (λ _. omega arith)
      from (Err fault) e = omega arith

  -- No packet is longer than what is lent for it.
  short : (s : Session) → packet_size t s ≤ 378
  short s =
      let records : length (carried s.blocks (block_count t s)) ≤ 16 = omega (arith, carried-few s.blocks (block_count t s), few_blocks s) in
      let octets : t.block + 3 ≤ 23 = omega (arith, sound.few_octets) in
      omega (arith, mul-le-mul records octets)

  -- Whatever reaches the sender, a session that goes on has a packet that can be made.
  reached-sendable : (b : Base) (s : Session) → Sendable t s → (response : Option (List ℕ)) → OnSendable t (step_of b s (reached_by t b s response))
  reached-sendable b s can None = unheard-sendable t b s can
  reached-sendable b s can (Some xs) = from (admit_of t b s xs) refl
    where
      from : (answer : Result Code EndFault) → admit_of t b s xs ≡ answer → OnSendable t (step_of b s (ok_of answer))
      from (Ok code) e = hear-sendable t b s xs code e can
      from (Err fault) e = unheard-sendable t b s can

  module _ (number : List ℕ → ℕ) where
    -- The turn of a session with its message is not refused.
    turns : (p : Pair) (s : Session) (m : List ℕ) → Sendable t s → s.length ≡ length m
        → (r : Reception) × (turn_of t number p s m ≡ Ok (turned_with t p (counted s) r))
    turns p s m can long = from (sent_of t number p.base s m no_packet).answer (sent_of t number p.base s m no_packet).buffer made
      where
        made : (fault : EndFault) → (sent_of t number p.base s m no_packet).answer ≡ Err fault → ⊥
        made fault e =
            let r = put-refusals t number p.base s m no_packet can in
            let seven = r.no_other (end_number fault) (end_place fault) (fault, e, refl, refl) in
            elim ((r.number_7 (end_place fault)).0 (fault, e, seven, refl)).1 [
              | inl other ↦ other (sym long)
              | inr over ↦ (let h = short s in omega arith)
            ]

        from : (answer : Result ℕ EndFault) (packet : List ℕ) → ((fault : EndFault) → answer ≡ Err fault → ⊥)
            → (r : Reception) × (on_put t number p (after_put s answer) packet answer ≡ Ok (turned_with t p (counted s) r))
        from (Ok n) packet ok = (reception_of t number p (take n packet) (p.fates 0), refl)
        from (Err fault) packet ok = absurd (ok fault refl)

    module _ (line : ℕ) (m : List ℕ) (b : Base) (first : Session) (bounded : Bounded t b first (count_of t (length m)))
        (long : first.length ≡ length m) (few : count_of t (length m) ≤ 512) (limit : b.limit ≤ 15) where
      -- A session after k turns: each run of it is a run of the first session that heard k times more.
      record After (k : ℕ) (s : Session) : Type 0 where
        pub sendable : Sendable t s
        pub ran : (later : List (Option Code)) → (heard : List (Option Code)) × (run_of b first heard ≡ run_of b s later) × (length heard ≡ k + length later)

      -- The story ends between sessions.
      abbrev Ends : Story → Type 0
      Ends x = (q : Pair) × (x.world ≡ between q) × (q.base ≡ b)

      -- A session that goes on has had fewer turns than the most.
      still_open : (k : ℕ) (s : Session) → After k s → (s.length ≡ length m) × (k < 8192)
      still_open k s a =
          let run = a.ran [] in
          let on = bounded.on run.0 s run.1 in
          let retries : b.limit + 1 ≤ 16 = omega arith in
          (on.message ∙ long, omega (arith, run.2, on.each, on.fewer, mul-le-mul few retries))

      -- One more turn.
      after_on : (k : ℕ) (s next : Session) (code : Option Code) → After k s → step_of b (counted s) code ≡ On next → Sendable t next → After (suc k) next
      after_on k s next code a e can =
          record {
            sendable = can;
            ran = λ later.
                let run = a.ran (code ∷ later) in
                let on : Stepped → Stepped = λ x. onward x (λ y. run_of b y later) in
                (run.0, run.1 ∙ ap on e, omega (arith, run.2));
          }

      ends : (fuel k : ℕ) (p : Pair) (s : Session) (steps : List Step) → After k s → 8192 ≤ fuel + k → Ends (turns_from t number fuel line m (with_base b p) s steps)
      ends zero k p s steps a enough = absurd (let h = (still_open k s a).1 in omega arith)
      ends (suc fuel) k p s steps a enough =
          let r = turns (with_base b p) s m a.sendable (still_open k s a).0 in
          let x : Turned = turned_with t (with_base b p) (counted s) r.0 in
          let Over : Result Turned EndFault → Type 0 = λ y. Ends (on_turned t number line m (turns_from t number fuel line m) (with_base b p) s steps y) in
          subst Over (sym r.1) (
          from x.pair (noted line (turned (note_of t (with_base b p) s x)) steps) x.code x.stepped refl refl (reached-sendable b (counted s) a.sendable r.0.response) (
          λ next then. ends fuel (suc k) x.pair next _ then (omega arith)))
        where
          from : (q : Pair) (log : List Step) (code : Option Code) (after : Stepped) → q.base ≡ b → step_of b (counted s) code ≡ after → OnSendable t after
              → ((next : Session) → After (suc k) next → Ends (turns_from t number fuel line m q next log)) → Ends (on_stepped t number (turns_from t number fuel line m) q log after)
          from q log code (On next) same e can on = on next (after_on k s next code a e can)
          from q log code (Ended report left) same e can on = (q, refl, same)

    -- A session that is started ends.
    pub sessions-end : (line : ℕ) (m : List ℕ) (p : Pair) (b : Base) (s : Session) (steps : List Step) → p.base.limit ≤ 15 → start_of t p.base (length m) ≡ Ok (b, s)
        → (q : Pair) × ((turns_from t number (most_turns t number) line m (with_base b p) s steps).world ≡ between q) × (q.base ≡ b)
    sessions-end line m p b s steps limit e =
        let start = begun p.base b (length m) s e in
        ends line m b s (start-bounded t sound p.base b s (length m) e) start.message start.few (rw start.same_limit limit) (most_turns t number) 0 p s steps
        (record { sendable = start-sendable t sound p.base b s (length m) e; ran = λ later. (later, refl, omega arith) }) (omega arith)
