-- A session puts out at most R + 1 packets for each fragment.
use Rattle.std.proofs.Common.{◌≡◌, ℕ, zero, suc, ◌+◌, ◌-◌, ◌*◌, ◌<◌, ◌≤◌, List, [], ◌∷◌, length, take, Some, None, Ok, Err, Option, Result, sym, refl, ap, ◌∙◌, subst, mul-le-mul_right, add-mul, le-div_iff_mul-le, arith}
use Rattle.std.proofs.lemmas.Bool.{cond_both, eqb-false, ltb-true, lt-ltb}
use Rattle.std.proofs.lemmas.Bool.Decides.{nat_tests}
use Rattle.fault.specs.declared.EndFault.{EndFault}
use Rattle.fragment.specs.Carriers.{Terms, Sound}
use Rattle.fragment.specs.Counts.{capacity}
use Rattle.fragment.specs.Cutting.{Piece, count_of, fragments_of, piece_at, where_cut, fragment_at}
use Rattle.packet.specs.declared.values.Blocks.{Blocks}
use Rattle.packet.specs.declared.values.Blocks.TheVariants.{All, Only}
use Rattle.packet.specs.declared.values.Code.{Code}
use Rattle.packet.specs.declared.values.Code.TheVariants.{Ack, AckSelective, FullRetry, OutOfStep}
use Rattle.packet.specs.Reading.{and_then}
use Rattle.sender.specs.declared.values.Base.{Base}
use Rattle.sender.specs.declared.values.Session.{Session}
use Rattle.sender.specs.declared.values.Outcome.TheVariants.{Delivered}
use Rattle.sender.specs.declared.values.Report.{Report}
use Rattle.sender.specs.Steps.{Stepped}
use Rattle.sender.specs.declared.values.Next.TheVariants.{On, Ended}
use Rattle.sender.specs.Steps.{serial_after, session_of, with_serial, start_of, counted, is_last, may_retry, end_of, next_fragment, again, lost_of, retry_of, step_of}
use Rattle.sender.specs.Runs.{onward, run_of}
use Rattle.sender.specs.Laws.{Sendable, Bounded}

-- A session with so many fragments acknowledged: each took at most R + 1 packets, and the current one as many as its retries.
pub record Within (b : Base) (count : ℕ) (s : Session) : Type 0 where
  pub acked : ℕ
  pub places : s.number + acked + 1 ≡ count
  pub tried : s.used ≤ b.limit
  pub put : s.packets ≤ acked * (b.limit + 1) + s.used

module _ (b : Base) (count : ℕ) where
  -- Together they are fewer than R + 1 for each fragment.
  fewer : (s : Session) → Within b count s → s.packets < count * (b.limit + 1)
  fewer s w =
      let l : w.acked + 1 ≤ count = let p = w.places in omega arith in
      let h = w.put in
      let u = w.tried in
      omega (arith, mul-le-mul_right (b.limit + 1) l, add-mul w.acked 1 (b.limit + 1))

  -- One packet was put out, and the session goes on or ends.
  record Moved (s next : Session) : Type 0 where
    pub within : Within b count next
    pub one_more : next.packets ≡ s.packets + 1
    pub serial : next.serial ≡ s.serial
    pub message : next.length ≡ s.length

  abbrev Stays : Session → Stepped → Type 0
  Stays s (On next) = Moved s next
  Stays s (Ended report left) = (report.packets ≡ s.packets + 1) × (report.serial ≡ s.serial)

  module _ (s : Session) (w : Within b count s) where
    retried : (blocks : Blocks) → Stays s (retry_of b (counted s) blocks)
    retried blocks =
        cond_both (may_retry b (counted s)) (On (again (counted s) blocks)) (end_of (counted s) (lost_of (counted s))) (Stays s)
        (λ e.
        let l = ltb-true s.used b.limit e in
        let h = w.put in
        record { within = record { acked = w.acked; places = w.places; tried = omega arith; put = omega arith }; one_more = refl; serial = refl; message = refl })
        (λ e. (refl, refl))

    stays : (heard : Option Code) → Stays s (step_of b (counted s) heard)
    stays (Some Ack) =
        cond_both (is_last (counted s)) (end_of (counted s) Delivered) (On (next_fragment (counted s))) (Stays s)
        (λ e. (refl, refl))
        (λ e.
        let n = eqb-false s.number 0 e in
        let p = w.places in
        let u = w.tried in
        let h = w.put in
        record {
          within = record { acked = w.acked + 1; places = omega arith; tried = omega arith; put = omega (arith, add-mul w.acked 1 (b.limit + 1)) };
          one_more = refl;
          serial = refl;
          message = refl;
        })
    stays (Some (AckSelective set)) = retried (Only set)
    stays (Some FullRetry) = retried All
    stays (Some OutOfStep) = (refl, refl)
    stays None = retried s.blocks

  -- A run that goes on has put out a packet for each that was heard.
  record GoesOn (s : Session) (heard : List (Option Code)) (now : Session) : Type 0 where
    pub within : Within b count now
    pub each : now.packets ≡ s.packets + length heard
    pub serial : now.serial ≡ s.serial
    pub message : now.length ≡ s.length

  goes_on : (heard : List (Option Code)) (s now : Session) → Within b count s → run_of b s heard ≡ On now → GoesOn s heard now
  goes_on [] s now w e =
      let same : s ≡ now = cc in
      let Goes : Session → Type 0 = GoesOn s [] in
      subst Goes same (record { within = w; each = omega arith; serial = refl; message = refl })
  goes_on (h ∷ later) s now w e = from (step_of b (counted s) h) (stays s w h) e (λ next. goes_on later next now)
    where
      from : (after : Stepped) → Stays s after → onward after (λ next. run_of b next later) ≡ On now
          → ((next : Session) → Within b count next → run_of b next later ≡ On now → GoesOn next later now) → GoesOn s (h ∷ later) now
      from (On next) m e more =
          let r = more next m.within e in
          let a = r.each in
          let o = m.one_more in
          record { within = r.within; each = omega arith; serial = r.serial ∙ m.serial; message = r.message ∙ m.message }
      from (Ended report left) m e more = absurd (cc)

  -- A run that has ended put out k packets, the last of which ended it.
  record Over (s : Session) (heard : List (Option Code)) (report : Report) : Type 0 where
    pub k : ℕ
    pub each : report.packets ≡ s.packets + k
    pub serial : report.serial ≡ s.serial
    pub few : report.packets ≤ count * (b.limit + 1)
    pub there : k ≤ length heard
    pub ends : run_of b s (take k heard) ≡ Ended report tt
    pub not_before : (j : ℕ) → j < k → (now : Session) × (run_of b s (take j heard) ≡ On now)

  -- After a packet that did not end it, a run goes on from the next session.
  later-before : (s next : Session) (h : Option Code) (later : List (Option Code)) (k : ℕ) → step_of b (counted s) h ≡ On next
      → ((j : ℕ) → j < k → (now : Session) × (run_of b next (take j later) ≡ On now))
      → (j : ℕ) → j < suc k → (now : Session) × (run_of b s (take j (h ∷ later)) ≡ On now)
  later-before s next h later k e before zero l = (s, refl)
  later-before s next h later k e before (suc j) l =
      let r = before j (omega arith) in
      let goes : Stepped → Stepped = λ x. onward x (λ n. run_of b n (take j later)) in
      (r.0, ap goes e ∙ r.1)

  over : (heard : List (Option Code)) (s : Session) (report : Report) → Within b count s → run_of b s heard ≡ Ended report tt → Over s heard report
  over [] s report w e = absurd (cc)
  over (h ∷ later) s report w e = from (step_of b (counted s) h) refl (stays s w h) e (λ next. over later next report)
    where
      from : (after : Stepped) → step_of b (counted s) h ≡ after → Stays s after → onward after (λ next. run_of b next later) ≡ Ended report tt
          → ((next : Session) → Within b count next → run_of b next later ≡ Ended report tt → Over next later report) → Over s (h ∷ later) report
      from (On next) i m e more =
          let r = more next m.within e in
          let goes : Stepped → Stepped = λ x. onward x (λ n. run_of b n (take r.k later)) in
          let a = r.each in
          let o = m.one_more in
          let t = r.there in
          record {
            k = suc r.k;
            each = omega arith;
            serial = r.serial ∙ m.serial;
            few = r.few;
            there = omega arith;
            ends = ap goes i ∙ r.ends;
            not_before = later-before s next h later r.k i r.not_before;
          }
      from (Ended last left) i m e more =
          let same : last ≡ report = cc in
          let Ends : Report → Type 0 = Over s (h ∷ later) in
          let goes : Stepped → Stepped = λ x. onward x (λ n. On n) in
          let f = fewer s w in
          let n = m.0 in
          subst Ends same (record {
            k = 1;
            each = m.0;
            serial = m.1;
            few = omega arith;
            there = omega arith;
            ends = ap goes i;
            not_before = λ j l. let z : j ≡ 0 = omega arith in rw z (s, refl);
          })

-- Some octets make some fragment.
count-some : (t : Terms) → Sound t → (m : ℕ) → 1 ≤ count_of t m
count-some t sound m =
    let big : 1 ≤ capacity t = let h = sound.some_octets in omega arith in
    (le-div_iff_mul-le big).1 (omega arith)

cut-there : (t : Terms) (m count number : ℕ) → fragments_of t m ≡ Ok count → number < count → (f : Piece) × (fragment_at t m number ≡ Some f)
cut-there t m count number e h = (piece_at t m number, ap (where_cut t m number) e ∙ rw (lt-ltb number count h))

bounded : (t : Terms) → Sound t → (b : Base) (serial m : ℕ) → fragments_of t m ≡ Ok (count_of t m) → Bounded t b (session_of serial m (count_of t m)) (count_of t m)
bounded t sound b serial m e =
    let count = count_of t m in
    let s = session_of serial m count in
    let start : Within b count s = let c = count-some t sound m in record { acked = 0; places = omega arith; tried = omega arith; put = omega arith } in
    record {
      ended = λ heard report h.
          let r = over b count heard s report start h in
          let k : r.k ≡ report.packets = let a = r.each in omega arith in
          let there = r.there in
          let ends = r.ends in
          let before = r.not_before in
          record { serial = r.serial; few = r.few; there = omega arith; ends = rw k at ends; not_before = λ j l. before j (omega arith) };
      on = λ heard now h.
          let r = goes_on b count heard s now start h in
          let w = r.within in
          let p = w.places in
          let a = r.each in
          let under : now.number < count = omega arith in
          let Cut : ℕ → Type 0 = λ l. (f : Piece) × (fragment_at t l now.number ≡ Some f) in
          record {
            serial = r.serial;
            message = r.message;
            each = omega arith;
            fewer = fewer b count now w;
            fragment = subst Cut (sym r.message) (cut-there t m count now.number e under);
          };
    }

-- A start that is not refused opens a session with as many fragments as its message makes.
opened : (t : Terms) (b after : Base) (s : Session) (m : ℕ) → start_of t b m ≡ Ok (after, s)
    → (serial : ℕ) × (s ≡ session_of serial m (count_of t m)) × (fragments_of t m ≡ Ok (count_of t m))
opened t b after s m e = from (fragments_of t m) refl b.next e
  where
    from : (answer : Result ℕ EndFault) → fragments_of t m ≡ answer → (next : Option ℕ) → and_then answer (λ count. with_serial b m count next) ≡ Ok (after, s)
        → (serial : ℕ) × (s ≡ session_of serial m (count_of t m)) × (fragments_of t m ≡ Ok (count_of t m))
    from (Ok count) i (Some serial) h =
        let known : count ≡ count_of t m = grind (arith, nat_tests) in
        let pair : (after, s) ≡ (record { route = b.route; limit = b.limit; next = serial_after serial }, session_of serial m count) = cc in
        let session : Base × Session → Session = λ p. p.1 in
        let same : s ≡ session_of serial m count = ap session pair in
        (serial, same ∙ ap (session_of serial m) known, i ∙ ap Ok known)
    from (Ok count) i None h = absurd (cc)
    from (Err fault) i next h = absurd (cc)

module _ (t : Terms) (sound : Sound t) (b after : Base) (s : Session) (m : ℕ) (e : start_of t b m ≡ Ok (after, s)) where
  pub start-bounded : Bounded t after s (count_of t m)
  start-bounded =
      let o = opened t b after s m e in
      let Law : Session → Type 0 = λ x. Bounded t after x (count_of t m) in
      subst Law (sym o.1) (bounded t sound after o.0 m o.2)

  pub start-sendable : Sendable t s
  start-sendable =
      let o = opened t b after s m e in
      let Law : Session → Type 0 = λ x. Sendable t x in
      let under : count_of t m - 1 < count_of t m = let some = count-some t sound m in omega arith in
      let f = cut-there t m (count_of t m) (count_of t m - 1) o.2 under in
      subst Law (sym o.1) (f.0, f.1, refl)
