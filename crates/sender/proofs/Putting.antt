-- A session's packet can always be made, and is refused by number 7 alone.
use Rattle.std.proofs.Common.{◌≡◌, ℕ, ◌-◌, ◌<◌, Bool, true, false, cond, eqb, ltb, leb, ◌≢◌, ◌⊎◌, List, length, Some, None, Ok, Err, Option, Result, sym, refl, ap, ◌∙◌, subst, inl, inr, arith}
use Rattle.std.proofs.lemmas.Bool.{cond_both, cases_eq, both_ways, eqb-false, eq-eqb, ne_eqb, leb-false, lt-leb, ltb-true, lt-ltb}
use Rattle.fault.specs.declared.PacketFault.TheVariants.{Buffer, Message}
use Rattle.fault.specs.declared.EndFault.{EndFault}
use Rattle.fault.specs.declared.EndFault.TheVariants as end
use Rattle.fault.specs.Faults.{end_number, end_place}
use Rattle.fragment.specs.Carriers.{Terms}
use Rattle.fragment.specs.Cutting.{Piece, fragments_of, piece_at, where_cut, fragment_at}
use Rattle.packet.specs.declared.values.Blocks.{Blocks}
use Rattle.packet.specs.declared.values.Blocks.TheVariants.{All, Only}
use Rattle.packet.specs.declared.values.Code.{Code}
use Rattle.packet.specs.declared.values.Code.TheVariants.{Ack, AckSelective, FullRetry, OutOfStep}
use Rattle.packet.specs.Blocks.{carried, fitting}
use Rattle.packet.specs.Layout.{Written, written_of, packet_length}
use Rattle.packet.specs.Refusals.{RefusedAtEnd}
use Rattle.sender.specs.declared.values.Base.{Base}
use Rattle.sender.specs.declared.values.Session.{Session}
use Rattle.sender.specs.declared.values.Outcome.TheVariants.{Delivered}
use Rattle.sender.specs.declared.values.Next.TheVariants.{On}
use Rattle.sender.specs.Steps.{packet_of, sent_of, is_last, may_retry, end_of, next_fragment, again, lost_of, retry_of, step_of, blocks_in, block_count, answerable}
use Rattle.sender.specs.Laws.{Sendable, OnSendable, PutRefusals, packet_size}

-- A fragment that is there says where it was cut.
cut-here : (t : Terms) (m number : ℕ) (f : Piece) → fragment_at t m number ≡ Some f → (f.message ≡ m) × (f.block ≡ t.block)
cut-here t m number f e = from (fragments_of t m) e
  where
    by : (b : Bool) → cond b (Some (piece_at t m number)) None ≡ Some f → (f.message ≡ m) × (f.block ≡ t.block)
    by true h =
        let same : piece_at t m number ≡ f = cc in
        (sym (ap (λ (p : Piece). p.message) same), sym (ap (λ (p : Piece). p.block) same))
    by false h = absurd (cc)

    from : (answer : Result ℕ EndFault) → where_cut t m number answer ≡ Some f → (f.message ≡ m) × (f.block ≡ t.block)
    from (Ok count) h = by (ltb number count) h
    from (Err fault) h = absurd (cc)

-- Of a message's fragments those that follow one that is there are there too.
cut-next : (t : Terms) (m number : ℕ) (f : Piece) → fragment_at t m number ≡ Some f → fragment_at t m (number - 1) ≡ Some (piece_at t m (number - 1))
cut-next t m number f e = from (fragments_of t m) e
  where
    by : (count : ℕ) (b : Bool) → ltb number count ≡ b → cond b (Some (piece_at t m number)) None ≡ Some f → where_cut t m (number - 1) (Ok count) ≡ Some (piece_at t m (number - 1))
    by count true l h = let n = ltb-true number count l in rw (lt-ltb (number - 1) count (omega arith))
    by count false l h = absurd (cc)

    from : (answer : Result ℕ EndFault) → where_cut t m number answer ≡ Some f → where_cut t m (number - 1) answer ≡ Some (piece_at t m (number - 1))
    from (Ok count) h = by count (ltb number count) refl h
    from (Err fault) h = absurd (cc)

-- A fault stands in a refusal with its own number and place, and what is no fault in none.
pub told : {A : Type 0} (fault : EndFault) (n place : ℕ) → RefusedAtEnd {A = A} (Err fault) n place → (end_number fault ≡ n) × (end_place fault ≡ place)
told fault n place h = let e : h.0 ≡ fault = let x = h.1 in cc in (ap end_number (sym e) ∙ h.2, ap end_place (sym e) ∙ h.3)

pub not-refused : {A : Type 0} (a : A) (n place : ℕ) → RefusedAtEnd (Ok a) n place → ⊥
not-refused a n place h = let e = h.1 in cc

module _ (t : Terms) (number : List ℕ → ℕ) (b : Base) (s : Session) (message packet : List ℕ) where
  -- What is lent is not enough.
  abbrev Unlent : Piece → Type 0
  Unlent f = (length message ≢ f.message) ⊎ (length packet < packet_length f.block (length (carried s.blocks f.blocks)))

  written-told : (f : Piece) → fitting t f.blocks s.blocks ≡ true → (n place : ℕ)
      → RefusedAtEnd (written_of t number b.route s.serial f s.blocks message packet).answer n place → (n ≡ 7) × (place ≡ 0) × Unlent f
  written-told f fits n place =
      let P : Written EndFault → Type 0 = λ w. RefusedAtEnd w.answer n place → (n ≡ 7) × (place ≡ 0) × Unlent f in
      let enough = leb (packet_length f.block (length (carried s.blocks f.blocks))) (length packet) in
      cond_both (eqb (length message) f.message) _ _ P
      (λ _. cond_both enough _ _ P
      (λ _. cond_both (fitting t f.blocks s.blocks) _ _ P
      (λ _ h. absurd (not-refused _ n place h))
      (λ e. absurd (both_ways (fitting t f.blocks s.blocks) e fits)))
      (λ e h. let p = told (end.Packet Buffer) n place h in (sym p.0, sym p.1, inr (leb-false _ _ e))))
      (λ e h. let p = told (end.Packet Message) n place h in (sym p.0, sym p.1, inl (eqb-false _ _ e)))

  written-refused : (f : Piece) → Unlent f → RefusedAtEnd (written_of t number b.route s.serial f s.blocks message packet).answer 7 0
  written-refused f (inl h) = (end.Packet Message, rw (ne_eqb (length message) f.message h), refl, refl)
  written-refused f (inr h) =
      elim (cases_eq (length message) f.message) [
        | inl e ↦ (end.Packet Buffer, rw (eq-eqb (length message) f.message e, lt-leb (packet_length f.block (length (carried s.blocks f.blocks))) (length packet) h), refl, refl)
        | inr e ↦ (end.Packet Message, rw (ne_eqb (length message) f.message e), refl, refl)
      ]

  pub put-refusals : Sendable t s → PutRefusals t s message packet (sent_of t number b s message packet).answer
  put-refusals can =
      let f = can.0 in
      let here = cut-here t s.length s.number f can.1 in
      let said : ℕ → ℕ → ℕ = λ size n. packet_length size (length (carried s.blocks n)) in
      let octets : said f.block f.blocks ≡ packet_size t s = ap (λ n. said n f.blocks) here.1 ∙ ap (λ o. said t.block (blocks_in o)) (sym can.1) in
      let answer : Option Piece → Result ℕ EndFault = λ o. (packet_of t number b s message packet o).answer in
      let same : (sent_of t number b s message packet).answer ≡ answer (Some f) = ap answer can.1 in
      record {
        number_7 = λ place. (
          λ h.
              let r = written-told f can.2 7 place (h.0, sym same ∙ h.1, h.2, h.3) in
              (r.1, elim r.2 [ inl p ↦ inl (λ e. p (e ∙ sym here.0)) | inr p ↦ inr (omega arith) ]),
          λ h.
              let unlent : Unlent f = elim h.1 [ inl p ↦ inl (λ e. p (e ∙ here.0)) | inr p ↦ inr (omega arith) ] in
              let r = written-refused f unlent in
              (r.0, same ∙ r.1, r.2, r.3 ∙ sym h.0),
        );
        no_other = λ n place h. (written-told f can.2 n place (h.0, sym same ∙ h.1, h.2, h.3)).0;
      }

-- What a step makes of a session whose packet can be made.
module _ (t : Terms) (b : Base) (s : Session) (can : Sendable t s) where
  retried : (blocks : Blocks) → fitting t can.0.blocks blocks ≡ true → OnSendable t (retry_of b s blocks)
  retried blocks fits =
      cond_both (may_retry b s) (On (again s blocks)) (end_of s (lost_of s)) (OnSendable t) (λ _. (can.0, can.1, fits)) (λ _. tt)

  acked : OnSendable t (step_of b s (Some Ack))
  acked =
      cond_both (is_last s) (end_of s Delivered) (On (next_fragment s)) (OnSendable t)
      (λ _. tt)
      (λ _. (piece_at t s.length (s.number - 1), cut-next t s.length s.number can.0 can.1, refl))

  pub unheard-sendable : OnSendable t (step_of b s None)
  unheard-sendable = retried s.blocks can.2

  pub heard-sendable : (code : Code) → answerable t (block_count t s) code ≡ true → OnSendable t (step_of b s (Some code))
  heard-sendable Ack e = acked
  heard-sendable (AckSelective set) e =
      let Asks : Option Piece → Type 0 = λ o. answerable t (blocks_in o) (AckSelective set) ≡ true in
      retried (Only set) (subst Asks can.1 e)
  heard-sendable FullRetry e = retried All refl
  heard-sendable OutOfStep e = tt
