-- When a response is refused, and what its code makes of the session.
use Rattle.std.proofs.Common.{◌≡◌, ℕ, ◌≤◌, Bool, true, false, cond, eqb, ◌⊎◌, List, [], ◌∷◌, Some, None, Ok, Err, Option, Result, sym, refl, ap, ◌∙◌, subst, inl, inr, arith, rules}
use Rattle.std.proofs.lemmas.Bool.{eqb-true, eqb-false, eq-eqb, ne_eqb, both_ways}
use Rattle.fault.specs.declared.PacketFault.{PacketFault}
use Rattle.fault.specs.declared.PacketFault.TheVariants.{Length, Kind, Field, Buffer, Message}
use Rattle.fault.specs.declared.EndFault.{EndFault}
use Rattle.fault.specs.declared.EndFault.TheVariants as end
use Rattle.fault.specs.Faults.{packet_number, end_number, end_place}
use Rattle.fragment.specs.Carriers.{Terms}
use Rattle.packet.specs.declared.values.BlockSet.{BlockSet}
use Rattle.packet.specs.declared.values.Code.{Code}
use Rattle.packet.specs.declared.values.Code.TheVariants.{Ack, AckSelective, FullRetry, OutOfStep}
use Rattle.packet.specs.declared.values.Response.{Response}
use Rattle.packet.specs.Blocks.{askable}
use Rattle.packet.specs.Reading.{first_of, and_then}
use Rattle.packet.specs.Refusals.{Refused, RefusedAtEnd}
use Rattle.packet.specs.Responses.{response_at, response_of, response_tests}
use Rattle.sender.specs.declared.values.Base.{Base}
use Rattle.sender.specs.declared.values.Session.{Session}
use Rattle.sender.specs.Steps.{Stepped}
use Rattle.sender.specs.Steps.{answerable, block_count, answer_tests, answer_of, read_as, admit_of, step_of, hear_of}
use Rattle.sender.specs.Laws.{Sendable, HearRefusals, Rows, Readable, FromPeer, ToThisEnd, ForFragment, AsksAmiss, OnSendable}
use Rattle.sender.proofs.Putting.{told, not-refused, heard-sendable}

-- A table of tests that lets a value through gives that value.
first-is : {A E : Type 0} (tests : List (Bool × E)) (a x : A) → first_of tests a ≡ Ok x → x ≡ a
first-is [] a x e = cc
first-is (t ∷ ts) a x e = through t.0 (first-is ts a x) e
  where
    through : (b : Bool) → (first_of ts a ≡ Ok x → x ≡ a) → cond b (first_of ts a) (Err t.1) ≡ Ok x → x ≡ a
    through true rest h = rest h
    through false rest h = cc

-- Each test of a table lets through what the table lets through.
passes : {A E : Type 0} (b : Bool) (rest : Result A E) (fault : E) (x : A) → cond b rest (Err fault) ≡ Ok x → (b ≡ true) × (rest ≡ Ok x)
passes true rest fault x h = (refl, h)
passes false rest fault x h = absurd (cc)

-- The first test of a table refuses, or those after it do.
module _ {A : Type 0} (fault : EndFault) (number place : ℕ) where
  by_first : (b : Bool) (rest : Result A EndFault) → RefusedAtEnd (cond b rest (Err fault)) number place
      → ((b ≡ false) × (end_number fault ≡ number) × (end_place fault ≡ place)) ⊎ ((b ≡ true) × RefusedAtEnd rest number place)
  by_first true rest h = inr (refl, h)
  by_first false rest h = let p = told fault number place h in inl (refl, p.0, p.1)

-- What follows a read response refuses nothing more.
then-refused : {A B : Type 0} (r : Result A EndFault) (f : A → B) (number place : ℕ)
    → RefusedAtEnd (and_then r (λ a. Ok (f a))) number place → RefusedAtEnd r number place
then-refused (Ok a) f number place h = absurd (not-refused (f a) number place h)
then-refused (Err fault) f number place h = (h.0, let e = h.1 in cc, h.2, h.3)

-- A code that can't be answered asks for blocks.
unanswerable : (t : Terms) (n : ℕ) (code : Code) → answerable t n code ≡ false
    → (set : BlockSet) × (code ≡ AckSelective set) × (askable t n set ≡ false)
unanswerable t n Ack e = absurd (both_ways true e refl)
unanswerable t n (AckSelective set) e = (set, refl, e)
unanswerable t n FullRetry e = absurd (both_ways true e refl)
unanswerable t n OutOfStep e = absurd (both_ways true e refl)

asks-amiss : (t : Terms) (n : ℕ) (code : Code) → (set : BlockSet) × (code ≡ AckSelective set) × (askable t n set ≡ false)
    → answerable t n code ≡ false
asks-amiss t n code h = ap (answerable t n) h.1 ∙ h.2

-- The highest number of a fault of the octets is 7.
octet-number : (fault : PacketFault) (number : ℕ) → packet_number fault ≡ number → 6 ≤ number → number ≡ 7
octet-number (Length octets) number e h = omega arith
octet-number Kind number e h = omega arith
octet-number (Field place) number e h = omega arith
octet-number Buffer number e h = omega arith
octet-number Message number e h = omega arith

module _ (t : Terms) (b : Base) (s : Session) (xs : List ℕ) where
  -- Why a response is refused.
  pub data Reason (number place : ℕ) : Type 0 where
    unread : Refused (response_of t xs) number place → Reason number place
    source : number ≡ 6 → place ≡ 1 → Readable t xs → (FromPeer b xs → ⊥) → Reason number place
    destination : number ≡ 6 → place ≡ 3 → Readable t xs → FromPeer b xs → (ToThisEnd b xs → ⊥) → Reason number place
    other_number : number ≡ 10 → place ≡ 6 → Readable t xs → FromPeer b xs → ToThisEnd b xs → (ForFragment s xs → ⊥) → Reason number place
    blocks : number ≡ 11 → place ≡ 8 → Readable t xs → FromPeer b xs → ToThisEnd b xs → ForFragment s xs → AsksAmiss t s xs → Reason number place

  answer-reason : Readable t xs → (number place : ℕ) → RefusedAtEnd (answer_of t b s (response_at xs)) number place → Reason number place
  answer-reason read number place h =
      let r = response_at xs in
      elim (by_first (end.Address 1) number place (eqb r.route.source b.route.destination) _ h) [
        | inl p ↦ source (sym p.1) (sym p.2) read (eqb-false _ _ p.0)
        | inr p ↦ elim (by_first (end.Address 3) number place (eqb r.route.destination b.route.source) _ p.1) [
          | inl q ↦ destination (sym q.1) (sym q.2) read (eqb-true _ _ p.0) (eqb-false _ _ q.0)
          | inr q ↦ elim (by_first end.Number number place (eqb r.number s.number) _ q.1) [
            | inl v ↦ other_number (sym v.1) (sym v.2) read (eqb-true _ _ p.0) (eqb-true _ _ q.0) (eqb-false _ _ v.0)
            | inr v ↦ elim (by_first end.Blocks number place (answerable t (block_count t s) r.code) (Ok r.code) v.1) [
              | inl w ↦ blocks (sym w.1) (sym w.2) read (eqb-true _ _ p.0) (eqb-true _ _ q.0) (eqb-true _ _ v.0) (unanswerable t (block_count t s) r.code w.0)
              | inr w ↦ absurd (not-refused r.code number place w.1)
            ]
          ]
        ]
      ]

  reason : (number place : ℕ) → RefusedAtEnd (hear_of t b s xs) number place → Reason number place
  reason number place h = from (response_of t xs) refl (then-refused _ (λ code. step_of b s (Some code)) number place h)
    where
      from : (answer : Result Response PacketFault) → response_of t xs ≡ answer → RefusedAtEnd (and_then (read_as answer) (answer_of t b s)) number place → Reason number place
      from (Ok r) e h =
          let i : r ≡ response_at xs = first-is (response_tests t xs) (response_at xs) r e in
          let Refuses : Response → Type 0 = λ x. RefusedAtEnd (answer_of t b s x) number place in
          answer-reason (e ∙ ap Ok i) number place (subst Refuses i h)
      from (Err fault) e h = let p = told (end.Packet fault) number place h in unread (fault, e, p.0, p.1)

  abbrev heard : Result Response PacketFault → Result Stepped EndFault
  heard r = and_then (and_then (read_as r) (answer_of t b s)) (λ code. Ok (step_of b s (Some code)))

  -- A response that is read is refused by what follows the reading.
  refused-read : Readable t xs → (fault : EndFault) → answer_of t b s (response_at xs) ≡ Err fault → RefusedAtEnd (hear_of t b s xs) (end_number fault) (end_place fault)
  refused-read read fault e =
      let stepped : Result Code EndFault → Result Stepped EndFault = λ r. and_then r (λ code. Ok (step_of b s (Some code))) in
      (fault, ap heard read ∙ ap stepped e, refl, refl)

  refused-unread : (number place : ℕ) → Refused (response_of t xs) number place → RefusedAtEnd (hear_of t b s xs) number place
  refused-unread number place h = (end.Packet h.0, ap heard h.1, h.2, h.3)

  low-unread : (number place : ℕ) → number ≤ 5 → Reason number place → Refused (response_of t xs) number place
  low-unread number place l (unread h) = h
  low-unread number place l (source e _ _ _) = absurd (omega arith)
  low-unread number place l (destination e _ _ _ _) = absurd (omega arith)
  low-unread number place l (other_number e _ _ _ _ _) = absurd (omega arith)
  low-unread number place l (blocks e _ _ _ _ _ _) = absurd (omega arith)

  pub hear-refusals : HearRefusals t b s xs (hear_of t b s xs)
  hear-refusals =
      record {
        number_3 = λ place. (λ h. low-unread 3 place (omega arith) (reason 3 place h), refused-unread 3 place);
        number_4 = λ place. (λ h. low-unread 4 place (omega arith) (reason 4 place h), refused-unread 4 place);
        number_5 = λ place. (λ h. low-unread 5 place (omega arith) (reason 5 place h), refused-unread 5 place);
        number_6 = λ place. (
          λ h. elim (reason 6 place h) [
            | unread x ↦ absurd (let n = octet-number x.0 6 x.2 (omega arith) in omega arith)
            | source _ at read from ↦ (read, inl (at, from))
            | destination _ at read from to ↦ (read, inr (at, from, to))
            | other_number e _ _ _ _ _ ↦ absurd (omega arith)
            | blocks e _ _ _ _ _ _ ↦ absurd (omega arith)
          ],
          λ h. elim h.1 [
            | inl p ↦ rw p.0 (refused-read h.0 (end.Address 1) (rw (ne_eqb _ _ p.1)))
            | inr p ↦ rw p.0 (refused-read h.0 (end.Address 3) (rw (eq-eqb _ _ p.1, ne_eqb _ _ p.2)))
          ],
        );
        number_10 = λ place. (
          λ h. elim (reason 10 place h) [
            | unread x ↦ absurd (let n = octet-number x.0 10 x.2 (omega arith) in omega arith)
            | source e _ _ _ ↦ absurd (omega arith)
            | destination e _ _ _ _ ↦ absurd (omega arith)
            | other_number _ at read from to other ↦ (at, read, from, to, other)
            | blocks e _ _ _ _ _ _ ↦ absurd (omega arith)
          ],
          λ h. rw h.0 (refused-read h.1 end.Number (rw (eq-eqb _ _ h.2, eq-eqb _ _ h.3, ne_eqb _ _ h.4))),
        );
        number_11 = λ place. (
          λ h. elim (reason 11 place h) [
            | unread x ↦ absurd (let n = octet-number x.0 11 x.2 (omega arith) in omega arith)
            | source e _ _ _ ↦ absurd (omega arith)
            | destination e _ _ _ _ ↦ absurd (omega arith)
            | other_number e _ _ _ _ _ ↦ absurd (omega arith)
            | blocks _ at read from to same amiss ↦ (at, read, from, to, same, amiss)
          ],
          λ h. rw h.0 (refused-read h.1 end.Blocks (rw (eq-eqb _ _ h.2, eq-eqb _ _ h.3, eq-eqb _ _ h.4, asks-amiss t (block_count t s) _ h.5))),
        );
        no_other = λ number place h. elim (reason number place h) [
          | unread x ↦ inl x
          | source e _ _ _ ↦ inr (inl e)
          | destination e _ _ _ _ ↦ inr (inl e)
          | other_number e _ _ _ _ _ ↦ inr (inr (inl e))
          | blocks e _ _ _ _ _ _ ↦ inr (inr (inr e))
        ];
      }

  -- A response that is not refused gives its code, which can be answered.
  heard-code : (code : Code) → admit_of t b s xs ≡ Ok code → (code ≡ (response_at xs).code) × (answerable t (block_count t s) code ≡ true)
  heard-code code e = from (response_of t xs) refl e
    where
      from : (answer : Result Response PacketFault) → response_of t xs ≡ answer → and_then (read_as answer) (answer_of t b s) ≡ Ok code
          → (code ≡ (response_at xs).code) × (answerable t (block_count t s) code ≡ true)
      from (Ok r) e h =
          let read : r ≡ response_at xs = first-is (response_tests t xs) (response_at xs) r e in
          let same : code ≡ r.code = first-is (answer_tests t b s r) r.code code h in
          let p = passes (eqb r.route.source b.route.destination) _ _ code h in
          let q = passes (eqb r.route.destination b.route.source) _ _ code p.1 in
          let v = passes (eqb r.number s.number) _ _ code q.1 in
          let w = passes (answerable t (block_count t s) r.code) _ _ code v.1 in
          (same ∙ ap (λ (x : Response). x.code) read, ap (answerable t (block_count t s)) same ∙ w.0)
      from (Err fault) e h = absurd (cc)

-- The rows of the steps.
pub rows : (b : Base) (s : Session) (heard : Option Code) → Rows b s heard (step_of b s heard)
rows b s (Some Ack) = search rules
rows b s (Some (AckSelective set)) = search rules
rows b s (Some FullRetry) = search rules
rows b s (Some OutOfStep) = search rules
rows b s None = search rules

module _ (t : Terms) (b : Base) (s : Session) (xs : List ℕ) (code : Code) (e : admit_of t b s xs ≡ Ok code) where
  pub hear-rows : Rows b s (Some (response_at xs).code) (step_of b s (Some code))
  hear-rows =
      let Row : Code → Type 0 = λ x. Rows b s (Some x) (step_of b s (Some code)) in
      subst Row (heard-code t b s xs code e).0 (rows b s (Some code))

  pub hear-sendable : Sendable t s → OnSendable t (step_of b s (Some code))
  hear-sendable can = heard-sendable t b s can code (heard-code t b s xs code e).1
