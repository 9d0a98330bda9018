-- When a packet's call refuses.
use Rattle.std.proofs.Common.{◌≡◌, ℕ, ◌<◌, ◌≤◌, ◌⊎◌, ◌↔◌, List, Some, None, Ok, Err, Option, Result, sym, refl, ap, ◌∙◌, subst, inl, inr, arith}
use Rattle.std.proofs.lemmas.Bool.{cases_lt, cases_eq, eq-eqb, ne_eqb, le-leb, lt-leb}
use Rattle.fault.specs.declared.PacketFault.{PacketFault}
use Rattle.fault.specs.declared.PacketFault.TheVariants.{Buffer}
use Rattle.fault.specs.declared.EndFault.{EndFault}
use Rattle.fault.specs.declared.EndFault.TheVariants.{Packet, Address, Unfit}
use Rattle.fault.specs.Faults.{end_number, end_place}
use Rattle.fragment.specs.Carriers.{Terms}
use Rattle.packet.specs.declared.values.Header.{Header}
use Rattle.packet.specs.declared.values.Route.{Route}
use Rattle.packet.specs.Reading.{record_place, read_of, and_then, header_at}
use Rattle.packet.specs.Refusals.{Refused, RefusedAtEnd}
use Rattle.packet.proofs.Refusals.{refused-when, accepted-when}
use Rattle.packet.proofs.ReadRefusals.{packet-refusals}
use Rattle.receiver.specs.declared.state.Gathering.{Gathering}
use Rattle.receiver.specs.declared.state.Phase.{Phase}
use Rattle.receiver.specs.declared.state.Heard.{Heard}
use Rattle.receiver.specs.Calls.{unfit_of, unless_unfit, admit_of}
use Rattle.receiver.specs.Laws.{ReadWith, FromPeer, ToHere, Joins, PastLast, OfStranger, ForAnother, OtherPad, OtherBlock, CallRefusals}
use Rattle.receiver.proofs.Reading.{header_is}
use Rattle.receiver.proofs.Joining.{past-none, past_first, past-decided, joins-decided, joins-unfit, none-unfit}

module _ (t : Terms) (route : Route) (phase : Phase) (xs : List ℕ) (room : ℕ) (heard : Header → Heard) where
  abbrev result : Result Heard EndFault
  result = and_then (admit_of t route phase xs room) (λ h. Ok (heard h))

  abbrev Addressed : ℕ → Type 0
  Addressed p = ((p ≡ 1) × OfStranger t route phase xs room) ⊎ ((p ≡ 3) × ForAnother t route phase xs room)

  abbrev Misfit : ℕ → Type 0
  Misfit p = ((p ≡ 9) × OtherPad t route phase xs room) ⊎ ((i : ℕ) × (p ≡ record_place t.block i) × OtherBlock t route phase xs room i)

  -- It fits the fragment that is being collected, if it is for that.
  abbrev Fits : Header → Type 0
  Fits h = (g : Gathering) → Joins phase h g → (h.pad ≡ g.pad) × ((i : ℕ) → PastLast t xs g.blocks i → ⊥)

  abbrev Right : Type 0
  Right = (h : Header) × ReadWith t xs room h × FromPeer route h × ToHere route h × Fits h

  -- Why a refusal has this number and place.
  data Cause (n p : ℕ) : Type 0 where
    of_room : n ≡ 7 → p ≡ 0 → room < 10 → Cause n p
    of_packet : 10 ≤ room → Refused (read_of t xs) n p → Cause n p
    of_address : n ≡ 6 → Addressed p → Cause n p
    of_fragment : n ≡ 13 → Misfit p → Cause n p

  read_number : (n p : ℕ) → Refused (read_of t xs) n p → (3 ≤ n) × (n ≤ 5)
  read_number n p h = let o = (packet-refusals t xs).no_other n p h in grind arith

  -- What is answered once the route is right.
  when-routed : (h : Header) → ReadWith t xs room h → FromPeer route h → ToHere route h → (o : Option ℕ) → unfit_of t.block phase xs h ≡ o
      → result ≡ and_then (unless_unfit o h) (λ k. Ok (heard k))
  when-routed h read from to o e = rw (le-leb 10 room read.0, read.1, eq-eqb _ _ from, eq-eqb _ _ to, e)

  refuses : (n p : ℕ) → Cause n p → RefusedAtEnd result n p
  refuses n p (of_room en ep l) = (Packet Buffer, rw (lt-leb 10 room l), sym en, sym ep)
  refuses n p (of_packet l (fault, e, en, ep)) = (Packet fault, rw (le-leb 10 room l, e), en, ep)
  refuses n p (of_address en (inl (ep, (h, read, no-peer)))) = (Address 1, rw (le-leb 10 room read.0, read.1, ne_eqb _ _ no-peer), sym en, sym ep)
  refuses n p (of_address en (inr (ep, (h, read, from, not-here)))) =
      (Address 3, rw (le-leb 10 room read.0, read.1, eq-eqb _ _ from, ne_eqb _ _ not-here), sym en, sym ep)
  refuses n p (of_fragment en (inl (ep, (h, g, j, other)))) =
      (Unfit 9, when-routed h j.0 j.1 j.2 (Some 9) (joins-unfit h t.block phase xs g j.3 ∙ (rw (ne_eqb _ _ other))), sym en, sym ep)
  refuses n p (of_fragment en (inr (i, ep, (h, g, j, pad, first)))) = (
    Unfit (record_place t.block i),
    when-routed h j.0 j.1 j.2 (Some (record_place t.block i))
        (joins-unfit h t.block phase xs g j.3 ∙ (rw (eq-eqb _ _ pad) (past_first t xs h j.0.1 g.blocks i first))),
    sym en,
    sym ep,
  )

  accepts : Right → result ≡ Ok (heard (header_at xs))
  accepts (h, read, from, to, fits) =
      when-routed h read from to None
      (elim (joins-decided h phase) [
        | inl j ↦ joins-unfit h t.block phase xs j.0 j.1 ∙ (rw (eq-eqb _ _ (fits j.0 j.1).0) (past-none t xs h read.1 j.0.blocks (fits j.0 j.1).1))
        | inr none ↦ none-unfit h t.block phase xs none
      ])
      ∙ ap (λ (k : Header). Ok (heard k)) (header_is t xs h read.1)

  abbrev Decided : Type 0
  Decided = ((n : ℕ) × (p : ℕ) × Cause n p) ⊎ Right

  decided-fit : (h : Header) → ReadWith t xs room h → FromPeer route h → ToHere route h → Decided
  decided-fit h read from to =
      elim (joins-decided h phase) [
        | inr none ↦ inr (h, read, from, to, λ g j. absurd (none g j))
        | inl (g, j) ↦
            elim (cases_eq h.pad g.pad) [
              | inr q ↦ inl (13, 9, of_fragment refl (inl (refl, (h, g, (read, from, to, j), q))))
              | inl pad ↦
                  elim (past-decided t xs h read.1 g.blocks) [
                    | inl first ↦ inl (13, _, of_fragment refl (inr (first.0, refl, (h, g, (read, from, to, j), pad, first.1))))
                    | inr none ↦ inr (h, read, from, to, λ k q. let e : g ≡ k = cc (j.0, q.0) in subst (λ (x : Gathering). (h.pad ≡ x.pad) × ((i : ℕ) → PastLast t xs x.blocks i → ⊥)) e (pad, none))
                  ]
            ]
      ]

  decided-read : 10 ≤ room → (r : Result Header PacketFault) → read_of t xs ≡ r → Decided
  decided-read l (Err fault) e = inl (_, _, of_packet l (fault, e, refl, refl))
  decided-read l (Ok h) e =
      elim (cases_eq h.route.source route.destination) [
        | inr q ↦ inl (6, 1, of_address refl (inl (refl, (h, (l, e), q))))
        | inl from ↦
            elim (cases_eq h.route.destination route.source) [
              | inr q ↦ inl (6, 3, of_address refl (inr (refl, (h, (l, e), from, q))))
              | inl to ↦ decided-fit h (l, e) from to
            ]
      ]

  decided : Decided
  decided = elim (cases_lt room 10) [ inl l ↦ inl (7, 0, of_room refl refl l) | inr l ↦ decided-read l (read_of t xs) refl ]

  pub call-refusals : CallRefusals t route phase xs room result
  call-refusals =
      record {
        number_7 = λ p. (
          λ h. elim ((when 7 p).0 h) [ of_room _ e c ↦ (e, c) | of_packet _ c ↦ absurd (omega (arith, read_number 7 p c)) | of_address e _ ↦ absurd (omega arith) | of_fragment e _ ↦ absurd (omega arith) ],
          λ h. refuses 7 p (of_room refl h.0 h.1),
        );
        number_3 = read 3 (omega arith);
        number_4 = read 4 (omega arith);
        number_5 = read 5 (omega arith);
        number_6 = λ p. (
          λ h. elim ((when 6 p).0 h) [ of_room e _ _ ↦ absurd (omega arith) | of_packet _ c ↦ absurd (omega (arith, read_number 6 p c)) | of_address _ c ↦ c | of_fragment e _ ↦ absurd (omega arith) ],
          λ h. refuses 6 p (of_address refl h),
        );
        number_13 = λ p. (
          λ h. elim ((when 13 p).0 h) [ of_room e _ _ ↦ absurd (omega arith) | of_packet _ c ↦ absurd (omega (arith, read_number 13 p c)) | of_address e _ ↦ absurd (omega arith) | of_fragment _ c ↦ c ],
          λ h. refuses 13 p (of_fragment refl h),
        );
        no_other = λ n p h.
            elim ((when n p).0 h) [
              | of_room e _ _ ↦ inr (inr (inr (inr (inl e))))
              | of_packet _ c ↦ elim ((packet-refusals t xs).no_other n p c) [ inl e ↦ inl e | inr o ↦ elim o [ inl e ↦ inr (inl e) | inr e ↦ inr (inr (inl e)) ] ]
              | of_address e _ ↦ inr (inr (inr (inl e)))
              | of_fragment e _ ↦ inr (inr (inr (inr (inr e))))
            ];
        accepted = (
          λ h. ((accepted-when end_number end_place result (heard (header_at xs)) Cause Right decided refuses accepts h.0).0 h.1).1,
          λ h. (heard (header_at xs), accepts h),
        );
      }
    where
      when : (n p : ℕ) → RefusedAtEnd result n p ↔ Cause n p
      when = refused-when end_number end_place result (heard (header_at xs)) Cause Right decided refuses accepts

      read : (n : ℕ) → n ≤ 5 → (p : ℕ) → RefusedAtEnd result n p ↔ ((10 ≤ room) × Refused (read_of t xs) n p)
      read n l p = (
        λ h. elim ((when n p).0 h) [ of_room e _ _ ↦ absurd (omega arith) | of_packet m c ↦ (m, c) | of_address e _ ↦ absurd (omega arith) | of_fragment e _ ↦ absurd (omega arith) ],
        λ h. refuses n p (of_packet h.0 h.1),
      )
