-- When writing a packet refuses.
use Rattle.std.proofs.Common.{◌≡◌, ℕ, ◌+◌, ◌/◌, ◌%◌, ◌^◌, ◌<◌, ◌≤◌, Bool, true, false, cond, not, eqb, ltb, leb, ◌⊎◌, ◌↔◌, List, length, Ok, Err, Result, sym, refl, ap, ◌∙◌, inl, inr, arith}
use Rattle.std.proofs.lemmas.Bool.{cases_Bool, both_ways, not-true, not-false, and_parts, and_cases, cond-true, cond-false, eq-eqb, eqb-true, eqb-false, lt-leb, leb-false, ltb-true, ltb-false}
use Rattle.std.proofs.lemmas.Nat.{pow_pos, shr-shr, le-div}
use Rattle.fault.specs.declared.PacketFault.TheVariants.{Buffer, Message}
use Rattle.fault.specs.declared.EndFault.{EndFault}
use Rattle.fault.specs.declared.EndFault.TheVariants as end
use Rattle.fault.specs.Faults.{end_number, end_place}
use Rattle.fragment.specs.Carriers.{Terms, Sound}
use Rattle.fragment.specs.Cutting.{Piece}
use Rattle.packet.specs.declared.values.Route.{Route}
use Rattle.packet.specs.declared.values.Blocks.{Blocks}
use Rattle.packet.specs.declared.values.Blocks.TheVariants.{All, Only}
use Rattle.packet.specs.Blocks.{carried, fitting}
use Rattle.packet.specs.Layout.{Written, packet_length, written, written_of}
use Rattle.packet.specs.ReadBack.{ReadsAsWritten}
use Rattle.packet.specs.Refusals.{RefusedAtEnd, Unaskable, Unlent, WriteRefusals}
use Rattle.packet.proofs.Sets.{some_bit, no-bit}
use Rattle.packet.proofs.ReadBack.{written-reads}
use Rattle.packet.proofs.Refusals.{else-true, else-false, refused-when, accepted-when}

-- A number of 2^n or more has a bit past those below.
bit_past : (n x : ℕ) → 2 ^ n ≤ x → (j : ℕ) × (n ≤ j) × (eqb (x / 2 ^ j % 2) 1 ≡ true)
bit_past n x h =
    let b = some_bit (x / 2 ^ n) (x / 2 ^ n) (omega arith) (le-div 1 x (2 ^ n) (pow_pos n) (omega arith)) in
    (n + b.0, omega arith, eq-eqb _ 1 (ap (λ k. k % 2) (sym (shr-shr x n b.0)) ∙ b.1))

unfit-unaskable : (t : Terms) (n : ℕ) (blocks : Blocks) → fitting t n blocks ≡ false → Unaskable t n blocks
unfit-unaskable t n All e = both_ways true e refl
unfit-unaskable t n (Only set) e =
    elim (and_cases t.selective _ e) [
      | inl s ↦ inl s
      | inr s ↦
          inr (elim (and_cases (not (eqb set.0 0)) (ltb set.0 (2 ^ n)) s) [
            | inl z ↦ inl (λ j. let x : set.0 ≡ 0 = eqb-true set.0 0 (not-false _ z) in no-bit 0 set.0 j (omega arith) (omega arith))
            | inr l ↦ inr (bit_past n set.0 (ltb-false set.0 (2 ^ n) l))
          ])
    ]

fit-askable : (t : Terms) (n : ℕ) (blocks : Blocks) → fitting t n blocks ≡ true → Unaskable t n blocks → ⊥
fit-askable t n All e h = h
fit-askable t n (Only set) e h =
    let p = and_parts t.selective _ e in
    let q = and_parts (not (eqb set.0 0)) (ltb set.0 (2 ^ n)) p.1 in
    elim h [
      | inl s ↦ both_ways t.selective s p.0
      | inr h ↦
          elim h [
            | inl z ↦
                (let x = eqb-false set.0 0 (not-true _ q.0) in
                let b = some_bit set.0 set.0 (omega arith) (omega arith) in
                both_ways _ (z b.0) (eq-eqb _ 1 b.1))
            | inr b ↦ both_ways _ (no-bit n set.0 b.0 (ltb-true set.0 (2 ^ n) q.1) b.1) b.2
          ]
    ]

answer-cond : {E : Type 0} (b : Bool) (x y : Written E) → (cond b x y).answer ≡ cond b x.answer y.answer
answer-cond true x y = refl
answer-cond false x y = refl

module _ (t : Terms) (number : List ℕ → ℕ) (route : Route) (serial : ℕ) (f : Piece) (blocks : Blocks) (message buffer : List ℕ) where
  abbrev result : Result ℕ EndFault
  result = (written_of t number route serial f blocks message buffer).answer

  abbrev long : ℕ
  long = packet_length f.block (length (carried blocks f.blocks))

  abbrev same : Bool
  same = eqb (length message) f.message

  abbrev room : Bool
  room = leb long (length buffer)

  abbrev fits : Bool
  fits = fitting t f.blocks blocks

  abbrev Lent : Type 0
  Lent = Unlent f blocks message buffer → ⊥

  abbrev Cause : ℕ → ℕ → Type 0
  Cause n p = ((n ≡ 7) × (p ≡ 0) × Unlent f blocks message buffer) ⊎ ((n ≡ 11) × (p ≡ 8) × (Lent × Unaskable t f.blocks blocks))

  abbrev Right : Type 0
  Right = Lent × (Unaskable t f.blocks blocks → ⊥)

  by_tests : result ≡ cond same (cond room (cond fits (Ok long) (Err end.Blocks)) (Err (end.Packet Buffer))) (Err (end.Packet Message))
  by_tests = simp answer-cond

  lent : same ≡ true → room ≡ true → Lent
  lent s r h = elim h [ inl d ↦ d (eqb-true _ _ s) | inr d ↦ both_ways room (lt-leb _ _ d) r ]

  when-lent : Lent → result ≡ cond fits (Ok long) (Err end.Blocks)
  when-lent h = by_tests ∙ cond-true same _ _ (else-true same (λ e. h (inl (eqb-false _ _ e)))) ∙ cond-true room _ _ (else-true room (λ e. h (inr (leb-false _ _ e))))

  refuses : (n p : ℕ) → Cause n p → RefusedAtEnd result n p
  refuses n p c =
      elim c [
        | inl h ↦
            elim (cases_Bool same) [
              | inr s ↦ (end.Packet Message, by_tests ∙ cond-false same _ _ s, sym h.0, sym h.1)
              | inl s ↦
                  (end.Packet Buffer, by_tests ∙ cond-true same _ _ s ∙ cond-false room _ _ (else-false room (λ r. lent s r h.2)), sym h.0, sym h.1)
            ]
        | inr h ↦
            (end.Blocks, when-lent h.2.0 ∙ cond-false fits _ _ (else-false fits (λ e. fit-askable t f.blocks blocks e h.2.1)), sym h.0, sym h.1)
      ]

  decided : ((n : ℕ) × (p : ℕ) × Cause n p) ⊎ Right
  decided =
      elim (cases_Bool same) [
        | inr s ↦ inl (7, 0, inl (refl, refl, inl (eqb-false _ _ s)))
        | inl s ↦
            elim (cases_Bool room) [
              | inr r ↦ inl (7, 0, inl (refl, refl, inr (leb-false _ _ r)))
              | inl r ↦
                  elim (cases_Bool fits) [
                    | inr e ↦ inl (11, 8, inr (refl, refl, (lent s r, unfit-unaskable t f.blocks blocks e)))
                    | inl e ↦ inr (lent s r, fit-askable t f.blocks blocks e)
                  ]
            ]
      ]

  accepts : Right → result ≡ Ok long
  accepts h = when-lent h.0 ∙ cond-true fits _ _ (else-true fits (λ e. h.1 (unfit-unaskable t f.blocks blocks e)))

  pub write-refusals : WriteRefusals t f blocks message buffer result
  write-refusals =
      record {
        number_7 = λ p. (λ h. elim ((when 7 p).0 h) [ inl c ↦ (c.1, c.2) | inr c ↦ absurd (omega arith) ], λ h. refuses 7 p (inl (refl, h.0, h.1)));
        number_11 = λ p. (λ h. elim ((when 11 p).0 h) [ inl c ↦ absurd (omega arith) | inr c ↦ (c.1, c.2) ], λ h. refuses 11 p (inr (refl, h.0, h.1)));
        no_other = λ n p h. elim ((when n p).0 h) [ inl c ↦ inl c.0 | inr c ↦ inr c.0 ];
        accepted = accepted-when end_number end_place result long Cause Right decided refuses accepts;
      }
    where
      when : (n p : ℕ) → RefusedAtEnd result n p ↔ Cause n p
      when = refused-when end_number end_place result long Cause Right decided refuses accepts

  pub answered : Sound t → route.source < 65536 → route.destination < 65536
      → (r : Result ℕ EndFault) (after : List ℕ) → written r after ≡ written_of t number route serial f blocks message buffer
      → record {
        value : written r after ≡ written_of t number route serial f blocks message buffer;
        refusals : WriteRefusals t f blocks message buffer r;
        reads : ReadsAsWritten t number route serial f blocks message r after;
      }
  answered sound source destination r after e =
      record {
        value = e;
        refusals = rw (ap (λ (w : Written EndFault). w.answer) e) write-refusals;
        reads = written-reads t sound number route source destination serial f blocks message buffer r after e;
      }
