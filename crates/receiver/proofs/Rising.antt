-- The good records of a packet that was read have rising block numbers.
use Rattle.std.proofs.Common.{◌≡◌, ℕ, zero, suc, ◌<◌, ◌≤◌, List, Ok, ap, inl, inr, arith}
use Rattle.std.proofs.lemmas.Bool.{cases_lt, cases_eq}
use Rattle.fragment.specs.Carriers.{Terms}
use Rattle.packet.specs.declared.values.Header.{Header}
use Rattle.packet.specs.Reading.{read_of}
use Rattle.packet.specs.Refusals.{Full, Selective, records_at, number_at, quality_at, GoodRecord, GoodBefore, other_block, falling_block}
use Rattle.receiver.proofs.Reading.{known, full-or-selective}

module _ (t : Terms) (xs : List ℕ) (h : Header) (read : read_of t xs ≡ Ok h) where
  in-full : Full xs → (i : ℕ) → i < records_at xs → GoodRecord t xs i → number_at t xs i ≡ i
  in-full full i l good = elim (cases_eq (number_at t xs i) i) [ inl e ↦ e | inr e ↦ absurd ((known t xs h read).3 _ (other_block i l good full e)) ]

  after-good : Selective xs → (i j : ℕ) → i < records_at xs → GoodRecord t xs i → GoodBefore t xs j i → number_at t xs j < number_at t xs i
  after-good sel i j l good before =
      elim (cases_lt (number_at t xs j) (number_at t xs i)) [ inl e ↦ e | inr e ↦ absurd ((known t xs h read).3 _ (falling_block i j l good sel before e)) ]

  -- A good record's number is at most that of the last good record before any place behind it.
  nearest : Selective xs → (j : ℕ) → j ≤ records_at xs → (i : ℕ) → i < j → GoodRecord t xs i → (k : ℕ) × GoodBefore t xs k j × (number_at t xs i ≤ number_at t xs k)
  nearest sel zero m i l good = absurd (omega arith)
  nearest sel (suc j) m i l good =
      let before = nearest sel j (omega arith) i in
      elim (cases_eq (quality_at t xs j) 0) [
        | inl here ↦ (
          j,
          (omega arith, here, λ b p q. absurd (omega arith)),
          elim (cases_eq i j) [
            | inl e ↦ (let same = ap (number_at t xs) e in omega arith)
            | inr e ↦ (let r = before (omega arith) good in omega (arith, r.2, after-good sel j r.0 (omega arith) here r.1))
          ],
        )
        | inr bad ↦
            (let r = before (elim (cases_eq i j) [ inl e ↦ absurd (bad (rw e at good)) | inr e ↦ omega arith ]) good in
            (r.0, (omega (arith, r.1.0), r.1.1, λ b p q g. elim (cases_eq b j) [ inl e ↦ bad (rw e at g) | inr e ↦ r.1.2 b p (omega arith) g ]), r.2))
      ]

  pub rises : (i j : ℕ) → i < j → j < records_at xs → GoodRecord t xs i → GoodRecord t xs j → number_at t xs i < number_at t xs j
  rises i j l m good good' =
      elim (full-or-selective t xs (known t xs h read).1) [
        | inl full ↦ omega (arith, in-full full i (omega arith) good, in-full full j m good')
        | inr sel ↦ (let r = nearest sel j (omega arith) i l good in omega (arith, r.2, after-good sel j r.0 m good' r.1))
      ]
