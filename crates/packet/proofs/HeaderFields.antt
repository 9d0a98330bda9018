-- The wrong fields of a packet's header, and the tests that they fail.
use Rattle.std.proofs.Common.{◌≡◌, ℕ, Bool, true, false, ltb, leb, ◌≢◌, ◌⊎◌, List, [], ◌∷◌, Result, refl, inl, inr, arith}
use Rattle.std.proofs.lemmas.Bool.{true≢false, leb-false, ltb-false, le-ltb, lt-leb, eqb-true, eqb-false, ne_eqb}
use Rattle.std.proofs.lemmas.Bool.Decides.{nat_tests}
use Rattle.fault.specs.declared.PacketFault.{PacketFault}
use Rattle.fragment.specs.Carriers.{Terms}
use Rattle.packet.specs.Octets.{two_at}
use Rattle.packet.specs.Reading.{is_selective, flags_fit, enough_data}
use Rattle.packet.specs.Refusals.{Lowest, flags_at, records_at, pad_at, WrongHeader, other_flags, unfit_flags, high_number, many_records, long_pad, no_data, no_message}
use Rattle.packet.proofs.Refusals.{else-true, else-false, None, ByFields, Fails, first_wrong, by-table, by-wrong}

abbrev pub Known : ℕ → Type 0
Known flags = ((flags ≡ 0) ⊎ (flags ≡ 1)) ⊎ ((flags ≡ 4) ⊎ (flags ≡ 5))

known-flags : (retry : Bool) (flags : ℕ) → flags_fit retry flags ≡ true → Known flags
known-flags true flags e = grind (arith, nat_tests)
known-flags false flags e = inl (inr (eqb-true _ _ e))

unfit : (retry : Bool) (flags : ℕ) → flags_fit retry flags ≡ false → (Known flags → ⊥) ⊎ ((retry ≡ false) × (flags ≢ 1))
unfit true flags e = inl (λ k. grind (arith, nat_tests))
unfit false flags e = inr (refl, eqb-false _ _ e)

pub full-mode : (flags : ℕ) → (flags ≡ 0) ⊎ (flags ≡ 1) → is_selective flags ≡ false
full-mode flags f = elim f [ inl e ↦ rw e | inr e ↦ rw e ]

pub selective-mode : (flags : ℕ) → (flags ≡ 4) ⊎ (flags ≡ 5) → is_selective flags ≡ true
selective-mode flags s = elim s [ inl e ↦ rw e | inr e ↦ rw e ]

abbrev pub table : Terms → List ℕ → List (Bool × ℕ)
table t xs =
    (flags_fit t.selective (flags_at xs), 5)
    ∷ ((ltb (two_at xs 6) t.most, 6)
    ∷ ((leb (records_at xs) 16, 8)
    ∷ ((ltb (pad_at xs) t.block, 9)
    ∷ ((enough_data t.block (flags_at xs) (records_at xs) (pad_at xs), 9)
    ∷ []))))

wrong-fails : (t : Terms) (xs : List ℕ) (p : ℕ) → WrongHeader t xs p → Fails (table t xs) p
wrong-fails t xs p (other_flags f s) = inl (refl, else-false _ (λ e. elim (known-flags t.selective (flags_at xs) e) [ inl k ↦ f k | inr k ↦ s k ]))
wrong-fails t xs p (unfit_flags r n) = inl (refl, rw r (ne_eqb _ _ n))
wrong-fails t xs p (high_number h) = inr (inl (refl, le-ltb _ _ h))
wrong-fails t xs p (many_records h) = inr (inr (inl (refl, lt-leb _ _ h)))
wrong-fails t xs p (long_pad h) = inr (inr (inr (inl (refl, le-ltb _ _ h))))
wrong-fails t xs p (no_data f h) = inr (inr (inr (inr (inl (refl, elim f [ inl e ↦ rw e (lt-leb _ _ h) | inr e ↦ rw e (lt-leb _ _ (omega arith)) ])))))
wrong-fails t xs p (no_message f h) = inr (inr (inr (inr (inl (refl, rw f (lt-leb _ _ h))))))

wrong-flags : (t : Terms) (xs : List ℕ) → flags_fit t.selective (flags_at xs) ≡ false → WrongHeader t xs 5
wrong-flags t xs e =
    elim (unfit t.selective (flags_at xs) e) [ inl k ↦ other_flags (λ f. k (inl f)) (λ s. k (inr s)) | inr k ↦ unfit_flags k.0 k.1 ]

pub right-flags : (t : Terms) (xs : List ℕ) → None (WrongHeader t xs) → Known (flags_at xs)
right-flags t xs none = known-flags t.selective (flags_at xs) (else-true _ (λ e. none 5 (wrong-flags t xs e)))

little-data : (t : Terms) (xs : List ℕ) → Known (flags_at xs) → enough_data t.block (flags_at xs) (records_at xs) (pad_at xs) ≡ false → WrongHeader t xs 9
little-data t xs known h =
    elim known [
      | inl f ↦ elim f [ inl e ↦ no_data (inl e) (leb-false _ _ (rw e at h)) | inr e ↦ no_message e (leb-false _ _ (rw e at h)) ]
      | inr s ↦ elim s [ inl e ↦ absurd (true≢false (rw e at h)) | inr e ↦ absurd (true≢false (rw e at h)) ]
    ]

fails-wrong : (t : Terms) (xs : List ℕ) (p : ℕ) → Lowest (Fails (table t xs)) p → WrongHeader t xs p
fails-wrong t xs p low = go low.0
  where
    go : Fails (table t xs) p → WrongHeader t xs p
    go (inl e) = rw e.0 (wrong-flags t xs e.1)
    go (inr (inl e)) = rw e.0 (high_number (ltb-false _ _ e.1))
    go (inr (inr (inl e))) = rw e.0 (many_records (leb-false _ _ e.1))
    go (inr (inr (inr (inl e)))) = rw e.0 (long_pad (ltb-false _ _ e.1))
    go (inr (inr (inr (inr (inl e))))) =
        rw e.0 (little-data t xs (known-flags t.selective _ (else-true _ (λ f. low.1 5 (omega arith) (inl (refl, f))))) e.1)
    go (inr (inr (inr (inr (inr e))))) = absurd e

-- A header answers what stands behind it, or its lowest wrong field.
pub by-header : {A : Type 0} (t : Terms) (xs : List ℕ) (rest : Result A PacketFault) → ByFields (first_wrong (table t xs) rest) rest (WrongHeader t xs)
by-header t xs rest =
    by-wrong _ _ (Fails (table t xs)) (WrongHeader t xs) (wrong-fails t xs) (fails-wrong t xs)
    (by-table 5 (table t xs) rest (omega arith, (omega arith, (omega arith, (omega arith, (omega arith, tt))))))
