-- When reading a response refuses.
use Rattle.std.proofs.Common.{◌≡◌, ℕ, Bool, cond, ◌&&◌, ◌||◌, eqb, ltb, leb, List, [], ◌∷◌, length, get_or, Ok, Err, Result, refl, inl, inr, arith}
use Rattle.std.proofs.lemmas.Bool.{and_cases, leb-false, ltb-false}
use Rattle.std.proofs.lemmas.Bool.Decides.{Decides-eqb, nat_tests}
use Rattle.fault.specs.declared.PacketFault.{PacketFault}
use Rattle.fault.specs.declared.PacketFault.TheVariants.{Length}
use Rattle.fragment.specs.Carriers.{Terms}
use Rattle.packet.specs.declared.values.Response.{Response}
use Rattle.packet.specs.Octets.{two_at}
use Rattle.packet.specs.Responses.{response_at, response_of}
use Rattle.packet.specs.Refusals.{Short, OfKind, code_at, WrongResponse, other_code, high_number, flags, ResponseRefusals}
use Rattle.packet.proofs.Refusals.{ByFields, Fails, first_wrong, by-table, by-wrong}
use Rattle.packet.proofs.Stages.{Staged, staged, is-short}

abbrev table : Terms → List ℕ → List (Bool × ℕ)
table t xs =
    (leb 1 (code_at xs) && leb (code_at xs) 4, 5) ∷ ((ltb (two_at xs 6) t.most, 6) ∷ ((eqb (code_at xs) 2 || eqb (two_at xs 8) 0, 8) ∷ []))

wrong-fails : (t : Terms) (xs : List ℕ) (p : ℕ) → WrongResponse t xs p → Fails (table t xs) p
wrong-fails t xs p (other_code h) = inl (refl, grind (arith, nat_tests))
wrong-fails t xs p (high_number h) = inr (inl (refl, grind (arith, nat_tests)))
wrong-fails t xs p (flags c f) = inr (inr (inl (refl, grind (arith, nat_tests))))

fails-wrong : (t : Terms) (xs : List ℕ) (p : ℕ) → Fails (table t xs) p → WrongResponse t xs p
fails-wrong t xs p (inl e) =
    rw e.0 (other_code (elim (and_cases (leb 1 (code_at xs)) (leb (code_at xs) 4) e.1) [ inl l ↦ inl (leb-false 1 _ l) | inr l ↦ inr (leb-false _ 4 l) ]))
fails-wrong t xs p (inr (inl e)) = rw e.0 (high_number (ltb-false _ _ e.1))
fails-wrong t xs p (inr (inr (inl e))) = rw e.0 (flags (λ c. grind (arith, nat_tests)) (λ f. grind (arith, nat_tests)))
fails-wrong t xs p (inr (inr (inr e))) = absurd e

by-fields : {A : Type 0} (t : Terms) (xs : List ℕ) (rest : Result A PacketFault) → ByFields (first_wrong (table t xs) rest) rest (WrongResponse t xs)
by-fields t xs rest =
    by-wrong _ _ (Fails (table t xs)) (WrongResponse t xs) (wrong-fails t xs) (λ p h. fails-wrong t xs p h.0)
    (by-table 5 (table t xs) rest (omega arith, (omega arith, (omega arith, tt))))

pub response-refusals : (t : Terms) (xs : List ℕ) → ResponseRefusals t xs (response_of t xs)
response-refusals t xs =
    record {
      number_3 = law.number_3;
      number_4 = law.number_4;
      number_5 = λ p. (λ h. elim ((law.number_5 p).0 h) [ inl w ↦ w | inr w ↦ absurd w.2.0 ], λ h. (law.number_5 p).1 (inl h));
      no_other = law.no_other;
      accepted = λ r. (λ h. let c = (law.accepted r).0 h in (c.0, c.1, c.2), λ h. (law.accepted r).1 (h.0, h.1, h.2, λ p w. w));
    }
  where
    law : Staged (length xs) (response_at xs) (Short xs) (OfKind 2 xs) (length xs ≡ 10) (WrongResponse t xs) (λ _. ⊥) (response_of t xs)
    law =
        staged (length xs) (response_at xs) (Short xs) (OfKind 2 xs) (length xs ≡ 10) (WrongResponse t xs) (λ _. ⊥)
        (leb 10 (length xs)) (eqb (get_or xs 0 0) 2) (eqb (length xs) 10) _ (Ok (response_at xs))
        (is-short xs) (Decides-eqb (get_or xs 0 0) 2) (Decides-eqb (length xs) 10)
        (by-fields t xs (cond (eqb (length xs) 10) (Ok (response_at xs)) (Err (Length (length xs))))) (λ _. inl (refl, λ p w. w))

pub answered : (t : Terms) (xs : List ℕ) (r : Result Response PacketFault) → r ≡ response_of t xs
    → record { value : r ≡ response_of t xs; refusals : ResponseRefusals t xs r }
answered t xs r e = record { value = e; refusals = rw e (response-refusals t xs) }
