-- The rows of a packet that is heard.
use Rattle.std.proofs.Common.{◌≡◌, ℕ, Bool, true, false, not, List, sym, refl, ap, ◌∙◌, arith, rules, tests}
use Rattle.std.proofs.lemmas.Bool.{eq-eqb, cond-true, cond-false}
use Rattle.std.proofs.lemmas.Bool.Decides.{nat_tests}
use Rattle.fragment.specs.Carriers.{Terms}
use Rattle.packet.specs.declared.values.Header.{Header}
use Rattle.receiver.specs.declared.state.Phase.{Phase}
use Rattle.receiver.specs.declared.state.Phase.TheVariants.{Idle, Collecting, Waiting, Done}
use Rattle.receiver.specs.declared.state.State.{State}
use Rattle.receiver.specs.Rows.{Row, same, acknowledged, wanted, lost, filling, gathering, blocks_anew, both_anew, stray, full_row, selective_row, row_of, event_of}
use Rattle.receiver.specs.Fill.{done_by, heard_of}
use Rattle.receiver.specs.Laws.{Expects, ExpectsSelective, PacketRows}

pub same-is : (a b : Bool) → same a b ≡ true → a ≡ b
same-is true true e = refl
same-is true false e = sym e
same-is false true e = e
same-is false false e = refl

pub is_same : (a b : Bool) → a ≡ b → same a b ≡ true
is_same true b e = sym e
is_same false b e = ap not (sym e)

-- A packet that a phase does not expect.
lost-full : (s : State) (h : Header) (p : Phase) → (Expects p h → ⊥) → full_row s h p ≡ lost s
lost-full s h Idle none = refl
lost-full s h (Collecting g) none = grind (arith, nat_tests)
lost-full s h (Waiting v) none = grind (arith, nat_tests)
lost-full s h Done none = grind (arith, nat_tests)

stray-selective : (s : State) (h : Header) (p : Phase) → (ExpectsSelective p h → ⊥) → selective_row s h p ≡ stray s h
stray-selective s h Idle none = refl
stray-selective s h (Collecting g) none = grind (arith, nat_tests, same-is)
stray-selective s h (Waiting v) none = grind (arith, nat_tests)
stray-selective s h Done none = grind (arith, nat_tests)

module _ (t : Terms) (number : List ℕ → ℕ) (s : State) (store : List ℕ) (h : Header) (xs : List ℕ) where
  row_is : (r : Row) → row_of s (event_of h) ≡ r → heard_of t number s store h xs ≡ done_by t number h xs store r.state r.act
  row_is r e = ap (λ (x : Row). done_by t number h xs store x.state x.act) e

  pub packet-rows : PacketRows t number s store h xs
  packet-rows =
      record {
        full_start = λ sel st. row_is (filling (both_anew s) (gathering true h)) (search (rules, tests));
        full_same = λ sel st g e n f k p. row_is (filling s (gathering false h)) (search (rules, tests));
        full_other = λ sel st g e n f none. row_is (filling (blocks_anew s) (gathering false h)) (grind (arith, nat_tests));
        full_again = λ sel st e. row_is (acknowledged s) (search (rules, tests));
        full_done = λ sel st e z. row_is (acknowledged s) (search (rules, tests));
        full_next = λ sel st e. row_is (filling (blocks_anew s) (gathering false h)) (search (rules, tests));
        full_unexpected = λ sel st none. row_is (lost s) (rw (sel, st) (lost-full s h s.phase none));
        selective_same = λ sel g e n b. row_is (filling s g) (rw (sel, e, eq-eqb _ _ n, is_same _ _ b));
        selective_again = λ sel e. row_is (acknowledged s) (search (rules, tests));
        selective_done = λ sel e z. row_is (acknowledged s) (search (rules, tests));
        selective_start = λ sel st none. row_is (wanted s) (rw sel (stray-selective s h s.phase none ∙ cond-true h.start _ _ st));
        selective_unexpected = λ sel st none. row_is (lost s) (rw sel (stray-selective s h s.phase none ∙ cond-false h.start _ _ st));
      }
