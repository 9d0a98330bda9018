-- What is read at the front of a text.
use Rattle.std.proofs.Common.{◌≡◌, ℕ, ◌+◌, ◌-◌, ◌*◌, ◌<◌, ◌≤◌, eqb, leb, List, [], ◌∷◌, ◌++◌, length, get_or, take, drop, Some, None, Option, sym, refl, ap, ◌∙◌, arith, Bor, MatchOption}
use Rattle.std.proofs.lemmas.List.{take_rest}
use Rattle.std.proofs.lemmas.Bool.{cond-true, cond-false, cond_both, eqb-true, eq-eqb, ne_eqb, le-leb, lt-leb, and_from}
use Rattle.std.specs.Option.{option_map}
use Rattle.script.specs.Words.{past, read_on, is_digit, figure_from, figure_of, up_to, figure_to}

past-behind : (word rest : List ℕ) → past word (word ++ rest) ≡ Some rest
past-behind [] rest = refl
past-behind (c ∷ word) rest = cond-true (eqb c c) _ _ (eq-eqb c c refl) ∙ past-behind word rest

past-none : (word text : List ℕ) → ((rest : List ℕ) → text ≡ word ++ rest → ⊥) → past word text ≡ None
past-none [] text h = absurd (h text refl)
past-none (c ∷ word) [] h = refl
past-none (c ∷ word) (x ∷ text) h =
    cond_both (eqb x c) (past word text) None (λ o. o ≡ None)
    (λ e. past-none word text (λ rest q. h rest (ap (λ l. x ∷ l) q ∙ ap (λ y. y ∷ (word ++ rest)) (eqb-true x c e))))
    (λ e. refl)

-- What a word's search on slices says.
pub past_is : (r : Option (Bor (List ℕ))) (word text : List ℕ)
    → MatchOption r ((rest : List ℕ) → text ≡ word ++ rest → ⊥) (λ x. text ≡ word ++ x.now) → option_map (λ x. x.now) r ≡ past word text
past_is None word text h = sym (past-none word text h)
past_is (Some x) word text h = sym (ap (past word) h ∙ past-behind word x.now)

-- One digit more.
pub digit-more : (value : ℕ) (text : List ℕ) → 48 ≤ get_or text 0 0 → get_or text 0 0 ≤ 57 → 10 * value + (get_or text 0 0 - 48) ≤ 4294967295
    → figure_from (10 * value + (get_or text 0 0 - 48)) (drop 1 text) ≡ figure_from value text
digit-more value [] low high fits = absurd (omega arith)
digit-more value (x ∷ text) low high fits =
    sym (cond-true (is_digit x) _ _ (and_from _ _ (le-leb 48 x low) (le-leb x 57 high)) ∙ cond-true (leb _ 4294967295) _ _ (le-leb _ 4294967295 fits))

-- What stands behind the first octet, as the code cuts it.

pub zero-figure : (text : List ℕ) → get_or text 0 0 ≡ 48 → Some (0, take (length text - 1) (drop 1 text)) ≡ figure_of text
unfolding figure_of
zero-figure text e =
    ap (λ rest. Some (0, rest)) (take_rest text 1) ∙ sym (cond-true (eqb (get_or text 0 0) 48) _ _ (eq-eqb (get_or text 0 0) 48 e))

pub first-figure : (text : List ℕ) → 49 ≤ get_or text 0 0 → get_or text 0 0 ≤ 57
    → figure_from (get_or text 0 0 - 48) (take (length text - 1) (drop 1 text)) ≡ figure_of text
unfolding figure_of
first-figure text low high =
    ap (figure_from (get_or text 0 0 - 48)) (take_rest text 1)
    ∙ sym (cond-false (eqb (get_or text 0 0) 48) _ _ (ne_eqb (get_or text 0 0) 48 (λ e. omega arith))
    ∙ cond-true (is_digit (get_or text 0 0)) _ _ (and_from _ _ (le-leb 48 (get_or text 0 0) (omega arith)) (le-leb (get_or text 0 0) 57 high)))

-- A figure that is compared with the greatest.

pub small-fits : (most value : ℕ) (text rest : List ℕ) → Some (value, rest) ≡ figure_of text → value ≤ most → Some (value, rest) ≡ figure_to most text
small-fits most value text rest e h =
    sym (ap (λ o. read_on o (up_to most)) (sym e) ∙ cond-true (leb value most) (Some (value, rest)) None (le-leb value most h))

pub small-over : (most value : ℕ) (text rest : List ℕ) → Some (value, rest) ≡ figure_of text → most < value → None ≡ figure_to most text
small-over most value text rest e h =
    sym (ap (λ o. read_on o (up_to most)) (sym e) ∙ cond-false (leb value most) (Some (value, rest)) None (lt-leb value most h))
