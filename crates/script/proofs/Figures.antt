-- A figure is read as it was written.
use Rattle.std.proofs.Common.{◌≡◌, ℕ, zero, suc, ◌+◌, ◌-◌, ◌*◌, ◌/◌, ◌%◌, ◌<◌, ◌≤◌, false, eqb, leb, List, [], ◌∷◌, ◌++◌, get_or, Some, None, decimal, sym, refl, ap, ◌∙◌, append_assoc, arith}
use Rattle.std.proofs.lemmas.Fmt.{decimal_digit, decimal_by_steps}
use Rattle.std.proofs.lemmas.Bool.{cond-true, cond-false, ne_eqb, le-leb, and_from}
use Rattle.script.specs.Words.{read_on, is_digit, figure_from, figure_of, up_to, figure_to, next_figure}
use Rattle.script.specs.Written.{item_before}
use Rattle.script.proofs.Reading.{digit-more}

stops : (value : ℕ) (rest : List ℕ) → is_digit (get_or rest 0 0) ≡ false → figure_from value rest ≡ Some (value, rest)
stops value [] e = refl
stops value (x ∷ rest) e = cond-false (is_digit x) _ _ e

-- Once these digits are read, the figure is n.
abbrev After : ℕ → List ℕ → Type 0
After n digits = (rest : List ℕ) → 0 < n → n ≤ 4294967295 → figure_of (digits ++ rest) ≡ figure_from n rest

after_one : (n : ℕ) → n < 10 → After n ((48 + n) ∷ [])
unfolding figure_of
after_one n h rest some fits =
    let same : 48 + n - 48 ≡ n = omega arith in
    cond-false (eqb (48 + n) 48) _ _ (ne_eqb (48 + n) 48 (λ e. omega arith))
    ∙ cond-true (is_digit (48 + n)) _ _ (and_from _ _ (le-leb 48 (48 + n) (omega arith)) (le-leb (48 + n) 57 (omega arith)))
    ∙ ap (λ k. figure_from k rest) same

after_more : (n : ℕ) (digits : List ℕ) → 10 ≤ n → After (n / 10) digits → After n (digits ++ ((48 + n % 10) ∷ []))
after_more n digits h before rest some fits =
    let whole : 10 * (n / 10) + (48 + n % 10 - 48) ≡ n = omega arith in
    ap figure_of (append_assoc digits ((48 + n % 10) ∷ []) rest)
    ∙ before ((48 + n % 10) ∷ rest) (omega arith) (omega arith)
    ∙ sym (digit-more (n / 10) ((48 + n % 10) ∷ rest) (omega arith) (omega arith) (omega arith))
    ∙ ap (λ k. figure_from k rest) whole

pub figure-back : (n : ℕ) (rest : List ℕ) → n ≤ 4294967295 → is_digit (get_or rest 0 0) ≡ false → figure_of (decimal n ++ rest) ≡ Some (n, rest)
unfolding figure_of
figure-back zero rest fits stop = ap (λ l. figure_of (l ++ rest)) (decimal_digit 0 (omega arith))
figure-back (suc m) rest fits stop =
    decimal_by_steps After after_one after_more (suc m) (omega arith) rest (omega arith) fits ∙ stops (suc m) rest stop

pub figure-to-back : (most n : ℕ) (rest : List ℕ) → n ≤ most → n ≤ 4294967295 → is_digit (get_or rest 0 0) ≡ false → figure_to most (decimal n ++ rest) ≡ Some (n, rest)
figure-to-back most n rest up fits stop =
    ap (λ o. read_on o (up_to most)) (figure-back n rest fits stop) ∙ cond-true (leb n most) (Some (n, rest)) None (le-leb n most up)

pub next-back : (most n : ℕ) (rest : List ℕ) → n ≤ most → n ≤ 4294967295 → is_digit (get_or rest 0 0) ≡ false → next_figure most (item_before n rest) ≡ Some (n, rest)
next-back most n rest up fits stop = figure-to-back most n rest up fits stop
