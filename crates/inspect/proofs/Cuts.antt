-- The first line of a text, and the lines after it.
use Rattle.std.proofs.Common.{◌≡◌, ℕ, zero, suc, ◌+◌, ◌-◌, ◌<◌, eqb, List, [], ◌∷◌, length, get_or, take, drop, ap, ◌∙◌, suc-le-suc, zero-le, add-one, arith}
use Rattle.std.proofs.lemmas.List.{take_rest}
use Rattle.std.proofs.lemmas.Bool.{cond-true, cond-false, eq-eqb, ne_eqb}
use Rattle.std.specs.List.{onto_first}
use Rattle.inspect.specs.Lines.{lines_of}

-- A text is the line before its first line feed, and the lines behind that.
cut_at : (text : List ℕ) (end : ℕ) → end < length text
    → ((k : ℕ) → k < end → get_or text k 0 ≡ 10 → ⊥) → get_or text end 0 ≡ 10
    → lines_of text ≡ take end text ∷ lines_of (drop (suc end) text)
cut_at [] end within before found = absurd (omega arith)
cut_at (x ∷ xs) zero within before found = cond-true (eqb x 10) _ _ (eq-eqb x 10 found)
cut_at (x ∷ xs) (suc end) within before found =
    cond-false (eqb x 10) _ _ (ne_eqb x 10 (before 0 (suc-le-suc zero-le)))
    ∙ ap (onto_first x) (cut_at xs end (let w = within in omega arith) (λ k h. before (suc k) (suc-le-suc h)) found)

-- The same, as the code cuts it.
pub first_line : (text : List ℕ) (end : ℕ) → end < length text
    → ((k : ℕ) → k < end → get_or text k 0 ≡ 10 → ⊥) → get_or text end 0 ≡ 10
    → lines_of text ≡ take end text ∷ lines_of (take (length text - (end + 1)) (drop (end + 1) text))
first_line text end within before found = rw (take_rest, add-one) (cut_at text end within before found)

-- A text with no line feed is one line.
pub only_line : (text : List ℕ) → 0 < length text → ((k : ℕ) → k < length text → get_or text k 0 ≡ 10 → ⊥) → lines_of text ≡ text ∷ []
only_line [] some none = absurd (omega arith)
only_line (x ∷ []) some none = cond-false (eqb x 10) _ _ (ne_eqb x 10 (none 0 (suc-le-suc zero-le)))
only_line (x ∷ (y ∷ ys)) some none =
    cond-false (eqb x 10) _ _ (ne_eqb x 10 (none 0 (suc-le-suc zero-le)))
    ∙ ap (onto_first x) (only_line (y ∷ ys) (suc-le-suc zero-le) (λ k h. none (suc k) (suc-le-suc h)))
