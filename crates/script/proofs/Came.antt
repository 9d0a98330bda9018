-- What a reading that came to something says of the text.
use Rattle.std.proofs.Common.{◌≡◌, ℕ, ◌+◌, ◌-◌, ◌*◌, ◌/◌, ◌%◌, ◌<◌, ◌≤◌, Bool, true, false, cond, eqb, leb, ◌⊎◌, List, [], ◌∷◌, ◌++◌, Some, None, codes, decimal, Option, sym, refl, ap, ◌∙◌, subst, inl, inr, append_assoc, arith}
use Rattle.std.proofs.lemmas.Option.{same_Some, none-some}
use Rattle.std.proofs.lemmas.Fmt.{decimal_digit, decimal_step}
use Rattle.std.proofs.lemmas.Slice.Eq.{bytes_eq-Decides}
use Rattle.std.proofs.lemmas.Bool.{and_parts, eqb-true, eqb-false, leb-true}
use Rattle.script.specs.Words.{read_on, if_there, found, past, after, optional, is_digit, figure_from, figure_of, up_to, figure_to, next_figure, closed, is_end}
use Rattle.script.specs.Written.{line_end, item_before, word_before}

-- Steps of a reading

pub read-on : {X Y : Type 0} (o : Option X) (next : X → Option Y) (y : Y) → read_on o next ≡ Some y → (x : X) × (o ≡ Some x) × (next x ≡ Some y)
read-on None next y e = absurd (none-some _ e)
read-on (Some x) next y e = (x, refl, e)

pub if-there : {X : Type 0} (o : Option (List ℕ)) (x : X) (next : List ℕ → Option X) (y : X) → if_there o x next ≡ Some y
    → ((o ≡ None) × (x ≡ y)) ⊎ ((rest : List ℕ) × (o ≡ Some rest) × (next rest ≡ Some y))
if-there None x next y e = inl (refl, same_Some _ _ e)
if-there (Some rest) x next y e = inr (rest, refl, e)

pub by-test : {X : Type 0} (b : Bool) (x y z : X) → cond b x y ≡ z → ((b ≡ true) × (x ≡ z)) ⊎ ((b ≡ false) × (y ≡ z))
by-test true x y z e = inl (refl, e)
by-test false x y z e = inr (refl, e)

pub kept-only : {X : Type 0} (b : Bool) (o : Option X) (z : X) → cond b o None ≡ Some z → (b ≡ true) × (o ≡ Some z)
kept-only true o z e = (refl, e)
kept-only false o z e = absurd (none-some _ e)

pub not_none : {X : Type 0} (b : Bool) (o : Option X) (z : X) → cond b None o ≡ Some z → (b ≡ false) × (o ≡ Some z)
not_none true o z e = absurd (none-some _ e)
not_none false o z e = (refl, e)

-- Words

pub past-only : (word text rest : List ℕ) → past word text ≡ Some rest → text ≡ word ++ rest
past-only [] text rest e = same_Some _ _ e
past-only (c ∷ word) [] rest e = absurd (none-some _ e)
past-only (c ∷ word) (x ∷ text) rest e =
    let p = kept-only (eqb x c) (past word text) rest e in
    ap (λ y. y ∷ text) (eqb-true x c p.0) ∙ ap (λ l. c ∷ l) (past-only word text rest p.1)

optional-of : (word text : List ℕ) (o : Option (List ℕ)) → past word text ≡ o → text ≡ word_before (optional o text).0 word (optional o text).1
optional-of word text None e = refl
optional-of word text (Some rest) e = past-only word text rest e

pub optional-only : (word text : List ℕ) → text ≡ word_before (optional (past word text) text).0 word (optional (past word text) text).1
optional-only word text = optional-of word text (past word text) refl

pub after-only : {X : Type 0} (word : List ℕ) (gives : List ℕ → Option (X × List ℕ)) (text : List ℕ) (p : Option X × List ℕ) → after word gives text ≡ Some p
    → ((None, text) ≡ p) ⊎ ((rest : List ℕ) × (q : X × List ℕ) × (text ≡ word ++ rest) × (gives rest ≡ Some q) × ((Some q.0, q.1) ≡ p))
after-only word gives text p e =
    elim (if-there (past word text) (None, text) (λ rest. read_on (gives rest) found) p e) [
      | inl n ↦ inl n.1
      | inr s ↦ (let a = read-on (gives s.0) found p s.2 in inr (s.0, a.0, past-only word text s.0 s.1, a.1, same_Some _ _ a.2))
    ]

pub closed-only : {X : Type 0} (p q : X × List ℕ) → closed p ≡ Some q → (p.0 ≡ q.0) × (p.1 ≡ codes ")" ++ q.1)
closed-only p q e =
    let r = read-on (past (codes ")") p.1) (λ rest. Some (p.0, rest)) q e in
    let same : (p.0, r.0) ≡ q = same_Some _ _ r.2 in
    (ap (λ s. s.0) same, past-only (codes ")") p.1 r.0 r.1 ∙ ap (λ s. codes ")" ++ s.1) same)

pub end-only : (text : List ℕ) → is_end text ≡ true → text ≡ line_end
end-only text e = (bytes_eq-Decides text line_end).0 e

-- Figures

abbrev FigureIs : ℕ → List ℕ → ℕ × List ℕ → Type 0
FigureIs most text p = (text ≡ decimal p.0 ++ p.1) × (p.0 ≤ most)

digits-end : (value : ℕ) (text : List ℕ) (p : ℕ × List ℕ) → value ≤ 4294967295 → Some (value, text) ≡ Some p → FigureIs 4294967295 (decimal value ++ text) p
digits-end value text p fits e = subst (λ (q : ℕ × List ℕ). FigureIs 4294967295 (decimal value ++ text) q) (same_Some _ _ e) (refl, fits)

digit-end : (value x : ℕ) → 0 < value → 48 ≤ x → x ≤ 57 → 10 * value + (x - 48) ≤ 4294967295 → decimal (10 * value + (x - 48)) ≡ decimal value ++ (x ∷ [])
digit-end value x some low high fits =
    let front : (10 * value + (x - 48)) / 10 ≡ value = omega arith in
    let end : 48 + (10 * value + (x - 48)) % 10 ≡ x = omega arith in
    decimal_step (10 * value + (x - 48)) (omega arith) (omega arith)
    ∙ ap (λ n. decimal n ++ ((48 + (10 * value + (x - 48)) % 10) ∷ [])) front ∙ ap (λ y. decimal value ++ (y ∷ [])) end

digits-only : (value : ℕ) (text : List ℕ) (p : ℕ × List ℕ) → 0 < value → value ≤ 4294967295 → figure_from value text ≡ Some p
    → FigureIs 4294967295 (decimal value ++ text) p
digits-only value [] p some fits e = digits-end value [] p fits e
digits-only value (x ∷ text) p some fits e =
    elim (by-test (is_digit x) (cond (leb (10 * value + (x - 48)) 4294967295) (figure_from (10 * value + (x - 48)) text) None) (Some (value, x ∷ text)) (Some p) e) [
      | inl d ↦
          (let digit = and_parts (leb 48 x) (leb x 57) d.0 in
          let low = leb-true 48 x digit.0 in
          let high = leb-true x 57 digit.1 in
          let k = kept-only (leb (10 * value + (x - 48)) 4294967295) (figure_from (10 * value + (x - 48)) text) p d.1 in
          let small = leb-true (10 * value + (x - 48)) 4294967295 k.0 in
          let more = digits-only (10 * value + (x - 48)) text p (omega arith) small k.1 in
          (sym (append_assoc (decimal value) (x ∷ []) text) ∙ ap (λ l. l ++ text) (sym (digit-end value x some low high small)) ∙ more.0, more.1))
      | inr d ↦ digits-end value (x ∷ text) p fits d.1
    ]

zero-only : (x : ℕ) (text : List ℕ) (p : ℕ × List ℕ) → x ≡ 48 → Some (0, text) ≡ Some p → FigureIs 4294967295 (x ∷ text) p
zero-only x text p h e =
    let front : x ∷ text ≡ decimal 0 ++ text = ap (λ y. y ∷ text) h ∙ ap (λ l. l ++ text) (sym (decimal_digit 0 (omega arith))) in
    subst (λ (q : ℕ × List ℕ). FigureIs 4294967295 (x ∷ text) q) (same_Some _ _ e) (front, omega arith)

first-only : (x : ℕ) (text : List ℕ) (p : ℕ × List ℕ) → (x ≡ 48 → ⊥) → 48 ≤ x → x ≤ 57 → figure_from (x - 48) text ≡ Some p → FigureIs 4294967295 (x ∷ text) p
first-only x text p ne low high e =
    let back : 48 + (x - 48) ≡ x = omega arith in
    let front : x ∷ text ≡ decimal (x - 48) ++ text =
    ap (λ y. y ∷ text) (sym back) ∙ ap (λ l. l ++ text) (sym (decimal_digit (x - 48) (omega arith))) in
    let more = digits-only (x - 48) text p (omega arith) (omega arith) e in
    (front ∙ more.0, more.1)

pub figure-only : (text : List ℕ) (p : ℕ × List ℕ) → figure_of text ≡ Some p → FigureIs 4294967295 text p
unfolding figure_of
figure-only [] p e = absurd (none-some _ e)
figure-only (x ∷ text) p e =
    elim (by-test (eqb x 48) (Some (0, text)) (cond (is_digit x) (figure_from (x - 48) text) None) (Some p) e) [
      | inl d ↦ zero-only x text p (eqb-true x 48 d.0) d.1
      | inr d ↦
          (let k = kept-only (is_digit x) (figure_from (x - 48) text) p d.1 in
          let digit = and_parts (leb 48 x) (leb x 57) k.0 in
          first-only x text p (eqb-false x 48 d.0) (leb-true 48 x digit.0) (leb-true x 57 digit.1) k.1)
    ]

pub figure-to-only : (most : ℕ) (text : List ℕ) (p : ℕ × List ℕ) → figure_to most text ≡ Some p → FigureIs most text p
figure-to-only most text p e =
    let r = read-on (figure_of text) (up_to most) p e in
    let k = kept-only (leb r.0.0 most) (Some r.0) p r.2 in
    let f = figure-only text r.0 r.1 in
    subst (λ (q : ℕ × List ℕ). FigureIs most text q) (same_Some _ _ k.1) (f.0, leb-true r.0.0 most k.0)

pub figure-most : (most : ℕ) (text : List ℕ) (n : ℕ) (rest : List ℕ) → Some (n, rest) ≡ figure_to most text → n ≤ most
figure-most most text n rest e = (figure-to-only most text (n, rest) (sym e)).1

pub next-only : (most : ℕ) (text : List ℕ) (p : ℕ × List ℕ) → next_figure most text ≡ Some p → (text ≡ item_before p.0 p.1) × (p.0 ≤ most)
next-only most text p e =
    let r = read-on (past (codes " ") text) (figure_to most) p e in
    let f = figure-to-only most r.0 p r.2 in
    (past-only (codes " ") text r.0 r.1 ∙ ap (λ l. codes " " ++ l) f.0, f.1)
