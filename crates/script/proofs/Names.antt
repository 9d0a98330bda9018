-- A line that names one of two.
use Rattle.std.proofs.Common.{◌≡◌, ◌≢◌, ℕ, true, ltb, cond, List, [], ◌∷◌, ◌++◌, Some, None, Ok, Err, Option, Result, IsErr, MatchResult, Bor, codes, sym, refl, subst, ap, ◌∙◌}
use borrow.Author.Tests.{ltb-true}
use Rattle.std.proofs.lemmas.Bool.{cond_both, false≢true, and_parts}
use Rattle.std.proofs.lemmas.List.{append_cancel_left, append_cancel_right}
use Rattle.std.proofs.lemmas.Option.{same_Some}
use Rattle.std.proofs.lemmas.Slice.Eq.{bytes_eq-Decides}
use Rattle.std.proofs.lemmas.Str.{IsUtf8-from_ascii}
use Rattle.std.proofs.lemmas.Str.Ascii.{IsAscii-nil, IsAscii-cons}
use Rattle.std.specs.List.{list_all}
use Rattle.std.specs.Result.{result_ok}
use Rattle.std.specs.Str.{bytes_eq, IsAscii, IsUtf8}
use Rattle.script.specs.Words.{ReadsNamed}

abbrev pub closing : List ℕ
closing = codes ")" ++ (10 ∷ [])

same-name : (word a b : List ℕ) → word ++ (a ++ closing) ≡ word ++ (b ++ closing) → a ≡ b
same-name word a b e = append_cancel_right a b closing (append_cancel_left word (a ++ closing) (b ++ closing) e)

-- What the code finds at each step.

module _ {T E : Type 0} (gives : List ℕ → Result T E → Type 0) (word line : List ℕ) where
  pub no-word : ((rest : List ℕ) → line ≢ word ++ rest) → ReadsNamed gives word line None
  no-word h = record { read = λ x e. cc; none = λ e name utf k. absurd (h (name ++ closing) k) }

  pub no-text : (rest name : List ℕ) → line ≡ word ++ rest → rest ≡ name ++ closing → ¬ (IsUtf8 name) → ReadsNamed gives word line None
  no-text rest name p q h =
      record {
        read = λ x e. cc;
        none = λ e other utf k. absurd (h (subst (λ n. IsUtf8 n) (same-name word other name (sym k ∙ p ∙ ap (λ l. word ++ l) q)) utf));
      }

  pub named-as : (rest name : List ℕ) (r : Result T E) → line ≡ word ++ rest → rest ≡ name ++ closing → gives name r → ReadsNamed gives word line (result_ok r)
  named-as rest name (Ok x) p q h =
      record {
        read = λ y e. (name, p ∙ ap (λ l. word ++ l) q, subst (λ z. gives name (Ok z)) (same_Some _ _ e) h);
        none = λ e other utf k. cc;
      }
  named-as rest name (Err error) p q h =
      record {
        read = λ y e. cc;
        none = λ e other utf k. (error, subst (λ n. gives n (Err error)) (sym (same-name word other name (sym k ∙ p ∙ ap (λ l. word ++ l) q))) h);
      }

-- Whether octets are a text.

pub text-refused : {S F : Type 0} (P : S → Type 0) (Q : Type 0) (R : F → Type 0) (u : Result S F) → None ≡ result_ok u → MatchResult u P (λ e. Q × R e) → Q
text-refused P Q R (Ok s) e h = cc
text-refused P Q R (Err f) e h = h.0

pub text-read : {F : Type 0} (name : List ℕ) (Q : Type 0) (R : F → Type 0) (s : Bor (List ℕ)) (u : Result (Bor (List ℕ)) F)
    → Some s ≡ result_ok u → MatchResult u (λ t. (t.now ≡ name) × Q) R → s.now ≡ name
text-read name Q R s (Ok t) e h = ap (λ x. x.now) (same_Some _ _ e) ∙ h.0
text-read name Q R s (Err f) e h = cc

plain-text : (word : List ℕ) → list_all (λ b. ltb b 128) word ≡ true → IsAscii word
plain-text [] e = IsAscii-nil
plain-text (b ∷ word) e =
    let both = and_parts (ltb b 128) (list_all (λ b. ltb b 128) word) e in
    IsAscii-cons b word (ltb-true b 128 both.0) (plain-text word both.1)

-- The words that name two things, and no other.
pub record NamesTwo {T E : Type 0} (gives : List ℕ → Result T E → Type 0) (one two : List ℕ) (a b : T) : Type 0 where
  pub first : (r : Result T E) → gives one r → r ≡ Ok a
  pub second : (r : Result T E) → gives two r → r ≡ Ok b
  pub others : (name : List ℕ) (r : Result T E) → gives name r → name ≢ one → name ≢ two → IsErr r

module _ {T E : Type 0} (gives : List ℕ → Result T E → Type 0) (one two word line : List ℕ) (a b : T) (names : NamesTwo gives one two a b) where
  abbrev line-of : List ℕ → List ℕ
  line-of name = word ++ (name ++ closing)

  is-first : (r : Option T) → ReadsNamed gives word line r → IsUtf8 one → line ≡ line-of one → r ≡ Some a
  is-first None h utf e = let w = h.none refl one utf e in let no : Err w.0 ≡ Ok a = names.first (Err w.0) w.1 in cc
  is-first (Some x) h utf e =
      let w = h.read x refl in
      let same : Ok x ≡ Ok a = names.first (Ok x) (subst (λ n. gives n (Ok x)) (same-name word w.0 one (sym w.1 ∙ e)) w.2) in cc

  is-second : (r : Option T) → ReadsNamed gives word line r → IsUtf8 two → line ≡ line-of two → r ≡ Some b
  is-second None h utf e = let w = h.none refl two utf e in let no : Err w.0 ≡ Ok b = names.second (Err w.0) w.1 in cc
  is-second (Some x) h utf e =
      let w = h.read x refl in
      let same : Ok x ≡ Ok b = names.second (Ok x) (subst (λ n. gives n (Ok x)) (same-name word w.0 two (sym w.1 ∙ e)) w.2) in cc

  is-neither : (r : Option T) → ReadsNamed gives word line r → line ≢ line-of one → line ≢ line-of two → r ≡ None
  is-neither None h n1 n2 = refl
  is-neither (Some x) h n1 n2 =
      let w = h.read x refl in
      absurd (false≢true (names.others w.0 (Ok x) w.2 (λ e. n1 (w.1 ∙ ap line-of e)) (λ e. n2 (w.1 ∙ ap line-of e))))

  pub named-two : (r : Option T) → ReadsNamed gives word line r → list_all (λ b. ltb b 128) one ≡ true → list_all (λ b. ltb b 128) two ≡ true
      → r ≡ cond (bytes_eq line (line-of one)) (Some a) (cond (bytes_eq line (line-of two)) (Some b) None)
  named-two r h plain1 plain2 =
      let utf1 = IsUtf8-from_ascii one (plain-text one plain1) in
      let utf2 = IsUtf8-from_ascii two (plain-text two plain2) in
      let d1 = bytes_eq-Decides line (line-of one) in
      let d2 = bytes_eq-Decides line (line-of two) in
      cond_both (bytes_eq line (line-of one)) (Some a) _ (λ o. r ≡ o) (λ e. is-first r h utf1 (d1.0 e))
      (λ f. cond_both (bytes_eq line (line-of two)) (Some b) None (λ o. r ≡ o) (λ e. is-second r h utf2 (d2.0 e))
      (λ k. is-neither r h (λ e. false≢true (sym f ∙ d1.1 e)) (λ e. false≢true (sym k ∙ d2.1 e))))
