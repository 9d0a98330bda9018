-- The lines of a text, taken off its front one by one.
use Rattle.std.proofs.Common.{◌≡◌, ℕ, zero, suc, ◌+◌, ◌<◌, ◌≤◌, min, Bool, eqb, List, [], ◌∷◌, ◌++◌, length, get_or, drop, Some, None, Option, Bor, MatchOption, Result, sym, refl, ap, subst, ◌∙◌, arith}
use Rattle.std.proofs.lemmas.Bool.{cond-true, cond-false, cond_both}
use Rattle.std.proofs.lemmas.Fn.{always_returns_same}
use Rattle.std.proofs.lemmas.Iterator.{YieldsList}
use Rattle.std.proofs.lemmas.Iterator.Splits.{YieldsList-from_shown_while}
use Rattle.std.proofs.lemmas.Iterator.Consumers.{YieldsList-from_enumerate}
use Rattle.std.proofs.lemmas.List.{nil_from_length, drop-drop, get_or-drop}
use Rattle.std.specs.Fn.{ComputesKey, CalledAt}
use Rattle.std.specs.Iterator.Adapters.{enumerate_source, enumerate_count, enumerate_steps}
use Rattle.std.specs.List.{IsFirstMatchOrLen, enumerate_from}
use Rattle.std.specs.Option.{UnwrapsOrElse}
use Rattle.std.specs.Slice.Iter.{split_inclusive_rest, split_inclusive_callee}
use Rattle.std.specs.declared.iter.Enumerate.{Enumerate}
use Rattle.std.specs.declared.slice.SplitInclusive.{SplitInclusive}
use denote.Param.Members.{Mut}
use Rattle.packet.specs.Reading.{and_then}
use Rattle.tell.specs.declared.faults.Refused.{Refused}
use Rattle.script.specs.declared.values.Head.{Head}
use Rattle.script.specs.Lines.{onto, lines_of}
use Rattle.script.specs.Scripts.{head_of, body_of, plan_in}

abbrev feed : ℕ → Bool
feed x = eqb x 10

first-line : (line more : List ℕ) (i : ℕ) → length line ≡ min (i + 1) (length (line ++ more)) → 0 < length (line ++ more) → IsFirstMatchOrLen feed (line ++ more) i
    → lines_of (line ++ more) ≡ line ∷ lines_of more
first-line [] more i long some h = absurd (omega arith)
first-line (x ∷ []) more zero long some h = cond-true (eqb x 10) _ _ (h.1 (omega arith) 0)
first-line (x ∷ []) [] (suc i) long some h =
    cond_both (eqb x 10) ((x ∷ []) ∷ []) ((x ∷ []) ∷ []) (λ l. l ≡ (x ∷ []) ∷ []) (λ e. refl) (λ e. refl)
first-line (x ∷ []) (y ∷ more) (suc i) long some h = absurd (omega arith)
first-line (x ∷ (y ∷ line)) more zero long some h = absurd (omega arith)
first-line (x ∷ (y ∷ line)) more (suc i) long some h =
    cond-false (eqb x 10) _ _ (h.0 0 0 (omega arith) (omega arith))
    ∙ ap (onto x) (first-line (y ∷ line) more i (omega arith) (omega arith) (
      (λ k d low below. h.0 (suc k) d (omega arith) (omega arith)),
      λ within d. h.1 (omega arith) d,
    ))

-- There are no more lines than octets.

onto-length : (x : ℕ) (ls : List (List ℕ)) → length (onto x ls) ≤ suc (length ls)
onto-length x [] = omega arith
onto-length x (line ∷ ls) = omega arith

pub lines-few : (text : List ℕ) → length (lines_of text) ≤ length text
lines-few [] = omega arith
lines-few (x ∷ text) =
    let few = lines-few text in
    let one = onto-length x (lines_of text) in
    cond_both (eqb x 10) ((x ∷ []) ∷ lines_of text) (onto x (lines_of text)) (λ l. length l ≤ suc (length text)) (λ e. omega arith) (λ e. omega arith)

module _ {F : Type 0} (g : Mut F (Bor ℕ × Unit {0}) Bool) where
  abbrev Steps : SplitInclusive ℕ F → Option (Bor (List ℕ)) → SplitInclusive ℕ F → Type 0
  Steps s r t = MatchOption r ((length (split_inclusive_rest s) ≡ 0) × (t ≡ s))
      (λ x. (split_inclusive_rest s ≡ x.now ++ split_inclusive_rest t)
      × ((i : ℕ) × (length x.now ≡ min (i + 1) (length (split_inclusive_rest s)))
      × ((p : ℕ → Bool) → ComputesKey g p (split_inclusive_callee s) → ComputesKey g p (split_inclusive_callee t) × IsFirstMatchOrLen p (split_inclusive_rest s) i))
      × (0 < length (split_inclusive_rest s)))

  -- The lines are cut at line feeds.
  abbrev pub Cuts : SplitInclusive ℕ F → Type 0
  Cuts s = ComputesKey g feed (split_inclusive_callee s)

  abbrev pub left : SplitInclusive ℕ F → List (List ℕ)
  left s = lines_of (split_inclusive_rest s)

  cuts-from : (f : F) (s : SplitInclusive ℕ F) → split_inclusive_callee s ≡ f → ((x : ℕ) (b : Bool) (q : F) → CalledAt g f x b q → (q ≡ f) × (b ≡ feed x)) → Cuts s
  cuts-from f s closure tests =
      subst (ComputesKey g feed) (sym closure)
      (always_returns_same g (λ a r. r ≡ feed a.0.now) f (λ a r q k. let m = tests a.0.now r q (record { shown = a.0; shows = refl; called = k }) in (m.1, m.0)))

  line-more : (s : SplitInclusive ℕ F) (x : Bor (List ℕ)) (t : SplitInclusive ℕ F) → Cuts s → Steps s (Some x) t → Cuts t × (left s ≡ x.now ∷ left t)
  line-more s x t cuts step =
      let rest = split_inclusive_rest s in
      let e : rest ≡ x.now ++ split_inclusive_rest t = step.0 in
      let found = step.1.2 feed cuts in (
        found.0,
        ap lines_of e
            ∙ first-line x.now (split_inclusive_rest t) step.1.0 (subst (λ l. length x.now ≡ min (step.1.0 + 1) (length l)) e step.1.1)
            (subst (λ l. 0 < length l) e step.2) (subst (λ l. IsFirstMatchOrLen feed l step.1.0) e found.1),
      )

  lines_yielded : (s : SplitInclusive ℕ F) → Cuts s → YieldsList Steps (λ x. x.now) s (left s)
  lines_yielded = YieldsList-from_shown_while Steps (λ x. x.now) left Cuts (λ s t cuts step. ap (λ l. length (lines_of l)) (nil_from_length (split_inclusive_rest s) step.0)) line-more

  -- A line that is not there reads as an empty one.
  line-next : (s t : SplitInclusive ℕ F) (r : Option (Bor (List ℕ))) (line : Bor (List ℕ)) → Cuts s → Steps s r t → UnwrapsOrElse r (λ x. x.now ≡ []) line
      → Cuts t × (line.now ≡ get_or (left s) 0 []) × (left t ≡ drop 1 (left s))
  line-next s t None line cuts step e =
      let none : left s ≡ [] = ap lines_of (nil_from_length (split_inclusive_rest s) step.0) in (
        subst (λ u. Cuts u) (sym step.1) cuts,
        e ∙ sym (ap (λ l. get_or l 0 []) none),
        ap left step.1 ∙ none ∙ sym (ap (drop 1) none),
      )
  line-next s t (Some x) line cuts step e =
      let more = line-more s x t cuts step in (more.0, ap (λ l. l.now) e ∙ sym (ap (λ l. get_or l 0 []) more.1), sym (ap (drop 1) more.1))

  -- A text whose first four lines are read.
  pub record Opened (text : List ℕ) (s : SplitInclusive ℕ F) (head : Result Head Refused) : Type 0 where
    pub cuts : Cuts s
    pub behind : left s ≡ drop 4 (lines_of text)
    pub plan : and_then head (body_of (drop 4 (lines_of text))) ≡ plan_in (lines_of text)

  pub four-lines : (text : List ℕ) (s s1 s2 s3 s4 : SplitInclusive ℕ F) (r1 r2 r3 r4 : Option (Bor (List ℕ))) (one two three four : Bor (List ℕ)) (head : Result Head Refused)
      → Steps s r1 s1 → UnwrapsOrElse r1 (λ x. x.now ≡ []) one → Steps s1 r2 s2 → UnwrapsOrElse r2 (λ x. x.now ≡ []) two
      → Steps s2 r3 s3 → UnwrapsOrElse r3 (λ x. x.now ≡ []) three → Steps s3 r4 s4 → UnwrapsOrElse r4 (λ x. x.now ≡ []) four
      → head ≡ head_of one.now two.now three.now four.now → split_inclusive_rest s ≡ text
      → (f : F) → split_inclusive_callee s ≡ f → ((x : ℕ) (b : Bool) (q : F) → CalledAt g f x b q → (q ≡ f) × (b ≡ feed x)) → Opened text s4 head
  four-lines text s s1 s2 s3 s4 r1 r2 r3 r4 one two three four head step1 e1 step2 e2 step3 e3 step4 e4 h rest callee closure tests =
      let cuts = cuts-from callee s closure tests in
      let a = line-next s s1 r1 one cuts step1 e1 in
      let b = line-next s1 s2 r2 two a.0 step2 e2 in
      let d = line-next s2 s3 r3 three b.0 step3 e3 in
      let f = line-next s3 s4 r4 four d.0 step4 e4 in
      let ls = lines_of text in
      let l0 : left s ≡ ls = ap lines_of rest in
      let l1 : left s1 ≡ drop 1 ls = a.2 ∙ ap (drop 1) l0 in
      let l2 : left s2 ≡ drop 2 ls = b.2 ∙ ap (drop 1) l1 ∙ drop-drop 1 1 ls in
      let l3 : left s3 ≡ drop 3 ls = d.2 ∙ ap (drop 1) l2 ∙ drop-drop 1 2 ls in
      let l4 : left s4 ≡ drop 4 ls = f.2 ∙ ap (drop 1) l3 ∙ drop-drop 1 3 ls in
      let k1 : one.now ≡ get_or ls 0 [] = a.1 ∙ ap (λ l. get_or l 0 []) l0 in
      let k2 : two.now ≡ get_or ls 1 [] = b.1 ∙ ap (λ l. get_or l 0 []) l1 ∙ get_or-drop 1 ls 0 [] in
      let k3 : three.now ≡ get_or ls 2 [] = d.1 ∙ ap (λ l. get_or l 0 []) l2 ∙ get_or-drop 2 ls 0 [] in
      let k4 : four.now ≡ get_or ls 3 [] = f.1 ∙ ap (λ l. get_or l 0 []) l3 ∙ get_or-drop 3 ls 0 [] in
      record {
        cuts = f.0;
        behind = l4;
        plan = ap (λ o. and_then o (body_of (drop 4 ls))) (h ∙ ap (λ l. head_of l two.now three.now four.now) k1 ∙ ap (λ l. head_of (get_or ls 0 []) l three.now four.now) k2 ∙ ap (λ l. head_of (get_or ls 0 []) (get_or ls 1 []) l four.now) k3 ∙ ap (λ l. head_of (get_or ls 0 []) (get_or ls 1 []) (get_or ls 2 []) l) k4);
      }

  -- The lines behind them, each with its number.
  pub numbered : (text : List ℕ) (s : SplitInclusive ℕ F) (head : Result Head Refused) (e : Enumerate (SplitInclusive ℕ F)) → Opened text s head → enumerate_source e ≡ s → enumerate_count e ≡ 0
      → YieldsList (enumerate_steps Steps) (λ p. (p.0, p.1.now)) e (enumerate_from 0 (drop 4 (lines_of text)))
  numbered text s head e o source count =
      YieldsList-from_enumerate (subst (λ ls. YieldsList Steps (λ x. x.now) (enumerate_source e) ls) (ap left source ∙ o.behind) (lines_yielded (enumerate_source e) (subst (λ u. Cuts u) (sym source) o.cuts))) count
