-- What is read as a drill is written as that drill.
use Rattle.std.proofs.Common.{◌≡◌, ℕ, ◌+◌, ◌≤◌, true, cond, eqb, leb, List, [], ◌∷◌, ◌++◌, length, get_or, drop, Some, None, Ok, Err, codes, Option, Result, refl, ap, ◌∙◌, subst, inl, inr, append_assoc, arith}
use Rattle.std.proofs.lemmas.Option.{same_Some, none-some}
use Rattle.std.proofs.lemmas.Slice.Eq.{bytes_eq-Decides}
use Rattle.std.proofs.lemmas.Bool.{cond_both, eq-eqb, leb-true, le-leb, and_from}
use Rattle.std.specs.Option.{ok_or as std_ok_or, option_map, option_or}
use Rattle.air.specs.declared.fate.Fate.{Fate}
use Rattle.fault.specs.declared.EndFault.TheVariants.{Retries}
use Rattle.packet.specs.Reading.{and_then}
use Rattle.tell.specs.declared.faults.DrillFault.{DrillFault}
use Rattle.tell.specs.declared.faults.DrillFault.TheVariants.{End}
use Rattle.script.specs.declared.forms.Form.{Form}
use Rattle.script.specs.declared.forms.Form.TheVariants as form
use Rattle.fragment.specs.declared.name.CarrierName.{CarrierName}
use Rattle.fragment.specs.declared.name.CarrierName.TheVariants.{Data, Voice}
use Rattle.check32.specs.declared.name.CheckName.{CheckName}
use Rattle.check32.specs.declared.name.CheckName.TheVariants.{Polynomial, Sum}
use Rattle.script.specs.declared.values.Head.{Head}
use Rattle.script.specs.declared.values.Message.{Message}
use Rattle.tell.specs.Faults.{wrong}
use Rattle.script.specs.Lines.{onto, lines_of}
use Rattle.script.specs.Scripts.{Plan, is_line, last, limited, lone_figure, at_line, carrier_of, check_of, retries_of, serial_of, head_of, counted, send_of, form_of, forms_from, plan_of, body_of, plan_in, script_of}
use Rattle.script.specs.Turns.{turn_of}
use Rattle.script.specs.Words.{read_on, past, figure_of, figure_to, next_figure, is_end}
use Rattle.script.specs.Written.{line_end, item_before, form_fits, forms_fit, send_line, form_line, forms_text, carrier_line, check_line, retries_line, serial_line, Writes}
use Rattle.script.proofs.Came.{read-on, by-test, kept-only, past-only, end-only, figure-only, figure-to-only, next-only}
use Rattle.script.proofs.TurnsOnly.{turn-only}

-- Answers

not-ok : {X Y : Type 0} {x : X} {y : Y} → Err y ≡ Ok x → ⊥
not-ok e = let z : ◌≡◌ {A = ℕ} 0 1 = cc in omega arith

ok_same : {X Y : Type 0} {x y : X} → ◌≡◌ {A = Result X Y} (Ok x) (Ok y) → x ≡ y
ok_same e = cc

and-then : {X Y E : Type 0} (r : Result X E) (next : X → Result Y E) (y : Y) → and_then r next ≡ Ok y → (x : X) × (r ≡ Ok x) × (next x ≡ Ok y)
and-then (Ok x) next y e = (x, refl, e)
and-then (Err refused) next y e = absurd (not-ok e)

ok_or : {X E : Type 0} (o : Option X) (refused : E) (x : X) → std_ok_or o refused ≡ Ok x → o ≡ Some x
ok_or (Some z) refused x e = ap (λ w. Some w) (ok_same e)
ok_or None refused x e = absurd (not-ok e)

at-line : {X : Type 0} (number : ℕ) (r : Result X DrillFault) (x : X) → at_line number r ≡ Ok x → r ≡ Ok x
at-line number (Ok z) x e = ap (λ w. Ok w) (ok_same e)
at-line number (Err fault) x e = absurd (not-ok e)

-- Lines, one behind the other

abbrev joined : List (List ℕ) → List ℕ
joined [] = []
joined (line ∷ lines) = line ++ joined lines

joined-onto : (x : ℕ) (lines : List (List ℕ)) → joined (onto x lines) ≡ x ∷ joined lines
joined-onto x [] = refl
joined-onto x (line ∷ lines) = refl

joined-lines : (text : List ℕ) → joined (lines_of text) ≡ text
joined-lines [] = refl
joined-lines (x ∷ text) =
    cond_both (eqb x 10) ((x ∷ []) ∷ lines_of text) (onto x (lines_of text)) (λ lines. joined lines ≡ x ∷ text)
    (λ e. ap (λ l. x ∷ l) (joined-lines text)) (λ e. joined-onto x (lines_of text) ∙ ap (λ l. x ∷ l) (joined-lines text))

joined-four : (lines : List (List ℕ))
    → joined lines ≡ get_or lines 0 [] ++ (get_or lines 1 [] ++ (get_or lines 2 [] ++ (get_or lines 3 [] ++ joined (drop 4 lines))))
joined-four [] = refl
joined-four (a ∷ []) = refl
joined-four (a ∷ (b ∷ [])) = refl
joined-four (a ∷ (b ∷ (c ∷ []))) = refl
joined-four (a ∷ (b ∷ (c ∷ (d ∷ lines)))) = refl

-- Forms

abbrev FormIs : ℕ → List ℕ → Form → Type 0
FormIs number line f = (line ≡ form_line f) × (form_fits number f ≡ true)

send-only : (number : ℕ) (line : List ℕ) (m : Message) → send_of number line ≡ Some m → FormIs number line (form.Send m)
send-only number line m e =
    let a = read-on (read_on (past (codes "(send ") line) (figure_to 60000)) (λ count. read_on (next_figure 255 count.1) (counted number count.0)) m e in
    let w = read-on (past (codes "(send ") line) (figure_to 60000) a.0 a.1 in
    let b = read-on (next_figure 255 a.0.1) (counted number a.0.0) m a.2 in
    let k = kept-only (is_end b.0.1) (Some (record { line = number; count = a.0.0; value = b.0.0 })) m b.2 in
    let f = figure-to-only 60000 w.0 a.0 w.2 in
    let g = next-only 255 a.0.1 b.0 b.1 in
    let here : line ≡ send_line (record { line = number; count = a.0.0; value = b.0.0 }) =
    past-only (codes "(send ") line w.0 w.1 ∙ ap (λ l. codes "(send " ++ l) f.0 ∙ ap (λ l. codes "(send" ++ item_before a.0.0 l) g.0
    ∙ ap (λ l. codes "(send" ++ item_before a.0.0 (item_before b.0.0 l)) (end-only b.0.1 k.0) in
    let fits : form_fits number (form.Send (record { line = number; count = a.0.0; value = b.0.0 })) ≡ true =
    and_from _ _ (eq-eqb number number refl) (and_from _ _ (le-leb a.0.0 60000 f.1) (le-leb b.0.0 255 g.1)) in
    subst (λ (x : Message). FormIs number line (form.Send x)) (same_Some _ _ k.1) (here, fits)

either-only : (number : ℕ) (line : List ℕ) (s : Option Message) (t : Option Fate) (f : Form) → send_of number line ≡ s → turn_of line ≡ t
    → option_or (option_map (λ m. form.Send m) s) (option_map (λ g. form.Turn g) t) ≡ Some f → FormIs number line f
either-only number line (Some m) t f p q e = subst (λ (x : Form). FormIs number line x) (same_Some _ _ e) (send-only number line m p)
either-only number line None (Some g) f p q e = subst (λ (x : Form). FormIs number line x) (same_Some _ _ e) (turn-only line g q)
either-only number line None None f p q e = absurd (none-some _ e)

form-only : (number : ℕ) (line : List ℕ) (f : Form) → form_of number line ≡ Some f → FormIs number line f
form-only number line f e = either-only number line (send_of number line) (turn_of line) f refl refl e

forms-only : (number : ℕ) (lines : List (List ℕ)) (forms : List Form) → forms_from number lines ≡ Ok forms
    → (joined lines ≡ forms_text forms) × (forms_fit number forms ≡ true)
forms-only number [] forms e = subst (λ (fs : List Form). ([] ≡ forms_text fs) × (forms_fit number fs ≡ true)) (ok_same e) (refl, refl)
forms-only number (line ∷ lines) forms e =
    let a = and-then (std_ok_or (form_of number line) (wrong number)) (λ f. and_then (forms_from (number + 1) lines) (λ fs. Ok (f ∷ fs))) forms e in
    let b = and-then (forms_from (number + 1) lines) (λ fs. Ok (a.0 ∷ fs)) forms a.2 in
    let f = form-only number line a.0 (ok_or (form_of number line) (wrong number) a.0 a.1) in
    let more = forms-only (number + 1) lines b.0 b.1 in
    subst (λ (fs : List Form). (line ++ joined lines ≡ forms_text fs) × (forms_fit number fs ≡ true)) (ok_same b.2)
    (ap (λ l. l ++ joined lines) f.0 ∙ ap (λ l. form_line a.0 ++ l) more.0, and_from _ _ f.1 more.1)

-- The first four lines

carrier-only : (line : List ℕ) (c : CarrierName) → carrier_of line ≡ Some c → line ≡ carrier_line c
carrier-only line c e =
    elim (by-test (is_line (codes "(carrier data)") line) (Some Data) (cond (is_line (codes "(carrier voice)") line) (Some Voice) None) (Some c) e) [
      | inl d ↦ (bytes_eq-Decides line (carrier_line Data)).0 d.0 ∙ ap carrier_line (same_Some _ _ d.1)
      | inr d ↦
          (let k = kept-only (is_line (codes "(carrier voice)") line) (Some Voice) c d.1 in
          (bytes_eq-Decides line (carrier_line Voice)).0 k.0 ∙ ap carrier_line (same_Some _ _ k.1))
    ]

check-only : (line : List ℕ) (k : CheckName) → check_of line ≡ Some k → line ≡ check_line k
check-only line c e =
    elim (by-test (is_line (codes "(check poly)") line) (Some Polynomial) (cond (is_line (codes "(check sum)") line) (Some Sum) None) (Some c) e) [
      | inl d ↦ (bytes_eq-Decides line (check_line Polynomial)).0 d.0 ∙ ap check_line (same_Some _ _ d.1)
      | inr d ↦
          (let k = kept-only (is_line (codes "(check sum)") line) (Some Sum) c d.1 in
          (bytes_eq-Decides line (check_line Sum)).0 k.0 ∙ ap check_line (same_Some _ _ k.1))
    ]

lone-only : (word line : List ℕ) (n : ℕ) → lone_figure (word ++ codes " ") line ≡ Some n → (line ≡ word ++ item_before n line_end) × (n ≤ 4294967295)
lone-only word line n e =
    let a = read-on (read_on (past (word ++ codes " ") line) figure_of) last n e in
    let w = read-on (past (word ++ codes " ") line) figure_of a.0 a.1 in
    let k = kept-only (is_end a.0.1) (Some a.0.0) n a.2 in
    let f = figure-only w.0 a.0 w.2 in
    let same = same_Some _ _ k.1 in (
      past-only (word ++ codes " ") line w.0 w.1 ∙ append_assoc word (codes " ") w.0 ∙ ap (λ l. word ++ (codes " " ++ l)) f.0
          ∙ ap (λ l. word ++ item_before a.0.0 l) (end-only a.0.1 k.0) ∙ ap (λ m. word ++ item_before m line_end) same,
      subst (λ (m : ℕ). m ≤ 4294967295) same f.1,
    )

limited-only : (o : Option ℕ) (r : ℕ) → limited o ≡ Ok r → (o ≡ Some r) × (r ≤ 15)
limited-only None r e = absurd (not-ok e)
limited-only (Some n) r e =
    elim (by-test (leb n 15) (Ok n) (Err (End Retries)) (Ok r) e) [
      | inl d ↦ (ap (λ m. Some m) (ok_same d.1), subst (λ (m : ℕ). m ≤ 15) (ok_same d.1) (leb-true n 15 d.0))
      | inr d ↦ absurd (not-ok d.1)
    ]

-- The lines are those of a head.
record HeadIs (one two three four : List ℕ) (head : Head) : Type 0 where
  pub first : one ≡ carrier_line head.carrier
  pub second : two ≡ check_line head.check
  pub third : three ≡ retries_line head.retries
  pub fourth : four ≡ serial_line head.serial
  pub few : head.retries ≤ 15
  pub small : head.serial ≤ 4294967295

head-made : (one two three four : List ℕ) (c : CarrierName) (k : CheckName) (r s : ℕ) (head : Head)
    → carrier_of one ≡ Some c → check_of two ≡ Some k → retries_of three ≡ Ok r → serial_of four ≡ Some s
    → record { carrier = c; check = k; retries = r; serial = s } ≡ head → HeadIs one two three four head
head-made one two three four c k r s head p q u v same =
    let few = limited-only (lone_figure (codes "(retries ") three) r u in
    let small = lone-only (codes "(serial") four s v in
    subst (λ (h : Head). HeadIs one two three four h) same
    (record {
      first = carrier-only one c p;
      second = check-only two k q;
      third = (lone-only (codes "(retries") three r few.0).0;
      fourth = small.0;
      few = few.1;
      small = small.1;
    })

from-serial : (one two three four : List ℕ) (c : CarrierName) (k : CheckName) (r : ℕ) (head : Head)
    → carrier_of one ≡ Some c → check_of two ≡ Some k → retries_of three ≡ Ok r
    → and_then (std_ok_or (serial_of four) (wrong 4)) (λ s. Ok (record { carrier = c; check = k; retries = r; serial = s })) ≡ Ok head → HeadIs one two three four head
from-serial one two three four c k r head p q u e =
    let a = and-then (std_ok_or (serial_of four) (wrong 4)) (λ s. Ok (record { carrier = c; check = k; retries = r; serial = s })) head e in
    head-made one two three four c k r a.0 head p q u (ok_or (serial_of four) (wrong 4) a.0 a.1) (ok_same a.2)

from-retries : (one two three four : List ℕ) (c : CarrierName) (k : CheckName) (head : Head) → carrier_of one ≡ Some c → check_of two ≡ Some k
    → and_then (at_line 3 (retries_of three)) (λ r. and_then (std_ok_or (serial_of four) (wrong 4)) (λ s. Ok (record { carrier = c; check = k; retries = r; serial = s }))) ≡ Ok head
    → HeadIs one two three four head
from-retries one two three four c k head p q e =
    let a = and-then (at_line 3 (retries_of three)) (λ r.
    and_then (std_ok_or (serial_of four) (wrong 4)) (λ s. Ok (record { carrier = c; check = k; retries = r; serial = s }))) head e in
    from-serial one two three four c k a.0 head p q (at-line 3 (retries_of three) a.0 a.1) a.2

from-check : (one two three four : List ℕ) (c : CarrierName) (head : Head) → carrier_of one ≡ Some c
    → and_then (std_ok_or (check_of two) (wrong 2)) (λ k. and_then (at_line 3 (retries_of three)) (λ r.
    and_then (std_ok_or (serial_of four) (wrong 4)) (λ s. Ok (record { carrier = c; check = k; retries = r; serial = s })))) ≡ Ok head
    → HeadIs one two three four head
from-check one two three four c head p e =
    let a = and-then (std_ok_or (check_of two) (wrong 2)) (λ k. and_then (at_line 3 (retries_of three)) (λ r.
    and_then (std_ok_or (serial_of four) (wrong 4)) (λ s. Ok (record { carrier = c; check = k; retries = r; serial = s })))) head e in
    from-retries one two three four c a.0 head p (ok_or (check_of two) (wrong 2) a.0 a.1) a.2

head-only : (one two three four : List ℕ) (head : Head) → head_of one two three four ≡ Ok head → HeadIs one two three four head
head-only one two three four head e =
    let a = and-then (std_ok_or (carrier_of one) (wrong 1)) (λ c. and_then (std_ok_or (check_of two) (wrong 2)) (λ k. and_then (at_line 3 (retries_of three)) (λ r.
    and_then (std_ok_or (serial_of four) (wrong 4)) (λ s. Ok (record { carrier = c; check = k; retries = r; serial = s }))))) head e in
    from-check one two three four a.0 head (ok_or (carrier_of one) (wrong 1) a.0 a.1) a.2

-- The whole text

plan-only : (lines : List (List ℕ)) (plan : Plan) → plan_in lines ≡ Ok plan → Writes (joined lines) plan
plan-only lines plan e =
    let a = and-then (head_of (get_or lines 0 []) (get_or lines 1 []) (get_or lines 2 []) (get_or lines 3 [])) (body_of (drop 4 lines)) plan e in
    let b = and-then (forms_from 5 (drop 4 lines)) (λ forms. Ok (plan_of a.0 forms)) plan a.2 in
    let h = head-only (get_or lines 0 []) (get_or lines 1 []) (get_or lines 2 []) (get_or lines 3 []) a.0 a.1 in
    let f = forms-only 5 (drop 4 lines) b.0 b.1 in
    subst (λ (p : Plan). Writes (joined lines) p) (ok_same b.2)
    (record {
      forms = b.0;
      text =
          joined-four lines ∙ ap (λ l. l ++ (get_or lines 1 [] ++ (get_or lines 2 [] ++ (get_or lines 3 [] ++ joined (drop 4 lines))))) h.first
          ∙ ap (λ l. carrier_line a.0.carrier ++ (l ++ (get_or lines 2 [] ++ (get_or lines 3 [] ++ joined (drop 4 lines))))) h.second
          ∙ ap (λ l. carrier_line a.0.carrier ++ (check_line a.0.check ++ (l ++ (get_or lines 3 [] ++ joined (drop 4 lines))))) h.third
          ∙ ap (λ l. carrier_line a.0.carrier ++ (check_line a.0.check ++ (retries_line a.0.retries ++ (l ++ joined (drop 4 lines))))) h.fourth
          ∙ ap (λ l. carrier_line a.0.carrier ++ (check_line a.0.check ++ (retries_line a.0.retries ++ (serial_line a.0.serial ++ l)))) f.0;
      plan = refl;
      retries = h.few;
      serial = h.small;
      fits = f.1;
    })

pub only-written : (text : List ℕ) (plan : Plan) → script_of text ≡ Ok plan → Writes text plan
only-written text plan e =
    elim (by-test (leb (length text) 65536) (plan_in (lines_of text)) (Err (wrong 0)) (Ok plan) e) [
      | inl d ↦ subst (λ (t : List ℕ). Writes t plan) (joined-lines text) (plan-only (lines_of text) plan d.1)
      | inr d ↦ absurd (not-ok d.1)
    ]
