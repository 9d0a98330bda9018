-- A drill is read as it was written.
use Rattle.std.proofs.Common.{◌≡◌, ℕ, zero, suc, ◌+◌, ◌%◌, ◌^◌, ◌<◌, ◌≤◌, Bool, true, false, not, ◌&&◌, eqb, leb, List, [], ◌∷◌, ◌++◌, length, Some, None, Ok, Err, codes, decimal, Option, Result, sym, refl, ap, ◌∙◌, arith}
use Rattle.std.proofs.lemmas.Fmt.{decimal_by_steps}
use Rattle.std.proofs.lemmas.Bool.{cond-true, cond-false, cond_both, not-true, ne_eqb, eqb-true, leb-true, le-leb, lt-leb, and_parts, and_from, not_from_false}
use Rattle.std.specs.Option.{ok_or, option_map, option_or}
use Rattle.air.specs.declared.fate.Alteration.{Alteration}
use Rattle.air.specs.declared.fate.Hearing.{Hearing}
use Rattle.air.specs.declared.few.UpToThree.{UpToThree}
use Rattle.air.specs.declared.few.UpToThree.TheVariants.{Empty, One, Two, Three}
use Rattle.fault.specs.declared.EndFault.TheVariants.{Retries}
use Rattle.packet.specs.Reading.{and_then}
use Rattle.tell.specs.declared.faults.DrillFault.{DrillFault}
use Rattle.tell.specs.declared.faults.DrillFault.TheVariants.{End}
use Rattle.tell.specs.declared.faults.Refused.{Refused}
use Rattle.script.specs.declared.forms.Form.{Form}
use Rattle.script.specs.declared.forms.Form.TheVariants as form
use Rattle.fragment.specs.declared.name.CarrierName.{CarrierName}
use Rattle.fragment.specs.declared.name.CarrierName.TheVariants.{Data, Voice}
use Rattle.check32.specs.declared.name.CheckName.{CheckName}
use Rattle.check32.specs.declared.name.CheckName.TheVariants.{Polynomial, Sum}
use Rattle.script.specs.declared.values.Head.{Head}
use Rattle.script.specs.declared.values.Message.{Message}
use Rattle.tell.specs.Faults.{wrong}
use Rattle.script.specs.Lines.{onto, lines_of}
use Rattle.script.specs.Scripts.{Plan, last, limited, lone_figure, at_line, carrier_of, check_of, retries_of, serial_of, head_of, counted, send_of, form_of, forms_from, plan_of, body_of, plan_in, script_of}
use Rattle.script.specs.Turns.{turn_of}
use Rattle.script.specs.Words.{read_on, next_figure}
use Rattle.script.specs.Written.{line_end, item_before, word_before, is_bad, records_before, bad_before, alteration_before, hearing_before, hearings_before, alteration_fits, hearing_fits, hearings_fit, form_fits, forms_fit, send_line, form_line, forms_text, carrier_line, check_line, retries_line, serial_line, drill_text, Writes}
use Rattle.script.proofs.Figures.{figure-back, figure-to-back, next-back}
use Rattle.script.proofs.TurnsBack.{turn-back}

-- A line has its one line feed at its end

abbrev plain : List ℕ → Bool
plain [] = true
plain (x ∷ text) = not (eqb x 10) && plain text

-- A text that is cut off as one line, whatever stands behind it.
abbrev IsLine : List ℕ → Type 0
IsLine line = (rest : List ℕ) → lines_of (line ++ rest) ≡ line ∷ lines_of rest

line-end : IsLine line_end
line-end rest = refl

plain-before : (word line : List ℕ) → plain word ≡ true → IsLine line → IsLine (word ++ line)
plain-before [] line h l rest = l rest
plain-before (x ∷ word) line h l rest =
    let parts = and_parts (not (eqb x 10)) (plain word) h in
    cond-false (eqb x 10) _ _ (not-true (eqb x 10) parts.0) ∙ ap (onto x) (plain-before word line parts.1 l rest)

plain_push : (word : List ℕ) (x : ℕ) → plain word ≡ true → (x ≡ 10 → ⊥) → plain (word ++ (x ∷ [])) ≡ true
plain_push [] x h ne = and_from (not (eqb x 10)) true (not_from_false (eqb x 10) (ne_eqb x 10 ne)) refl
plain_push (y ∷ word) x h ne =
    let parts = and_parts (not (eqb y 10)) (plain word) h in and_from (not (eqb y 10)) _ parts.0 (plain_push word x parts.1 ne)

plain-decimal : (n : ℕ) → n < 2 ^ 64 → plain (decimal n) ≡ true
plain-decimal n h =
    decimal_by_steps (λ m digits. plain digits ≡ true) (λ m l. plain_push [] (48 + m) refl (λ e. omega arith))
    (λ m digits l p. plain_push digits (48 + m % 10) p (λ e. omega arith)) n h

item-line : (n : ℕ) (line : List ℕ) → n < 2 ^ 64 → IsLine line → IsLine (item_before n line)
item-line n line h l = plain-before (codes " ") (decimal n ++ line) refl (plain-before (decimal n) line (plain-decimal n h) l)

word_line : (there : Bool) (word line : List ℕ) → plain word ≡ true → IsLine line → IsLine (word_before there word line)
word_line true word line h l = plain-before word line h l
word_line false word line h l = l

records-line : (n i bad : ℕ) (line : List ℕ) → i + n ≤ 16 → IsLine line → IsLine (records_before n i bad line)
unfolding records_before
records-line zero i bad line few l = l
records-line (suc n) i bad line few l =
    let more = records-line n (i + 1) bad line (omega arith) l in
    cond_both (is_bad bad i) (item_before i (records_before n (i + 1) bad line)) (records_before n (i + 1) bad line) IsLine
    (λ e. item-line i _ (omega arith) more) (λ e. more)

bad-line : (bad : ℕ) (line : List ℕ) → IsLine line → IsLine (bad_before bad line)
bad-line bad line l =
    cond_both (eqb bad 0) line (codes " (bad" ++ records_before 16 0 bad (codes ")" ++ line)) IsLine (λ e. l)
    (λ e. plain-before (codes " (bad") _ refl (records-line 16 0 bad (codes ")" ++ line) (omega arith) (plain-before (codes ")") line refl l)))

alteration-line : (a : Option Alteration) (line : List ℕ) → alteration_fits a ≡ true → IsLine line → IsLine (alteration_before a line)
alteration-line None line fits l = l
alteration-line (Some a) line fits l =
    let one = and_parts (leb a.«record» 15) _ fits in
    let two = and_parts (leb a.place 19) _ one.1 in
    let three = and_parts (leb 1 a.mask) _ two.1 in
    let f = leb-true _ 15 one.0 in
    let p = leb-true _ 19 two.0 in
    let m = leb-true _ 255 three.1 in
    plain-before (codes " (alter") _ refl
    (item-line a.«record» _ (omega arith) (item-line a.place _ (omega arith) (item-line a.mask _ (omega arith) (plain-before (codes ")") line refl l))))

hearing-line : (h : Hearing) (line : List ℕ) → hearing_fits h ≡ true → IsLine line → IsLine (hearing_before h line)
hearing-line h line fits l =
    plain-before (codes " (heard") _ refl
    (bad-line h.bad _ (alteration-line h.alteration _ (and_parts _ (alteration_fits h.alteration) fits).1
    (word_line h.reply (codes " (reply)") _ refl (plain-before (codes ")") line refl l))))

hearings-line : (hs : UpToThree Hearing) → hearings_fit hs ≡ true → IsLine (hearings_before hs line_end)
hearings-line Empty fits = line-end
hearings-line (One a) fits = hearing-line a line_end fits line-end
hearings-line (Two a b) fits =
    let parts = and_parts (hearing_fits a) (hearing_fits b) fits in hearing-line a _ parts.0 (hearing-line b line_end parts.1 line-end)
hearings-line (Three a b c) fits =
    let one = and_parts (hearing_fits a) _ fits in
    let two = and_parts (hearing_fits b) (hearing_fits c) one.1 in
    hearing-line a _ one.0 (hearing-line b _ two.0 (hearing-line c line_end two.1 line-end))

form-line : (number : ℕ) (f : Form) → form_fits number f ≡ true → IsLine (form_line f)
form-line number (form.Send m) fits =
    let one = and_parts (eqb m.line number) _ fits in
    let two = and_parts (leb m.count 60000) (leb m.value 255) one.1 in
    let count = leb-true _ 60000 two.0 in
    let value = leb-true _ 255 two.1 in
    plain-before (codes "(send") _ refl (item-line m.count _ (omega arith) (item-line m.value line_end (omega arith) line-end))
form-line number (form.Turn f) fits =
    plain-before (codes "(turn") _ refl (word_line f.wait (codes " (wait)") _ refl (hearings-line f.heard fits))

-- Forms

send-back : (m : Message) → m.count ≤ 60000 → m.value ≤ 255 → send_of m.line (send_line m) ≡ Some m
send-back m count value =
    ap (λ o. read_on o (λ c. read_on (next_figure 255 c.1) (counted m.line c.0)))
    (figure-to-back 60000 m.count (item_before m.value line_end) count (omega arith) refl)
    ∙ ap (λ o. read_on o (counted m.line m.count)) (next-back 255 m.value line_end value (omega arith) refl)

form-back : (number : ℕ) (f : Form) → form_fits number f ≡ true → form_of number (form_line f) ≡ Some f
form-back number (form.Send m) fits =
    let one = and_parts (eqb m.line number) _ fits in
    let two = and_parts (leb m.count 60000) (leb m.value 255) one.1 in
    ap (λ n. form_of n (send_line m)) (sym (eqb-true m.line number one.0))
    ∙ ap (λ o. option_or (option_map (λ x. form.Send x) o) (option_map (λ x. form.Turn x) (turn_of (send_line m))))
    (send-back m (leb-true _ 60000 two.0) (leb-true _ 255 two.1))
form-back number (form.Turn f) fits = ap (λ o. option_map (λ x. form.Turn x) o) (turn-back f fits)

forms-back : (number : ℕ) (forms : List Form) → forms_fit number forms ≡ true → forms_from number (lines_of (forms_text forms)) ≡ Ok forms
forms-back number [] fits = refl
forms-back number (f ∷ forms) fits =
    let parts = and_parts (form_fits number f) (forms_fit (number + 1) forms) fits in
    ap (forms_from number) (form-line number f parts.0 (forms_text forms))
    ∙ ap (λ o. and_then (ok_or o (wrong number)) (λ g. and_then (forms_from (number + 1) (lines_of (forms_text forms))) (λ gs. Ok (g ∷ gs)))) (form-back number f parts.0)
    ∙ ap (λ r. and_then r (λ gs. Ok (f ∷ gs))) (forms-back (number + 1) forms parts.1)

-- The first four lines

carrier-back : (c : CarrierName) → carrier_of (carrier_line c) ≡ Some c
carrier-back Data = refl
carrier-back Voice = refl

check-back : (k : CheckName) → check_of (check_line k) ≡ Some k
check-back Polynomial = refl
check-back Sum = refl

carrier-line : (c : CarrierName) → IsLine (carrier_line c)
carrier-line Data rest = refl
carrier-line Voice rest = refl

check-line : (k : CheckName) → IsLine (check_line k)
check-line Polynomial rest = refl
check-line Sum rest = refl

lone-retries : (retries : ℕ) → retries ≤ 4294967295 → lone_figure (codes "(retries ") (retries_line retries) ≡ Some retries
lone-retries retries h = ap (λ o. read_on o last) (figure-back retries line_end h refl)

lone-serial : (serial : ℕ) → serial ≤ 4294967295 → serial_of (serial_line serial) ≡ Some serial
lone-serial serial h = ap (λ o. read_on o last) (figure-back serial line_end h refl)

drill-lines : (head : Head) (forms : List Form) → head.retries ≤ 4294967295 → head.serial ≤ 4294967295
    → lines_of (drill_text head forms)
    ≡ carrier_line head.carrier ∷ (check_line head.check ∷ (retries_line head.retries ∷ (serial_line head.serial ∷ lines_of (forms_text forms))))
drill-lines head forms r s =
    carrier-line head.carrier _ ∙ ap (λ l. carrier_line head.carrier ∷ l)
    (check-line head.check _ ∙ ap (λ l. check_line head.check ∷ l)
    (plain-before (codes "(retries") _ refl (item-line head.retries line_end (omega arith) line-end) _ ∙ ap (λ l. retries_line head.retries ∷ l)
    (plain-before (codes "(serial") _ refl (item-line head.serial line_end (omega arith) line-end) _)))

-- The whole text

abbrev head_by : Option CarrierName → Option CheckName → Result ℕ DrillFault → Option ℕ → Result Head Refused
head_by carrier check retries serial =
    and_then (ok_or carrier (wrong 1)) (λ c.
    and_then (ok_or check (wrong 2)) (λ k.
    and_then (at_line 3 retries) (λ r.
    and_then (ok_or serial (wrong 4)) (λ s.
    Ok (record { carrier = c; check = k; retries = r; serial = s })))))

head-by : (head : Head) → head.retries ≤ 4294967295 → head.serial ≤ 4294967295
    → head_of (carrier_line head.carrier) (check_line head.check) (retries_line head.retries) (serial_line head.serial)
    ≡ head_by (Some head.carrier) (Some head.check) (limited (Some head.retries)) (Some head.serial)
head-by head r s =
    let three = retries_of (retries_line head.retries) in
    let four = serial_of (serial_line head.serial) in
    ap (λ o. head_by o (check_of (check_line head.check)) three four) (carrier-back head.carrier)
    ∙ ap (λ o. head_by (Some head.carrier) o three four) (check-back head.check)
    ∙ ap (λ o. head_by (Some head.carrier) (Some head.check) (limited o) four) (lone-retries head.retries r)
    ∙ ap (λ o. head_by (Some head.carrier) (Some head.check) (limited (Some head.retries)) o) (lone-serial head.serial s)

plan-by : (head : Head) (forms : List Form) → head.retries ≤ 4294967295 → head.serial ≤ 4294967295
    → plan_in (lines_of (drill_text head forms))
    ≡ and_then (head_by (Some head.carrier) (Some head.check) (limited (Some head.retries)) (Some head.serial)) (body_of (lines_of (forms_text forms)))
plan-by head forms r s =
    ap plan_in (drill-lines head forms r s) ∙ ap (λ h. and_then h (body_of (lines_of (forms_text forms)))) (head-by head r s)

plan-back : (head : Head) (forms : List Form) → head.retries ≤ 15 → head.serial ≤ 4294967295 → forms_fit 5 forms ≡ true
    → plan_in (lines_of (drill_text head forms)) ≡ Ok (plan_of head forms)
plan-back head forms r s fits =
    plan-by head forms (omega arith) s
    ∙ ap (λ l. and_then (head_by (Some head.carrier) (Some head.check) l (Some head.serial)) (body_of (lines_of (forms_text forms))))
    (cond-true (leb head.retries 15) (Ok head.retries) (Err (End Retries)) (le-leb _ 15 r))
    ∙ ap (λ f. and_then f (λ gs. Ok (plan_of head gs))) (forms-back 5 forms fits)

plan-retries : (head : Head) (forms : List Form) → 16 ≤ head.retries → head.retries ≤ 4294967295 → head.serial ≤ 4294967295
    → plan_in (lines_of (drill_text head forms)) ≡ Err (record { line = 3; fault = End Retries })
plan-retries head forms over r s =
    plan-by head forms r s
    ∙ ap (λ l. and_then (head_by (Some head.carrier) (Some head.check) l (Some head.serial)) (body_of (lines_of (forms_text forms))))
    (cond-false (leb head.retries 15) (Ok head.retries) (Err (End Retries)) (lt-leb _ 15 over))

script-short : (text : List ℕ) → length text ≤ 65536 → script_of text ≡ plan_in (lines_of text)
script-short text h = cond-true (leb (length text) 65536) (plan_in (lines_of text)) (Err (wrong 0)) (le-leb _ 65536 h)

pub written_back : (text : List ℕ) (plan : Plan) → Writes text plan → length text ≤ 65536 → script_of text ≡ Ok plan
written_back text plan w short =
    script-short text short ∙ ap (λ t. plan_in (lines_of t)) w.text ∙ plan-back plan.head w.forms w.retries w.serial w.fits
    ∙ ap (λ p. Ok p) (sym w.plan)

pub retries-refused : (text : List ℕ) (head : Head) (forms : List Form) → 16 ≤ head.retries → head.retries ≤ 4294967295 → head.serial ≤ 4294967295
    → length text ≤ 65536 → text ≡ drill_text head forms → script_of text ≡ Err (record { line = 3; fault = End Retries })
retries-refused text head forms over r s short e = script-short text short ∙ ap (λ t. plan_in (lines_of t)) e ∙ plan-retries head forms over r s
