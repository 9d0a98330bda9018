-- A drill as it is written, and the law that just what can be written is read. `x_before` writes x before a text.
use Rattle.std.specs.Prelude.{◌≡◌, ℕ, zero, suc, ◌+◌, ◌/◌, ◌%◌, ◌^◌, ◌≤◌, Bool, true, cond, ◌&&◌, List, [], ◌∷◌, ◌++◌, length, Some, None, Ok, Err, codes, decimal, Option, Result, ◌==◌, nat_le, nat_lt}
use Rattle.air.specs.declared.fate.Alteration.{Alteration}
use Rattle.air.specs.declared.fate.Hearing.{Hearing}
use Rattle.air.specs.declared.few.UpToThree.{UpToThree}
use Rattle.air.specs.declared.few.UpToThree.TheVariants.{Empty, One, Two, Three}
use Rattle.air.specs.declared.fate.Fate.{Fate}
use Rattle.fault.specs.declared.EndFault.TheVariants.{Retries}
use Rattle.tell.specs.declared.faults.DrillFault.TheVariants.{End}
use Rattle.tell.specs.declared.faults.Refused.{Refused}
use Rattle.script.specs.declared.forms.Form.{Form}
use Rattle.script.specs.declared.forms.Form.TheVariants as form
use Rattle.fragment.specs.declared.name.CarrierName.{CarrierName}
use Rattle.fragment.specs.declared.name.CarrierName.TheVariants.{Data, Voice}
use Rattle.check32.specs.declared.name.CheckName.{CheckName}
use Rattle.check32.specs.declared.name.CheckName.TheVariants.{Polynomial, Sum}
use Rattle.script.specs.declared.values.Head.{Head}
use Rattle.script.specs.declared.values.Message.{Message}
use Rattle.script.specs.Scripts.{Plan, plan_of}

-- The end of a line.
abbrev pub line_end : List ℕ
line_end = codes ")" ++ (10 ∷ [])

-- A number behind a space.
abbrev pub item_before : ℕ → List ℕ → List ℕ
item_before n text = codes " " ++ (decimal n ++ text)

-- A text that is there or not.
abbrev pub word_before : Bool → List ℕ → List ℕ → List ℕ
word_before there word text = cond there (word ++ text) text

-- Turns

-- Whether record i is among the bad ones: 2^i is in their number.
abbrev pub is_bad : ℕ → ℕ → Bool
is_bad bad i = bad / 2 ^ i % 2 == 1

-- The bad ones of n records from the i-th on.
unfoldable pub records_before : ℕ → ℕ → ℕ → List ℕ → List ℕ
records_before zero i bad text = text
records_before (suc n) i bad text = cond (is_bad bad i) (item_before i (records_before n (i + 1) bad text)) (records_before n (i + 1) bad text)

abbrev pub bad_before : ℕ → List ℕ → List ℕ
bad_before bad text = cond (bad == 0) text (codes " (bad" ++ records_before 16 0 bad (codes ")" ++ text))

abbrev pub alteration_before : Option Alteration → List ℕ → List ℕ
alteration_before None text = text
alteration_before (Some a) text =
    codes " (alter" ++ item_before a.«record» (item_before a.place (item_before a.mask (codes ")" ++ text)))

abbrev pub hearing_before : Hearing → List ℕ → List ℕ
hearing_before h text =
    codes " (heard" ++ bad_before h.bad (alteration_before h.alteration (word_before h.reply (codes " (reply)") (codes ")" ++ text)))

abbrev pub hearings_before : UpToThree Hearing → List ℕ → List ℕ
hearings_before Empty text = text
hearings_before (One a) text = hearing_before a text
hearings_before (Two a b) text = hearing_before a (hearing_before b text)
hearings_before (Three a b c) text = hearing_before a (hearing_before b (hearing_before c text))

abbrev pub turn_line : Fate → List ℕ
turn_line f = codes "(turn" ++ word_before f.wait (codes " (wait)") (hearings_before f.heard line_end)

-- What can be written

abbrev pub alteration_fits : Option Alteration → Bool
alteration_fits None = true
alteration_fits (Some a) = nat_le a.«record» 15 && (nat_le a.place 19 && (nat_le 1 a.mask && nat_le a.mask 255))

abbrev pub hearing_fits : Hearing → Bool
hearing_fits h = nat_lt h.bad 65536 && alteration_fits h.alteration

abbrev pub hearings_fit : UpToThree Hearing → Bool
hearings_fit Empty = true
hearings_fit (One a) = hearing_fits a
hearings_fit (Two a b) = hearing_fits a && hearing_fits b
hearings_fit (Three a b c) = hearing_fits a && (hearing_fits b && hearing_fits c)

abbrev pub form_fits : ℕ → Form → Bool
form_fits number (form.Send m) = m.line == number && (nat_le m.count 60000 && nat_le m.value 255)
form_fits number (form.Turn f) = hearings_fit f.heard

-- Forms of which the first stands at this line.
abbrev pub forms_fit : ℕ → List Form → Bool
forms_fit number [] = true
forms_fit number (f ∷ forms) = form_fits number f && forms_fit (number + 1) forms

-- Drills

abbrev pub send_line : Message → List ℕ
send_line m = codes "(send" ++ item_before m.count (item_before m.value line_end)

abbrev pub form_line : Form → List ℕ
form_line (form.Send m) = send_line m
form_line (form.Turn f) = turn_line f

abbrev pub forms_text : List Form → List ℕ
forms_text [] = []
forms_text (f ∷ forms) = form_line f ++ forms_text forms

abbrev pub carrier_line : CarrierName → List ℕ
carrier_line Data = codes "(carrier data" ++ line_end
carrier_line Voice = codes "(carrier voice" ++ line_end

abbrev pub check_line : CheckName → List ℕ
check_line Polynomial = codes "(check poly" ++ line_end
check_line Sum = codes "(check sum" ++ line_end

abbrev pub retries_line : ℕ → List ℕ
retries_line retries = codes "(retries" ++ item_before retries line_end

abbrev pub serial_line : ℕ → List ℕ
serial_line serial = codes "(serial" ++ item_before serial line_end

abbrev pub drill_text : Head → List Form → List ℕ
drill_text head forms =
    carrier_line head.carrier ++ (check_line head.check ++ (retries_line head.retries ++ (serial_line head.serial ++ forms_text forms)))

-- A text that is written from a plan.
pub record Writes (octets : List ℕ) (asked : Plan) : Type 0 where
  pub forms : List Form
  pub text : octets ≡ drill_text asked.head forms
  pub plan : asked ≡ plan_of asked.head forms
  pub retries : asked.head.retries ≤ 15
  pub serial : asked.head.serial ≤ 4294967295
  pub fits : forms_fit 5 forms ≡ true

-- What reading a text answers: what can be written is read back, nothing else is read, and a retry limit above 15 is refused at line 3.
pub record ReadsBack (text : List ℕ) (answer : Result Plan Refused) : Type 0 where
  pub back : (plan : Plan) → Writes text plan → length text ≤ 65536 → answer ≡ Ok plan
  pub only : (plan : Plan) → answer ≡ Ok plan → Writes text plan
  pub retries : (head : Head) (forms : List Form) → 16 ≤ head.retries → head.retries ≤ 4294967295 → head.serial ≤ 4294967295 → length text ≤ 65536
      → text ≡ drill_text head forms → answer ≡ Err (record { line = 3; fault = End Retries })
