-- What the text of a drill asks for, or the first line that is wrong and why.
use Rattle.std.specs.Prelude.{ℕ, ◌+◌, Bool, cond, List, [], ◌∷◌, ◌++◌, length, drop, Some, None, Ok, Err, vec_items, codes, Option, Result, nat_le, slice_index_or}
use Rattle.std.specs.Option.{option_map, ok_or, option_or}
use Rattle.std.specs.Str.{bytes_eq}
use Rattle.air.specs.declared.fate.Fate.{Fate}
use Rattle.fault.specs.declared.EndFault.TheVariants.{Retries}
use Rattle.packet.specs.Reading.{and_then}
use Rattle.tell.specs.declared.faults.DrillFault.{DrillFault}
use Rattle.tell.specs.declared.faults.DrillFault.TheVariants.{End, Line}
use Rattle.tell.specs.declared.faults.Refused.{Refused}
use Rattle.script.specs.declared.forms.Form.{Form}
use Rattle.script.specs.declared.forms.Form.TheVariants as form
use Rattle.fragment.specs.declared.name.CarrierName.{CarrierName}
use Rattle.fragment.specs.declared.name.CarrierName.TheVariants.{Data, Voice}
use Rattle.check32.specs.declared.name.CheckName.{CheckName}
use Rattle.check32.specs.declared.name.CheckName.TheVariants.{Polynomial, Sum}
use Rattle.script.specs.declared.values.Head.{Head}
use Rattle.script.specs.declared.values.Message.{Message}
use Rattle.script.specs.declared.values.Script.{Script}
use Rattle.script.specs.declared.values.ScriptError.{ScriptError}
use Rattle.script.specs.declared.values.ScriptError.TheVariants as error
use Rattle.tell.specs.Faults.{wrong}
use Rattle.script.specs.Lines.{lines_of}
use Rattle.script.specs.Turns.{turn_of}
use Rattle.script.specs.Words.{read_on, past, figure_of, figure_to, next_figure, is_end}

-- The first four lines

-- Whether a line is this text and its line feed.
abbrev pub is_line : List ℕ → List ℕ → Bool
is_line text line = bytes_eq line (text ++ (10 ∷ []))

abbrev pub carrier_of : List ℕ → Option CarrierName
carrier_of line =
    cond (is_line (codes "(carrier data)") line) (Some Data) (cond (is_line (codes "(carrier voice)") line) (Some Voice) None)

abbrev pub check_of : List ℕ → Option CheckName
check_of line =
    cond (is_line (codes "(check poly)") line) (Some Polynomial) (cond (is_line (codes "(check sum)") line) (Some Sum) None)

-- What was read, if it is the last of its line.
abbrev pub last : ℕ × List ℕ → Option ℕ
last p = cond (is_end p.1) (Some p.0) None

-- The one figure of a line that begins with this word.
abbrev pub lone_figure : List ℕ → List ℕ → Option ℕ
lone_figure word line = read_on (read_on (past word line) figure_of) last

-- A figure above 15 is read, and refused as a retry limit.
abbrev pub limited : Option ℕ → Result ℕ DrillFault
limited None = Err Line
limited (Some retries) = cond (nat_le retries 15) (Ok retries) (Err (End Retries))

abbrev pub retries_of : List ℕ → Result ℕ DrillFault
retries_of line = limited (lone_figure (codes "(retries ") line)

abbrev pub serial_of : List ℕ → Option ℕ
serial_of line = lone_figure (codes "(serial ") line

-- A fault with the line that has it.
abbrev pub at_line : {X : Type 0} → ℕ → Result X DrillFault → Result X Refused
at_line number (Ok x) = Ok x
at_line number (Err fault) = Err (record { line = number; fault = fault })

abbrev pub head_of : List ℕ → List ℕ → List ℕ → List ℕ → Result Head Refused
head_of one two three four =
    and_then (ok_or (carrier_of one) (wrong 1)) (λ carrier.
    and_then (ok_or (check_of two) (wrong 2)) (λ check.
    and_then (at_line 3 (retries_of three)) (λ retries.
    and_then (ok_or (serial_of four) (wrong 4)) (λ serial.
    Ok (record { carrier = carrier; check = check; retries = retries; serial = serial })))))

-- The lines behind them

-- A message of at most 60000 octets, asked for at line `number`.
abbrev pub counted : ℕ → ℕ → ℕ × List ℕ → Option Message
counted number count value =
    cond (is_end value.1) (Some (record { line = number; count = count; value = value.0 })) None

abbrev pub send_of : ℕ → List ℕ → Option Message
send_of number line =
    read_on (read_on (past (codes "(send ") line) (figure_to 60000)) (λ count. read_on (next_figure 255 count.1) (counted number count.0))

abbrev pub form_of : ℕ → List ℕ → Option Form
form_of number line = option_or (option_map (λ m. form.Send m) (send_of number line)) (option_map (λ f. form.Turn f) (turn_of line))

-- The forms of these lines, of which the first has this number.
abbrev pub forms_from : ℕ → List (List ℕ) → Result (List Form) Refused
forms_from number [] = Ok []
forms_from number (line ∷ lines) =
    and_then (ok_or (form_of number line) (wrong number)) (λ f. and_then (forms_from (number + 1) lines) (λ forms. Ok (f ∷ forms)))

abbrev pub send_in : Form → List Message
send_in (form.Send message) = message ∷ []
send_in (form.Turn fate) = []

abbrev pub turn_in : Form → List Fate
turn_in (form.Send message) = []
turn_in (form.Turn fate) = fate ∷ []

abbrev pub sends_in : List Form → List Message
sends_in [] = []
sends_in (f ∷ forms) = send_in f ++ sends_in forms

abbrev pub turns_in : List Form → List Fate
turns_in [] = []
turns_in (f ∷ forms) = turn_in f ++ turns_in forms

-- The whole text

-- What a drill asks for: messages and turns each in the order of their lines.
pub record Plan : Type 0 where
  pub head : Head
  pub sends : List Message
  pub turns : List Fate

abbrev pub plan_of : Head → List Form → Plan
plan_of head forms = record { head = head; sends = sends_in forms; turns = turns_in forms }

-- The lines from the fifth on.
abbrev pub body_of : List (List ℕ) → Head → Result Plan Refused
body_of lines head = and_then (forms_from 5 lines) (λ forms. Ok (plan_of head forms))

-- A line that is not there reads as an empty one.
abbrev pub plan_in : List (List ℕ) → Result Plan Refused
plan_in lines = and_then (head_of (slice_index_or lines 0 []) (slice_index_or lines 1 []) (slice_index_or lines 2 []) (slice_index_or lines 3 [])) (body_of (drop 4 lines))

abbrev pub script_of : List ℕ → Result Plan Refused
script_of input = cond (nat_le (length input) 65536) (plan_in (lines_of input)) (Err (wrong 0))

-- What the code answers, unless memory runs out.
abbrev pub answered : Result Script ScriptError → Option (Result Plan Refused)
answered (Ok script) = Some (Ok (record { head = script.head; sends = vec_items script.sends; turns = vec_items script.turns }))
answered (Err (error.Refused refused)) = Some (Err refused)
answered (Err (error.OutOfMemory short)) = None
