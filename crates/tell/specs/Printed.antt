-- The lines that answer a drill.
use Rattle.std.specs.Prelude.{ℕ, List, [], ◌∷◌, ◌++◌, codes, decimal}
use Rattle.sender.specs.declared.values.Report.{Report}
use Rattle.sender.specs.Words.{report_words}
use Rattle.tell.specs.declared.faults.Refused.{Refused}
use Rattle.tell.specs.declared.print.Line.{Line}
use Rattle.tell.specs.declared.print.Line.TheVariants as line
use Rattle.tell.specs.Faults.{drill_number}

-- A number behind a space.
abbrev pub item : ℕ → List ℕ
item n = codes " " ++ decimal n

-- A line without its line feed.
abbrev pub line_text : Line → List ℕ
line_text (line.Up serial octets) = codes "(up" ++ (item serial ++ (item octets ++ codes ")"))
line_text (line.Report report) = report_words report
line_text (line.Refused refused) = codes "(refused" ++ (item refused.line ++ (item (drill_number refused.fault) ++ codes ")"))

abbrev pub line_of : Line → List ℕ
line_of told = line_text told ++ (10 ∷ [])

-- The message with this serial, of so many octets, was handed up.
abbrev pub up_line : ℕ → ℕ → List ℕ
up_line serial count = line_of (line.Up serial count)

abbrev pub report_line : Report → List ℕ
report_line report = line_of (line.Report report)

-- The line that is refused, and the number of the fault.
abbrev pub refused_line : Refused → List ℕ
refused_line refused = line_of (line.Refused refused)
