-- What cutting a message comes to.
use Rattle.std.specs.Prelude.{ℕ, cond, List, [], ◌++◌, length, Some, None, Ok, Err, codes, decimal, Option, Result}
use Rattle.fault.specs.Faults.{end_number}
use Rattle.fault.specs.declared.EndFault.{EndFault}
use Rattle.fragment.specs.Carriers.{Terms}
use Rattle.fragment.specs.Streams.{split_of}
use Rattle.cut.specs.declared.arguments.Order.{Order}
use Rattle.cut.specs.declared.outcome.Outcome.{Outcome}
use Rattle.cut.specs.declared.outcome.Outcome.TheVariants.{Refused, NotJoined, Joined}
use Rattle.cut.specs.Joining.{holding}
use Rattle.cut.specs.Lines.{lines_from, joined_from}

-- The words for an outcome.
abbrev pub words_of : Outcome → List ℕ
words_of (Refused fault) = codes "(refused " ++ (decimal (end_number fault) ++ codes ")")
words_of NotJoined = codes "(not joined)"
words_of (Joined serial octets) = codes "(joined " ++ (decimal serial ++ (codes " " ++ (decimal octets ++ codes ")")))

-- The lines of a message that makes so many fragments; a refused one has none.
abbrev pub lines_of : Terms → (List ℕ → ℕ) → Order → List ℕ → Result ℕ EndFault → List ℕ
lines_of t number order message (Ok count) = lines_from t number order message count
lines_of t number order message (Err fault) = []

-- Joined is a stream that holds the serial and the message, each packet having its data.
abbrev pub joined_of : ℕ → List ℕ → Option (List ℕ) → Outcome
joined_of serial message None = NotJoined
joined_of serial message (Some stream) = cond (holding (split_of stream) serial message) (Joined serial (length message)) NotJoined

abbrev pub outcome_of : Terms → (List ℕ → ℕ) → Order → List ℕ → Result ℕ EndFault → Outcome
outcome_of t number order message (Ok count) = joined_of order.serial message (joined_from t number order message count)
outcome_of t number order message (Err fault) = Refused fault
