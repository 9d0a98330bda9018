-- What the loop keeps: the hearings from here on stand behind those so far, one for each turn.
use Rattle.std.proofs.Common.{◌≡◌, ℕ, List, Some, Option, length}
use Rattle.air.specs.declared.fate.Hearing.{Hearing}
use Rattle.air.specs.declared.few.UpToThree.{UpToThree}
use Rattle.air.specs.declared.few.UpToThree.TheVariants.{Empty, One, Two, Three}
use Rattle.air.specs.Few.{listed}
use Rattle.script.specs.Words.{read_on}
use Rattle.script.specs.Turns.{hearing_of, second, third, hearings_of}
use Rattle.script.proofs.turns.read_hearings.Given as goal

-- Hearings that stand behind these.
abbrev pub behind : UpToThree Hearing → List ℕ → Option (UpToThree Hearing × List ℕ)
behind Empty text = hearings_of text
behind (One a) text = read_on (hearing_of text) (second a)
behind (Two a b) text = read_on (hearing_of text) (third a b)
behind (Three a b c) text = Some (Three a b c, text)

abbrev pub invariant-loop : goal.invariant-loop
invariant-loop l = (behind l.heard l.rest ≡ hearings_of l.text) × (length (listed l.heard) ≡ l.counter)
