-- What the loop keeps: the answers so far, with those to the lines not yet read behind them; and no more lines are counted than octets read.
use Rattle.std.proofs.Common.{◌≡◌, ◌+◌, ◌≤◌, ◌++◌, length, string_bytes}
use Rattle.inspect.specs.Lines.{lines_of, answers_from}
use Rattle.inspect.proofs.lines.push_lines.Given as goal

abbrev pub invariant-loop-digits : goal.invariant-loop-digits
invariant-loop-digits g l =
    (string_bytes l.text ++ answers_from g.C.Carrier.terms l.line (lines_of l.rest)
    ≡ string_bytes l.initial.text ++ answers_from g.C.Carrier.terms 1 (lines_of l.input))
    × (l.line + length l.rest ≤ length l.input + 1)

abbrev pub decreases-loop-digits : goal.decreases-loop-digits
decreases-loop-digits g l = length l.rest
