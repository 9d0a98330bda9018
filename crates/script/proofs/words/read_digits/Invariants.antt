-- What the loop keeps: the figure from here on is the whole figure, in 32 bits.
use Rattle.std.proofs.Common.{◌≡◌, ◌≤◌, length}
use Rattle.script.specs.Words.{figure_from}
use Rattle.script.proofs.words.read_digits.Given as goal

abbrev pub invariant-loop-rest : goal.invariant-loop-rest
invariant-loop-rest l = (figure_from l.value l.rest ≡ figure_from l.first l.text) × (l.value ≤ 4294967295)

abbrev pub decreases-loop-rest : goal.decreases-loop-rest
decreases-loop-rest l = length l.rest
