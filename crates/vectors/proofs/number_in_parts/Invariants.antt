-- What reading in parts keeps: the number, with the octets not yet read still to come; each turn reads at least one.
use Rattle.std.proofs.Common.{◌≡◌, ◌+◌, ◌<◌, ◌≤◌, length}
use Rattle.vectors.proofs.number_in_parts.Given as goal

abbrev pub invariant-loop-rest : goal.invariant-loop-rest
invariant-loop-rest g l =
    (0 < l.size) × (l.size + length l.rest ≤ length l.octets + 1) × (g.K.Check.after l.check l.rest ≡ g.K.Check.number l.octets)

abbrev pub decreases-loop-rest : goal.decreases-loop-rest
decreases-loop-rest g l = length l.rest
