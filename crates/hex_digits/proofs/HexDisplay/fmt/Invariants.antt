-- What the loop keeps: the digits written, and those of the octets still to come, are those of all.
use Rattle.std.proofs.Common.{◌≡◌, ◌++◌, List, ℕ}
use Rattle.std.specs.Fmt.{HasWritten, IsPlainFormatter}
use Rattle.std.specs.Slice.Iter.{chunks_rest, chunks_size}
use Rattle.hex_digits.specs.Digits.{hex_of}
use Rattle.hex_digits.proofs.HexDisplay.fmt.Given as goal

abbrev pub invariant-loop-group : goal.invariant-loop-group
invariant-loop-group g l =
    (goal.iterator-loop-group g).can_next l.group-iterator
    × (goal.iterator-loop-group g).is_finite l.group-iterator
    × (chunks_size l.group-iterator ≡ 128)
    × (IsPlainFormatter l.initial.f → (written : List ℕ) × HasWritten g.W.Write.write_str_gives l.initial.f written l.f
    × (written ++ hex_of (chunks_rest l.group-iterator) ≡ hex_of l.fn.self.0.now))
