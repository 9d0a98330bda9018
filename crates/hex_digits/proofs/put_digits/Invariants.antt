-- What the loop keeps: the digits of the octets so far stand in front.
use Rattle.std.proofs.Common.{◌≡◌, ◌*◌, length, take}
use Rattle.hex_digits.specs.Digits.{hex_of}
use Rattle.hex_digits.proofs.put_digits.Given as goal

abbrev pub invariant-loop-i : goal.invariant-loop-i
invariant-loop-i l = (length l.buffer ≡ 256) × (take (2 * l.i) l.buffer ≡ hex_of (take l.i l.group))
