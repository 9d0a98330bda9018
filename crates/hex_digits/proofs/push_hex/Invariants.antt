-- What the loop keeps: the text, with the octets not yet written still to come; and room for them.
use Rattle.std.proofs.Common.{◌≡◌, ◌+◌, ◌-◌, ◌*◌, ◌≤◌, ◌++◌, length, drop, vec_items, vec_len, vec_capacity}
use Rattle.hex_digits.specs.Digits.{hex_of}
use Rattle.hex_digits.proofs.push_hex.Given as goal

abbrev pub invariant-loop-octet : goal.invariant-loop-octet
invariant-loop-octet l =
    (vec_items l.text ++ hex_of (drop l.octet-index l.octets) ≡ vec_items l.initial.text ++ hex_of l.octets)
    × (vec_len l.text + 2 * (length l.octets - l.octet-index) ≤ vec_capacity l.text)
