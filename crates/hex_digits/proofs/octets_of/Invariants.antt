-- What the loop keeps: the octets so far, with those of the digits not yet read behind them, are those of all digits.
use Rattle.std.proofs.Common.{◌≡◌, ◌++◌, length, vec_items}
use Rattle.std.specs.Option.{option_map}
use Rattle.hex_digits.specs.Digits.{octets_of}
use Rattle.hex_digits.proofs.octets_of.Given as goal

abbrev pub invariant-loop-rest : goal.invariant-loop-rest
invariant-loop-rest l = option_map (λ more. vec_items l.octets ++ more) (octets_of l.rest) ≡ octets_of l.digits

abbrev pub decreases-loop-rest : goal.decreases-loop-rest
decreases-loop-rest l = length l.rest
