-- Each turn reads one octet.
use Rattle.std.proofs.Common.{◌++◌, drop, ap, ◌∙◌}
use Rattle.std.proofs.lemmas.List.{take_rest}
use Rattle.std.specs.Option.{option_map}
use Rattle.hex_digits.specs.Digits.{octets_of}
use Rattle.hex_digits.proofs.Steps.{octets-more}
use Rattle.hex_digits.proofs.octets_of.Goals as goal

pub loop-rest-preserved : goal.loop-rest-preserved
loop-rest-preserved c =
    let rest = c.loop-rest.rest.now in
    let step = octets-more c.loop-rest.octets.items rest c.in-Some-Some.high c.in-Some-Some.low c.in-Some-Some.ensures c.in-Some-Some.ensures' in
    rw take_rest
    (ap (λ items. option_map (λ more. items ++ more) (octets_of (drop 2 rest))) c.in_ok-push.ensures.items ∙ step ∙ c.loop-rest.invariant)
