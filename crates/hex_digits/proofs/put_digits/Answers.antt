-- Each turn puts the digits of one octet, and digits are ASCII.
use Rattle.std.proofs.Common.{◌∙◌, arith, rules}
use Rattle.std.proofs.lemmas.List.{length-set}
use Rattle.hex_digits.proofs.Steps.{digits-next, hex-ascii}
use Rattle.hex_digits.proofs.put_digits.Goals as goal

pub loop-i-preserved : goal.loop-i-preserved
loop-i-preserved c = (
  length-set _ _ _ ∙ (length-set _ _ _ ∙ c.loop-i.invariant.0),
  digits-next c.loop-i.buffer c.args.group.now c.loop-i.i _ _ c.loop-i.invariant.0 c.requires c.loop-i-test.true
      (search rules) (search rules) c.loop-i.invariant.1,
)

pub returns-clause-ascii : goal.returns-clause-ascii
returns-clause-ascii c = hex-ascii c.args.group.now (λ k. let h = c.type_inv.group k in omega arith)
