-- The digits read back.
use Rattle.std.proofs.Common.{arith}
use Rattle.hex_digits.proofs.Back.{octets-back}
use Rattle.hex_digits.proofs.push_hex.Goals as goal

pub returns-in_err-reserve-clause-back : goal.returns-in_err-reserve-clause-back
returns-in_err-reserve-clause-back c = octets-back c.args.octets.now (λ k. let h = c.type_inv.octets k in omega arith)

pub returns-clause-back : goal.returns-clause-back
returns-clause-back c = octets-back c.args.octets.now (λ k. let h = c.type_inv.octets k in omega arith)
