-- An octet by the table is an octet by the rule.
use Rattle.std.proofs.Common.{◌*◌, ◌%◌, ◌^◌, ap, ◌∙◌}
use lib.Bits.{bit_xor}
use Rattle.check32.proofs.HighOctet.{octet-by-top}
use Rattle.check32.proofs.polynomial.DivisionStep.next.Goals as goal

pub returns : goal.returns
returns c =
    ap (bit_xor (c.args.register * 2 ^ 8 % 2 ^ 32)) c.entry.ensures
    ∙ octet-by-top c.args.register c.args.octet c.ranges.register.fits c.ranges.octet.fits
