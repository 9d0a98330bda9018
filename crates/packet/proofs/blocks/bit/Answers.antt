-- No block past 15 is in a set.
use Rattle.std.proofs.lemmas.Bool.{le-ltb}
use Rattle.packet.proofs.Sets.{none-high}
use Rattle.packet.proofs.blocks.bit.Goals as goal

pub returns-else-j-lt16 : goal.returns-else-j-lt16
returns-else-j-lt16 c =
    rw (le-ltb c.args.j 16 c.if-j-lt16.false, none-high c.args.flags c.args.j c.ranges.flags.fits c.if-j-lt16.false)
