-- Every set is within sixteen blocks.
use Rattle.std.proofs.Common.{arith, rules}
use Rattle.packet.proofs.Sets.{small-set}
use Rattle.packet.proofs.blocks.within.Goals as goal

pub returns-then-blocks-ge16 : goal.returns-then-blocks-ge16
returns-then-blocks-ge16 c =
    let h = small-set c.args.flags c.args.blocks c.ranges.flags.fits (omega arith) in
    search rules
