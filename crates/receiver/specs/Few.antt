-- What every receiver keeps.
use Rattle.std.specs.Prelude.{Bool, true, nat_le}
use Rattle.receiver.specs.declared.state.Phase.{Phase}
use Rattle.receiver.specs.declared.state.Phase.TheVariants.{Idle, Collecting, Waiting, Done}

-- At most sixteen blocks are collected.
abbrev pub few_in : Phase → Bool
few_in Idle = true
few_in (Collecting g) = nat_le g.blocks 16
few_in (Waiting v) = true
few_in Done = true
