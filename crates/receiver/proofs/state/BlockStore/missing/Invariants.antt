-- The flags so far ask for the blocks below j that are not held.
use Rattle.std.proofs.Common.{◌≡◌, ◌^◌, ◌<◌}
use Rattle.receiver.specs.Store.{missing_of}
use Rattle.receiver.proofs.state.BlockStore.missing.Given as goal

abbrev pub invariant-loop-j : goal.invariant-loop-j
invariant-loop-j l = (l.flags ≡ (missing_of l.j l.self).0) × (l.flags < 2 ^ l.j)
