-- A session that is opened has a packet that can be made, and is bounded.
use Rattle.std.proofs.Common.{sym}
use Rattle.sender.proofs.Running.{start-bounded, start-sendable}
use Rattle.sender.proofs.states.Ready.start.Goals as goal

pub returns-in-Ok-clause-sendable : goal.returns-in-Ok-clause-sendable
returns-in-Ok-clause-sendable g c = start-sendable _ g.met.C.Carrier.sound _ _ _ _ (sym c.in-Ok.ensures)

pub returns-in-Ok-clause-bounded : goal.returns-in-Ok-clause-bounded
returns-in-Ok-clause-bounded g c = start-bounded _ g.met.C.Carrier.sound _ _ _ _ (sym c.in-Ok.ensures)
