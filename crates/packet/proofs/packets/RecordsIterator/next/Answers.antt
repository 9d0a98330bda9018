-- The next record is the first of those to come, and one fewer is left.
use Rattle.std.proofs.Common.{◌≡◌, suc, ◌-◌, length, ap, arith}
use Rattle.packet.proofs.packets.RecordsIterator.next.Goals as goal

pub returns-clause-steps : goal.returns-clause-steps
returns-clause-steps c =
    let at = c.args.self.now.places in
    let turn = c.in_ok-i.ensures.steps in
    let n : at.end - at.start ≡ suc (c.next.new.self.end - c.next.new.self.start) = omega (arith, turn) in
    rw (n, c.block.ensures, c.from.ensures, turn.1.1, turn.1.2)

pub returns-clause-goes : goal.returns-clause-goes
returns-clause-goes c = record { on = λ f. (tt, tt, omega (arith, ap length (returns-clause-steps c))); keeps = tt; rests = λ f. tt }
