-- Few blocks are collected after a fill.
use Rattle.std.proofs.Common.{true, ◌≡◌, subst, sym}
use Rattle.receiver.specs.Few.{few_in}
use Rattle.receiver.specs.Fill.{After}
use Rattle.receiver.proofs.Keeping.{fill-few}
use Rattle.receiver.proofs.state.State.hear.Goals as goal

pub returns-in-Fill-clause-few : goal.returns-in-Fill-clause-few
returns-in-Fill-clause-few g c =
    subst (λ (a : After). few_in a.state.phase ≡ true) (sym c.finish.ensures)
    (fill-few g.C.Carrier.terms g.K.Check.number c.args.packet.now.header c.args.store.now c.args.self.now c.meet.new.self c.from.result c.in-Fill.g c.fill.new.self
    c.in-Fill.ensures c.from.ensures c.requires.few c.requires.admitted.records)
