-- A response that the sender takes is the one that reaches it.
use Rattle.exchange.proofs.Reaching.{heard-reached}
use Rattle.exchange.proofs.settling.settle.Goals as goal

pub returns-in-Ok-clause-value : goal.returns-in-Ok-clause-value
returns-in-Ok-clause-value g c =
    let y = c.args.sender in
    heard-reached g.C.Carrier.terms y.base y.session c.in-Some.octets c.args.response _ c.in-Some.is c.in-Ok.ensures.value
