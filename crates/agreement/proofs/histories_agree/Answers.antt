-- Carrier and check keep their laws, so every history agrees.
use Rattle.agreement.proofs.Agreed.{history-agrees}
use Rattle.agreement.proofs.histories_agree.Goals as goal

pub returns : goal.returns
returns g c =
    history-agrees g.C.Carrier.terms g.K.Check.number
    (record { sound = g.met.C.Carrier.sound; small = g.met.K.Check.small; single = g.met.K.Check.single })
