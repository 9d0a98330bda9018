-- What each return answers, and so when it refuses.
use Rattle.std.proofs.Common.{rules}
use Rattle.packet.proofs.ResponseRefusals.{answered}
use Rattle.packet.proofs.response.read_response.Goals as goal

pub returns-in_err-response : goal.returns-in_err-response
returns-in_err-response g c = answered g.C.Carrier.terms c.args.octets.now _ (search rules)

pub returns-then-length-ne-HEADER_OCTETS : goal.returns-then-length-ne-HEADER_OCTETS
returns-then-length-ne-HEADER_OCTETS g c = answered g.C.Carrier.terms c.args.octets.now _ (search rules)

pub returns : goal.returns
returns g c = answered g.C.Carrier.terms c.args.octets.now _ (search rules)
