-- What each return answers, and so when it refuses.
use Rattle.std.proofs.Common.{length, Ok, Err, rules}
use Rattle.fault.specs.declared.PacketFault.TheVariants.{Length}
use Rattle.packet.proofs.ReadRefusals.{answered}
use Rattle.packet.proofs.read.read_packet.Goals as goal

pub returns-in_err-front : goal.returns-in_err-front
returns-in_err-front g c = answered g.C.Carrier.terms c.args.octets.now _ (search rules)

pub returns-in_err-header : goal.returns-in_err-header
returns-in_err-header g c = answered g.C.Carrier.terms c.args.octets.now _ (search rules)

pub returns-then-length-record_place : goal.returns-then-length-record_place
returns-then-length-record_place g c = answered g.C.Carrier.terms c.args.octets.now (Err (Length (length c.args.octets.now))) (search rules)

pub returns-in_err-read_records : goal.returns-in_err-read_records
returns-in_err-read_records g c = answered g.C.Carrier.terms c.args.octets.now _ (search rules)

pub returns : goal.returns
returns g c =
    answered g.C.Carrier.terms c.args.octets.now
    (Ok (record { header = c.in_ok-header.header; size = c.block_size.result; octets = c.args.octets })) (search rules)
