-- A packet that fits is admitted.
use Rattle.packet.specs.Views.{Seen}
use Rattle.receiver.proofs.Admitting.{admitted}
use Rattle.receiver.proofs.Reading.{seen-admitted}
use Rattle.receiver.proofs.admit.admit.Goals as goal

pub returns-in-None : goal.returns-in-None
returns-in-None g c =
    let q = c.in_ok-packet.packet in
    let p : Seen = record { header = q.header; size = q.size; octets = q.octets.now } in
    record {
      value =
          admitted g.C.Carrier.terms c.args.route c.args.phase c.args.octets.now c.args.room p c.if-room-lt-HEADER_OCTETS.false c.in_ok-packet.ensures.value
          c.in_ok-admit.ensures c.in-None.ensures;
      admitted = seen-admitted g.C.Carrier.terms g.met.C.Carrier.sound c.args.octets.now p c.in_ok-packet.ensures.value;
    }
