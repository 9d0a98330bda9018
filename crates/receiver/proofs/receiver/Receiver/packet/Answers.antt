-- What is admitted is heard and answered; what is refused changes nothing.
use Rattle.std.proofs.Common.{Ok, Err, refl, ap, ◌∙◌}
use Rattle.std.proofs.lemmas.Result.{err_from_is_err_and}
use Rattle.packet.specs.Views.{Seen}
use Rattle.receiver.proofs.Calling.{call-refused, call-heard}
use Rattle.receiver.proofs.Promising.{promised}
use Rattle.receiver.proofs.receiver.Receiver.packet.Goals as goal

pub returns-in_err-packet : goal.returns-in_err-packet
returns-in_err-packet g c =
    let r = c.args.self.now in
    let p = err_from_is_err_and c.from_residual.result c.from_residual.ensures.1 in
    promised g.C.Carrier.terms g.met.C.Carrier.sound g.K.Check.number g.met.K.Check.small r.route r.state c.args.store.now c.args.octets.now c.args.response.now
    c.from_residual.result r.state c.args.store.now c.args.response.now r.route
    (call-refused g.C.Carrier.terms g.K.Check.number r.route r.state c.args.store.now c.args.octets.now c.args.response.now c.from_residual.result c.in_err-packet.field-0.0
    (p.1 ∙ ap Err p.2) c.in_err-packet.ensures.value)
    refl

pub returns : goal.returns
returns g c =
    let r = c.args.self.now in
    let q = c.in_ok-packet.packet in
    let p : Seen = record { header = q.header; size = q.size; octets = q.octets.now } in
    promised g.C.Carrier.terms g.met.C.Carrier.sound g.K.Check.number g.met.K.Check.small r.route r.state c.args.store.now c.args.octets.now c.args.response.now
    (Ok c.hear-heard.result) c.hear-heard.new.self c.hear-heard.new.store c.write_response.new.buffer r.route
    (call-heard g.C.Carrier.terms g.K.Check.number r.route r.state c.args.store.now c.args.octets.now c.args.response.now p c.in_ok-packet.ensures.value
    c.hear-heard.new.self c.hear-heard.new.store c.hear-heard.result c.hear-heard.ensures.value c.write_response.result c.write_response.new.buffer c.write_response.ensures.value)
    refl
