-- The records stand behind the header, and the image is sealed by its check.
use Rattle.std.proofs.Common.{sym, ap, ◌∙◌, arith, rules}
use Rattle.fragment.specs.Cutting.{piece_of}
use Rattle.fragment.specs.declared.piece.Fragment.{Fragment}
use Rattle.packet.specs.Reading.{record_place}
use Rattle.packet.specs.Sealing.{image_in}
use Rattle.packet.proofs.Sets.{some-carried}
use Rattle.packet.proofs.Writing.{packet-over, packet-written}
use Rattle.packet.proofs.WriteRefusals.{answered}
use Rattle.packet.proofs.write.write_packet.Goals as goal

pub octets-requires : goal.octets-requires
octets-requires g c =
    let f = c.args.fragment.now in
    let s = some-carried g.C.Carrier.terms f.blocks c.args.blocks f.some (sym c.fit.ensures ∙ c.if-not-fit.false) in
    omega (arith, c.count-count.ensures)

pub returns-then-not-fit : goal.returns-then-not-fit
returns-then-not-fit g c =
    answered _ g.K.Check.number c.args.route c.args.serial (piece_of c.args.fragment.now) _ _ _ g.met.C.Carrier.sound (search rules) (search rules) _ _ (search rules)

pub returns : goal.returns
returns g c =
    let f = c.args.fragment.now in
    answered _ g.K.Check.number c.args.route c.args.serial (piece_of f) _ _ _ g.met.C.Carrier.sound (search rules) (search rules) _ _
    (packet-written g.C.Carrier.terms g.K.Check.number c.args.route c.args.serial (piece_of f) c.args.blocks c.args.message.now c.args.packet.now
    c.record_place-length.result c.write_records.new.packet
    c.if-message-fragment.false (sym c.fit.ensures ∙ c.if-not-fit.false)
    (c.record_place-length.ensures.value ∙ ap (λ n. record_place f.block n) c.count-count.ensures) c.if-packet-length.false
    (packet-over g.C.Carrier.terms g.K.Check.number c.args.route c.args.serial (piece_of f) c.args.blocks c.args.message.now c.args.packet.now
    _ _ c.count-count.result c.is_selective.result (image_in c.sealed.result) c.octets.result c.put.new.buffer c.write_records.new.packet
    (ap (λ (p : Fragment g.row.C.Denot). p.block) c.sealed.ensures.fragment) (ap (λ (p : Fragment g.row.C.Denot). p.blocks) c.sealed.ensures.fragment)
    c.count-count.ensures c.is_selective.ensures c.sealed.ensures.image c.octets.ensures c.put.ensures c.write_records.ensures (omega (arith, c.if-packet-length.false))))
