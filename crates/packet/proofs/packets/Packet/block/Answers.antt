-- The octets of the record, as its fields.
use Rattle.std.proofs.Common.{◌∙◌, arith}
use Rattle.packet.proofs.Records.{record-gives}
use Rattle.packet.proofs.packets.Packet.block.Goals as goal

pub returns : goal.returns
returns c =
    let there = rw (c.record_place-place.ensures.value, c.from-2.ensures) at c.in_ok-get.ensures.lookup in
    let packet = c.args.self.now in
    record-gives packet.size packet.header packet.octets.now c.in_ok-get.field-0.now c.args.i (omega arith) there.0.1 there.0.2 (c.if-quality-from.false ∙ c.from-3.ensures)
