-- A good record's block goes in, and a bad one changes nothing.
use Rattle.std.proofs.Common.{◌∙◌, arith}
use Rattle.packet.specs.Reading.{Block}
use Rattle.receiver.proofs.Storing.{stores-all, put_same}
use Rattle.receiver.proofs.state.BlockStore.fill.Goals as goal

pub loop-record-init : goal.loop-record-init
loop-record-init c =
    let p = c.args.packet.now in
    rw (c.into_iter-record-iterator.ensures.into_iter_gives, c.records-record-items.ensures.all) (stores-all p.size p.header p.octets.now c.requires p.header.records 0 c.args.self.now)

pub put-requires : goal.put-requires
put-requires c =
    let t = rw (c.in-Some.ensures.steps, c.in-Some-record.is) at c.loop-record.invariant in
    record { there = omega (arith, t.0.0, c.from.ensures); narrow = omega (arith, t.0.1, c.requires.narrow) }

pub loop-record-preserved-in-Some-record : goal.loop-record-preserved-in-Some-record
loop-record-preserved-in-Some-record c =
    let t = rw (c.in-Some.ensures.steps, c.in-Some-record.is) at c.loop-record.invariant in
    let b : Block = record { number = c.in-Some-record.block.number; octets = c.in-Some-record.block.octets.now } in
    rw (c.put.ensures ∙ put_same c.args.packet.now.size _ c.from.result b c.loop-record.self t.0.1 c.from.ensures) t.1

pub loop-record-preserved : goal.loop-record-preserved
loop-record-preserved c = let t = rw (c.in-Some.ensures.steps, c.in_default.is) at c.loop-record.invariant in t.1
