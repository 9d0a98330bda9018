-- A turn reads one record.
use Rattle.std.proofs.lemmas.Result.{err_from_is_err_and}
use Rattle.packet.proofs.Records.{record-more}
use Rattle.packet.proofs.packets.Packet.read_records.Goals as goal

pub returns-in_err-least : goal.returns-in_err-least
returns-in_err-least c =
    let q = err_from_is_err_and c.from_residual.result c.from_residual.ensures.1 in
    let p = c.args.self.now in
    let s = record-more p.size p.header p.octets.now p.header.records c.loop-i.i c.loop-i.least c.read_record.result _ c.loop-i-test.true c.read_record.ensures c.loop-i.invariant in
    rw (q.1, q.2) (rw c.in_err-least.was at s)

pub loop-i-preserved : goal.loop-i-preserved
loop-i-preserved c =
    let p = c.args.self.now in
    let s = record-more p.size p.header p.octets.now p.header.records c.loop-i.i c.loop-i.least c.read_record.result _ c.loop-i-test.true c.read_record.ensures c.loop-i.invariant in
    rw c.in_ok-least.was at s
