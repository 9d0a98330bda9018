-- At the beginning all records are still to come.
use Rattle.std.specs.List.{range_with_len}
use Rattle.packet.specs.Reading.{block_at}
use Rattle.cut.proofs.Records.{at-places}
use Rattle.cut.proofs.joining.image_of.Goals as goal

pub loop-record-init : goal.loop-record-init
loop-record-init c =
    let p = c.args.packet.now in
    rw (c.new-image.ensures.items, c.into_iter-record-iterator.ensures.into_iter_gives, c.records-record-items.ensures.all)
    (at-places (λ i. block_at p.size p.header p.octets.now i) (range_with_len 0 p.header.records))
