-- There is a record for each number.
use Rattle.std.proofs.Common.{◌-◌, arith}
use Rattle.std.proofs.lemmas.List.FromFn.{length-map-range_with_len}
use Rattle.packet.specs.Reading.{block_at}
use Rattle.packet.proofs.packets.Packet.records.Goals as goal

pub returns-clause-few : goal.returns-clause-few
returns-clause-few c = let p = c.args.self.now in omega (arith, length-map-range_with_len (block_at p.size p.header p.octets.now) 0 (p.header.records - 0))
