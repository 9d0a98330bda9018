-- Reading what is left gives what reading all gives.
use Rattle.std.proofs.Common.{◌≡◌, ◌-◌}
use Rattle.packet.specs.Reading.{records_from}
use Rattle.packet.proofs.packets.Packet.read_records.Given as goal

abbrev pub invariant-loop-i : goal.invariant-loop-i
invariant-loop-i l =
    let p = l.self in
    records_from p.size p.header p.octets.now (p.header.records - l.i) l.i l.least ≡ records_from p.size p.header p.octets.now p.header.records 0 0
