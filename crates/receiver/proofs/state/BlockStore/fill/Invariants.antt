-- Filling in the records to come gives what filling in all gives.
use Rattle.packet.specs.Records.{records_left}
use Rattle.receiver.specs.Store.{filled_by}
use Rattle.receiver.proofs.Storing.{Stores}
use Rattle.receiver.proofs.state.BlockStore.fill.Given as goal

abbrev pub invariant-loop-record : goal.invariant-loop-record
invariant-loop-record l = let p = l.packet in Stores p.size (records_left l.record-iterator) l.self (filled_by p.size p.header p.octets.now l.initial.self)
