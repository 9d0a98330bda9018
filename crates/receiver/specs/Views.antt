-- What the code's receivers and admitted packets are, as values.
use Rattle.std.specs.Prelude.{Ok, Err, Result}
use Rattle.fault.specs.declared.EndFault.{EndFault}
use Rattle.packet.specs.declared.packets.Packet.{Packet}
use Rattle.packet.specs.Views.{Seen}
use Rattle.receiver.specs.declared.state.State.{State}
use Rattle.receiver.specs.declared.receiver.Receiver.{Receiver}

abbrev pub admitted_in : Result Packet EndFault → Result Seen EndFault
admitted_in (Ok p) = Ok (record { header = p.header; size = p.size; octets = p.octets.now })
admitted_in (Err fault) = Err fault

abbrev pub made_in : {C K : Type 0} → Result (Receiver C K) EndFault → Result State EndFault
made_in (Ok r) = Ok r.state
made_in (Err fault) = Err fault
