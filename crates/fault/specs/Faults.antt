-- The number, layer and octet place of each fault.
use Rattle.std.specs.Prelude.{ℕ, List, ◌++◌, codes, decimal}
use Rattle.fault.specs.declared.Layer.{Layer}
use Rattle.fault.specs.declared.Layer.TheVariants as layer
use Rattle.fault.specs.declared.PacketFault.{PacketFault}
use Rattle.fault.specs.declared.PacketFault.TheVariants.{Length, Kind, Field, Buffer, Message}
use Rattle.fault.specs.declared.EndFault.{EndFault}
use Rattle.fault.specs.declared.EndFault.TheVariants.{Packet, Empty, TooLong, Address, Retries, Store, Number, Blocks, SerialsUsed, Unfit}

-- The word for a layer.
abbrev pub layer_name : Layer → List ℕ
layer_name layer.Packet = codes "packet"
layer_name layer.End = codes "end"

abbrev pub packet_number : PacketFault → ℕ
packet_number (Length octets) = 3
packet_number Kind = 4
packet_number (Field place) = 5
packet_number Buffer = 7
packet_number Message = 7

-- Where a fault of the packet layer lies: a wrong length is named by that length, a wrong field by its first octet.
abbrev pub packet_place : PacketFault → ℕ
packet_place (Length octets) = octets
packet_place Kind = 0
packet_place (Field place) = place
packet_place Buffer = 0
packet_place Message = 0

abbrev pub end_number : EndFault → ℕ
end_number (Packet inner) = packet_number inner
end_number Empty = 1
end_number TooLong = 2
end_number (Address place) = 6
end_number Retries = 8
end_number Store = 8
end_number Number = 10
end_number Blocks = 11
end_number SerialsUsed = 12
end_number (Unfit place) = 13

-- A fault of the packet layer keeps its layer inside an end's.
abbrev pub end_layer : EndFault → Layer
end_layer (Packet inner) = layer.Packet
end_layer Empty = layer.End
end_layer TooLong = layer.End
end_layer (Address place) = layer.End
end_layer Retries = layer.End
end_layer Store = layer.End
end_layer Number = layer.End
end_layer Blocks = layer.End
end_layer SerialsUsed = layer.End
end_layer (Unfit place) = layer.End

-- Number and block flags of a response begin at octets 6 and 8.
abbrev pub end_place : EndFault → ℕ
end_place (Packet inner) = packet_place inner
end_place Empty = 0
end_place TooLong = 0
end_place (Address place) = place
end_place Retries = 0
end_place Store = 0
end_place Number = 6
end_place Blocks = 8
end_place SerialsUsed = 0
end_place (Unfit place) = place

-- A fault as it is printed: its number, its layer and its octet place.
abbrev pub text_of : ℕ → Layer → ℕ → List ℕ
text_of number layer place = decimal number ++ (codes " " ++ (layer_name layer ++ (codes " " ++ decimal place)))

abbrev pub packet_text : PacketFault → List ℕ
packet_text fault = text_of (packet_number fault) layer.Packet (packet_place fault)

abbrev pub end_text : EndFault → List ℕ
end_text fault = text_of (end_number fault) (end_layer fault) (end_place fault)
