-- The shape of a cut message.
use Rattle.std.specs.Prelude.{ℕ, Some, None, Ok, Err, Option, Result}
use Rattle.fault.specs.declared.EndFault.{EndFault}
use Rattle.fragment.specs.Carriers.{Terms}
use Rattle.fragment.specs.Cutting.{Piece, piece_at, fragments_of}
use Rattle.figures.specs.declared.shape.Shape.{Shape}

abbrev pub shape_from : Piece → Result ℕ EndFault → Option Shape
shape_from last (Ok count) = Some (record { fragments = count; octets = last.octets; blocks = last.blocks; pad = last.pad })
shape_from last (Err fault) = None

-- The number of fragments, and the last one's data octets, blocks and pad.
abbrev pub shape_of : Terms → ℕ → Option Shape
shape_of t m = shape_from (piece_at t m 0) (fragments_of t m)
