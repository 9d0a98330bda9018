-- The image that the code holds by its parts.
use Rattle.std.specs.Prelude.{ℕ, List, ◌++◌}
use Rattle.fragment.specs.Cutting.{piece_of}
use Rattle.fragment.specs.Laws.{data_in}
use Rattle.fragment.specs.Streams.{stream_of, four_octets}
use Rattle.packet.specs.declared.image.Image.{Image}
use Rattle.packet.specs.Images.{covered}

abbrev pub image_in : {C : Type 0} → Image C → List ℕ
image_in i = covered (data_in (piece_of i.fragment.now) (stream_of i.serial i.message.now)) i.fragment.now.pad ++ four_octets i.seal
