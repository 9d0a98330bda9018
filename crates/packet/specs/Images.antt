-- A fragment's image: what its blocks are cut from.
use Rattle.std.specs.Prelude.{ℕ, ◌*◌, List, ◌++◌, take, drop, replicate}
use Rattle.fragment.specs.Cutting.{Piece}
use Rattle.fragment.specs.Laws.{data_in}
use Rattle.fragment.specs.Streams.{four_octets}

-- The octets that the check covers: data and pad.
abbrev pub covered : List ℕ → ℕ → List ℕ
covered content pad = content ++ replicate pad 0

-- They, and their check.
abbrev pub sealed : (List ℕ → ℕ) → List ℕ → List ℕ
sealed number octets = octets ++ four_octets (number octets)

-- The image of a fragment of a stream.
abbrev pub image_of : (List ℕ → ℕ) → Piece → List ℕ → List ℕ
image_of number f stream = sealed number (covered (data_in f stream) f.pad)

-- Block j of an image.
abbrev pub block_of : ℕ → List ℕ → ℕ → List ℕ
block_of size image j = take size (drop (j * size) image)
