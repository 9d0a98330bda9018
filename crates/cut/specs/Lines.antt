-- The lines of a message's packets, and what joining the packets gives.
use Rattle.std.specs.Prelude.{ℕ, zero, suc, List, [], ◌∷◌, ◌++◌, length, Some, None, Option}
use Rattle.std.specs.Option.{option_map}
use Rattle.fragment.specs.Carriers.{Terms}
use Rattle.fragment.specs.Cutting.{fragment_at}
use Rattle.fragment.specs.Streams.{stream_of}
use Rattle.hex_digits.specs.Digits.{hex_of}
use Rattle.packet.specs.Layout.{packet_octets}
use Rattle.packet.specs.declared.values.Blocks.TheVariants.{All}
use Rattle.cut.specs.declared.arguments.Order.{Order}
use Rattle.cut.specs.Joining.{packet_data}

-- The full packet of the fragment that `n` others follow.
abbrev pub packet_at : Terms → (List ℕ → ℕ) → Order → List ℕ → ℕ → Option (List ℕ)
packet_at t number order message n =
    option_map (λ f. packet_octets number order.route f (stream_of order.serial message) All) (fragment_at t (length message) n)

-- A packet's line: its digits and a line feed.
abbrev pub line_of : Option (List ℕ) → List ℕ
line_of None = []
line_of (Some octets) = hex_of octets ++ (10 ∷ [])

-- What reading it back gives.
abbrev pub data_back : Terms → (List ℕ → ℕ) → Option (List ℕ) → Option (List ℕ)
data_back t number None = None
data_back t number (Some octets) = packet_data t number octets

-- One piece of a stream behind another, or none where either is missing.
abbrev pub both : Option (List ℕ) → Option (List ℕ) → Option (List ℕ)
both (Some front) (Some back) = Some (front ++ back)
both (Some front) None = None
both None back = None

-- The lines of the last `count` fragments in sending order, and their data, if each packet has data.
abbrev pub lines_from : Terms → (List ℕ → ℕ) → Order → List ℕ → ℕ → List ℕ
lines_from t number order message zero = []
lines_from t number order message (suc n) = line_of (packet_at t number order message n) ++ lines_from t number order message n

abbrev pub joined_from : Terms → (List ℕ → ℕ) → Order → List ℕ → ℕ → Option (List ℕ)
joined_from t number order message zero = Some []
joined_from t number order message (suc n) =
    both (data_back t number (packet_at t number order message n)) (joined_from t number order message n)
