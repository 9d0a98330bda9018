-- Packets and responses in words.
use Rattle.std.specs.Prelude.{ℕ, Bool, not, cond, List, [], ◌∷◌, ◌++◌, is_some, codes, decimal, filter, Option}
use Rattle.std.specs.List.{filter_map, flat_map, range_with_len}
use Rattle.std.specs.Option.{option_map}
use Rattle.packet.specs.Blocks.{has}
use Rattle.packet.specs.Reading.{Block, block_at}
use Rattle.packet.specs.Views.{Seen}
use Rattle.packet.specs.declared.values.BlockSet.{BlockSet}
use Rattle.packet.specs.declared.values.Code.{Code}
use Rattle.packet.specs.declared.values.Code.TheVariants.{Ack, AckSelective, FullRetry, OutOfStep}
use Rattle.packet.specs.declared.values.Header.{Header}
use Rattle.packet.specs.declared.values.Response.{Response}

-- A number behind a space.
abbrev pub item : ℕ → List ℕ
item n = codes " " ++ decimal n

-- Numbers, each behind a space.
abbrev pub listed : List ℕ → List ℕ
listed = flat_map item

abbrev pub record_at : Seen → ℕ → Option Block
record_at p = block_at p.size p.header p.octets

-- The block numbers of a packet's good records, and the indices of its bad ones.
abbrev pub good_numbers : Seen → List ℕ
good_numbers p = filter_map (λ i. option_map (λ block. block.number) (record_at p i)) (range_with_len 0 p.header.records)

abbrev pub bad_places : Seen → List ℕ
bad_places p = filter (λ i. not (is_some (record_at p i))) (range_with_len 0 p.header.records)

abbrev pub extent_word : Bool → List ℕ
extent_word selective = cond selective (codes "selective") (codes "full")

abbrev pub place_word : Bool → List ℕ
place_word start = cond start (codes "first") (codes "later")

abbrev pub route_words : Header → List ℕ
route_words h = codes "(packet" ++ (item h.route.source ++ (item h.route.destination ++ item h.number))

abbrev pub shape_words : Header → List ℕ
shape_words h = codes " " ++ (extent_word h.selective ++ (codes " " ++ (place_word h.start ++ item h.pad)))

abbrev pub packet_words : Seen → List ℕ
packet_words p =
    route_words p.header ++ (shape_words p.header ++ (codes " (good" ++ (listed (good_numbers p)
    ++ (codes ") (bad" ++ (listed (bad_places p) ++ (codes "))" ++ (10 ∷ [])))))))

-- The blocks of a set, of 16 that it may hold.
abbrev pub blocks_in : BlockSet → List ℕ
blocks_in set = filter (has set) (range_with_len 0 16)

abbrev pub code_words : Code → List ℕ
code_words Ack = codes "ack"
code_words (AckSelective set) = codes "selective" ++ listed (blocks_in set)
code_words FullRetry = codes "full"
code_words OutOfStep = codes "out-of-step"

abbrev pub answer_head : Response → List ℕ
answer_head r = codes "(response" ++ (item r.route.source ++ (item r.route.destination ++ (item r.number ++ codes " ")))

abbrev pub response_words : Response → List ℕ
response_words r = answer_head r ++ (code_words r.code ++ (codes ")" ++ (10 ∷ [])))
