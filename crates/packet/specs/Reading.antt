-- What reading octets answers: the first test that fails gives the fault.
use Rattle.std.specs.Prelude.{ℕ, zero, suc, ◌+◌, ◌-◌, ◌*◌, Bool, true, false, cond, ◌&&◌, ◌||◌, List, [], ◌∷◌, ◌++◌, length, take, drop, Some, None, Ok, Err, Option, Result, ◌==◌, nat_le, nat_lt, slice_index}
use Rattle.fault.specs.declared.PacketFault.{PacketFault}
use Rattle.fault.specs.declared.PacketFault.TheVariants.{Length, Kind, Field}
use Rattle.fragment.specs.Carriers.{Terms}
use Rattle.packet.specs.declared.values.Route.{Route}
use Rattle.packet.specs.declared.values.Header.{Header}
use Rattle.packet.specs.declared.values.Kind.{Kind as OctetsKind}
use Rattle.packet.specs.declared.values.Kind.TheVariants as kind
use Rattle.packet.specs.declared.front.Front.{Front}
use Rattle.packet.specs.declared.values.Quality.TheVariants.{Good, Bad}
use Rattle.packet.specs.Octets.{two_at}
use Rattle.packet.specs.Layout.{kind_number, quality_number, flags_of, packet_length}

-- The value, or the fault of the first test that fails.
abbrev pub first_of : {A E : Type 0} → List (Bool × E) → A → Result A E
first_of [] a = Ok a
first_of (t ∷ ts) a = cond t.0 (first_of ts a) (Err t.1)

abbrev pub and_then : {A B E : Type 0} → Result A E → (A → Result B E) → Result B E
and_then (Ok a) f = f a
and_then (Err e) f = Err e

abbrev pub route_at : List ℕ → Route
route_at xs = record { source = two_at xs 1; destination = two_at xs 3 }

-- The ten octets in front of a packet, or of a response.
abbrev pub front_at : OctetsKind → List ℕ → Front
front_at of_kind xs =
    record {
      kind = of_kind;
      route = route_at xs;
      shape = slice_index xs 5;
      number = two_at xs 6;
      last = slice_index xs 8 ∷ (slice_index xs 9 ∷ []);
    }

abbrev pub front_tests : OctetsKind → List ℕ → List (Bool × PacketFault)
front_tests of_kind xs = (nat_le 10 (length xs), Length (length xs)) ∷ (((slice_index xs 0 == kind_number of_kind), Kind) ∷ [])

abbrev pub front_of : OctetsKind → List ℕ → Result Front PacketFault
front_of of_kind xs = first_of (front_tests of_kind xs) (front_at of_kind xs)

-- Flags

abbrev pub is_start : ℕ → Bool
is_start flags = flags == flags_of true false || flags == flags_of true true

abbrev pub is_selective : ℕ → Bool
is_selective flags = flags == flags_of false true || flags == flags_of true true

-- Without selective retry a packet is full and its fragment the first.
abbrev pub flags_fit : Bool → ℕ → Bool
flags_fit true flags = flags == flags_of false false || (is_start flags || is_selective flags)
flags_fit false flags = flags == flags_of true false

-- Header

-- The least data octets of a fragment: one, and the first has the serial before it.
abbrev pub least_data : Bool → ℕ
least_data start = cond start 5 1

-- A full packet shows how many data octets its fragment has: its blocks less pad and check.
abbrev pub enough_data : ℕ → ℕ → ℕ → ℕ → Bool
enough_data size flags k pad = is_selective flags || nat_le (pad + 4 + least_data (is_start flags)) (k * size)

abbrev pub field_tests : Terms → Front → List (Bool × PacketFault)
field_tests t f =
    (flags_fit t.selective f.shape, Field 5)
    ∷ ((nat_lt f.number t.most, Field 6)
    ∷ ((nat_le (slice_index f.last 0 + 1) 16, Field 8)
    ∷ ((nat_lt (slice_index f.last 1) t.block, Field 9)
    ∷ ((enough_data t.block f.shape (slice_index f.last 0 + 1) (slice_index f.last 1), Field 9)
    ∷ []))))

abbrev pub header_in_front : Front → Header
header_in_front f =
    record {
      route = f.route;
      start = is_start f.shape;
      selective = is_selective f.shape;
      number = f.number;
      records = slice_index f.last 0 + 1;
      pad = slice_index f.last 1;
    }

abbrev pub header_from : Terms → Front → Result Header PacketFault
header_from t f = first_of (field_tests t f) (header_in_front f)

abbrev pub header_tests : Terms → List ℕ → List (Bool × PacketFault)
header_tests t xs = front_tests kind.Packet xs ++ field_tests t (front_at kind.Packet xs)

abbrev pub header_at : List ℕ → Header
header_at xs = header_in_front (front_at kind.Packet xs)

abbrev pub header_of : Terms → List ℕ → Result Header PacketFault
header_of t xs = first_of (header_tests t xs) (header_at xs)

-- Records

abbrev pub is_good : ℕ → Bool
is_good quality = quality == quality_number Good

abbrev pub is_bad : ℕ → Bool
is_bad quality = quality == quality_number Bad

-- Where record i begins.
abbrev pub record_place : ℕ → ℕ → ℕ
record_place size i = 10 + i * (size + 3)

-- The block number of record i: i in a full packet; in a selective one at most 15, and past the good ones before it.
abbrev pub block_fits : Bool → ℕ → ℕ → ℕ → Bool
block_fits true i least block = nat_le least block && nat_lt block 16
block_fits false i least block = block == i

-- Record i of k at a place: the least block number of the next good one, or the lowest wrong field. Of a bad record only the quality is read.
abbrev pub record_of : Header → List ℕ → ℕ → ℕ → ℕ → Result ℕ PacketFault
record_of h xs i least place =
    cond (is_bad (slice_index xs (place + 2))) (Ok least)
    (cond (is_good (slice_index xs (place + 2)))
    (first_of
    ((block_fits h.selective i least (slice_index xs place), Field place)
    ∷ (((slice_index xs (place + 1) == h.records - 1 - i), Field (place + 1)) ∷ []))
    (slice_index xs place + 1))
    (Err (Field (place + 2))))

-- n records from the i-th on.
abbrev pub records_from : ℕ → Header → List ℕ → ℕ → ℕ → ℕ → Result ℕ PacketFault
records_from size h xs zero i least = Ok least
records_from size h xs (suc n) i least =
    and_then (record_of h xs i least (record_place size i)) (λ next. records_from size h xs n (i + 1) next)

-- Packets

-- What stands behind a header: as many whole records as it says.
abbrev pub body_of : Terms → List ℕ → Header → Result Header PacketFault
body_of t xs h =
    cond (length xs == packet_length t.block h.records)
    (and_then (records_from t.block h xs h.records 0 0) (λ _. Ok h))
    (Err (Length (length xs)))

abbrev pub read_of : Terms → List ℕ → Result Header PacketFault
read_of t xs = and_then (header_of t xs) (body_of t xs)

-- A good record's block number, and its block.
pub record Block : Type 0 where
  pub number : ℕ
  pub octets : List ℕ

-- The block of record i of a packet with blocks of this size, or none where the record is bad or not there.
abbrev pub block_at : ℕ → Header → List ℕ → ℕ → Option Block
block_at size h xs i =
    cond (nat_lt i h.records && (nat_le (record_place size i + 3 + size) (length xs) && is_good (slice_index xs (record_place size i + 2))))
    (Some (record { number = slice_index xs (record_place size i); octets = take size (drop (record_place size i + 3) xs) }))
    None
