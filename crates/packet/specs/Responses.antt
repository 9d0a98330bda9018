-- The octets of a response, and what reading them answers.
use Rattle.std.specs.Prelude.{ℕ, Bool, cond, ◌&&◌, ◌||◌, List, [], ◌∷◌, ◌++◌, length, Ok, Result, ◌==◌, nat_le, nat_lt, slice_index}
use Rattle.fault.specs.declared.PacketFault.{PacketFault}
use Rattle.fault.specs.declared.PacketFault.TheVariants.{Length, Field, Buffer}
use Rattle.fragment.specs.Carriers.{Terms}
use Rattle.packet.specs.declared.values.Code.{Code}
use Rattle.packet.specs.declared.values.Code.TheVariants.{Ack, AckSelective, FullRetry, OutOfStep}
use Rattle.packet.specs.declared.values.Kind.TheVariants as kind
use Rattle.packet.specs.declared.values.Response.{Response}
use Rattle.packet.specs.declared.front.Front.{Front}
use Rattle.packet.specs.Octets.{two_octets, two_at, over}
use Rattle.packet.specs.Layout.{Written, written, refused_by, kind_number}
use Rattle.packet.specs.Reading.{first_of, front_tests, front_at}

abbrev pub front_octets : Front → List ℕ
front_octets f =
    kind_number f.kind ∷ (two_octets f.route.source ++ (two_octets f.route.destination
    ++ (f.shape ∷ (two_octets f.number ++ (slice_index f.last 0 ∷ (slice_index f.last 1 ∷ []))))))

-- The number of each code, and its block flags: 2^j asks for block j.
abbrev pub code_number : Code → ℕ
code_number Ack = 1
code_number (AckSelective set) = 2
code_number FullRetry = 3
code_number OutOfStep = 4

abbrev pub code_flags : Code → ℕ
code_flags Ack = 0
code_flags (AckSelective set) = set.0
code_flags FullRetry = 0
code_flags OutOfStep = 0

abbrev pub response_octets : Response → List ℕ
response_octets r =
    kind_number kind.Response ∷ (two_octets r.route.source ++ (two_octets r.route.destination
    ++ (code_number r.code ∷ (two_octets r.number ++ two_octets (code_flags r.code)))))

-- Writing refuses a buffer that is too short.
abbrev pub responded_of : Response → List ℕ → Written PacketFault
responded_of r buffer = cond (nat_le 10 (length buffer)) (written (Ok 10) (over 0 (response_octets r) buffer)) (refused_by Buffer buffer)

-- The code with this number and these flags.
abbrev pub code_of : ℕ → ℕ → Code
code_of number flags =
    cond (number == 1) Ack (cond (number == 2) (AckSelective (record { 0 = flags })) (cond (number == 3) FullRetry OutOfStep))

abbrev pub field_tests : Terms → Front → List (Bool × PacketFault)
field_tests t f =
    (nat_le 1 f.shape && nat_le f.shape 4, Field 5)
    ∷ ((nat_lt f.number t.most, Field 6)
    ∷ ((f.shape == 2 || (two_at f.last 0 == 0), Field 8)
    ∷ []))

abbrev pub response_in_front : Front → Response
response_in_front f = record { route = f.route; number = f.number; code = code_of f.shape (two_at f.last 0) }

abbrev pub response_from : Terms → Front → Result Response PacketFault
response_from t f = first_of (field_tests t f) (response_in_front f)

abbrev pub response_at : List ℕ → Response
response_at xs = response_in_front (front_at kind.Response xs)

abbrev pub response_tests : Terms → List ℕ → List (Bool × PacketFault)
response_tests t xs =
    front_tests kind.Response xs ++ (field_tests t (front_at kind.Response xs) ++ (((length xs == 10), Length (length xs)) ∷ []))

abbrev pub response_of : Terms → List ℕ → Result Response PacketFault
response_of t xs = first_of (response_tests t xs) (response_at xs)
