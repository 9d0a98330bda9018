-- What one hearing makes of the octets of a packet.
use Rattle.std.specs.Prelude.{ℕ, zero, suc, ◌+◌, ◌/◌, ◌%◌, ◌^◌, Bool, cond, not, ◌&&◌, List, length, Some, None, Option, ◌==◌, bit_xor, nat_lt, slice_index, slice_set}
use Rattle.packet.specs.declared.values.Quality.TheVariants.{Bad}
use Rattle.packet.specs.Layout.{quality_number}
use Rattle.packet.specs.Reading.{record_place}
use Rattle.air.specs.declared.fate.Alteration.{Alteration}
use Rattle.air.specs.declared.fate.Hearing.{Hearing}

-- Whether record i comes bad.
abbrev pub comes_bad : Hearing → ℕ → Bool
comes_bad h i = h.bad / 2 ^ i % 2 == 1

-- The bad ones of n records, from the i-th on, get the quality of a bad one. A record that isn't there has none.
abbrev pub spoilt_from : ℕ → Hearing → ℕ → ℕ → List ℕ → List ℕ
spoilt_from size h zero i xs = xs
spoilt_from size h (suc n) i xs =
    spoilt_from size h n (i + 1) (cond (comes_bad h i) (slice_set xs (record_place size i + 2) (quality_number Bad)) xs)

-- The octet of a packet where an alteration lies.
abbrev pub altered_place : ℕ → Alteration → ℕ
altered_place size a = record_place size a.«record» + 3 + a.place

-- Whether it counts: its octet is there, in a block of a record that doesn't come bad, and the mask isn't 0.
abbrev pub counts : ℕ → Hearing → List ℕ → Alteration → Bool
counts size h xs a =
    nat_lt a.place size && (nat_lt (altered_place size a) (length xs) && (not (comes_bad h a.«record») && not (a.mask % 256 == 0)))

abbrev pub altered_by : ℕ → Hearing → List ℕ → Option Alteration → List ℕ
altered_by size h xs None = xs
altered_by size h xs (Some a) =
    cond (counts size h xs a) (slice_set xs (altered_place size a) (bit_xor (slice_index xs (altered_place size a)) (a.mask % 256))) xs

-- A packet with blocks of this size, as it is heard.
abbrev pub damaged : ℕ → Hearing → List ℕ → List ℕ
damaged size h xs = altered_by size h (spoilt_from size h 16 0 xs) h.alteration
