-- Streams: a serial, high octet first, and the message after it.
use Rattle.std.specs.Prelude.{ℕ, ◌+◌, ◌*◌, ◌/◌, ◌%◌, cond, List, [], ◌∷◌, ◌++◌, length, drop, Some, None, Option, nat_lt, slice_index}
use Rattle.fragment.specs.declared.stream.Joined.{Joined}

-- A number of 32 bits as four octets.
abbrev pub four_octets : ℕ → List ℕ
four_octets x = x / 16777216 % 256 ∷ (x / 65536 % 256 ∷ (x / 256 % 256 ∷ (x % 256 ∷ [])))

-- The number that the first four octets of a list are.
abbrev pub four_at : List ℕ → ℕ
four_at xs = 16777216 * slice_index xs 0 + 65536 * slice_index xs 1 + 256 * slice_index xs 2 + slice_index xs 3

abbrev pub stream_of : ℕ → List ℕ → List ℕ
stream_of serial message = four_octets serial ++ message

pub record Content : Type 0 where
  pub serial : ℕ
  pub message : List ℕ

-- What a stream holds.
abbrev pub split_of : List ℕ → Option Content
split_of xs = cond (nat_lt (length xs) 4) None (Some (record { serial = four_at xs; message = drop 4 xs }))

abbrev pub joined_of : Option Joined → Option Content
joined_of None = None
joined_of (Some j) = Some (record { serial = j.serial; message = j.message.now })
