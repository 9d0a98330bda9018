-- What cutting a message keeps, for every message that is not refused.
use Rattle.std.specs.Prelude.{◌≡◌, ℕ, zero, suc, ◌+◌, ◌-◌, ◌*◌, ◌^◌, ◌<◌, ◌≤◌, true, ◌↔◌, List, [], ◌++◌, length, take, drop, Some, Ok}
use Rattle.fragment.specs.Carriers.{Terms}
use Rattle.fragment.specs.Counts.{Least, capacity}
use Rattle.fragment.specs.Cutting.{Piece, piece_at, fragments_of}
use Rattle.fragment.specs.Streams.{stream_of, split_of}

-- The data of a fragment: its part of the stream.
abbrev pub data_in : Piece → List ℕ → List ℕ
data_in f stream = take f.octets (drop f.offset stream)

-- The data of the last `count` fragments of a message, joined in sending order, the numbers falling to 0.
abbrev pub joined_from : Terms → ℕ → List ℕ → ℕ → List ℕ
joined_from t m stream zero = []
joined_from t m stream (suc number) = data_in (piece_at t m number) stream ++ joined_from t m stream number

-- A fragment of m octets with a number below its message's count.
pub record WellCut (t : Terms) (m count number : ℕ) : Type 0 where
  -- its blocks are as few as hold data and check, and the pad fills the last one
  pub least : Least t.block ((piece_at t m number).octets + 4) (piece_at t m number).blocks
  pub image : (piece_at t m number).blocks * t.block ≡ (piece_at t m number).octets + (piece_at t m number).pad + 4
  pub some_blocks : 1 ≤ (piece_at t m number).blocks
  pub few_blocks : (piece_at t m number).blocks ≤ 16
  pub short_pad : (piece_at t m number).pad < t.block
  -- it has data, the first one more than the serial
  pub some_data : 1 ≤ (piece_at t m number).octets
  pub some_message : (piece_at t m number).start ≡ true → 5 ≤ (piece_at t m number).octets
  -- only the last may be shorter than a whole fragment
  pub full : 0 < number → (piece_at t m number).octets ≡ capacity t
  pub short : (piece_at t m number).octets ≤ capacity t
  -- the first, and no other, begins the stream, and each begins where the one before it ends
  pub first : ((piece_at t m number).start ≡ true) ↔ (number ≡ count - 1)
  pub begins : number ≡ count - 1 → (piece_at t m number).offset ≡ 0
  pub follows : suc number < count → (piece_at t m number).offset ≡ (piece_at t m (suc number)).offset + (piece_at t m (suc number)).octets
  pub ends : number ≡ 0 → (piece_at t m number).offset + (piece_at t m number).octets ≡ m + 4
  -- its number fits the carrier
  pub counted : number < t.most

-- Fragments in order partition the stream, and joining them gives back serial and message.
pub record Cuts (t : Terms) : Type 0 where
  pub each : (m count number : ℕ) → fragments_of t m ≡ Ok count → number < count → WellCut t m count number
  pub joins : (serial : ℕ) (message : List ℕ) (count : ℕ) → fragments_of t (length message) ≡ Ok count
      → joined_from t (length message) (stream_of serial message) count ≡ stream_of serial message
  pub splits : (serial : ℕ) (message : List ℕ) → serial < 2 ^ 32
      → split_of (stream_of serial message) ≡ Some (record { serial = serial; message = message })
