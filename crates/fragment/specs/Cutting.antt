-- How a message is cut into fragments on a carrier.
use Rattle.std.specs.Prelude.{ℕ, ◌+◌, ◌-◌, ◌*◌, min, Bool, cond, Some, None, Ok, Err, Option, Result, ◌==◌, nat_lt}
use Rattle.fault.specs.declared.EndFault.{EndFault}
use Rattle.fault.specs.declared.EndFault.TheVariants.{Empty, TooLong}
use Rattle.fragment.specs.declared.piece.Fragment.{Fragment}
use Rattle.fragment.specs.Carriers.{Terms}
use Rattle.fragment.specs.Counts.{parts_of, capacity}

-- The octets of the longest message: as many fragments as there may be, all full, less the serial.
abbrev pub greatest : Terms → ℕ
greatest t = t.most * capacity t - 4

-- The fragments that a stream makes: a message of m octets behind 4 octets of serial.
abbrev pub count_of : Terms → ℕ → ℕ
count_of t m = parts_of (capacity t) (m + 4)

-- That number, or why the message is refused.
abbrev pub fragments_of : Terms → ℕ → Result ℕ EndFault
fragments_of t m = cond (m == 0) (Err Empty) (cond (nat_lt (greatest t) m) (Err TooLong) (Ok (count_of t m)))

-- A fragment, by the numbers that say where it lies and how it fills its blocks.
pub record Piece : Type 0 where
  pub message : ℕ
  pub number : ℕ
  pub start : Bool
  pub offset : ℕ
  pub octets : ℕ
  pub blocks : ℕ
  pub pad : ℕ
  pub block : ℕ

-- The data octets of the fragment that begins at an offset: as many as a fragment holds, or what is left of the stream.
abbrev pub octets_at : Terms → ℕ → ℕ → ℕ
octets_at t m offset = min (capacity t) (m + 4 - offset)

-- A fragment with so many data octets, in the least number of blocks, the pad filling the last one.
abbrev pub piece_with : Terms → ℕ → ℕ → ℕ → ℕ → Piece
piece_with t m number index octets =
    record {
      message = m;
      number = number;
      start = (index == 0);
      offset = index * capacity t;
      octets = octets;
      blocks = parts_of t.block (octets + 4);
      pad = parts_of t.block (octets + 4) * t.block - octets - 4;
      block = t.block;
    }

-- The fragment that `number` others follow.
abbrev pub piece_at : Terms → ℕ → ℕ → Piece
piece_at t m number =
    piece_with t m number (count_of t m - 1 - number) (octets_at t m ((count_of t m - 1 - number) * capacity t))

-- It, or none where the message is refused or has no such fragment.
abbrev pub where_cut : Terms → ℕ → ℕ → Result ℕ EndFault → Option Piece
where_cut t m number (Ok count) = cond (nat_lt number count) (Some (piece_at t m number)) None
where_cut t m number (Err fault) = None

abbrev pub fragment_at : Terms → ℕ → ℕ → Option Piece
fragment_at t m number = where_cut t m number (fragments_of t m)

-- The numbers of a fragment in memory.
abbrev pub piece_of : {C : Type 0} → Fragment C → Piece
piece_of f =
    record {
      message = f.message;
      number = f.number;
      start = f.start;
      offset = f.offset;
      octets = f.octets;
      blocks = f.blocks;
      pad = f.pad;
      block = f.block;
    }
