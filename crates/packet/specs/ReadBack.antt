-- Reading what was written.
use Rattle.std.specs.Prelude.{◌≡◌, ℕ, ◌<◌, ◌≤◌, List, length, take, IfOk, Some, Ok, Result, slice_index}
use Rattle.fault.specs.declared.EndFault.{EndFault}
use Rattle.fault.specs.declared.PacketFault.{PacketFault}
use Rattle.fragment.specs.Carriers.{Terms, Sound}
use Rattle.fragment.specs.Cutting.{Piece, fragment_at}
use Rattle.fragment.specs.Streams.{stream_of}
use Rattle.packet.specs.declared.values.Route.{Route}
use Rattle.packet.specs.declared.values.Blocks.{Blocks}
use Rattle.packet.specs.declared.values.Response.{Response}
use Rattle.packet.specs.Blocks.{carried}
use Rattle.packet.specs.Images.{image_of, block_of}
use Rattle.packet.specs.Layout.{header_for, packet_length}
use Rattle.packet.specs.Reading.{read_of, block_at}
use Rattle.packet.specs.Responses.{response_of}

-- These octets are read as a packet of some blocks of a fragment, with the fragment's values, and its blocks in their order.
pub record ReadsBack (t : Terms) (route : Route) (f : Piece) (image : List ℕ) (blocks : Blocks) (xs : List ℕ) : Type 0 where
  pub header : read_of t xs ≡ Ok (header_for route f blocks)
  -- no packet is longer than one with sixteen records
  pub longest : length xs ≤ packet_length t.block 16
  pub block : (i : ℕ) → i < length (carried blocks f.blocks)
      → block_at t.block (header_for route f blocks) xs i
      ≡ Some (record { number = slice_index (carried blocks f.blocks) i; octets = block_of t.block image (slice_index (carried blocks f.blocks) i) })

-- What was written of a fragment that was cut from its message is read back, and so never refused.
abbrev pub ReadsAsWritten : Terms → (List ℕ → ℕ) → Route → ℕ → Piece → Blocks → List ℕ → Result ℕ EndFault → List ℕ → Type 0
ReadsAsWritten t check route serial f blocks message answer buffer =
    fragment_at t f.message f.number ≡ Some f
    → IfOk answer (λ n. ReadsBack t route f (image_of check f (stream_of serial message)) blocks (take n buffer))

-- What was written of a response is read back on every carrier that has fragments with its number.
abbrev pub ResponseReads : Response → Result ℕ PacketFault → List ℕ → Type 0
ResponseReads response answer buffer = (t : Terms) → Sound t → response.number < t.most → IfOk answer (λ n. response_of t (take n buffer) ≡ Ok response)
