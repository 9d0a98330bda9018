-- How long a full packet is, and that writing it leaves it at the front of the buffer.
use Rattle.std.proofs.Common.{◌≡◌, ℕ, zero, suc, ◌+◌, ◌*◌, ◌≤◌, eqb, leb, List, length, take, drop, Some, Ok, filter, Result, sym, refl, ap, ◌∙◌, suc-mul, mul-le-mul, zero-mul, arith}
use Rattle.std.proofs.lemmas.List.{length-append, take_at}
use Rattle.std.proofs.lemmas.Bool.{cond-true, eq-eqb, le-leb}
use Rattle.std.specs.List.{range_with_len}
use Rattle.std.specs.Option.{option_map}
use Rattle.std.specs.Result.{result_ok}
use Rattle.fault.specs.declared.EndFault.{EndFault}
use Rattle.fragment.specs.Carriers.{Terms}
use Rattle.fragment.specs.Cutting.{Piece, fragment_at}
use Rattle.fragment.specs.Laws.{data_in}
use Rattle.fragment.specs.Streams.{stream_of, four_octets}
use Rattle.packet.specs.Blocks.{carries, carried}
use Rattle.packet.specs.Images.{covered, image_of, block_of}
use Rattle.packet.specs.Layout.{header_octets, header_for, records_octets, packet_octets, packet_length, Written, written, written_of}
use Rattle.packet.specs.Octets.{over}
use Rattle.packet.specs.declared.values.Blocks.TheVariants.{All}
use Rattle.packet.specs.declared.values.Route.{Route}
use Rattle.cut.specs.Lines.{packet_at}
use Rattle.cut.specs.declared.arguments.Order.{Order}
use Rattle.cut.proofs.Pieces.{cut-message}
use Rattle.packet.proofs.Sealed.{length-block, length_part, length-covered}

-- A full packet carries every block.
length-carried : (from n : ℕ) → length (filter (carries All) (range_with_len from n)) ≡ n
length-carried from zero = refl
length-carried from (suc n) = ap suc (length-carried (from + 1) n)

length-records : (size : ℕ) (image : List ℕ) (n : ℕ) → length image ≡ n * size → (from count : ℕ) → from + count ≤ n
    → length (records_octets size image (filter (carries All) (range_with_len from count))) ≡ count * (size + 3)
length-records size image n e from zero h = sym (zero-mul (size + 3))
length-records size image n e from (suc count) h =
    let block : length (block_of size image from) ≡ size = length-block image size n from e (omega arith) in
    let rest = length-records size image n e (from + 1) count (omega arith) in
    let both = length-append (block_of size image from) (records_octets size image (filter (carries All) (range_with_len (from + 1) count))) in
    omega (arith, suc-mul count (size + 3))

module _ (t : Terms) (number : List ℕ → ℕ) (route : Route) (serial : ℕ) (f : Piece) (message buffer : List ℕ)
    (lent : length message ≡ f.message) (inside : f.offset + f.octets ≤ f.message + 4)
    (image : f.blocks * f.block ≡ f.octets + f.pad + 4) (few : f.blocks ≤ 16) (narrow : f.block ≤ 20) (room : 378 ≤ length buffer) where
  length-image : length (image_of number f (stream_of serial message)) ≡ f.blocks * f.block
  length-image =
      let part : length (data_in f (stream_of serial message)) ≡ f.octets = length_part (stream_of serial message) f.offset f.octets (omega arith) in
      let all = length-append (covered (data_in f (stream_of serial message)) f.pad) (four_octets (number (covered (data_in f (stream_of serial message)) f.pad))) in
      omega (arith, length-covered (data_in f (stream_of serial message)) f.pad)

  length-packet : length (packet_octets number route f (stream_of serial message) All) ≡ packet_length f.block (length (carried All f.blocks))
  length-packet =
      let records = length-records f.block (image_of number f (stream_of serial message)) f.blocks length-image 0 f.blocks (omega arith) in
      let n : length (carried All f.blocks) ≡ f.blocks = length-carried 0 f.blocks in
      let k = ap (λ m. m * (f.block + 3)) n in
      let all = length-append (header_octets (header_for route f All)) (records_octets f.block (image_of number f (stream_of serial message)) (carried All f.blocks)) in
      omega arith

  short : packet_length f.block (length (carried All f.blocks)) ≤ 378
  short =
      let n : length (carried All f.blocks) ≡ f.blocks = length-carried 0 f.blocks in
      let k = ap (λ m. m * (f.block + 3)) n in
      let least : f.block + 3 ≤ 23 = omega arith in
      let most : f.blocks * (f.block + 3) ≤ 16 * 23 = mul-le-mul few least in
      omega arith

  module _ (r : Result ℕ EndFault) (after : List ℕ) (e : written r after ≡ written_of t number route serial f All message buffer) where
    done : written r after
        ≡ written (Ok (packet_length f.block (length (carried All f.blocks)))) (over 0 (packet_octets number route f (stream_of serial message) All) buffer)
    done =
        e ∙ cond-true (eqb (length message) f.message) _ _ (eq-eqb (length message) f.message lent)
        ∙ cond-true (leb (packet_length f.block (length (carried All f.blocks))) (length buffer)) _ _ (le-leb _ _ (let s = short in omega arith))

    -- The octets that are said to be written are the packet.
    packet-in-front : option_map (λ n. take n after) (result_ok r) ≡ Some (packet_octets number route f (stream_of serial message) All)
    packet-in-front =
        let whole : List ℕ = packet_octets number route f (stream_of serial message) All in
        ap (λ (w : Written EndFault). option_map (λ n. take n w.buffer) (result_ok w.answer)) done
        ∙ ap (λ x. Some x) (take_at whole (drop (0 + length whole) buffer) _ length-packet)

-- The packet of a fragment that was cut, written into a buffer long enough.
pub cut-packet : (t : Terms) (number : List ℕ → ℕ) (order : Order) (message : List ℕ) (n : ℕ) (f : Piece) (buffer : List ℕ)
    → Some f ≡ fragment_at t (length message) n
    → f.offset + f.octets ≤ f.message + 4 → f.blocks * f.block ≡ f.octets + f.pad + 4 → f.blocks ≤ 16 → f.block ≤ 20 → length buffer ≡ 378
    → (r : Result ℕ EndFault) (after : List ℕ) → written r after ≡ written_of t number order.route order.serial f All message buffer
    → option_map (λ k. take k after) (result_ok r) ≡ packet_at t number order message n
cut-packet t number order message n f buffer made inside image few narrow room r after e =
    let lent : length message ≡ f.message = sym (cut-message t (length message) n f (sym made)) in
    packet-in-front t number order.route order.serial f message buffer lent inside image few narrow (omega arith) r after e
    ∙ ap (option_map (λ p. packet_octets number order.route p (stream_of order.serial message) All)) made
