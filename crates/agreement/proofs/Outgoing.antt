-- The packet that a turn puts out, and the code of the response that reaches the sender.
use Rattle.std.proofs.Common.{◌≡◌, ℕ, ◌+◌, ◌^◌, ◌<◌, ◌≤◌, true, not, ◌&&◌, eqb, ltb, List, length, drop, Some, None, Ok, Option, refl, ap, ◌∙◌, arith}
use native.Mathlib.Nat.{pow-le-pow_right}
use Rattle.std.proofs.lemmas.List.{take_at}
use Rattle.std.proofs.lemmas.Bool.{eq-eqb, le-leb, lt-ltb, ltb-true, and_parts}
use Rattle.fragment.specs.Carriers.{Terms}
use Rattle.fragment.specs.Cutting.{Piece, piece_at, fragment_at, where_cut}
use Rattle.fragment.specs.Streams.{stream_of}
use Rattle.fragment.proofs.Cuts.{well-cut}
use Rattle.packet.specs.declared.values.BlockSet.{BlockSet}
use Rattle.packet.specs.declared.values.Code.{Code}
use Rattle.packet.specs.declared.values.Code.TheVariants.{Ack, AckSelective, FullRetry, OutOfStep}
use Rattle.packet.specs.declared.values.Response.{Response}
use Rattle.packet.specs.Octets.{over}
use Rattle.packet.specs.Blocks.{carried, askable, fitting}
use Rattle.packet.specs.Layout.{written, packet_octets, packet_length}
use Rattle.packet.specs.Responses.{code_flags, response_octets, response_of}
use Rattle.packet.proofs.ReadBack.{length-packet, reads-back}
use Rattle.packet.proofs.ResponseBack.{response-read}
use Rattle.sender.specs.declared.values.Base.{Base}
use Rattle.sender.specs.declared.values.Session.{Session}
use Rattle.sender.specs.Steps.{packet_of, sent_of, counted, put_with, blocks_in, block_count, answerable, answer_of, read_as, admit_of}
use Rattle.packet.specs.Reading.{and_then}
use Rattle.agreement.specs.Turns.{Pair, reception_of, reached_by, ok_of, turned_with, no_packet, turn_with, turn_of}
use Rattle.agreement.proofs.Ties.{Lawful, Sending}
use Rattle.agreement.proofs.Turning.{Answers}

module _ (t : Terms) (number : List ℕ → ℕ) (law : Lawful t number) (own peer : ℕ) (own_small : own < 65536) (peer_small : peer < 65536)
    (message : List ℕ) (count : ℕ) (s : Session) (sending : Sending t s.serial message count) (below : s.number < count) (long : s.length ≡ length message)
    (fits : fitting t (piece_at t (length message) s.number).blocks s.blocks ≡ true)
    (b : Base) (way : b.route ≡ record { source = own; destination = peer }) where
  abbrev piece : Piece
  piece = piece_at t (length message) s.number

  there : fragment_at t s.length s.number ≡ Some piece
  there = ap (λ m. fragment_at t m s.number) long ∙ ap (where_cut t (length message) s.number) sending.fits ∙ (rw (lt-ltb s.number count below))

  abbrev pub sendout : List ℕ
  sendout = packet_octets number (record { source = own; destination = peer }) (piece_at t (length message) s.number) (stream_of s.serial message) s.blocks

  abbrev octets : ℕ
  octets = packet_length t.block (length (carried s.blocks piece.blocks))

  size : length sendout ≡ octets
  size = length-packet t law.sound number (record { source = own; destination = peer }) own_small peer_small s.serial message count s.number sending.fits below s.blocks

  room : octets ≤ 378
  room =
      let reads = reads-back t law.sound number (record { source = own; destination = peer }) own_small peer_small s.serial message count s.number sending.fits below s.blocks fits in
      omega (arith, reads.longest, size, law.sound.few_octets)

  written_is : sent_of t number b s message no_packet ≡ written (Ok octets) (over 0 sendout no_packet)
  written_is =
      ap (packet_of t number b s message no_packet) there
      ∙ (rw (way, eq-eqb (length message) (length message) refl, le-leb octets 378 room, fits))

  pub turn_is : (p : Pair) → p.base ≡ b → turn_of t number p s message ≡ Ok (turned_with t p (counted s) (reception_of t number p sendout (p.fates 0)))
  turn_is p e =
      ap (λ x. turn_with t number p (put_with s (sent_of t number x s message no_packet))) e
      ∙ ap (λ w. turn_with t number p (put_with s w)) written_is
      ∙ ap (λ xs. Ok (turned_with t p (counted s) (reception_of t number p xs (p.fates 0)))) (take_at sendout (drop (0 + length sendout) no_packet) octets size)

  pub count-is : block_count t s ≡ piece.blocks
  count-is = ap blocks_in there

  small-flags : (set : BlockSet) → askable t piece.blocks set ≡ true → set.0 < 65536
  small-flags set h =
      let c = well-cut t law.sound (length message) count s.number sending.fits below in
      let low = (and_parts (not (eqb set.0 0)) (ltb set.0 (2 ^ piece.blocks)) (and_parts t.selective (not (eqb set.0 0) && ltb set.0 (2 ^ piece.blocks)) h).1).1 in
      omega (arith, ltb-true set.0 (2 ^ piece.blocks) low, pow-le-pow_right {n = 2} (omega arith) c.few_blocks)

  -- What the receiver asks for can be asked for.
  abbrev pub Askable : Option Code → Type 0
  Askable None = Unit {0}
  Askable (Some Ack) = Unit {0}
  Askable (Some (AckSelective set)) = askable t piece.blocks set ≡ true
  Askable (Some FullRetry) = Unit {0}
  Askable (Some OutOfStep) = Unit {0}

  answer : (c : Code) → Askable (Some c) → (answerable t piece.blocks c ≡ true) × (code_flags c < 65536)
  answer Ack h = (refl, omega arith)
  answer (AckSelective set) h = (h, small-flags set h)
  answer FullRetry h = (refl, omega arith)
  answer OutOfStep h = (refl, omega arith)

  admitted : (c : Code) → Askable (Some c) → admit_of t b (counted s) (response_octets (record { route = record { source = peer; destination = own }; number = s.number; code = c })) ≡ Ok c
  admitted c h =
      let r : Response = record { route = record { source = peer; destination = own }; number = s.number; code = c } in
      let cut = well-cut t law.sound (length message) count s.number sending.fits below in
      let reads : response_of t (response_octets r) ≡ Ok r =
      response-read (record { source = peer; destination = own }) peer_small own_small s.number t law.sound cut.counted c (answer c h).1 in
      let fit : answerable t (block_count t (counted s)) c ≡ true = ap (λ k. answerable t k c) count-is ∙ (answer c h).0 in
      ap (λ x. and_then (read_as x) (answer_of t b (counted s))) reads
      ∙ (rw (way, eq-eqb peer peer refl, eq-eqb own own refl, eq-eqb s.number s.number refl, fit))

  pub reached-is : (response : Option (List ℕ)) (code : Option Code) → Answers t number law own peer own_small peer_small s.serial message count s.number sending below s.blocks fits response code
      → Askable code → reached_by t b (counted s) response ≡ code
  reached-is None None h k = refl
  reached-is None (Some c) h k = absurd h
  reached-is (Some xs) None h k = absurd h
  reached-is (Some xs) (Some c) h k = ap (λ ys. ok_of (admit_of t b (counted s) ys)) h ∙ ap ok_of (admitted c k)
