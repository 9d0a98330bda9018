-- The loop that writes records: what is still to be written, written here, gives all of them.
use Rattle.std.proofs.Common.{◌≡◌, ℕ, suc, ◌+◌, ◌-◌, ◌*◌, ◌<◌, ◌≤◌, Bool, true, false, cond, eqb, leb, List, [], ◌∷◌, ◌++◌, length, Ok, filter, sym, refl, ap, ◌∙◌, ap₂, suc-mul, arith}
use Rattle.std.proofs.lemmas.Bool.{cond-true, eq-eqb, le-leb}
use Rattle.fragment.specs.Carriers.{Terms}
use Rattle.fragment.specs.Cutting.{Piece}
use Rattle.fragment.specs.Streams.{stream_of}
use Rattle.packet.specs.declared.values.Route.{Route}
use Rattle.std.specs.List.{range_with_len}
use Rattle.packet.specs.declared.values.Blocks.{Blocks}
use Rattle.packet.specs.Octets.{over}
use Rattle.packet.specs.Blocks.{carries, carried, fitting, is_selective}
use Rattle.packet.specs.Images.{block_of, image_of}
use Rattle.packet.specs.Layout.{record_octets, records_octets, header_for, header_octets, packet_length, packet_octets, written, written_of}
use Rattle.packet.proofs.Over.{over-over, over-nil, length_over}

-- The blocks from j on that are carried.
abbrev pub ahead : Blocks → ℕ → ℕ → List ℕ
ahead blocks n j = filter (carries blocks) (range_with_len j (n - j))

pub ahead-all : (blocks : Blocks) (n : ℕ) → ahead blocks n 0 ≡ carried blocks n
ahead-all blocks n = ap (λ k. filter (carries blocks) (range_with_len 0 k)) (let e : n - 0 ≡ n = omega arith in e)

pub ahead_more : (blocks : Blocks) (n j : ℕ) → j < n → ahead blocks n j ≡ cond (carries blocks j) (j ∷ ahead blocks n (j + 1)) (ahead blocks n (j + 1))
ahead_more blocks n j h = ap (λ k. filter (carries blocks) (range_with_len j k)) (let e : n - j ≡ suc (n - (j + 1)) = omega arith in e)

pub ahead_none : (blocks : Blocks) (n j : ℕ) → n ≤ j → ahead blocks n j ≡ []
ahead_none blocks n j h = ap (λ k. filter (carries blocks) (range_with_len j k)) (let e : n - j ≡ 0 = omega arith in e)

pub record Writing (size : ℕ) (image : List ℕ) (blocks : Blocks) (n j left place : ℕ) (p p₀ : List ℕ) : Type 0 where
  pub counted : left ≡ length (ahead blocks n j)
  pub long : length p ≡ length p₀
  pub room : place + left * (size + 3) ≤ length p
  pub gives : over place (records_octets size image (ahead blocks n j)) p ≡ over 10 (records_octets size image (carried blocks n)) p₀

module _ (size : ℕ) (image : List ℕ) (blocks : Blocks) (n : ℕ) where
  pub writing-starts : (count : ℕ) (p : List ℕ) → count ≡ length (carried blocks n) → 10 + count * (size + 3) ≤ length p → Writing size image blocks n 0 count 10 p p
  writing-starts count p e h =
      record {
        counted = e ∙ ap length (sym (ahead-all blocks n));
        long = refl;
        room = h;
        gives = ap (λ js. over 10 (records_octets size image js) p) (ahead-all blocks n);
      }

  module _ (j left place : ℕ) (p p₀ : List ℕ) (w : Writing size image blocks n j left place p p₀) where
    pub writing-done : n ≤ j → p ≡ over 10 (records_octets size image (carried blocks n)) p₀
    writing-done h = sym (over-nil place p) ∙ ap (λ js. over place (records_octets size image js) p) (sym (ahead_none blocks n j h)) ∙ w.gives

    ahead-skips : j < n → carries blocks j ≡ false → ahead blocks n j ≡ ahead blocks n (j + 1)
    ahead-skips h e = ahead_more blocks n j h ∙ ap (λ b. cond b (j ∷ ahead blocks n (j + 1)) (ahead blocks n (j + 1))) e

    ahead-takes : j < n → carries blocks j ≡ true → ahead blocks n j ≡ j ∷ ahead blocks n (j + 1)
    ahead-takes h e = ahead_more blocks n j h ∙ ap (λ b. cond b (j ∷ ahead blocks n (j + 1)) (ahead blocks n (j + 1))) e

    pub writing-skips : j < n → carries blocks j ≡ false → Writing size image blocks n (j + 1) left place p p₀
    writing-skips h e =
        record {
          counted = w.counted ∙ ap length (ahead-skips h e);
          long = w.long;
          room = w.room;
          gives = ap (λ js. over place (records_octets size image js) p) (sym (ahead-skips h e)) ∙ w.gives;
        }

    pub writing-some : j < n → carries blocks j ≡ true → (1 ≤ left) × (left - 1 ≡ length (ahead blocks n (j + 1)))
    writing-some h e = let c = w.counted ∙ ap length (ahead-takes h e) in (omega arith, omega arith)

    -- There is room for one record, and behind it for the others.
    pub writing-room : 1 ≤ left → (place + (size + 3) ≤ length p) × (place + (size + 3) + (left - 1) * (size + 3) ≤ length p)
    writing-room h =
        let m : left * (size + 3) ≡ (left - 1) * (size + 3) + (size + 3) =
        ap (λ k. k * (size + 3)) (let e : left ≡ suc (left - 1) = omega arith in e) ∙ suc-mul (left - 1) (size + 3) in
        let r = w.room in
        (omega arith, omega arith)

    pub writing_more : (p' : List ℕ) → j < n → carries blocks j ≡ true → length (block_of size image j) ≡ size
        → p' ≡ over place (record_octets j (left - 1) (block_of size image j)) p
        → Writing size image blocks n (j + 1) (left - 1) (place + (size + 3)) p' p₀
    writing_more p' h e l q =
        let some = writing-some h e in
        let fits = writing-room some.0 in
        let front : List ℕ = record_octets j (left - 1) (block_of size image j) in
        let n3 : length front ≡ size + 3 = omega arith in
        let same : length p' ≡ length p = ap length q ∙ length_over place front p (omega arith) in
        record {
          counted = some.1;
          long = same ∙ w.long;
          room = omega (arith, fits.1);
          gives =
              ap (λ b. over (place + (size + 3)) (records_octets size image (ahead blocks n (j + 1))) b) q
              ∙ ap (λ k. over (place + k) (records_octets size image (ahead blocks n (j + 1))) (over place front p)) (sym n3)
              ∙ over-over place front (records_octets size image (ahead blocks n (j + 1))) p (omega arith)
              ∙ ap (λ k. over place (record_octets j k (block_of size image j) ++ records_octets size image (ahead blocks n (j + 1))) p) some.1
              ∙ ap (λ js. over place (records_octets size image js) p) (sym (ahead-takes h e))
              ∙ w.gives;
        }

-- A header, and records of a sealed image behind it, are the packet.
module _ (t : Terms) (number : List ℕ → ℕ) (route : Route) (serial : ℕ) (f : Piece) (blocks : Blocks) (message packet : List ℕ) where
  pub packet-over : (size n k : ℕ) (selective : Bool) (image front p p' : List ℕ)
      → size ≡ f.block → n ≡ f.blocks → k ≡ length (carried blocks f.blocks) → selective ≡ is_selective blocks
      → image ≡ image_of number f (stream_of serial message)
      → front ≡ header_octets (record { route = route; start = f.start; selective = selective; number = f.number; records = k; pad = f.pad })
      → p ≡ over 0 front packet
      → p' ≡ over 10 (records_octets size image (carried blocks n)) p
      → 10 ≤ length packet
      → p' ≡ over 0 (packet_octets number route f (stream_of serial message) blocks) packet
  packet-over size n k selective image front p p' esize en ek es ei ef ep ep' h =
      rw (ep', esize, en, ei, ep, ef, ek, es)
      (over-over 0 (header_octets (header_for route f blocks)) (records_octets f.block (image_of number f (stream_of serial message)) (carried blocks f.blocks)) packet h)

  pub packet-written : (n : ℕ) (p : List ℕ) → length message ≡ f.message → fitting t f.blocks blocks ≡ true
      → n ≡ packet_length f.block (length (carried blocks f.blocks)) → n ≤ length packet
      → p ≡ over 0 (packet_octets number route f (stream_of serial message) blocks) packet
      → written (Ok n) p ≡ written_of t number route serial f blocks message packet
  packet-written n p lent fits en room ep =
      ap₂ (λ (m : ℕ) (b : List ℕ). written (Ok m) b) en ep
      ∙ sym (
      cond-true (eqb (length message) f.message) _ _ (eq-eqb (length message) f.message lent)
      ∙ cond-true (leb (packet_length f.block (length (carried blocks f.blocks))) (length packet)) _ _ (le-leb _ _ (omega arith))
      ∙ cond-true (fitting t f.blocks blocks) _ _ fits)
