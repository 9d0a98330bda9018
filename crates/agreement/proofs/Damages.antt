-- What is read of a packet as it is heard.
use Rattle.std.proofs.Common.{◌≡◌, ℕ, zero, suc, ◌+◌, ◌*◌, ◌%◌, ◌<◌, ◌≤◌, Bool, true, false, ◌≢◌, ◌⊎◌, List, [], ◌∷◌, length, get_or, drop, replicate, Some, Ok, filter, sym, refl, ap, ◌∙◌, subst, inl, inr, mul-le-mul_right, suc-mul, arith}
use lib.Bits.{bit_xor}
use Rattle.std.specs.List.{range_with_len, AllByRecursion}
use Rattle.std.proofs.lemmas.Nat.{xor_lt}
use Rattle.std.proofs.ByRecursion.{All-append, All-drop, All-get_or, all_kept_by, All-take}
use Rattle.std.proofs.lemmas.Bool.{cases_eq, cases_Bool, true≢false, cond_both}
use Rattle.fragment.specs.Carriers.{Terms}
use Rattle.fragment.specs.Cutting.{Piece, piece_at}
use Rattle.fragment.specs.Laws.{data_in}
use Rattle.fragment.specs.Streams.{four_octets, stream_of}
use Rattle.packet.specs.declared.values.Blocks.{Blocks}
use Rattle.packet.specs.declared.values.Blocks.TheVariants.{All, Only}
use Rattle.packet.specs.declared.values.Header.{Header}
use Rattle.packet.specs.declared.values.Route.{Route}
use Rattle.packet.specs.Blocks.{carries, carried, fitting, is_selective}
use Rattle.packet.specs.Images.{covered, image_of}
use Rattle.packet.specs.Layout.{header_for, packet_octets}
use Rattle.packet.specs.Octets.{two_at}
use Rattle.packet.specs.ReadBack.{ReadsBack}
use Rattle.packet.specs.Reading.{Block, read_of, header_at, record_place}
use Rattle.packet.specs.Refusals.{flags_at, records_at, pad_at, number_at, frame_at, quality_at, GoodRecord}
use Rattle.packet.specs.Refusals.{WrongHeader, other_flags, unfit_flags, high_number, many_records, long_pad, no_data, no_message}
use Rattle.packet.specs.Refusals.{WrongRecord, other_block, high_block, falling_block, other_frame, other_quality}
use Rattle.packet.proofs.ReadBack.{under, reads-back}
use Rattle.packet.proofs.ReadRefusals.{packet-refusals}
use Rattle.receiver.specs.Laws.{Brings}
use Rattle.receiver.proofs.Reading.{block-is, known, header_is, read-few}
use Rattle.receiver.proofs.Rising.{rises}
use Rattle.air.specs.declared.fate.Alteration.{Alteration}
use Rattle.air.specs.declared.fate.Hearing.{Hearing}
use Rattle.damage.specs.Damage.{comes_bad, damaged}
use Rattle.agreement.specs.Histories.{Octets}
use Rattle.agreement.proofs.Spoiling.{block_in, HeardAs, heard-as}
use Rattle.agreement.proofs.Ties.{Lawful, Sending, OneOff, image, sent, Carries, ExactlyBrings, BringsAll}

-- A packet whose records are all good is still read when some of them come bad.
module _ (t : Terms) (h : Hearing) (xs ys : List ℕ) (header : Header) (read : read_of t xs ≡ Ok header)
    (good : (i : ℕ) → i < records_at xs → GoodRecord t xs i) (left : HeardAs t.block h xs ys) where
  same_flags : flags_at ys ≡ flags_at xs
  same_flags = left.front 5 (omega arith)

  same-records : records_at ys ≡ records_at xs
  same-records = ap (λ k. k + 1) (left.front 8 (omega arith))

  same-pad : pad_at ys ≡ pad_at xs
  same-pad = left.front 9 (omega arith)

  same-two : (p : ℕ) → p < 9 → two_at ys p ≡ two_at xs p
  same-two p l = let a = left.front p (omega arith) in let b = left.front (p + 1) (omega arith) in rw (a, b)

  same_number : (i : ℕ) → number_at t ys i ≡ number_at t xs i
  same_number i = let z : record_place t.block i + 0 ≡ record_place t.block i = omega arith in rw z at (left.lead i 0 (omega arith))

  same-frame : (i : ℕ) → frame_at t ys i ≡ frame_at t xs i
  same-frame i = left.lead i 1 (omega arith)

  same-header : header_at ys ≡ header_at xs
  same-header = rw (same-two 1 (omega arith), same-two 3 (omega arith), same-two 6 (omega arith), same_flags, same-records, same-pad)

  right-header : (place : ℕ) → WrongHeader t ys place → WrongHeader t xs place
  right-header place (other_flags f s) = other_flags (λ g. f (rw same_flags g)) (λ g. s (rw same_flags g))
  right-header place (unfit_flags s f) = unfit_flags s (λ g. f (same_flags ∙ g))
  right-header place (high_number l) = high_number (rw (same-two 6 (omega arith)) at l)
  right-header place (many_records l) = many_records (rw same-records at l)
  right-header place (long_pad l) = long_pad (rw same-pad at l)
  right-header place (no_data f l) = no_data (rw same_flags at f) (rw (same-records, same-pad) at l)
  right-header place (no_message f l) = no_message (sym same_flags ∙ f) (rw (same-records, same-pad) at l)

  few_records : records_at xs ≤ 16
  few_records = subst (λ (k : Header). k.records ≤ 16) (known t xs header read).0 (read-few t xs header read)

  quality-low : (i : ℕ) → i < records_at xs → quality_at t ys i ≤ 1
  quality-low i l =
      let m = mul-le-mul_right (t.block + 3) l in
      let there : record_place t.block i + 2 < length xs = omega (arith, (known t xs header read).2, suc-mul i (t.block + 3)) in
      elim (cases_Bool (comes_bad h i)) [
        | inl b ↦ omega (arith, left.bad i (omega (arith, few_records)) b there)
        | inr b ↦ omega (arith, left.good i b, good i l)
      ]

  right-record : (place : ℕ) → WrongRecord t ys place → ⊥
  right-record place (other_block i l g f n) =
      let m = rw same-records at l in (known t xs header read).3 _ (other_block i m (good i m) (rw same_flags at f) (λ e. n (same_number i ∙ e)))
  right-record place (high_block i l g s n) =
      let m = rw same-records at l in (known t xs header read).3 _ (high_block i m (good i m) (rw same_flags at s) (rw (same_number i) at n))
  right-record place (falling_block i j l g s b n) =
      let m = rw same-records at l in
      let k : j < records_at xs = omega (arith, b.0) in
      let up = rises t xs header read j i b.0 m (good j k) (good i m) in
      omega (arith, same_number i, same_number j)
  right-record place (other_frame i l g n) =
      let m = rw same-records at l in (known t xs header read).3 _ (other_frame i m (good i m) (λ e. n (same-frame i ∙ e ∙ (rw same-records))))
  right-record place (other_quality i l q) =
      omega (arith, quality-low i (rw same-records at l))

  still_read : read_of t ys ≡ Ok header
  still_read =
      let k = known t xs header read in
      ((packet-refusals t ys).accepted header).1 (
        k.0 ∙ sym same-header,
        (λ s. k.1.0 (rw left.long at s), left.front 0 (omega arith) ∙ k.1.1, λ place w. k.1.2 place (right-header place w)),
        (left.long ∙ k.2 ∙ (rw same-records)),
        right-record,
      )

-- A block that is carried has a record.
kept-has : (p : ℕ → Bool) (n a j : ℕ) → a ≤ j → j < a + n → p j ≡ true
    → (i : ℕ) × (i < length (filter p (range_with_len a n))) × (get_or (filter p (range_with_len a n)) i 0 ≡ j)
kept-has p zero a j l m e = absurd (omega arith)
kept-has p (suc n) a j l m e =
    elim (cases_eq a j) [
      | inl q ↦ (let here : p a ≡ true = ap p q ∙ e in rw here (0, omega arith, q))
      | inr q ↦
          (let more = kept-has p n (a + 1) j (omega arith) (omega arith) e in
          cond_both (p a) (a ∷ filter p (range_with_len (a + 1) n)) (filter p (range_with_len (a + 1) n)) (λ l. (i : ℕ) × (i < length l) × (get_or l i 0 ≡ j))
          (λ _. (suc more.0, omega (arith, more.1), more.2)) (λ _. more))
    ]

-- A full packet has a record for each block.
length-kept : (n a : ℕ) → length (filter (carries All) (range_with_len a n)) ≡ n
length-kept zero a = refl
length-kept (suc n) a = ap suc (length-kept n (a + 1))

all-carried : (blocks : Blocks) (n : ℕ) → is_selective blocks ≡ false → length (carried blocks n) ≡ n
all-carried All n full = length-kept n 0
all-carried (Only set) n full = absurd (true≢false full)

octets-all : (xs : List ℕ) → Octets xs → AllByRecursion (λ x. x < 256) xs
octets-all [] o = tt
octets-all (x ∷ xs) o = (o.0, octets-all xs o.1)

four-small : (x : ℕ) → AllByRecursion (λ x. x < 256) (four_octets x)
four-small x = (omega arith, (omega arith, (omega arith, (omega arith, tt))))

zeros-small : (n : ℕ) → AllByRecursion (λ x. x < 256) (replicate n 0)
zeros-small zero = tt
zeros-small (suc n) = (omega arith, zeros-small n)

image-small : (number : List ℕ → ℕ) (f : Piece) (serial : ℕ) (message : List ℕ) → Octets message → AllByRecursion (λ x. x < 256) (image_of number f (stream_of serial message))
image-small number f serial message o =
    let stream : List ℕ = stream_of serial message in
    let small : ℕ → Type 0 = λ x. x < 256 in
    All-append small (covered (data_in f stream) f.pad) (four_octets (number (covered (data_in f stream) f.pad)))
    (All-append small (data_in f stream) (replicate f.pad 0)
    (All-take small f.octets (drop f.offset stream) (All-drop small f.offset stream (All-append small (four_octets serial) message (four-small serial) (octets-all message o))))
    (zeros-small f.pad))
    (four-small (number (covered (data_in f stream) f.pad)))

octet-small : (xs : List ℕ) (i : ℕ) → AllByRecursion (λ x. x < 256) xs → get_or xs i 0 < 256
octet-small [] i o = omega arith
octet-small (x ∷ xs) zero o = o.0
octet-small (x ∷ xs) (suc i) o = octet-small xs i o.1

module _ (t : Terms) (number : List ℕ → ℕ) (law : Lawful t number) (route : Route) (source : route.source < 65536) (destination : route.destination < 65536)
    (serial : ℕ) (message : List ℕ) (count n : ℕ) (sending : Sending t serial message count) (below : n < count)
    (blocks : Blocks) (fits : fitting t (piece_at t (length message) n).blocks blocks ≡ true) (h : Hearing) where
  abbrev f : Piece
  f = piece_at t (length message) n

  -- The block numbers, by record.
  abbrev js : List ℕ
  js = carried blocks f.blocks

  abbrev packet : List ℕ
  packet = packet_octets number route f (stream_of serial message) blocks

  abbrev heard : List ℕ
  heard = damaged t.block h packet

  -- The alteration lies in a block that is heard as good.
  abbrev pub Marked : Alteration → Type 0
  Marked x = (h.alteration ≡ Some x) × (x.«record» < length js) × (x.place < t.block) × (comes_bad h x.«record» ≡ false) × (x.mask % 256 ≢ 0)

  reads : ReadsBack t route f (image t number serial message f) blocks packet
  reads = reads-back t law.sound number route source destination serial message count n sending.fits below blocks fits

  records-sent : records_at packet ≡ length js
  records-sent = sym (ap (λ (k : Header). k.records) (header_is t packet (header_for route f blocks) reads.header))

  -- Record i as it was sent.
  record-sent : (i : ℕ) → i < length js → GoodRecord t packet i × (number_at t packet i ≡ get_or js i 0) × (block_in t.block i packet ≡ sent t number serial message f (get_or js i 0))
  record-sent i l =
      let b = block-is t.block (header_for route f blocks) packet i _ (reads.block i l) in
      (b.2, sym (ap (λ (c : Block). c.number) b.3), sym (ap (λ (c : Block). c.octets) b.3))

  left-of : HeardAs t.block h packet heard
  left-of = heard-as t.block h packet

  all-sent : (i : ℕ) → i < records_at packet → GoodRecord t packet i
  all-sent i l = (record-sent i (rw records-sent at l)).0

  records-heard : records_at heard ≡ length js
  records-heard = same-records t h packet heard (header_for route f blocks) reads.header all-sent left-of ∙ records-sent

  number-heard : (i : ℕ) → i < length js → number_at t heard i ≡ get_or js i 0
  number-heard i l = same_number t h packet heard (header_for route f blocks) reads.header all-sent left-of i ∙ (record-sent i l).1

  heard-read : read_of t heard ≡ Ok (header_for route f blocks)
  heard-read = still_read t h packet heard (header_for route f blocks) reads.header all-sent left-of

  altered-small : (j i mask : ℕ) → bit_xor (get_or (sent t number serial message f j) i 0) (mask % 256) < 256
  altered-small j i mask =
      let small : ℕ → Type 0 = λ x. x < 256 in
      let xs : List ℕ = image t number serial message f in
      xor_lt 8 _ (mask % 256)
      (octet-small (sent t number serial message f j) i (All-take small t.block (drop (j * t.block) xs) (All-drop small (j * t.block) xs (image-small number f serial message sending.octets))))
      (omega arith)

  -- The block of a good record: as it was sent, or with one octet altered.
  abbrev Changed : ℕ → List ℕ → Type 0
  Changed j b = (x : Alteration) × Marked x × (get_or js x.«record» 0 ≡ j) × OneOff (sent t number serial message f j) b

  block-heard : (i j : ℕ) → Brings t heard i j
      → (j < f.blocks) × ((block_in t.block i heard ≡ sent t number serial message f j) ⊎ Changed j (block_in t.block i heard))
  block-heard i j brings =
      let l : i < length js = rw records-heard at brings.0 in
      let is : get_or js i 0 ≡ j = sym (number-heard i l) ∙ brings.2 in
      let was : block_in t.block i packet ≡ sent t number serial message f j = (record-sent i l).2 ∙ ap (sent t number serial message f) is in (
        subst (λ k. k < f.blocks) is (All-get_or (λ k. k < f.blocks) js i 0 l (all_kept_by (carries blocks) (λ k. k < f.blocks) (range_with_len 0 f.blocks) (under 0 f.blocks f.blocks (omega arith)))),
        elim (left-of.block i) [
          | inl same ↦ inl (same ∙ was)
          | inr c ↦
              (let x : Alteration = c.0 in
              let m : Marked x = (c.1, (rw c.3.0 l), c.2.within, c.2.unspoilt, c.2.some_bit) in
              inr (x, m, ap (λ k. get_or js k 0) c.3.0 ∙ is, (x.place, _, altered-small j x.place x.mask, (rw was at c.3.1))))
        ],
      )

  pub heard-carries : (a : ℕ) → ((x : Alteration) → Marked x → get_or js x.«record» 0 ≡ a) → Carries t number serial message f a (header_for route f blocks) heard
  heard-carries a only =
      record {
        read = heard-read;
        number_is = refl;
        start_is = refl;
        pad_is = refl;
        records_are = all-carried blocks f.blocks;
        near = λ i j brings.
            let b = block-heard i j brings in
            (b.0, elim b.1 [ inl same ↦ inl same | inr c ↦ inr (sym c.2 ∙ only c.0 c.1, c.3) ]);
      }

  pub heard-exactly : ((x : Alteration) → Marked x → ⊥) → ExactlyBrings t number serial message f heard
  heard-exactly none i j brings = elim (block-heard i j brings).1 [ inl same ↦ same | inr c ↦ absurd (none c.0 c.1) ]

  pub heard_all : ((i : ℕ) → i < length js → comes_bad h i ≡ false) → BringsAll t number serial message f blocks heard
  heard_all clear j l c =
      let i = kept-has (carries blocks) f.blocks 0 j (omega arith) (omega arith) c in
      (i.0, (rw records-heard i.1, left-of.good i.0 (clear i.0 i.1) ∙ (record-sent i.0 i.1).0, number-heard i.0 i.1 ∙ i.2))
