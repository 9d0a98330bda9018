-- Reading what was written: records first, then the header.
use Rattle.std.proofs.Common.{◌≡◌, ℕ, zero, suc, ◌+◌, ◌-◌, ◌*◌, ◌/◌, ◌%◌, ◌<◌, ◌≤◌, Bool, true, false, not, ◌&&◌, ◌||◌, eqb, ltb, leb, List, [], ◌∷◌, ◌++◌, length, get_or, take, drop, IfOk, Some, None, Ok, Err, filter, Result, sym, refl, ap, ◌∙◌, subst, inl, inr, mul-le-mul_right, suc-mul, zero-mul, arith}
use Rattle.std.specs.List.{range_with_len, AllByRecursion}
use Rattle.std.proofs.lemmas.List.{length-append, take_at, drop_at, drop-drop, drop_more, length-drop, get_or-drop}
use Rattle.std.proofs.lemmas.List.FromFn.{length-range_with_len}
use Rattle.std.proofs.ByRecursion.{All-get_or, all_kept_by, All-weaker}
use Rattle.std.proofs.lemmas.List.Filters.{length-filter_both}
use Rattle.std.proofs.lemmas.Bool.{eq-eqb, eqb-true, le-leb, lt-ltb, le-ltb, and_from, and_parts, both_ways, true≢false, cond_both, cond-true, cond-false, cases_lt}
use Rattle.fault.specs.declared.EndFault.{EndFault}
use Rattle.fragment.specs.Carriers.{Terms, Sound}
use Rattle.fragment.specs.Cutting.{Piece, piece_at, fragments_of, fragment_at, where_cut}
use Rattle.fragment.specs.Laws.{WellCut, data_in}
use Rattle.fragment.specs.Streams.{stream_of, four_octets}
use Rattle.fragment.proofs.Cuts.{well-cut}
use Rattle.packet.specs.declared.values.Route.{Route}
use Rattle.packet.specs.declared.values.Blocks.{Blocks}
use Rattle.packet.specs.declared.values.Blocks.TheVariants.{All, Only}
use Rattle.packet.specs.declared.values.Header.{Header}
use Rattle.packet.specs.Blocks.{has, carries, carried, fitting, is_selective as is_selective_blocks}
use Rattle.packet.specs.Images.{covered, image_of, block_of}
use Rattle.packet.specs.Layout.{flags_of, header_for, header_octets, record_octets, records_octets, packet_octets, packet_length, Written, written, written_of}
use Rattle.packet.specs.Octets.{over}
use Rattle.packet.specs.ReadBack.{ReadsBack, ReadsAsWritten}
use Rattle.packet.proofs.Sealed.{length-sealed, length-block}
use Rattle.packet.proofs.Sets.{some-carried}
use Rattle.packet.specs.Reading.{is_start, is_selective, flags_fit, least_data, header_of, record_place, block_fits, record_of, records_from, block_at, is_good}

-- Block numbers as a packet may have them from record i on, the next one at least `least`.
abbrev pub Fits : Bool → ℕ → ℕ → List ℕ → Type 0
Fits selective i least [] = Unit {0}
Fits selective i least (j ∷ js) = (block_fits selective i least j ≡ true) × Fits selective (i + 1) (j + 1) js

pub fits_all : (n i least : ℕ) → Fits false i least (filter (λ j. true) (range_with_len i n))
fits_all zero i least = tt
fits_all (suc n) i least = (eq-eqb i i refl, fits_all n (i + 1) (i + 1))

pub fits-chosen : (p : ℕ → Bool) (n a i least : ℕ) → least ≤ a → a + n ≤ 16 → Fits true i least (filter p (range_with_len a n))
fits-chosen p zero a i least h l = tt
fits-chosen p (suc n) a i least h l =
    cond_both (p a) (a ∷ filter p (range_with_len (a + 1) n)) (filter p (range_with_len (a + 1) n)) (Fits true i least)
    (λ _. (and_from (leb least a) (ltb a 16) (le-leb least a h) (lt-ltb a 16 (omega arith)), fits-chosen p n (a + 1) (i + 1) (a + 1) (omega arith) (omega arith)))
    (λ _. fits-chosen p n (a + 1) i least (omega arith) (omega arith))

pub under : (a n m : ℕ) → a + n ≤ m → AllByRecursion (λ j. j < m) (range_with_len a n)
under a zero m h = tt
under a (suc n) m h = (omega arith, under (a + 1) n m (omega arith))

module _ (size : ℕ) (image : List ℕ) where
  -- Each of these blocks is whole.
  abbrev pub WholeBlocks : List ℕ → Type 0
  WholeBlocks js = AllByRecursion (λ j. length (block_of size image j) ≡ size) js

  pub length-records : (js : List ℕ) → WholeBlocks js → length (records_octets size image js) ≡ length js * (size + 3)
  length-records [] w = sym (zero-mul (size + 3))
  length-records (j ∷ js) w =
      let a = length-append (block_of size image j) (records_octets size image js) in
      let r = length-records js w.1 in
      omega (arith, w.0, suc-mul (length js) (size + 3))

  pub records-drop : (i : ℕ) (js : List ℕ) → WholeBlocks js → i ≤ length js → drop (i * (size + 3)) (records_octets size image js) ≡ records_octets size image (drop i js)
  records-drop zero js w h = ap (λ n. drop n (records_octets size image js)) (zero-mul (size + 3))
  records-drop (suc i) [] w h = absurd (omega arith)
  records-drop (suc i) (j ∷ js) w h =
      let front : List ℕ = record_octets j (length js) (block_of size image j) in
      ap (λ n. drop n (front ++ records_octets size image js)) (let e : suc i * (size + 3) ≡ (size + 3) + i * (size + 3) = omega (arith, suc-mul i (size + 3)) in e)
      ∙ sym (drop-drop (i * (size + 3)) (size + 3) (front ++ records_octets size image js))
      ∙ ap (drop (i * (size + 3))) (drop_at front (records_octets size image js) (size + 3) (omega (arith, w.0)))
      ∙ records-drop i js w.1 (omega arith)

  module _ (xs js : List ℕ) (behind : drop 10 xs ≡ records_octets size image js) (w : WholeBlocks js) where
    -- Record i stands in its place.
    pub record-at : (i : ℕ) → i < length js
        → drop (record_place size i) xs ≡ record_octets (get_or js i 0) (length (drop (i + 1) js)) (block_of size image (get_or js i 0)) ++ records_octets size image (drop (i + 1) js)
    record-at i h =
        sym (drop-drop (i * (size + 3)) 10 xs) ∙ ap (drop (i * (size + 3))) behind ∙ records-drop i js w (omega arith)
        ∙ ap (records_octets size image) (drop_more js i 0 h)

    octet-at : (i k : ℕ) → i < length js
        → get_or xs (record_place size i + k) 0 ≡ get_or (record_octets (get_or js i 0) (length (drop (i + 1) js)) (block_of size image (get_or js i 0)) ++ records_octets size image (drop (i + 1) js)) k 0
    octet-at i k h = sym (get_or-drop (record_place size i) xs k 0) ∙ ap (λ l. get_or l k 0) (record-at i h)

    pub number_at : (i : ℕ) → i < length js → get_or xs (record_place size i) 0 ≡ get_or js i 0
    number_at i h = ap (λ k. get_or xs k 0) (let e : record_place size i ≡ record_place size i + 0 = omega arith in e) ∙ octet-at i 0 h

    pub frame_at : (i : ℕ) → i < length js → get_or xs (record_place size i + 1) 0 ≡ length js - 1 - i
    frame_at i h = octet-at i 1 h ∙ (let e = length-drop (i + 1) js in omega arith)

    pub quality-at : (i : ℕ) → i < length js → get_or xs (record_place size i + 2) 0 ≡ 0
    quality-at i h = octet-at i 2 h

    -- Record i is read as its block.
    pub block-at : (h : Header) (i : ℕ) → h.records ≡ length js → length xs ≡ packet_length size (length js) → i < length js
        → block_at size h xs i ≡ Some (record { number = get_or js i 0; octets = block_of size image (get_or js i 0) })
    block-at h i e long l =
        let blk : List ℕ = block_of size image (get_or js i 0) in
        let whole : length blk ≡ size = All-get_or (λ j. length (block_of size image j) ≡ size) js i 0 l w in
        let m = mul-le-mul_right (size + 3) l in
        let octets : take size (drop (record_place size i + 3) xs) ≡ blk =
        ap (take size) (sym (drop-drop 3 (record_place size i) xs) ∙ ap (drop 3) (record-at i l)) ∙ take_at blk (records_octets size image (drop (i + 1) js)) size whole in
        let t : (ltb i h.records && (leb (record_place size i + 3 + size) (length xs) && is_good (get_or xs (record_place size i + 2) 0))) ≡ true =
        and_from (ltb i h.records) _ (lt-ltb i h.records (omega arith))
        (and_from (leb (record_place size i + 3 + size) (length xs)) _ (le-leb _ _ (omega (arith, suc-mul i (size + 3))))
        (eq-eqb (get_or xs (record_place size i + 2) 0) 0 (quality-at i l))) in
        rw (t, number_at i l, octets)

    -- One written record is read as good.
    record-reads : (h : Header) (i least : ℕ) → h.records ≡ length js → i < length js → block_fits h.selective i least (get_or js i 0) ≡ true
        → record_of h xs i least (record_place size i) ≡ Ok (get_or js i 0 + 1)
    record-reads h i least e l f =
        let frame : eqb (length js - 1 - i) (h.records - 1 - i) ≡ true = eq-eqb _ _ (omega arith) in
        rw (quality-at i l, number_at i l, frame_at i l, f, frame)

    pub records-read : (h : Header) (n i least : ℕ) → h.records ≡ length js → n + i ≡ length js → Fits h.selective i least (drop i js)
        → (next : ℕ) × (records_from size h xs n i least ≡ Ok next)
    records-read h zero i least e s f = (least, refl)
    records-read h (suc n) i least e s f =
        let l : i < length js = omega arith in
        let g : Fits h.selective i least (get_or js i 0 ∷ drop (i + 1) js) = subst (Fits h.selective i least) (drop_more js i 0 l) f in
        let r = records-read h n (i + 1) (get_or js i 0 + 1) e (omega arith) g.1 in
        (r.0, rw (record-reads h i least e l g.0) r.1)

-- A header as a writer writes it.
pub record Headable (t : Terms) (h : Header) : Type 0 where
  source : h.route.source < 65536
  destination : h.route.destination < 65536
  number : h.number < t.most
  few_fragments : t.most ≤ 512
  some_records : 1 ≤ h.records
  few_records : h.records ≤ 16
  short_pad : h.pad < t.block
  single : t.selective ≡ false → (h.start ≡ true) × (h.selective ≡ false)
  enough : h.selective ≡ false → h.pad + 4 + least_data h.start ≤ h.records * t.block

start-flag : (s v : Bool) → is_start (flags_of s v) ≡ s
start-flag true true = refl
start-flag true false = refl
start-flag false true = refl
start-flag false false = refl

selective-flag : (s v : Bool) → is_selective (flags_of s v) ≡ v
selective-flag true true = refl
selective-flag true false = refl
selective-flag false true = refl
selective-flag false false = refl

flags-known : (s v : Bool) → flags_fit true (flags_of s v) ≡ true
flags-known true true = refl
flags-known true false = refl
flags-known false true = refl
flags-known false false = refl

flags-fit : (b s v : Bool) → (b ≡ false → (s ≡ true) × (v ≡ false)) → flags_fit b (flags_of s v) ≡ true
flags-fit true s v only = flags-known s v
flags-fit false s v only = let o = only refl in rw (o.0, o.1)

pub two-read : (x : ℕ) → x < 65536 → x / 256 % 256 * 256 + x % 256 ≡ x
two-read x h = omega arith

module _ (t : Terms) (h : Header) (c : Headable t h) (rest : List ℕ) where
  data-enough : (v : Bool) → h.selective ≡ v → (v || leb (h.pad + 4 + least_data h.start) (h.records * t.block)) ≡ true
  data-enough true e = refl
  data-enough false e = le-leb _ _ (c.enough e)

  pub header-reads : header_of t (header_octets h ++ rest) ≡ Ok h
  header-reads =
      let k : h.records - 1 + 1 ≡ h.records = omega (arith, c.some_records) in
      let long : leb 10 (length (header_octets h ++ rest)) ≡ true = le-leb 10 _ (omega arith) in
      rw (
        long,
        flags-fit t.selective h.start h.selective c.single,
        two-read h.number (omega (arith, c.number, c.few_fragments)),
        lt-ltb h.number t.most c.number,
        k,
        le-leb h.records 16 c.few_records,
        lt-ltb h.pad t.block c.short_pad,
        start-flag h.start h.selective,
        selective-flag h.start h.selective,
        data-enough h.selective refl,
        two-read h.route.source c.source,
        two-read h.route.destination c.destination,
      )

-- The blocks that a packet carries are of the fragment, few, and numbered as a reader wants them.
carried_under : (blocks : Blocks) (n : ℕ) → AllByRecursion (λ j. j < n) (carried blocks n)
carried_under blocks n = all_kept_by (carries blocks) (λ j. j < n) (range_with_len 0 n) (under 0 n n (omega arith))

carried-few : (blocks : Blocks) (n : ℕ) → length (carried blocks n) ≤ n
carried-few blocks n = let l = length-range_with_len 0 n in omega (arith, length-filter_both (carries blocks) (λ j. not (carries blocks j)) (λ _. refl) (range_with_len 0 n))

carried-all : (n a : ℕ) → length (filter (carries All) (range_with_len a n)) ≡ n
carried-all zero a = refl
carried-all (suc n) a = ap suc (carried-all n (a + 1))

carried-fits : (blocks : Blocks) (n : ℕ) → n ≤ 16 → Fits (is_selective_blocks blocks) 0 0 (carried blocks n)
carried-fits All n h = fits_all n 0 0
carried-fits (Only set) n h = fits-chosen (has set) n 0 0 0 (omega arith) (omega arith)

-- A carrier without selective retry has full packets only.
full-only : (t : Terms) (n : ℕ) (blocks : Blocks) → fitting t n blocks ≡ true → t.selective ≡ false → is_selective_blocks blocks ≡ false
full-only t n All f e = refl
full-only t n (Only set) f e = absurd (both_ways t.selective e (and_parts t.selective _ f).0)

least-data : (start : Bool) (octets : ℕ) → 1 ≤ octets → (start ≡ true → 5 ≤ octets) → least_data start ≤ octets
least-data true octets h m = m refl
least-data false octets h m = h

module _ (t : Terms) (sound : Sound t) (chk : List ℕ → ℕ) (route : Route) (source : route.source < 65536) (destination : route.destination < 65536)
    (serial : ℕ) (message : List ℕ) (count n : ℕ) (e : fragments_of t (length message) ≡ Ok count) (l : n < count) (blocks : Blocks) where
  abbrev piece : Piece
  piece = piece_at t (length message) n

  abbrev stream : List ℕ
  stream = stream_of serial message

  abbrev image : List ℕ
  image = image_of chk piece stream

  cut : WellCut t (length message) count n
  cut = well-cut t sound (length message) count n e l

  whole-blocks : WholeBlocks t.block image (carried blocks piece.blocks)
  whole-blocks =
      let long : length image ≡ piece.blocks * t.block =
      length-sealed stream (four_octets (chk (covered (data_in piece stream) piece.pad))) piece.offset piece.octets piece.pad piece.blocks t.block refl (omega (arith, cut.some_data)) cut.image in
      All-weaker (λ j. j < piece.blocks) (λ j. length (block_of t.block image j) ≡ t.block) (λ j h. length-block image t.block piece.blocks j long h) (carried blocks piece.blocks) (carried_under blocks piece.blocks)

  -- Without selective retry the only fragment is the first.
  starts : t.selective ≡ false → piece.start ≡ true
  starts s =
      let one = sound.single s in
      let last = (well-cut t sound (length message) count (count - 1) e (omega arith)).counted in
      cut.first.1 (omega (arith, cut.counted))

  enough : (b : Blocks) → is_selective_blocks b ≡ false → piece.pad + 4 + least_data piece.start ≤ length (carried b piece.blocks) * t.block
  enough All s = rw (carried-all piece.blocks 0) (omega (arith, cut.image, least-data piece.start piece.octets cut.some_data cut.some_message))
  enough (Only set) s = absurd (true≢false s)

  pub length-packet : length (packet_octets chk route piece stream blocks) ≡ packet_length t.block (length (carried blocks piece.blocks))
  length-packet = let r = length-records t.block image (carried blocks piece.blocks) whole-blocks in omega arith

  module _ (fits : fitting t piece.blocks blocks ≡ true) where
    headable : Headable t (header_for route piece blocks)
    headable =
        record {
          source = source;
          destination = destination;
          number = cut.counted;
          few_fragments = sound.few_fragments;
          some_records = some-carried t piece.blocks blocks cut.some_blocks fits;
          few_records = omega (arith, carried-few blocks piece.blocks, cut.few_blocks);
          short_pad = cut.short_pad;
          single = λ s. (starts s, full-only t piece.blocks blocks fits s);
          enough = enough blocks;
        }

    pub reads-back : ReadsBack t route piece image blocks (packet_octets chk route piece stream blocks)
    reads-back =
        let js : List ℕ = carried blocks piece.blocks in
        let h : Header = header_for route piece blocks in
        let xs : List ℕ = packet_octets chk route piece stream blocks in
        let records = records-read t.block image xs js refl whole-blocks h (length js) 0 0 refl (omega arith) (carried-fits blocks piece.blocks cut.few_blocks) in
        record {
          header = rw (header-reads t h headable (records_octets t.block image js), eq-eqb (length xs) (packet_length t.block (length js)) length-packet, records.1);
          longest = let few = mul-le-mul_right (t.block + 3) headable.few_records in omega (arith, length-packet);
          block = λ i l. block-at t.block image xs js refl whole-blocks h i refl length-packet l;
        }

-- A fragment that was cut is that of its message with its number.
cut-is : (t : Terms) (m n : ℕ) (r : Result ℕ EndFault) (f : Piece) → where_cut t m n r ≡ Some f → (count : ℕ) × (r ≡ Ok count) × (n < count) × (piece_at t m n ≡ f)
cut-is t m n (Ok count) f e = elim (cases_lt n count) [
  | inl l ↦ (count, refl, l, (let g = sym (cond-true (ltb n count) (Some (piece_at t m n)) None (lt-ltb n count l)) ∙ e in cc))
  | inr l ↦ (let g = sym (cond-false (ltb n count) (Some (piece_at t m n)) None (le-ltb n count l)) ∙ e in let z : ◌≡◌ {A = ℕ} 0 1 = cc in absurd (omega arith))
]
cut-is t m n (Err fault) f e = let z : ◌≡◌ {A = ℕ} 0 1 = cc in absurd (omega arith)

module _ (t : Terms) (sound : Sound t) (chk : List ℕ → ℕ) (route : Route) (source : route.source < 65536) (destination : route.destination < 65536)
    (serial : ℕ) (f : Piece) (blocks : Blocks) (message buffer : List ℕ) where
  packet-reads : length message ≡ f.message → fitting t f.blocks blocks ≡ true → fragment_at t f.message f.number ≡ Some f
      → ReadsBack t route f (image_of chk f (stream_of serial message)) blocks (take (packet_length f.block (length (carried blocks f.blocks))) (over 0 (packet_octets chk route f (stream_of serial message) blocks) buffer))
  packet-reads lent fits was =
      let c = cut-is t f.message f.number (fragments_of t f.message) f was in
      let e : fragments_of t (length message) ≡ Ok c.0 = ap (fragments_of t) lent ∙ c.1 in
      let Reads : Piece → Type 0 =
      λ p. fitting t p.blocks blocks ≡ true
      → ReadsBack t route p (image_of chk p (stream_of serial message)) blocks (take (packet_length p.block (length (carried blocks p.blocks))) (over 0 (packet_octets chk route p (stream_of serial message) blocks) buffer)) in
      let p : Piece = piece_at t (length message) f.number in
      let xs : List ℕ = packet_octets chk route p (stream_of serial message) blocks in
      subst Reads (ap (λ m. piece_at t m f.number) lent ∙ c.3)
      (λ fits'. subst (ReadsBack t route p (image_of chk p (stream_of serial message)) blocks)
      (sym (take_at xs (drop (0 + length xs) buffer) _ (length-packet t sound chk route source destination serial message c.0 f.number e c.2 blocks)))
      (reads-back t sound chk route source destination serial message c.0 f.number e c.2 blocks fits'))
      fits

  -- Whatever writing left, what it wrote is read back.
  pub written-reads : (answer : Result ℕ EndFault) (after : List ℕ) → written answer after ≡ written_of t chk route serial f blocks message buffer
      → ReadsAsWritten t chk route serial f blocks message answer after
  written-reads answer after e was =
      let Reads : Written EndFault → Type 0 = λ w. IfOk w.answer (λ n. ReadsBack t route f (image_of chk f (stream_of serial message)) blocks (take n w.buffer)) in
      subst Reads (sym e)
      (cond_both (eqb (length message) f.message) _ _ Reads
      (λ lent. cond_both (leb (packet_length f.block (length (carried blocks f.blocks))) (length buffer)) _ _ Reads
      (λ _. cond_both (fitting t f.blocks blocks) _ _ Reads (λ fits. packet-reads (eqb-true (length message) f.message lent) fits was) (λ _. tt))
      (λ _. tt))
      (λ _. tt))
