-- The parts of an image: data, pad and check, place by place.
use Rattle.std.proofs.Common.{◌≡◌, ℕ, ◌+◌, ◌-◌, ◌*◌, ◌<◌, ◌≤◌, min, List, [], ◌++◌, length, get_or, take, drop, replicate, sym, refl, ap, ◌∙◌, mul-le-mul_right, suc-mul, arith, rules}
use Rattle.std.proofs.lemmas.List.{length-append, length-replicate, length-take-le, length-drop, get_or_append_left, get_or-append_right, get_or-take, get_or-drop, get_or-replicate, take-replicate, append-nil, append_assoc, same_lists, places}
use Rattle.fragment.specs.Streams.{stream_of, four_octets}
use Rattle.packet.specs.declared.image.Image.{Image}
use Rattle.packet.specs.Images.{covered, block_of}
use Rattle.packet.specs.Sealing.{image_in}

-- A fragment's data is as long as it says where it lies within its stream.
pub length_part : (xs : List ℕ) (from count : ℕ) → from + count ≤ length xs → length (take count (drop from xs)) ≡ count
length_part xs from count h = length-take-le count (drop from xs) (let e = length-drop from xs in omega arith)

pub length-covered : (xs : List ℕ) (pad : ℕ) → length (covered xs pad) ≡ length xs + pad
length-covered xs pad = length-append xs (replicate pad 0) ∙ ap (λ n. length xs + n) (length-replicate pad 0)

-- An octet of the data is that of the stream.
pub in-data : (xs four : List ℕ) (from count pad place : ℕ) → from + count ≤ length xs → place < count
    → get_or (covered (take count (drop from xs)) pad ++ four) place 0 ≡ get_or xs (from + place) 0
in-data xs four from count pad place h l =
    let n = length_part xs from count h in
    let c = length-covered (take count (drop from xs)) pad in
    get_or_append_left (covered (take count (drop from xs)) pad) four 0 place (omega arith)
    ∙ get_or_append_left (take count (drop from xs)) (replicate pad 0) 0 place (omega arith)
    ∙ get_or-take count (drop from xs) place 0 l
    ∙ get_or-drop from xs place 0

-- The pad is zeros.
pub in-pad : (content four : List ℕ) (pad place : ℕ) → length content ≤ place → place < length content + pad
    → get_or (covered content pad ++ four) place 0 ≡ 0
in-pad content four pad place h l =
    let c = length-covered content pad in
    get_or_append_left (covered content pad) four 0 place (omega arith)
    ∙ get_or-append_right content (replicate pad 0) (length content) place 0 refl h
    ∙ get_or-replicate pad (place - length content) 0 0 (omega arith)

-- The check stands behind them.
pub in-check : (content four : List ℕ) (pad place : ℕ) → length content + pad ≤ place
    → get_or (covered content pad ++ four) place 0 ≡ get_or four (place - (length content + pad)) 0
in-check content four pad place h =
    get_or-append_right (covered content pad) four (length content + pad) place 0 (length-covered content pad) h

-- An octet of a block is that of the image.
pub in_block : (image : List ℕ) (size j i : ℕ) → i < size → get_or (block_of size image j) i 0 ≡ get_or image (j * size + i) 0
in_block image size j i h = get_or-take size (drop (j * size) image) i 0 h ∙ get_or-drop (j * size) image i 0

-- A part of two joined lists is a part of the first and then a part of the second.
pub part-of-both : (xs ys : List ℕ) (from to : ℕ) → from ≤ to → to ≤ length xs + length ys
    → take (to - from) (drop from (xs ++ ys))
    ≡ take (min to (length xs) - min from (length xs)) (drop (min from (length xs)) xs) ++ take (to - length xs - (from - length xs)) (drop (from - length xs) ys)
part-of-both xs ys from to h l = same_lists _ _ (search (rules, places)) (λ k d h. grind (arith, places))

-- The parts that are read of serial, message and zeros are data and pad.
pub parts-covered : (four message : List ℕ) (from count pad a b p q : ℕ) (bytes : List ℕ)
    → bytes ≡ four → length four ≡ 4 → a ≡ min from 4 → b ≡ min (from + count) 4 → p ≡ from - 4 → q ≡ from + count - 4
    → from + count ≤ length message + 4 → pad ≤ 20
    → take (b - a) (drop a bytes) ++ (take (q - p) (drop p message) ++ (take (pad - 0) (replicate 20 0) ++ []))
    ≡ covered (take count (drop from (four ++ message))) pad
parts-covered four message from count pad a b p q bytes e h ea eb ep eq l k =
    let zeros : take (pad - 0) (replicate {A = ℕ} 20 0) ≡ replicate {A = ℕ} pad 0 =
    ap (λ (n : ℕ). take n (replicate {A = ℕ} 20 0)) (let z : pad - 0 ≡ pad = omega arith in z) ∙ take-replicate pad 20 0 k in
    let parts = part-of-both four message from (from + count) (omega arith) (omega arith) in
    let n : from + count - from ≡ count = omega arith in
    rw (e, ea, eb, ep, eq, zeros, append-nil)
    (sym (append_assoc (take (min (from + count) 4 - min from 4) (drop (min from 4) four)) (take (from + count - 4 - (from - 4)) (drop (from - 4) message)) (replicate pad 0))
    ∙ ap (λ xs. xs ++ replicate pad 0) (sym (rw (h, n) at parts)))

-- Equal checks number every list alike.
pub same_number : {f g : List ℕ → ℕ} → f ≡ g → (xs : List ℕ) → f xs ≡ g xs
same_number e xs = ap (λ (h : List ℕ → ℕ). h xs) e

-- A block of an image, and its octets.
pub length-block : (image : List ℕ) (size n j : ℕ) → length image ≡ n * size → j < n → length (block_of size image j) ≡ size
length-block image size n j e h =
    let l = mul-le-mul_right size h in
    length_part image (j * size) size (omega (arith, suc-mul j size))

-- An image fills its blocks.
pub length-sealed : (stream four : List ℕ) (offset octets pad blocks size : ℕ) → length four ≡ 4 → offset + octets ≤ length stream → blocks * size ≡ octets + pad + 4
    → length (covered (take octets (drop offset stream)) pad ++ four) ≡ blocks * size
length-sealed stream four offset octets pad blocks size e h fill =
    let n = length_part stream offset octets h in
    let c = length-covered (take octets (drop offset stream)) pad in
    length-append (covered (take octets (drop offset stream)) pad) four ∙ (omega arith)

pub length-image : {C : Type 0} (i : Image C) → length i.message.now ≡ i.fragment.now.message → length (image_in i) ≡ i.fragment.now.blocks * i.fragment.now.block
length-image i h =
    let f = i.fragment.now in
    length-sealed (stream_of i.serial i.message.now) (four_octets i.seal) f.offset f.octets f.pad f.blocks f.block refl (omega (arith, f.inside)) f.image
