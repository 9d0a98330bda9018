-- One turn of the loop over a packet's records.
use Rattle.std.proofs.Common.{◌≡◌, ℕ, suc, ◌+◌, ◌-◌, ◌<◌, ◌≤◌, List, length, get_or, take, drop, Some, Option, Result, sym, ap, ◌∙◌, arith}
use Rattle.std.specs.List.{slice_range}
use Rattle.std.proofs.lemmas.List.{get_or-take, get_or-drop, drop-take, drop-drop, take_all, length-take-le, length-drop}
use Rattle.std.proofs.lemmas.Bool.{eq-eqb, le-leb, lt-ltb}
use Rattle.fault.specs.declared.PacketFault.{PacketFault}
use Rattle.packet.specs.declared.values.Header.{Header}
use Rattle.packet.specs.Reading.{Block, and_then, record_of, records_from, record_place, block_at}

-- What one record gives, and then the others, is what is left to read.
pub record-more : (size : ℕ) (h : Header) (xs : List ℕ) (k i least : ℕ) (r all : Result ℕ PacketFault) → i < k
    → r ≡ record_of h xs i least (record_place size i) → records_from size h xs (k - i) i least ≡ all
    → and_then r (λ next. records_from size h xs (k - (i + 1)) (i + 1) next) ≡ all
record-more size h xs k i least r all l e inv =
    let s : k - i ≡ suc (k - (i + 1)) = omega arith in
    rw e (rw s at inv)

-- The block that a record's octets hold.
abbrev pub block_in_octets : List ℕ → Option Block
block_in_octets octets = Some (record { number = get_or octets 0 0; octets = take (length octets - 3) (drop 3 octets) })

-- A good record that is there gives its block.
pub record-gives : (size : ℕ) (h : Header) (xs octets : List ℕ) (i : ℕ) → i < h.records → record_place size i + 3 + size ≤ length xs
    → octets ≡ slice_range xs (record_place size i) (record_place size i + 3 + size) → get_or octets 2 0 ≡ 0
    → block_in_octets octets ≡ block_at size h xs i
record-gives size h xs octets i l room e good =
    let place : ℕ = record_place size i in
    let part : octets ≡ take (3 + size) (drop place xs) = e ∙ ap (λ n. take n (drop place xs)) (let n : place + 3 + size - place ≡ 3 + size = omega arith in n) in
    let long : length octets ≡ 3 + size = ap length part ∙ length-take-le (3 + size) (drop place xs) (omega (arith, length-drop place xs)) in
    let at : (k : ℕ) → k < 3 → get_or octets k 0 ≡ get_or xs (place + k) 0 =
    λ k s. ap (λ o. get_or o k 0) part ∙ get_or-take (3 + size) (drop place xs) k 0 (omega arith) ∙ get_or-drop place xs k 0 in
    let number : get_or octets 0 0 ≡ get_or xs place 0 = at 0 (omega arith) ∙ ap (λ k. get_or xs k 0) (let z : place + 0 ≡ place = omega arith in z) in
    let behind : drop 3 octets ≡ take size (drop (place + 3) xs) = ap (drop 3) part ∙ drop-take 3 size (drop place xs) ∙ ap (take size) (drop-drop 3 place xs) in
    let block : take (length octets - 3) (drop 3 octets) ≡ take size (drop (place + 3) xs) =
    take_all (length octets - 3) (drop 3 octets) (omega (arith, length-drop 3 octets)) ∙ behind in
    rw (lt-ltb i h.records l, le-leb (place + 3 + size) (length xs) room, eq-eqb (get_or xs (place + 2) 0) 0 (sym (at 2 (omega arith)) ∙ good), number, block)
