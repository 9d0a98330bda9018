-- One block is written over the octets of a block store.
use Rattle.std.proofs.Common.{◌≡◌, ℕ, ◌+◌, ◌-◌, ◌*◌, ◌<◌, ◌≤◌, List, ◌++◌, length, take, drop, ap, ◌∙◌, inl, inr, mul-le-mul_right, suc-mul, arith, rules}
use Rattle.std.proofs.lemmas.List.{length-take-le, length-drop, take_at, take-take, take-append-le, drop_at, drop-take, drop-append-le, same_lists, places}
use Rattle.std.proofs.lemmas.Bool.{cases_lt}
use Rattle.packet.specs.Images.{block_of}
use Rattle.packet.specs.Octets.{over}

pub over-here : (size j : ℕ) (block octets : List ℕ) → length block ≡ size → j * size + size ≤ length octets → block_of size (over (j * size) block octets) j ≡ block
over-here size j block octets e h =
    ap (take size) (drop_at (take (j * size) octets) (block ++ drop (j * size + length block) octets) (j * size) (length-take-le (j * size) octets (omega arith)))
    ∙ take_at block (drop (j * size + length block) octets) size e

-- A part before or behind what is written stays.
part_stays : (place from count : ℕ) (xs b : List ℕ) → place + length xs ≤ length b → from + count ≤ place → take count (drop from (over place xs b)) ≡ take count (drop from b)
part_stays place from count xs b h l =
    let long = length-take-le place b (omega arith) in
    let left = length-drop from (take place b) in
    let n : place ≡ from + (place - from) = omega arith in
    ap (take count) (drop-append-le from (take place b) _ (omega arith))
    ∙ take-append-le count (drop from (take place b)) _ (omega arith)
    ∙ ap (take count) (ap (λ m. drop from (take m b)) n ∙ drop-take from (place - from) b)
    ∙ take-take count (place - from) (drop from b) (omega arith)

part-behind : (place from count : ℕ) (xs b : List ℕ) → place + length xs ≤ length b → place + length xs ≤ from → take count (drop from (over place xs b)) ≡ take count (drop from b)
part-behind place from count xs b h l = same_lists _ _ (search (rules, places)) (λ k d h. grind (arith, places))

pub over-there : (size j k : ℕ) (block octets : List ℕ) → length block ≡ size → k * size + size ≤ length octets → (k ≡ j → ⊥)
    → block_of size (over (k * size) block octets) j ≡ block_of size octets j
over-there size j k block octets e h other =
    elim (cases_lt j k) [
      | inl l ↦ (let m = mul-le-mul_right size l in part_stays (k * size) (j * size) size block octets (omega arith) (omega (arith, suc-mul j size)))
      | inr l ↦ (let n : k < j = omega arith in let m = mul-le-mul_right size n in part-behind (k * size) (j * size) size block octets (omega arith) (omega (arith, suc-mul k size)))
    ]
