-- Cutting loses nothing: every fragment is well cut, and the fragments in order are the stream.
use Rattle.std.proofs.Common.{◌≡◌, ℕ, zero, suc, ◌+◌, ◌-◌, ◌*◌, ◌^◌, ◌<◌, ◌≤◌, min, false, ltb, List, ◌++◌, length, take, drop, Some, Ok, sym, ◌∙◌, inl, inr, mul-le-mul, zero-mul, arith}
use native.Mathlib.Nat.{sub_self}
use Rattle.std.proofs.lemmas.Nat.{mod-pow-add}
use Rattle.std.proofs.lemmas.List.{take-append-drop, take_all, drop_all, drop-drop, length-drop}
use Rattle.std.proofs.lemmas.Bool.{cases_lt, eqb-true, eq-eqb, le-ltb}
use Rattle.std.proofs.lemmas.Bool.Decides.{nat_tests}
use Rattle.fragment.specs.Carriers.{Terms, Sound}
use Rattle.fragment.specs.Counts.{Least, capacity}
use Rattle.fragment.specs.Cutting.{greatest, count_of, fragments_of, octets_at, piece_at}
use Rattle.fragment.specs.Streams.{four_at, stream_of, split_of}
use Rattle.fragment.specs.Laws.{WellCut, Cuts, joined_from}
use Rattle.fragment.proofs.Counting.{parts-least, part-begins, parts-some}

-- A message that is not refused has some octets, at most the greatest number, and its count is the one worked out.
pub count-is : (t : Terms) (m count : ℕ) → fragments_of t m ≡ Ok count → (count ≡ count_of t m) × (1 ≤ m) × (m ≤ greatest t)
count-is t m count e = (grind (arith, nat_tests), grind (arith, nat_tests), grind (arith, nat_tests))

capacity-some : (t : Terms) → Sound t → 12 ≤ capacity t
capacity-some t s = let h = s.some_octets in omega arith

-- The count worked out is the least number of fragments that hold the stream.
count-least : (t : Terms) → Sound t → (m : ℕ) → Least (capacity t) (m + 4) (count_of t m)
count-least t s m = parts-least (capacity t) (m + 4) (let big = capacity-some t s in omega arith)

-- It is no more than the carrier has.
count_fits : (t : Terms) → Sound t → (m : ℕ) → m ≤ greatest t → count_of t m ≤ t.most
count_fits t s m h =
    let room = mul-le-mul s.some_fragments (capacity-some t s) in
    (count-least t s m).least t.most (omega arith)

-- What the parts before the last leave fits the last one.
last-holds : {size octets n : ℕ} → Least size octets n → 1 ≤ n → octets ≤ (n - 1) * size + size
last-holds {size = size} {octets = octets} {n = n} l h =
    let e : n ≡ suc (n - 1) = omega arith in
    let room : octets ≤ suc (n - 1) * size = rw e at l.holds in
    omega arith

-- Only the last part has room left, and not all of it.
short-rest : {size octets n : ℕ} → Least size octets n → 1 ≤ n → n * size - octets < size
short-rest {size = size} {octets = octets} {n = n} l h =
    let e : n ≡ suc (n - 1) = omega arith in
    rw e (omega (arith, last-holds l h, part-begins l (n - 1) (omega arith)))

-- Of parts of one size, the last perhaps shorter, the one that `follow` others follow.
module _ {size octets n : ℕ} (l : Least size octets n) (follow : ℕ) (under : follow < n) where
  starts-inside : (n - 1 - follow) * size < octets
  starts-inside = part-begins l (n - 1 - follow) (omega arith)

  full-before-last : 0 < follow → min size (octets - (n - 1 - follow) * size) ≡ size
  full-before-last h = let next = part-begins l (suc (n - 1 - follow)) (omega arith) in omega arith

  last-ends : follow ≡ 0 → (n - 1 - follow) * size + min size (octets - (n - 1 - follow) * size) ≡ octets
  last-ends e =
      let last : n - 1 - follow ≡ n - 1 = omega arith in
      rw last (omega (arith, last-holds l (omega arith), part-begins l (n - 1) (omega arith)))

  first-starts : follow ≡ n - 1 → (n - 1 - follow) * size ≡ 0
  first-starts e = let z : n - 1 - follow ≡ 0 = omega arith in rw z (zero-mul size)

  starts-next : suc follow < n → (n - 1 - follow) * size ≡ (n - 1 - suc follow) * size + size
  starts-next h = let e : n - 1 - follow ≡ suc (n - 1 - suc follow) = omega arith in rw e (omega arith)

pub well-cut : (t : Terms) → Sound t → (m count number : ℕ) → fragments_of t m ≡ Ok count → number < count → WellCut t m count number
well-cut t s m count number e h =
    let known = count-is t m count e in
    let under : number < count_of t m = rw known.0 at h in
    let big = capacity-some t s in
    let cut = count-least t s m in
    let inside = starts-inside cut number under in
    let least : Least t.block ((piece_at t m number).octets + 4) (piece_at t m number).blocks = parts-least t.block ((piece_at t m number).octets + 4) s.some_octets in
    let some : 1 ≤ (piece_at t m number).blocks = parts-some least (omega arith) in
    let holds = least.holds in
    let rest = short-rest least some in
    record {
      least = least;
      image = omega arith;
      some_blocks = some;
      few_blocks = least.least 16 (omega arith);
      short_pad = omega arith;
      some_data = omega arith;
      some_message = λ b. let z = eqb-true (count_of t m - 1 - number) 0 b in let o = first-starts cut number under (omega arith) in omega arith;
      full = full-before-last cut number under;
      short = omega arith;
      first = (λ b. let z = eqb-true (count_of t m - 1 - number) 0 b in omega arith, λ i. eq-eqb (count_of t m - 1 - number) 0 (omega arith));
      begins = λ i. first-starts cut number under (omega arith);
      follows = λ l. let next : suc number < count_of t m = omega arith in omega (arith, starts-next cut number under next, full-before-last cut (suc number) next (omega arith));
      ends = last-ends cut number under;
      counted = omega (arith, count_fits t s m known.2);
    }

-- Only as many of the elements as there are can be taken.
take-there : (n : ℕ) (xs : List ℕ) → take (min n (length xs)) xs ≡ take n xs
take-there n xs =
    elim (cases_lt n (length xs)) [
      | inl h ↦ (let e : min n (length xs) ≡ n = omega arith in rw e)
      | inr h ↦ (let e : min n (length xs) ≡ length xs = omega arith in rw e (take_all (length xs) xs (omega arith) ∙ sym (take_all n xs h)))
    ]

-- The last `follow` fragments, joined, are the stream from where the first of them begins.
joined_is : (t : Terms) → Sound t → (m : ℕ) (xs : List ℕ) → length xs ≡ m + 4 → (follow : ℕ) → follow ≤ count_of t m
    → joined_from t m xs follow ≡ drop ((count_of t m - follow) * capacity t) xs
joined_is t s m xs e zero h =
    let all : count_of t m - 0 ≡ count_of t m = omega arith in
    sym (rw all (drop_all _ xs (rw e (count-least t s m).holds)))
joined_is t s m xs e (suc follow) h =
    let here : count_of t m - suc follow ≡ count_of t m - 1 - follow = omega arith in
    let next : count_of t m - follow ≡ suc (count_of t m - 1 - follow) = omega arith in
    rw (joined_is t s m xs e follow (omega arith), here, next) (from (count_of t m - 1 - follow))
  where
    from : (index : ℕ) → take (octets_at t m (index * capacity t)) (drop (index * capacity t) xs) ++ drop (suc index * capacity t) xs ≡ drop (index * capacity t) xs
    from index =
        let over : suc index * capacity t ≡ index * capacity t + capacity t = omega arith in
        rw (over, ← drop-drop, ← e, ← length-drop, take-there, take-append-drop)

serial-back : (serial : ℕ) (message : List ℕ) → serial < 2 ^ 32
    → split_of (stream_of serial message) ≡ Some (record { serial = serial; message = message })
serial-back serial message h =
    let long : ltb (length (stream_of serial message)) 4 ≡ false = le-ltb (length (stream_of serial message)) 4 (omega arith) in
    let e : four_at (stream_of serial message) ≡ serial = omega (arith, mod-pow-add serial 8 8, mod-pow-add serial 8 16, mod-pow-add serial 8 24) in
    rw (long, e)

pub cuts : (t : Terms) → Sound t → Cuts t
cuts t s =
    record {
      each = well-cut t s;
      joins = λ serial message count e.
          let known = count-is t (length message) count e in
          rw known.0 (joined_is t s (length message) (stream_of serial message) (omega arith) (count_of t (length message)) (omega arith) ∙ rw (sub_self, zero-mul));
      splits = serial-back;
    }
