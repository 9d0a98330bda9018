-- Lists of octets, and such lists with one octet replaced.
use Rattle.std.proofs.Common.{◌≡◌, ℕ, zero, suc, ◌+◌, ◌-◌, ◌*◌, ◌/◌, ◌%◌, ◌^◌, ◌<◌, ◌≤◌, ◌⊎◌, List, [], ◌∷◌, ◌++◌, length, get_or, take, drop, set, replicate, sym, refl, ap, ◌∙◌, inl, inr, add-zero, suc-mul, suc-add, zero-add, zero-mul, arith}
use Rattle.std.proofs.lemmas.Nat.{mod-pow-add}
use Rattle.std.proofs.lemmas.List.{length-append, length-take-le, append_assoc, take_at, set-append_left, set-append_right, set_past}
use Rattle.std.proofs.lemmas.Bool.{cases_lt}
use Rattle.fragment.specs.Streams.{four_at, four_octets}
use Rattle.packet.specs.Octets.{over}
use Rattle.packet.specs.Images.{block_of}
use Rattle.packet.proofs.Sealed.{length_part}
use Rattle.agreement.specs.Histories.{Octets}
use Rattle.agreement.proofs.Ties.{OneOff}

-- Octets

pub octets-append : (xs ys : List ℕ) → Octets xs → Octets ys → Octets (xs ++ ys)
octets-append [] ys p q = q
octets-append (x ∷ xs) ys p q = (p.0, octets-append xs ys p.1 q)

pub octets-take : (n : ℕ) (xs : List ℕ) → Octets xs → Octets (take n xs)
octets-take zero xs p = tt
octets-take (suc n) [] p = tt
octets-take (suc n) (x ∷ xs) p = (p.0, octets-take n xs p.1)

pub octets-drop : (n : ℕ) (xs : List ℕ) → Octets xs → Octets (drop n xs)
octets-drop zero xs p = p
octets-drop (suc n) [] p = tt
octets-drop (suc n) (x ∷ xs) p = octets-drop n xs p.1

pub octets-zeros : (n : ℕ) → Octets (replicate n 0)
octets-zeros zero = tt
octets-zeros (suc n) = (omega arith, octets-zeros n)

pub octets-four : (x : ℕ) → Octets (four_octets x)
octets-four x = (omega arith, (omega arith, (omega arith, (omega arith, tt))))

pub octet-small : (xs : List ℕ) (i : ℕ) → Octets xs → get_or xs i 0 < 256
octet-small [] i p = omega arith
octet-small (x ∷ xs) zero p = p.0
octet-small (x ∷ xs) (suc i) p = octet-small xs i p.1

-- One octet replaced

pub off-behind : (s x y : List ℕ) → OneOff x y → OneOff (s ++ x) (s ++ y)
off-behind s x y o =
    let place : length s + o.0 - length s ≡ o.0 = omega arith in (
      length s + o.0,
      o.1,
      o.2,
      ap (λ l. s ++ l) o.3 ∙ sym (set-append_right s x (length s) (length s + o.0) o.1 refl (omega arith) ∙ ap (λ i. s ++ set x i o.1) place),
    )

pub off-before : (s x y : List ℕ) → OneOff x y → OneOff (x ++ s) (y ++ s)
off-before s x y o =
    elim (cases_lt o.0 (length x)) [
      | inl h ↦ (o.0, o.1, o.2, ap (λ l. l ++ s) o.3 ∙ sym (set-append_left x s o.0 o.1 h))
      | inr h ↦ (length (x ++ s), 0, omega arith, ap (λ l. l ++ s) (o.3 ∙ set_past x o.0 o.1 h) ∙ sym (set_past (x ++ s) (length (x ++ s)) 0 (omega arith)))
    ]

pub take-add : (a b : ℕ) (xs : List ℕ) → take (a + b) xs ≡ take a xs ++ take b (drop a xs)
take-add zero b xs = rw zero-add
take-add (suc a) zero [] = rw add-zero
take-add (suc a) (suc b) [] = rw suc-add
take-add (suc a) b (x ∷ xs) = rw suc-add (ap (λ l. x ∷ l) (take-add a b xs))

-- Where a store holds the front of a stream, the part that follows goes behind it.
pub over-reaches : (place count : ℕ) (store stream : List ℕ) → place + count ≤ length store → place + count ≤ length stream → take place store ≡ take place stream
    → take (place + count) (over place (take count (drop place stream)) store) ≡ take (place + count) stream
over-reaches place count store stream l m e =
    let part : List ℕ = take count (drop place stream) in
    let rest : List ℕ = drop (place + length part) store in
    let long : length part ≡ count = length_part stream place count m in
    let front = length-take-le place store (omega arith) in
    let size : length (take place store ++ part) ≡ place + count = length-append (take place store) part ∙ (omega arith) in
    ap (take (place + count)) (sym (append_assoc (take place store) part rest))
    ∙ take_at (take place store ++ part) rest (place + count) size
    ∙ ap (λ l. l ++ part) e
    ∙ sym (take-add place count stream)

-- Blocks, and such blocks of which one has one octet replaced.
module _ (size : ℕ) (x y : List ℕ) where
  -- One block further.
  one_more : (n : ℕ) (xs : List ℕ) → take (suc n * size) xs ≡ take (n * size) xs ++ block_of size xs n
  one_more n xs = ap (λ k. take k xs) (suc-mul n size) ∙ take-add (n * size) size xs

  blocks-same : (n : ℕ) → ((j : ℕ) → j < n → block_of size y j ≡ block_of size x j) → take (n * size) y ≡ take (n * size) x
  blocks-same zero h = rw zero-mul
  blocks-same (suc n) h =
      let before = blocks-same n (λ j l. h j (omega arith)) in
      let here = h n (omega arith) in
      rw (one_more n y, one_more n x, before, here)

  pub blocks-near : (a n : ℕ) → ((j : ℕ) → j < n → (block_of size y j ≡ block_of size x j) ⊎ ((j ≡ a) × OneOff (block_of size x j) (block_of size y j)))
      → OneOff (take (n * size) x) (take (n * size) y)
  blocks-near a zero h = (0, 0, omega arith, rw zero-mul)
  blocks-near a (suc n) h =
      rw (one_more n y, one_more n x)
      (elim (h n (omega arith)) [
        | inl e ↦ rw e (off-before (block_of size x n) _ _ (blocks-near a n (λ j l. h j (omega arith))))
        | inr o ↦
            (let before = blocks-same n (λ j l. elim (h j (omega arith)) [ inl e ↦ e | inr q ↦ absurd (omega (arith, o.0, q.0)) ]) in
            rw before (off-behind (take (n * size) x) _ _ o.1))
      ])

-- Four octets

pub four-at : (x : ℕ) → x < 2 ^ 32 → four_at (four_octets x) ≡ x
four-at x h = omega (arith, mod-pow-add x 8 8, mod-pow-add x 8 16, mod-pow-add x 8 24)

-- One octet replaced makes another number.
pub four-tells : (x k v : ℕ) → four_at (set (four_octets x) k v) ≡ four_at (four_octets x) → set (four_octets x) k v ≡ four_octets x
four-tells x zero v e = let same : v ≡ x / 16777216 % 256 = omega arith in rw same
four-tells x (suc zero) v e = let same : v ≡ x / 65536 % 256 = omega arith in rw same
four-tells x (suc (suc zero)) v e = let same : v ≡ x / 256 % 256 = omega arith in rw same
four-tells x (suc (suc (suc zero))) v e = let same : v ≡ x % 256 = omega arith in rw same
four-tells x (suc (suc (suc (suc k)))) v e = refl
