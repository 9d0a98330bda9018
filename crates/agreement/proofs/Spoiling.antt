-- What a hearing leaves of the octets of a packet.
use Rattle.std.proofs.Common.{◌≡◌, ℕ, zero, suc, ◌+◌, ◌*◌, ◌%◌, ◌<◌, ◌≤◌, true, false, cond, not, eqb, ltb, ◌≢◌, ◌⊎◌, List, length, get_or, take, drop, set, Some, None, Option, sym, refl, ap, ◌∙◌, subst, inl, inr, mul-le-mul_right, suc-mul, arith}
use lib.Bits.{bit_xor}
use lib.Seq.{take-set-lt}
use Rattle.std.proofs.lemmas.List.{length-set, length-take, length-drop, get_or-set_same, get_or-set_other, get_or-take, get_or-drop, drop-set-add, ext_get_or}
use Rattle.std.proofs.lemmas.Bool.{cases_order, cases_eq, cases_Bool, and_parts, both_ways, not-true, ltb-true, eqb-false, cond-false, cond_both}
use Rattle.packet.specs.Reading.{record_place}
use Rattle.air.specs.declared.fate.Alteration.{Alteration}
use Rattle.air.specs.declared.fate.Hearing.{Hearing}
use Rattle.damage.specs.Damage.{comes_bad, spoilt_from, altered_place, counts, altered_by, damaged}

-- Octets of a part that are the same, and one that is set.
part_same : (xs ys : List ℕ) (from n : ℕ) → length ys ≡ length xs → ((q : ℕ) → q < n → get_or ys (from + q) 0 ≡ get_or xs (from + q) 0)
    → take n (drop from ys) ≡ take n (drop from xs)
part_same xs ys from n long same =
    let a = length-take n (drop from ys) in
    let b = length-take n (drop from xs) in
    let c = length-drop from ys in
    let d = length-drop from xs in
    ext_get_or 0 (take n (drop from ys)) (take n (drop from xs)) (omega arith)
    (λ i l.
    let m : i < n = omega arith in
    get_or-take n (drop from ys) i 0 m ∙ get_or-drop from ys i 0 ∙ same i m ∙ sym (get_or-take n (drop from xs) i 0 m ∙ get_or-drop from xs i 0))

part-set : (xs : List ℕ) (from n i v : ℕ) → i < n → take n (drop from (set xs (from + i) v)) ≡ set (take n (drop from xs)) i v
part-set xs from n i v l = ap (take n) (drop-set-add from xs i v) ∙ take-set-lt n (drop from xs) i v l

module _ (size : ℕ) where
  -- A place lies in one record only.
  one_place : (i k r s : ℕ) → r < size + 3 → s < size + 3 → record_place size i + r ≡ record_place size k + s → (i ≡ k) × (r ≡ s)
  one_place i k r s lr ls e =
      elim (cases_order i k) [
        | inl q ↦ (q, (let m = ap (λ x. x * (size + 3)) q in omega arith))
        | inr o ↦ elim o [
          | inl l ↦ (let m = mul-le-mul_right (size + 3) l in absurd (omega (arith, suc-mul i (size + 3))))
          | inr l ↦ (let m = mul-le-mul_right (size + 3) l in absurd (omega (arith, suc-mul k (size + 3))))
        ]
      ]

  -- The block of record i.
  abbrev pub block_in : ℕ → List ℕ → List ℕ
  block_in i xs = take size (drop (record_place size i + 3) xs)

  module _ (h : Hearing) where
    -- The bad records get their mark, and every other octet stays.
    abbrev spoilt_at : ℕ → List ℕ → List ℕ
    spoilt_at i xs = cond (comes_bad h i) (set xs (record_place size i + 2) 1) xs

    length-spoilt : (n i : ℕ) (xs : List ℕ) → length (spoilt_from size h n i xs) ≡ length xs
    length-spoilt zero i xs = refl
    length-spoilt (suc n) i xs =
        length-spoilt n (i + 1) (spoilt_at i xs)
        ∙ cond_both (comes_bad h i) (set xs (record_place size i + 2) 1) xs (λ l. length l ≡ length xs) (λ _. length-set xs (record_place size i + 2) 1) (λ _. refl)

    spoilt-other : (n i : ℕ) (xs : List ℕ) (p : ℕ) → ((k : ℕ) → i ≤ k → comes_bad h k ≡ true → p ≡ record_place size k + 2 → ⊥)
        → get_or (spoilt_from size h n i xs) p 0 ≡ get_or xs p 0
    spoilt-other zero i xs p off = refl
    spoilt-other (suc n) i xs p off =
        spoilt-other n (i + 1) (spoilt_at i xs) p (λ k l. off k (omega arith))
        ∙ cond_both (comes_bad h i) (set xs (record_place size i + 2) 1) xs (λ l. get_or l p 0 ≡ get_or xs p 0)
        (λ b. get_or-set_other xs (record_place size i + 2) p 1 0 (off i (omega arith) b)) (λ _. refl)

    spoilt-bad : (n i k : ℕ) (xs : List ℕ) → i ≤ k → k < i + n → comes_bad h k ≡ true → record_place size k + 2 < length xs
        → get_or (spoilt_from size h n i xs) (record_place size k + 2) 0 ≡ 1
    spoilt-bad zero i k xs l m b there = absurd (omega arith)
    spoilt-bad (suc n) i k xs l m b there =
        elim (cases_eq i k) [
          | inl e ↦
              spoilt-other n (i + 1) (spoilt_at i xs) (record_place size k + 2) (λ j o _ q. absurd (omega (arith, (one_place k j 2 2 (omega arith) (omega arith) q).0)))
              ∙ (rw (e, b) (get_or-set_same xs (record_place size k + 2) 1 0 there))
          | inr e ↦
              spoilt-bad n (i + 1) k (spoilt_at i xs) (omega arith) (omega arith) b
              (subst (λ x. record_place size k + 2 < x) (sym (length-spoilt 1 i xs)) there)
        ]

    -- An alteration that counts.
    pub record Alters (x : Alteration) : Type 0 where
      pub within : x.place < size
      pub unspoilt : comes_bad h x.«record» ≡ false
      pub some_bit : x.mask % 256 ≢ 0

    alters : (xs : List ℕ) (x : Alteration) → counts size h xs x ≡ true → Alters x
    alters xs x e =
        let a = and_parts (ltb x.place size) _ e in
        let b = and_parts (ltb (altered_place size x) (length xs)) _ a.1 in
        let c = and_parts (not (comes_bad h x.«record»)) (not (eqb (x.mask % 256) 0)) b.1 in
        record {
          within = ltb-true x.place size a.0;
          unspoilt = not-true (comes_bad h x.«record») c.0;
          some_bit = eqb-false (x.mask % 256) 0 (not-true (eqb (x.mask % 256) 0) c.1);
        }

    abbrev set_by : List ℕ → Alteration → List ℕ
    set_by xs x = set xs (altered_place size x) (bit_xor (get_or xs (altered_place size x) 0) (x.mask % 256))

    length-altered : (xs : List ℕ) (o : Option Alteration) → length (altered_by size h xs o) ≡ length xs
    length-altered xs None = refl
    length-altered xs (Some x) = cond_both (counts size h xs x) (set_by xs x) xs (λ l. length l ≡ length xs) (λ _. length-set xs (altered_place size x) _) (λ _. refl)

    altered-other : (xs : List ℕ) (o : Option Alteration) (p : ℕ) → ((x : Alteration) → x.place < size → p ≡ altered_place size x → ⊥)
        → get_or (altered_by size h xs o) p 0 ≡ get_or xs p 0
    altered-other xs None p off = refl
    altered-other xs (Some x) p off =
        cond_both (counts size h xs x) (set_by xs x) xs (λ l. get_or l p 0 ≡ get_or xs p 0)
        (λ e. get_or-set_other xs (altered_place size x) p _ 0 (off x (alters xs x e).within)) (λ _. refl)

    -- A block with one octet altered.
    abbrev pub AlteredIn : List ℕ → ℕ → List ℕ → Alteration → Type 0
    AlteredIn xs i b x = (x.«record» ≡ i) × (b ≡ set (block_in i xs) x.place (bit_xor (get_or (block_in i xs) x.place 0) (x.mask % 256)))

    set-block : (xs : List ℕ) (x : Alteration) (i : ℕ) → x.place < size → (block_in i (set_by xs x) ≡ block_in i xs) ⊎ AlteredIn xs i (block_in i (set_by xs x)) x
    set-block xs x i l =
        elim (cases_eq x.«record» i) [
          | inl e ↦
              inr (
                e,
                (rw e (part-set xs (record_place size i + 3) size x.place _ l
                    ∙ ap (λ o. set (block_in i xs) x.place (bit_xor o (x.mask % 256)))
                    (sym (get_or-take size (drop (record_place size i + 3) xs) x.place 0 l ∙ get_or-drop (record_place size i + 3) xs x.place 0)))),
              )
          | inr e ↦
              inl (part_same xs (set_by xs x) (record_place size i + 3) size (length-set xs (altered_place size x) _)
              (λ q m. get_or-set_other xs (altered_place size x) (record_place size i + 3 + q) _ 0
              (λ p. e (sym (one_place i x.«record» (3 + q) (3 + x.place) (omega arith) (omega arith) (omega arith)).0))))
        ]

    altered-block : (xs : List ℕ) (o : Option Alteration) (i : ℕ)
        → (block_in i (altered_by size h xs o) ≡ block_in i xs) ⊎ ((x : Alteration) × (o ≡ Some x) × Alters x × AlteredIn xs i (block_in i (altered_by size h xs o)) x)
    altered-block xs None i = inl refl
    altered-block xs (Some x) i =
        elim (cases_Bool (counts size h xs x)) [
          | inl c ↦ rw c (elim (set-block xs x i (alters xs x c).within) [ inl e ↦ inl e | inr e ↦ inr (x, refl, alters xs x c, e) ])
          | inr c ↦ inl (ap (block_in i) (cond-false (counts size h xs x) (set_by xs x) xs c))
        ]

    -- What a hearing leaves of a packet.
    pub record HeardAs (xs ys : List ℕ) : Type 0 where
      pub long : length ys ≡ length xs
      pub front : (p : ℕ) → p < 10 → get_or ys p 0 ≡ get_or xs p 0
      pub lead : (i r : ℕ) → r < 2 → get_or ys (record_place size i + r) 0 ≡ get_or xs (record_place size i + r) 0
      pub good : (i : ℕ) → comes_bad h i ≡ false → get_or ys (record_place size i + 2) 0 ≡ get_or xs (record_place size i + 2) 0
      pub bad : (i : ℕ) → i < 16 → comes_bad h i ≡ true → record_place size i + 2 < length xs → get_or ys (record_place size i + 2) 0 ≡ 1
      pub block : (i : ℕ) → (block_in i ys ≡ block_in i xs) ⊎ ((x : Alteration) × (h.alteration ≡ Some x) × Alters x × AlteredIn xs i (block_in i ys) x)

    -- Of a record, an alteration that counts leaves all but the block.
    before-block : (zs : List ℕ) (i r : ℕ) → r < 3 → get_or (altered_by size h zs h.alteration) (record_place size i + r) 0 ≡ get_or zs (record_place size i + r) 0
    before-block zs i r l =
        altered-other zs h.alteration (record_place size i + r)
        (λ x m e. absurd (omega (arith, (one_place i x.«record» r (3 + x.place) (omega arith) (omega arith) (omega arith)).1)))

    spoilt-block : (n : ℕ) (xs : List ℕ) (i : ℕ) → block_in i (spoilt_from size h n 0 xs) ≡ block_in i xs
    spoilt-block n xs i =
        part_same xs (spoilt_from size h n 0 xs) (record_place size i + 3) size (length-spoilt n 0 xs)
        (λ q l. spoilt-other n 0 xs (record_place size i + 3 + q)
        (λ k _ _ e. absurd (omega (arith, (one_place i k (3 + q) 2 (omega arith) (omega arith) (omega arith)).1))))

    heard-spoilt : (xs zs : List ℕ) → zs ≡ spoilt_from size h 16 0 xs → HeardAs xs (altered_by size h zs h.alteration)
    heard-spoilt xs zs is =
        let blocks : (i : ℕ) → block_in i zs ≡ block_in i xs = λ i. ap (block_in i) is ∙ spoilt-block 16 xs i in
        record {
          long = length-altered zs h.alteration ∙ ap length is ∙ length-spoilt 16 0 xs;
          front = λ p l.
              altered-other zs h.alteration p (λ x m e. absurd (omega arith))
              ∙ ap (λ ys. get_or ys p 0) is ∙ spoilt-other 16 0 xs p (λ k _ _ e. absurd (omega arith));
          lead = λ i r l.
              before-block zs i r (omega arith)
              ∙ ap (λ ys. get_or ys (record_place size i + r) 0) is
              ∙ spoilt-other 16 0 xs (record_place size i + r) (λ k _ _ e. absurd (omega (arith, (one_place i k r 2 (omega arith) (omega arith) e).1)));
          good = λ i g.
              before-block zs i 2 (omega arith)
              ∙ ap (λ ys. get_or ys (record_place size i + 2) 0) is
              ∙ spoilt-other 16 0 xs (record_place size i + 2)
              (λ k _ b e. absurd (both_ways (comes_bad h k) (ap (comes_bad h) (sym (one_place i k 2 2 (omega arith) (omega arith) e).0) ∙ g) b));
          bad = λ i l b there.
              before-block zs i 2 (omega arith) ∙ ap (λ ys. get_or ys (record_place size i + 2) 0) is ∙ spoilt-bad 16 0 i xs (omega arith) (omega arith) b there;
          block = λ i. rw (blocks i) at (altered-block zs h.alteration i);
        }

    pub heard-as : (xs : List ℕ) → HeardAs xs (damaged size h xs)
    heard-as xs = heard-spoilt xs (spoilt_from size h 16 0 xs) refl
