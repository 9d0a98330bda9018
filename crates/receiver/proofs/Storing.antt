-- The block store: places, what is missing, and the loop over a packet's records.
use Rattle.std.proofs.Common.{◌≡◌, ℕ, zero, suc, ◌+◌, ◌*◌, ◌^◌, ◌<◌, ◌≤◌, Bool, true, false, cond, List, [], ◌∷◌, length, Some, None, IfSome, sum_by, filter, Option, refl, ap, ◌∙◌, zero-add, arith}
use Rattle.std.specs.List.{range_with_len}
use Rattle.std.proofs.lemmas.Grind.{common_steps}
use Rattle.std.proofs.lemmas.List.Sums.{sum_by-append}
use Rattle.packet.specs.declared.values.Header.{Header}
use Rattle.packet.specs.Reading.{Block, block_at}
use Rattle.packet.specs.Records.{records_between}
use Rattle.packet.proofs.Sets.{kept_more}
use Rattle.receiver.specs.declared.state.BlockStore.{BlockStore}
use Rattle.receiver.specs.Store.{put_of, put_in, filled_from}
use Rattle.receiver.specs.Whole.{Storable}

-- Block j of at most 20 octets lies within the store.
pub block_within : (j n : ℕ) → j < 16 → n ≤ 20 → j * n + n ≤ 320
block_within j n h l = grind arith

-- One block further: its flag is added where it is asked for.
pub flags-more : (p : ℕ → Bool) (j : ℕ) (b : Bool) → p j ≡ b
    → sum_by (λ k. 2 ^ k) (filter p (range_with_len 0 (j + 1))) ≡ sum_by (λ k. 2 ^ k) (filter p (range_with_len 0 j)) + cond b (2 ^ j) 0
flags-more p j b e =
    ap (sum_by (λ k. 2 ^ k)) (kept_more p j)
    ∙ sum_by-append (λ k. 2 ^ k) (filter p (range_with_len 0 j)) (cond (p j) (j ∷ []) [])
    ∙ ap (λ n. sum_by (λ k. 2 ^ k) (filter p (range_with_len 0 j)) + n) (ap (λ q. sum_by (λ k. 2 ^ k) (cond q (j ∷ []) [])) e ∙ one b)
  where
    one : (q : Bool) → sum_by (λ k. 2 ^ k) (cond q (j ∷ []) []) ≡ cond q (2 ^ j) 0
    one true = zero-add (2 ^ j)
    one false = refl

pub doubled : (j : ℕ) → 2 ^ (j + 1) ≡ 2 ^ j + 2 ^ j
doubled j = grind (arith, common_steps)

-- The blocks of records can be stored in turn, and make t of s.
abbrev pub Stores : ℕ → List (Option Block) → BlockStore → BlockStore → Type 0
Stores size [] s t = s ≡ t
Stores size (r ∷ rs) s t = IfSome r (λ b. (b.number < 16) × (length b.octets ≡ size)) × Stores size rs (put_in size r s) t

pub stores-all : (size : ℕ) (h : Header) (xs : List ℕ) → Storable size h xs → (n i : ℕ) (s : BlockStore)
    → Stores size (records_between (record { header = h; size = size; octets = xs }) i n) s (filled_from size h xs n i s)
stores-all size h xs f zero i s = refl
stores-all size h xs f (suc n) i s = (fits (block_at size h xs i) refl, stores-all size h xs f n (i + 1) _)
  where
    fits : (r : Option Block) → block_at size h xs i ≡ r → IfSome r (λ b. (b.number < 16) × (length b.octets ≡ size))
    fits None e = tt
    fits (Some b) e = f.each i b e

-- A block of the carrier's size, put by its number.
pub put_same : (size n number : ℕ) (b : Block) (s : BlockStore) → n ≡ size → number ≡ b.number → put_of n (record { number = number; octets = b.octets }) s ≡ put_of size b s
put_same size n number b s e q = rw (e, q)
