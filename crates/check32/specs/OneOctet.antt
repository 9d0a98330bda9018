-- Both laws of a check, for any step that loses nothing.
use Rattle.std.specs.Prelude.{◌≡◌, ℕ, zero, suc, ◌^◌, ◌<◌, List, [], ◌∷◌, length, ◌≢◌, slice_index, slice_set}
use Rattle.std.proofs.Common.{arith}
use Rattle.std.specs.List.{fold}

-- a step keeps 32 bits, and tells two numbers and two octets apart
pub record Faithful (f : ℕ → ℕ → ℕ) : Type 0 where
  pub small : (r x : ℕ) → r < 2 ^ 32 → f r x < 2 ^ 32
  pub keeps : (r s x : ℕ) → r < 2 ^ 32 → s < 2 ^ 32 → f r x ≡ f s x → r ≡ s
  pub tells : (r x y : ℕ) → r < 2 ^ 32 → x < 256 → y < 256 → f r x ≡ f r y → x ≡ y

module _ (f : ℕ → ℕ → ℕ) (step : Faithful f) where
  pub read_small : (r : ℕ) → r < 2 ^ 32 → (l : List ℕ) → fold f r l < 2 ^ 32
  read_small r h [] = h
  read_small r h (x ∷ l) = read_small (f r x) (step.small r x h) l

  -- two numbers that differ still differ after the same octets
  read_keeps : (r s : ℕ) (l : List ℕ) → r < 2 ^ 32 → s < 2 ^ 32 → fold f r l ≡ fold f s l → r ≡ s
  read_keeps r s [] h k e = e
  read_keeps r s (x ∷ l) h k e =
      step.keeps r s x h k (read_keeps (f r x) (f s x) l (step.small r x h) (step.small s x k) e)

  pub one-octet :
      (r : ℕ) → r < 2 ^ 32 → (l : List ℕ) (i v : ℕ) → i < length l → slice_index l i < 256 → v < 256
      → (v ≢ slice_index l i) → fold f r (slice_set l i v) ≢ fold f r l
  one-octet r h [] i v lt p q ne e = omega arith
  one-octet r h (x ∷ l) zero v lt p q ne e =
      ne (step.tells r v x h q p (read_keeps (f r v) (f r x) l (step.small r v h) (step.small r x h) e))
  one-octet r h (x ∷ l) (suc i) v lt p q ne e = one-octet (f r x) (step.small r x h) l i v (omega arith) p q ne e
