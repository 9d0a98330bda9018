-- What the names of the checks mean, and the words for them.
use Rattle.std.specs.Prelude.{◌≡◌, ◌≢◌, ℕ, List, Result, Ok, IsErr, codes}
use Rattle.check32.specs.Addition.{sum_of}
use Rattle.check32.specs.Division.{polynomial_of}
use Rattle.check32.specs.declared.name.CheckName.{CheckName}
use Rattle.check32.specs.declared.name.CheckName.TheVariants.{Polynomial, Sum}
use Rattle.check32.specs.declared.name.UnknownCheck.{UnknownCheck}

abbrev pub number_by : CheckName → List ℕ → ℕ
number_by Polynomial = polynomial_of
number_by Sum = sum_of

-- A word is read as the check that it names, and any other word is refused.
pub record ReadsCheck (word : List ℕ) (result : Result CheckName UnknownCheck) : Type 0 where
  pub poly_word : word ≡ codes "poly" → result ≡ Ok Polynomial
  pub sum_word : word ≡ codes "sum" → result ≡ Ok Sum
  pub wrong : (word ≢ codes "poly") → (word ≢ codes "sum") → IsErr result
