-- The octets of records, joined.
use Rattle.std.proofs.Common.{◌≡◌, ℕ, List, [], ◌∷◌, ◌++◌, Option, refl, ap, map}
use Rattle.std.specs.List.{flat_map}
use Rattle.packet.specs.Reading.{Block}
use Rattle.cut.specs.Joining.{octets_in}

abbrev pub octets_of : List (Option Block) → List ℕ
octets_of records = flat_map octets_in records

-- Of the records at some places.
pub at-places : (record_at : ℕ → Option Block) (places : List ℕ) → octets_of (map record_at places) ≡ flat_map (λ i. octets_in (record_at i)) places
at-places record_at [] = refl
at-places record_at (i ∷ places) = ap (λ l. octets_in (record_at i) ++ l) (at-places record_at places)
