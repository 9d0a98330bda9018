-- The loop over the records of a packet.
use Rattle.std.proofs.Common.{◌≡◌, ℕ, suc, ◌+◌, ◌-◌, ◌<◌, Bool, cond, List, set, arith}
use Rattle.packet.specs.declared.values.Quality.TheVariants.{Bad}
use Rattle.packet.specs.Layout.{quality_number}
use Rattle.packet.specs.Reading.{record_place}
use Rattle.air.specs.declared.fate.Hearing.{Hearing}
use Rattle.damage.specs.Damage.{comes_bad, spoilt_from}

-- One record further.
pub spoilt-more : (size : ℕ) (h : Hearing) (k i : ℕ) (b : Bool) (xs xs' : List ℕ) → i < k → b ≡ comes_bad h i
    → xs' ≡ cond b (set xs (record_place size i + 2) (quality_number Bad)) xs
    → spoilt_from size h (k - (i + 1)) (i + 1) xs' ≡ spoilt_from size h (k - i) i xs
spoilt-more size h k i b xs xs' l e q =
    let n : k - i ≡ suc (k - (i + 1)) = omega arith in
    rw (n, q, e)
