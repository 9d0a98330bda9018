-- What the loop keeps: the octets so far follow the rule, and so does the next one.
use Rattle.std.proofs.Common.{◌≡◌, ℕ, ◌+◌, ◌*◌, ◌%◌, ◌<◌, get_or, vec_items, vec_len}
use Rattle.vectors.proofs.Vector.octets.Given as goal

abbrev pub invariant-loop : goal.invariant-loop
invariant-loop l =
    (vec_len l.octets ≡ l.counter) × ((k : ℕ) → k < l.counter → get_or (vec_items l.octets) k 0 ≡ (l.self.first + k * l.self.step) % 256)
    × (l.octet ≡ (l.self.first + l.counter * l.self.step) % 256)
