-- The block store: sixteen blocks by number, and marks that say which are held.
use Rattle.std.specs.Prelude.{ℕ, zero, suc, ◌+◌, ◌-◌, ◌*◌, Bool, true, false, cond, not, List, take, drop, replicate, Some, None, filter, Option, ◌==◌, nat_le, slice_index_or, slice_set}
use Rattle.std.specs.List.{range_with_len}
use Rattle.fragment.specs.Streams.{four_at}
use Rattle.packet.specs.declared.values.Header.{Header}
use Rattle.packet.specs.declared.values.BlockSet.{BlockSet}
use Rattle.packet.specs.Octets.{over}
use Rattle.packet.specs.Blocks.{asking}
use Rattle.packet.specs.Reading.{Block, block_at, record_place}
use Rattle.receiver.specs.declared.state.BlockStore.{BlockStore}

-- No block is held, and all octets are 0.
abbrev pub fresh : BlockStore
fresh = record { octets = replicate 320 0; held = replicate 16 false }

-- Made anew: no block is held; the octets stay.
abbrev pub anew : BlockStore → BlockStore
anew s = record { octets = s.octets; held = replicate 16 false }

-- A block goes in by its number, over what stood there.
abbrev pub put_of : ℕ → Block → BlockStore → BlockStore
put_of size b s = record { octets = over (b.number * size) b.octets s.octets; held = slice_set s.held b.number true }

abbrev pub put_in : ℕ → Option Block → BlockStore → BlockStore
put_in size None s = s
put_in size (Some b) s = put_of size b s

-- The good blocks of n records of a packet, from the i-th on, go in.
abbrev pub filled_from : ℕ → Header → List ℕ → ℕ → ℕ → BlockStore → BlockStore
filled_from size h xs zero i s = s
filled_from size h xs (suc n) i s = filled_from size h xs n (i + 1) (put_in size (block_at size h xs i) s)

abbrev pub filled_by : ℕ → Header → List ℕ → BlockStore → BlockStore
filled_by size h xs s = filled_from size h xs h.records 0 s

-- The blocks of n that are not held, ascending.
abbrev pub missing : ℕ → BlockStore → List ℕ
missing n s = filter (λ j. not (slice_index_or s.held j false)) (range_with_len 0 n)

-- The set that asks for them.
abbrev pub missing_of : ℕ → BlockStore → BlockSet
missing_of n s = asking (missing n s)

-- Where the check of an image of n blocks begins.
abbrev pub check_place : ℕ → ℕ → ℕ
check_place size n = n * size - 4

-- The check that the image brings, and the one of its data and pad.
abbrev pub check_in : ℕ → ℕ → BlockStore → ℕ
check_in size n s = four_at (drop (check_place size n) s.octets)

abbrev pub is_right : (List ℕ → ℕ) → ℕ → ℕ → BlockStore → Bool
is_right number size n s = number (take (check_place size n) s.octets) == check_in size n s

-- The first good record of a packet with a block past the last of n, by the octet of its block number.
abbrev pub is_past : ℕ → Option Block → Bool
is_past n None = false
is_past n (Some b) = nat_le n b.number

abbrev pub past_from : ℕ → Header → List ℕ → ℕ → ℕ → ℕ → Option ℕ
past_from size h xs n zero i = None
past_from size h xs n (suc k) i = cond (is_past n (block_at size h xs i)) (Some (record_place size i)) (past_from size h xs n k (i + 1))
