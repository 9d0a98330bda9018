-- What is known of a packet that was read: its records are few, and its good blocks can be stored.
use Rattle.std.proofs.Common.{◌≡◌, ℕ, ◌+◌, ◌<◌, ◌≤◌, Bool, ◌&&◌, ltb, leb, ◌⊎◌, List, length, get_or, take, drop, Some, None, Ok, sym, ap, subst, inl, inr, mul-le-mul_right, suc-mul, arith}
use Rattle.std.proofs.lemmas.Bool.{cases_lt, cases_eq, eq-eqb, le-leb, lt-ltb}
use Rattle.std.proofs.lemmas.Bool.Decides.{nat_tests}
use Rattle.fragment.specs.Carriers.{Terms, Sound}
use Rattle.packet.specs.declared.values.Header.{Header}
use Rattle.packet.specs.Reading.{Block, block_at, is_good, record_place, read_of, header_at}
use Rattle.packet.specs.Refusals.{Full, Selective, flags_at, records_at, number_at, GoodRecord, Headed, Whole, WrongRecord, other_flags, many_records, other_block, high_block}
use Rattle.packet.proofs.ReadRefusals.{packet-refusals}
use Rattle.packet.proofs.Sealed.{length_part}
use Rattle.packet.specs.Views.{Seen, seen_of}
use Rattle.receiver.specs.Whole.{Storable, Admitted}
use Rattle.receiver.proofs.Admitting.{seen-is}

-- A header that is right has flags of a full or of a selective packet.
pub full-or-selective : (t : Terms) (xs : List ℕ) → Headed t xs → Full xs ⊎ Selective xs
full-or-selective t xs headed =
    elim (cases_eq (flags_at xs) 0) [
      | inl a ↦ inl (inl a)
      | inr a ↦
          elim (cases_eq (flags_at xs) 1) [
            | inl b ↦ inl (inr b)
            | inr b ↦
                elim (cases_eq (flags_at xs) 4) [
                  | inl c ↦ inr (inl c)
                  | inr c ↦
                      elim (cases_eq (flags_at xs) 5) [
                        | inl d ↦ inr (inr d)
                        | inr d ↦
                            absurd (headed.2 5 (other_flags (λ f. elim f [ inl e ↦ a e | inr e ↦ b e ]) (λ s. elim s [ inl e ↦ c e | inr e ↦ d e ])))
                      ]
                ]
          ]
    ]

few_records : (t : Terms) (xs : List ℕ) → Headed t xs → records_at xs ≤ 16
few_records t xs headed = elim (cases_lt 16 (records_at xs)) [ inl l ↦ absurd (headed.2 8 (many_records l)) | inr l ↦ l ]

abbrev pub found_at : ℕ → List ℕ → ℕ → Block
found_at size xs i = record { number = get_or xs (record_place size i) 0; octets = take size (drop (record_place size i + 3) xs) }

abbrev is_there : ℕ → Header → List ℕ → ℕ → Bool
is_there size h xs i = ltb i h.records && (leb (record_place size i + 3 + size) (length xs) && is_good (get_or xs (record_place size i + 2) 0))

-- The block that a record gives stands in its place.
pub block-is : (size : ℕ) (h : Header) (xs : List ℕ) (i : ℕ) (b : Block) → block_at size h xs i ≡ Some b
    → (i < h.records) × (record_place size i + 3 + size ≤ length xs) × (get_or xs (record_place size i + 2) 0 ≡ 0) × (b ≡ found_at size xs i)
block-is size h xs i b e = grind (arith, nat_tests)

module _ (t : Terms) (xs : List ℕ) (h : Header) (read : read_of t xs ≡ Ok h) where
  pub known : (h ≡ header_at xs) × Headed t xs × Whole t xs × ((place : ℕ) → WrongRecord t xs place → ⊥)
  known = ((packet-refusals t xs).accepted h).0 read

  pub header_is : h ≡ header_at xs
  header_is = known.0

  pub read-few : h.records ≤ 16
  read-few = subst (λ (k : Header). k.records ≤ 16) (sym known.0) (few_records t xs known.1)

  -- A good record gives its block.
  pub block-there : (i : ℕ) → i < records_at xs → GoodRecord t xs i → block_at t.block h xs i ≡ Some (found_at t.block xs i)
  block-there i l good =
      let records = ap (λ (k : Header). k.records) known.0 in
      let m = mul-le-mul_right (t.block + 3) l in
      let there : i < h.records = omega arith in
      let room : record_place t.block i + 3 + t.block ≤ length xs = omega (arith, known.2, suc-mul i (t.block + 3)) in
      rw (lt-ltb i h.records there, le-leb _ _ room, eq-eqb _ 0 good)

  pub block-bad : (i : ℕ) → (GoodRecord t xs i → ⊥) → block_at t.block h xs i ≡ None
  block-bad i bad = grind (arith, nat_tests)

  pub low : (i : ℕ) → i < records_at xs → get_or xs (record_place t.block i + 2) 0 ≡ 0 → number_at t xs i < 16
  low i l good =
      let few = few_records t xs known.1 in
      elim (cases_lt (number_at t xs i) 16) [
        | inl p ↦ p
        | inr p ↦
            elim (full-or-selective t xs known.1) [
              | inl f ↦ absurd (known.3 _ (other_block i l good f (λ e. omega arith)))
              | inr s ↦ absurd (known.3 _ (high_block i l good s (omega arith)))
            ]
      ]

  pub storable : Sound t → Storable t.block h xs
  storable sound =
      record {
        narrow = sound.few_octets;
        each = λ i b e.
            let k = block-is t.block h xs i b e in
            let there : i < records_at xs = subst (λ (y : Header). i < y.records) known.0 k.0 in (
              subst (λ (c : Block). c.number < 16) (sym k.3) (low i there k.2),
              subst (λ (c : Block). length c.octets ≡ t.block) (sym k.3) (length_part xs (record_place t.block i + 3) t.block k.1),
            );
      }

-- A packet that was read can be heard.
pub seen-admitted : (t : Terms) → Sound t → (xs : List ℕ) (p : Seen) → Ok p ≡ seen_of t xs → Admitted t p.size p.header p.octets
seen-admitted t sound xs p seen =
    let s = seen-is t xs (read_of t xs) p seen in
    record {
      records = read-few t xs p.header s.0;
      sized = s.1;
      storable = rw (s.1, s.2) (storable t xs p.header s.0 sound);
    }
