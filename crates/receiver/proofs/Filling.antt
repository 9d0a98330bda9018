-- What follows a fill, case by case.
use Rattle.std.proofs.Common.{◌≡◌, ℕ, ◌+◌, ◌-◌, ◌≤◌, Bool, true, ◌&&◌, List, length, take, drop, Some, None, Option, sym, refl, ap, ◌∙◌, subst, ap₂, arith}
use Rattle.std.proofs.lemmas.List.{length-take-le, get_or-take, take-take, drop-take}
use Rattle.std.proofs.lemmas.Bool.{and_parts, eq-eqb, ne_eqb, le-leb, lt-leb, le-ltb}
use Rattle.std.proofs.lemmas.Bool.Decides.{nat_tests}
use Rattle.fragment.specs.Carriers.{Terms}
use Rattle.fragment.specs.Streams.{split_of}
use Rattle.packet.specs.declared.values.Code.TheVariants.{Ack}
use Rattle.packet.specs.Octets.{over}
use Rattle.packet.proofs.Refusals.{else-false}
use Rattle.receiver.specs.declared.state.Gathering.{Gathering}
use Rattle.receiver.specs.declared.state.Phase.TheVariants.{Waiting}
use Rattle.receiver.specs.declared.state.Last.{Last}
use Rattle.receiver.specs.declared.state.State.{State}
use Rattle.receiver.specs.Store.{missing_of, check_place, check_in}
use Rattle.receiver.specs.Fill.{answered, moved, serial_in, is_last, completed, appended, octets_of, finished}
use Rattle.receiver.specs.Calls.{part_of}
use Rattle.receiver.specs.Laws.{last_with, FillRows}
use Rattle.receiver.proofs.Asking.{missing-asked, some-missing, none-missing}

-- Last equals serial and check.
last-is : (o : Option Last) (l : Last) → is_last o l.serial l.check ≡ true → o ≡ Some l
last-is None l e = cc
last-is (Some k) l e = grind (arith, nat_tests)

module _ (t : Terms) (number : List ℕ → ℕ) (s : State) (store : List ℕ) (g : Gathering) where
  abbrev again : Bool
  again = g.start && is_last s.last (last_with t s store g).serial (last_with t s store g).check

  pub fill-rows : FillRows t number s store g
  fill-rows =
      record {
        missing = λ e j h. (missing_of g.blocks s.blocks, (rw (some-missing s.blocks g.blocks j h, e)), missing-asked s.blocks g.blocks);
        missing_full = λ e j h. rw (some-missing s.blocks g.blocks j h, e);
        spoilt = λ e h w. rw (none-missing s.blocks g.blocks h, ne_eqb _ _ w, e);
        spoilt_full = λ e h w. rw (none-missing s.blocks g.blocks h, ne_eqb _ _ w, e);
        too_long = λ h r l. rw (none-missing s.blocks g.blocks h, eq-eqb _ _ r, lt-leb _ _ l);
        more = λ h r l n. rw (none-missing s.blocks g.blocks h, eq-eqb _ _ r, le-leb _ _ l, ne_eqb g.number 0 (λ z. omega arith));
        handed_up = λ h r l z other.
            let new = else-false again (λ e. let a = and_parts g.start _ e in other (a.0, last-is s.last (last_with t s store g) a.1)) in
            rw (none-missing s.blocks g.blocks h, eq-eqb _ _ r, le-leb _ _ l, eq-eqb g.number 0 z, new);
        repeated = λ h r l z b e. rw (none-missing s.blocks g.blocks h, eq-eqb _ _ r, le-leb _ _ l, eq-eqb g.number 0 z, b, e, eq-eqb (last_with t s store g).serial _ refl, eq-eqb (last_with t s store g).check _ refl);
      }

-- The data of a right image goes behind what the message store holds.
module _ (t : Terms) (number : List ℕ → ℕ) (s : State) (store : List ℕ) (g : Gathering) (image store' : List ℕ) (check octets n : ℕ)
    (whole : (missing_of g.blocks s.blocks).0 ≡ 0) (front : image ≡ take (check_place t.block g.blocks) s.blocks.octets)
    (long : length image ≡ check_place t.block g.blocks) (behind : check ≡ check_in t.block g.blocks s.blocks) (right : number image ≡ check)
    (part : octets ≡ length image - g.pad) (sum : n ≡ s.filled + length (take octets image)) (room : n ≤ length store)
    (into : store' ≡ over s.filled (take octets image) store) where
  part-is : take octets image ≡ take (octets_of t g) s.blocks.octets
  part-is =
      ap₂ take (let e : octets ≡ octets_of t g = omega arith in e) front
      ∙ take-take (octets_of t g) (check_place t.block g.blocks) s.blocks.octets (omega arith)

  sum-is : n ≡ s.filled + octets_of t g
  sum-is = let long' = length-take-le octets image (omega arith) in omega arith

  append-is : finished t number s store g ≡ appended s store (octets_of t g) (check_in t.block g.blocks s.blocks) g
  append-is =
      rw (
        eq-eqb _ _ whole,
        eq-eqb (number (take (check_place t.block g.blocks) s.blocks.octets)) (check_in t.block g.blocks s.blocks) (ap number (sym front) ∙ right ∙ behind),
        le-leb (s.filled + octets_of t g) (length store) (omega (arith, sum-is)),
      )

  pub last-in : g.number ≡ 0 → completed s store' n check g ≡ finished t number s store g
  last-in z = sym (append-is ∙ (rw (eq-eqb g.number 0 z, ← behind, ← sum-is, ← part-is, ← into)))

  pub more-in : (g.number ≡ 0 → ⊥) → answered (moved s (Waiting g.number) n s.last) store' Ack ≡ finished t number s store g
  more-in z = sym (append-is ∙ (rw (ne_eqb g.number 0 z, ← sum-is, ← part-is, ← into)))

-- The stream in the message store, its serial and the part after it.
pub part-after : (store : List ℕ) (octets : ℕ) → 4 ≤ octets → octets ≤ length store
    → split_of (take octets store) ≡ Some (record { serial = serial_in store; message = part_of store 4 (octets - 4) })
part-after store octets h l =
    let long = length-take-le octets store l in
    let there : 4 + (octets - 4) ≡ octets = omega arith in
    let message : drop 4 (take octets store) ≡ take (octets - 4) (drop 4 store) = subst (λ n. drop 4 (take n store) ≡ take (octets - 4) (drop 4 store)) there (drop-take 4 (octets - 4) store) in
    rw (
      long,
      le-ltb octets 4 h,
      le-ltb (length store) 4 (omega arith),
      le-leb (4 + (octets - 4)) (length store) (omega arith),
      message,
      get_or-take octets store 0 0 (omega arith),
      get_or-take octets store 1 0 (omega arith),
      get_or-take octets store 2 0 (omega arith),
      get_or-take octets store 3 0 (omega arith),
    )
