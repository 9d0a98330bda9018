-- Which blocks are held, and what they hold, after the good blocks of a packet went in.
use Rattle.std.proofs.Common.{◌≡◌, ℕ, zero, suc, ◌+◌, ◌*◌, ◌<◌, ◌≤◌, true, false, ◌⊎◌, ◌↔◌, List, length, get_or, take, drop, set, Ok, sym, refl, ap, ◌∙◌, subst, inl, inr, arith}
use Rattle.std.proofs.lemmas.List.{length-set, get_or-set_same, get_or-set_other}
use Rattle.std.proofs.lemmas.Bool.{cases_eq, cases_order}
use Rattle.fragment.specs.Carriers.{Terms, Sound}
use Rattle.packet.specs.declared.values.Header.{Header}
use Rattle.packet.specs.Images.{block_of}
use Rattle.packet.specs.Reading.{record_place, read_of, block_at}
use Rattle.packet.specs.Refusals.{records_at, number_at, quality_at}
use Rattle.packet.proofs.Over.{length_over}
use Rattle.receiver.specs.declared.state.BlockStore.{BlockStore}
use Rattle.receiver.specs.Store.{put_in, filled_from}
use Rattle.receiver.specs.Laws.{Brings, FillHolds}
use Rattle.receiver.proofs.Storing.{block_within}
use Rattle.receiver.proofs.Reading.{found_at, header_is, storable, block-there, block-bad}
use Rattle.receiver.proofs.Rising.{rises}
use Rattle.receiver.proofs.Overwriting.{over-here, over-there}

module _ (t : Terms) (xs : List ℕ) where
  abbrev Sized : BlockStore → Type 0
  Sized b = (length b.octets ≡ 320) × (length b.held ≡ 16)

  -- A store before and after the records that Of names went in.
  record Took (Of : ℕ → Type 0) (b b' : BlockStore) : Type 0 where
    held : (j : ℕ) → j < 16 → (get_or b'.held j false ≡ true) ↔ ((get_or b.held j false ≡ true) ⊎ ((i : ℕ) × Of i × Brings t xs i j))
    kept : (j : ℕ) → ((i : ℕ) → Of i → Brings t xs i j → ⊥) → block_of t.block b'.octets j ≡ block_of t.block b.octets j
    brought : (i j : ℕ) → Of i → Brings t xs i j → block_of t.block b'.octets j ≡ take t.block (drop (record_place t.block i + 3) xs)

module _ (t : Terms) (sound : Sound t) (xs : List ℕ) (h : Header) (read : read_of t xs ≡ Ok h) where
  distinct : (i k j : ℕ) → Brings t xs i j → Brings t xs k j → i ≡ k
  distinct i k j a b =
      elim (cases_order i k) [
        | inl e ↦ e
        | inr o ↦
            elim o [
              | inl l ↦ absurd (omega (arith, rises t xs h read i k l b.0 a.1 b.1, a.2, b.2))
              | inr l ↦ absurd (omega (arith, rises t xs h read k i l a.0 b.1 a.1, a.2, b.2))
            ]
      ]

  -- One record goes in: its block if it is good, and nothing else.
  one : (i : ℕ) → i < records_at xs → (b : BlockStore) → Sized t xs b
      → Sized t xs (put_in t.block (block_at t.block h xs i) b) × Took t xs (λ k. k ≡ i) b (put_in t.block (block_at t.block h xs i) b)
  one i l b sized =
      elim (cases_eq (quality_at t xs i) 0) [
        | inr bad ↦
            rw (block-bad t xs h read i bad) (
              sized,
              record {
                held = λ j m. (inl, λ w. elim w [ inl e ↦ e | inr w ↦ absurd (bad (rw w.1 at w.2.1)) ]);
                kept = λ j none. refl;
                brought = λ k j e w. absurd (bad (rw e at w.1));
              },
            )
        | inl good ↦
            (let n : ℕ = number_at t xs i in
            let s = (storable t xs h read sound).each i (found_at t.block xs i) (block-there t xs h read i l good) in
            let within = block_within n t.block s.0 sound.few_octets in
            rw (block-there t xs h read i l good) (
              (length_over (n * t.block) (found_at t.block xs i).octets b.octets (omega (arith, s.1, sized.0)) ∙ sized.0, length-set b.held n true ∙ sized.1),
              record {
                held = λ j m. elim (cases_eq n j) [
                  | inl e ↦ (λ _. inr (i, refl, (l, good, e)), λ _. subst (λ k. get_or (set b.held n true) k false ≡ true) e (get_or-set_same b.held n true false (omega (arith, s.0, sized.1))))
                  | inr e ↦
                      (let same = get_or-set_other b.held n j true false (λ q. e (sym q)) in
                      (λ q. inl (sym same ∙ q), λ w. elim w [ inl q ↦ same ∙ q | inr w ↦ absurd (e (ap (number_at t xs) (sym w.1) ∙ w.2.2)) ]))
                ];
                kept = λ j none. over-there t.block j n (found_at t.block xs i).octets b.octets s.1 (omega (arith, sized.0)) (λ e. none i refl (l, good, e));
                brought = λ k j e w.
                    let at : n ≡ j = ap (number_at t xs) (sym e) ∙ w.2 in
                    rw (e, ← at) (over-here t.block n (found_at t.block xs i).octets b.octets s.1 (omega (arith, sized.0)));
              },
            ))
      ]

  from : (n i : ℕ) → i + n ≡ records_at xs → (b : BlockStore) → Sized t xs b → Took t xs (λ k. i ≤ k) b (filled_from t.block h xs n i b)
  from zero i e b sized =
      record {
        held = λ j m. (inl, λ w. elim w [ inl q ↦ q | inr w ↦ absurd (omega (arith, w.1, w.2.0)) ]);
        kept = λ j none. refl;
        brought = λ k j l w. absurd (omega (arith, w.0));
      }
  from (suc n) i e b sized =
      let first = one i (omega arith) b sized in
      let a = first.1 in
      let rest = from n (i + 1) (omega arith) _ first.0 in
      record {
        held = λ j m. (
          λ q.
              elim ((rest.held j m).0 q) [
                | inl q ↦ elim ((a.held j m).0 q) [ inl q ↦ inl q | inr w ↦ inr (w.0, omega (arith, w.1), w.2) ]
                | inr w ↦ inr (w.0, omega (arith, w.1), w.2)
              ],
          λ w.
              (rest.held j m).1
              (elim w [
                | inl q ↦ inl ((a.held j m).1 (inl q))
                | inr w ↦ elim (cases_eq w.0 i) [ inl q ↦ inl ((a.held j m).1 (inr (w.0, q, w.2))) | inr q ↦ inr (w.0, omega (arith, w.1), w.2) ]
              ]),
        );
        kept = λ j none. rest.kept j (λ k l w. none k (omega arith) w) ∙ a.kept j (λ k q w. none k (omega arith) w);
        brought = λ k j l w.
            elim (cases_eq k i) [
              | inl q ↦ rest.kept j (λ k' l' w'. let same = distinct k k' j w w' in omega arith) ∙ a.brought k j q w
              | inr q ↦ rest.brought k j (omega arith) w
            ];
      }

pub fill_holds : (t : Terms) → Sound t → FillHolds t
fill_holds t sound xs h b read octets held =
    let records = ap (λ (y : Header). y.records) (header_is t xs h read) in
    let all = from t sound xs h read h.records 0 (omega arith) b (octets, held) in
    record {
      held = λ j m. (
        λ q. elim ((all.held j m).0 q) [ inl q ↦ inl q | inr w ↦ inr (w.0, w.2) ],
        λ w. (all.held j m).1 (elim w [ inl q ↦ inl q | inr w ↦ inr (w.0, omega arith, w.1) ]),
      );
      kept = λ j none. all.kept j (λ k _ w. none k w);
      brought = λ i j w. all.brought i j (omega arith) w;
    }
