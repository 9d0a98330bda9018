-- A block that is not held adds its flag.
use Rattle.std.proofs.Common.{◌≡◌, ℕ, Bool, true, false, not, get_or, take, sym, ap, ◌∙◌, arith}
use Rattle.std.proofs.lemmas.Nat.{one_shl}
use Rattle.std.proofs.lemmas.List.{get_or-take}
use Rattle.receiver.proofs.Storing.{flags-more, doubled}
use Rattle.receiver.proofs.state.BlockStore.missing.Goals as goal
use Rattle.receiver.proofs.state.BlockStore.missing.Goals.{then-not-held, else-not-held}

pub loop-j-preserved : goal.loop-j-preserved
loop-j-preserved c =
    let held = c.args.self.now.held in
    let p : ℕ → Bool = λ j. not (get_or held j false) in
    let at : get_or held c.loop-j.j false ≡ get_or (take c.from.result held) c.loop-j.j false = sym (get_or-take c.from.result held c.loop-j.j false (omega arith)) in
    let shift = one_shl c.loop-j.j 16 (omega arith) in
    let power = doubled c.loop-j.j in
    elim c.if-not-held.branch [
      | then-not-held w ↦
          (let e = flags-more p c.loop-j.j true (ap not (at ∙ w.if-not-held.true)) in
          (omega (arith, w.flags-is, c.loop-j.invariant.0), omega (arith, w.flags-is, c.loop-j.invariant.1)))
      | else-not-held w ↦
          (let e = flags-more p c.loop-j.j false (ap not (at ∙ w.if-not-held.false)) in
          (omega (arith, w.flags-is, c.loop-j.invariant.0), omega (arith, w.flags-is, c.loop-j.invariant.1)))
    ]
