-- A fragment that was cut is one of the given message.
use Rattle.std.proofs.Common.{◌≡◌, ℕ, Bool, true, false, cond, ltb, Some, None, Ok, Err, Result, ap, arith}
use Rattle.fault.specs.declared.EndFault.{EndFault}
use Rattle.fragment.specs.Carriers.{Terms}
use Rattle.fragment.specs.Cutting.{Piece, piece_at, where_cut, fragments_of, fragment_at}

module _ (t : Terms) (m n : ℕ) (f : Piece) where
  tested : (b : Bool) → cond b (Some (piece_at t m n)) None ≡ Some f → f.message ≡ m
  tested true e = let same : f ≡ piece_at t m n = cc in ap (λ (p : Piece). p.message) same
  tested false e = let z : ◌≡◌ {A = ℕ} 0 1 = cc in absurd (omega arith)

  answered : (r : Result ℕ EndFault) → where_cut t m n r ≡ Some f → f.message ≡ m
  answered (Ok count) e = tested (ltb n count) e
  answered (Err fault) e = let z : ◌≡◌ {A = ℕ} 0 1 = cc in absurd (omega arith)

  pub cut-message : fragment_at t m n ≡ Some f → f.message ≡ m
  cut-message e = answered (fragments_of t m) e
