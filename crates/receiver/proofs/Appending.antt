-- An image in the block store: its check is right, and its data is what is appended.
use Rattle.std.proofs.Common.{◌≡◌, ℕ, ◌+◌, ◌-◌, ◌*◌, ◌^◌, ◌<◌, ◌≤◌, List, ◌++◌, length, take, drop, replicate, sym, ap, ◌∙◌, arith}
use Rattle.std.proofs.lemmas.Nat.{mod-pow-add}
use Rattle.std.proofs.lemmas.List.{get_or-take, take-take, take_at, drop_at, drop-take}
use Rattle.std.proofs.lemmas.Bool.{eq-eqb}
use Rattle.fragment.specs.Carriers.{Terms, Sound}
use Rattle.fragment.specs.Cutting.{Piece, piece_at}
use Rattle.fragment.specs.Laws.{WellCut, data_in}
use Rattle.fragment.specs.Streams.{four_at, four_octets, stream_of}
use Rattle.fragment.proofs.Cuts.{well-cut}
use Rattle.packet.specs.Images.{covered}
use Rattle.packet.proofs.Sealed.{length_part, length-covered}
use Rattle.receiver.specs.Fill.{octets_of}
use Rattle.receiver.specs.Laws.{Checked, AppendsData}

four-at : (x : ℕ) → x < 2 ^ 32 → four_at (four_octets x) ≡ x
four-at x h = omega (arith, mod-pow-add x 8 8, mod-pow-add x 8 16, mod-pow-add x 8 24)

-- The number of four octets behind others depends on nothing more.
four-behind : (place : ℕ) (xs : List ℕ) → four_at (drop place xs) ≡ four_at (drop place (take (place + 4) xs))
four-behind place xs =
    rw (drop-take place 4 xs, get_or-take 4 (drop place xs) 0 0 (omega arith), get_or-take 4 (drop place xs) 1 0 (omega arith), get_or-take 4 (drop place xs) 2 0 (omega arith), get_or-take 4 (drop place xs) 3 0 (omega arith))

-- What stands in front of the check, and the check, of octets that begin with both.
module _ (body four xs : List ℕ) (whole : ℕ) (e : take whole xs ≡ body ++ four) (long : whole ≡ length body + 4) where
  front-is : (place : ℕ) → place ≡ length body → take place xs ≡ body
  front-is place p = sym (take-take place whole xs (omega arith)) ∙ ap (take place) e ∙ take_at body four place (sym p)

  check-is : (place : ℕ) → place ≡ length body → four_at (drop place xs) ≡ four_at four
  check-is place p =
      four-behind place xs
      ∙ ap (λ n. four_at (drop place (take n xs))) (let q : place + 4 ≡ whole = omega arith in q)
      ∙ ap (λ l. four_at (drop place l)) e
      ∙ ap four_at (drop_at body four place (sym p))

pub appends-data : (t : Terms) → Sound t → (number : List ℕ → ℕ) → ((xs : List ℕ) → number xs < 2 ^ 32) → AppendsData t number
appends-data t sound number small serial message count n e l g b blocks pad image =
    let f : Piece = piece_at t (length message) n in
    let cut : WellCut t (length message) count n = well-cut t sound (length message) count n e l in
    let stream : List ℕ = stream_of serial message in
    let body : List ℕ = covered (data_in f stream) f.pad in
    let four : List ℕ = four_octets (number body) in
    let part : length (data_in f stream) ≡ f.octets = length_part stream f.offset f.octets (inside cut) in
    let long = length-covered (data_in f stream) f.pad in
    let size : g.blocks * t.block ≡ length body + 4 = ap (λ k. k * t.block) blocks ∙ cut.image ∙ (omega arith) in
    let place : g.blocks * t.block - 4 ≡ length body = omega arith in
    let front : take (g.blocks * t.block - 4) b.octets ≡ body = front-is body four b.octets (g.blocks * t.block) image size (g.blocks * t.block - 4) place in
    let behind = check-is body four b.octets (g.blocks * t.block) image size (g.blocks * t.block - 4) place in
    let check : Checked t number b g.blocks = ap number front ∙ sym (behind ∙ four-at (number body) (small body)) in
    record {
      right = eq-eqb _ _ check;
      checked = check;
      content =
          sym (take-take (octets_of t g) (g.blocks * t.block - 4) b.octets (omega arith)) ∙ ap (take (octets_of t g)) front
          ∙ take_at (data_in f stream) (replicate f.pad 0) (octets_of t g) (omega arith);
    }
  where
    -- the data lies within the stream
    inside : WellCut t (length message) count n → (piece_at t (length message) n).offset + (piece_at t (length message) n).octets ≤ length (stream_of serial message)
    inside cut = omega (arith, cut.some_data)
