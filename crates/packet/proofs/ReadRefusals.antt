-- When reading a packet refuses.
use Rattle.std.proofs.Common.{◌≡◌, ℕ, Bool, true, false, cond, eqb, leb, List, length, get_or, Ok, Err, Result, refl, ap, ◌∙◌}
use Rattle.std.proofs.lemmas.Bool.Decides.{Decides-eqb}
use Rattle.fault.specs.declared.PacketFault.{PacketFault}
use Rattle.fragment.specs.Carriers.{Terms}
use Rattle.packet.specs.declared.packets.Packet.{Packet}
use Rattle.packet.specs.declared.values.Header.{Header}
use Rattle.packet.specs.Layout.{packet_length}
use Rattle.packet.specs.Reading.{and_then, header_at, body_of, read_of}
use Rattle.packet.specs.Refusals.{Short, OfKind, Whole, records_at, WrongHeader, WrongRecord, PacketRefusals}
use Rattle.packet.specs.Views.{Seen, header_in, seen_in, seen_of}
use Rattle.packet.proofs.Stages.{Staged, staged, is-short}
use Rattle.packet.proofs.HeaderFields.{by-header, right-flags}
use Rattle.packet.proofs.RecordFields.{by-records}

then-cond : {A B : Type 0} (b : Bool) (r : Result A PacketFault) (fault : PacketFault) (next : A → Result B PacketFault)
    → and_then (cond b r (Err fault)) next ≡ cond b (and_then r next) (Err fault)
then-cond true r fault next = refl
then-cond false r fault next = refl

pub packet-refusals : (t : Terms) (xs : List ℕ) → PacketRefusals t xs (read_of t xs)
packet-refusals t xs =
    record { number_3 = law.number_3; number_4 = law.number_4; number_5 = law.number_5; no_other = law.no_other; accepted = law.accepted }
  where
    law : Staged (length xs) (header_at xs) (Short xs) (OfKind 1 xs) (Whole t xs) (WrongHeader t xs) (WrongRecord t xs) (read_of t xs)
    law =
        simp then-cond
        (staged (length xs) (header_at xs) (Short xs) (OfKind 1 xs) (Whole t xs) (WrongHeader t xs) (WrongRecord t xs)
        (leb 10 (length xs)) (eqb (get_or xs 0 0) 1) (eqb (length xs) (packet_length t.block (records_at xs))) _ _
        (is-short xs) (Decides-eqb (get_or xs 0 0) 1) (Decides-eqb (length xs) (packet_length t.block (records_at xs)))
        (by-header t xs (body_of t xs (header_at xs))) (λ none. by-records t xs (right-flags t xs none)))

header-seen : (r : Result Packet PacketFault) → header_in r ≡ and_then (seen_in r) (λ s. Ok s.header)
header-seen (Ok p) = refl
header-seen (Err fault) = refl

seen-header : (size : ℕ) (xs : List ℕ) (r : Result Header PacketFault)
    → and_then (and_then r (λ h. Ok (record { header = h; size = size; octets = xs }))) (λ (s : Seen). Ok s.header) ≡ r
seen-header size xs (Ok h) = refl
seen-header size xs (Err fault) = refl

pub answered : (t : Terms) (xs : List ℕ) (r : Result Packet PacketFault) → seen_in r ≡ seen_of t xs
    → record { value : seen_in r ≡ seen_of t xs; refusals : PacketRefusals t xs (header_in r) }
answered t xs r e =
    record {
      value = e;
      refusals = rw (header-seen r ∙ ap (λ s. and_then s (λ v. Ok v.header)) e ∙ seen-header t.block xs (read_of t xs)) (packet-refusals t xs);
    }
