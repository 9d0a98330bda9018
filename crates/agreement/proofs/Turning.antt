-- All hearings of one turn: what they leave at the receiver, and what reaches the sender.
use Rattle.std.proofs.Common.{◌≡◌, ℕ, ◌%◌, ◌<◌, ◌≤◌, Bool, true, false, cond, ◌≢◌, ◌⊎◌, List, [], ◌∷◌, map, length, get_or, Some, None, Option, sym, refl, ap, ◌∙◌, subst, inl, inr, arith}
use Rattle.fragment.specs.Carriers.{Terms}
use Rattle.fragment.specs.Cutting.{Piece, piece_at}
use Rattle.fragment.specs.Streams.{stream_of}
use Rattle.packet.specs.declared.values.BlockSet.{BlockSet}
use Rattle.packet.specs.declared.values.Blocks.{Blocks}
use Rattle.packet.specs.declared.values.Blocks.TheVariants.{All, Only}
use Rattle.packet.specs.declared.values.Code.{Code}
use Rattle.packet.specs.declared.values.Code.TheVariants.{Ack, AckSelective, FullRetry, OutOfStep}
use Rattle.packet.specs.declared.values.Header.{Header}
use Rattle.packet.specs.declared.values.Route.{Route}
use Rattle.packet.specs.Blocks.{carried, fitting, is_selective}
use Rattle.packet.specs.Layout.{header_for, packet_octets}
use Rattle.packet.specs.Responses.{response_octets}
use Rattle.receiver.specs.declared.state.HandUp.{HandUp}
use Rattle.receiver.specs.declared.state.State.{State}
use Rattle.receiver.specs.declared.state.Phase.TheVariants.{Waiting}
use Rattle.receiver.specs.Fill.{After, heard_of}
use Rattle.receiver.specs.Calls.{Called, responded_to}
use Rattle.air.specs.declared.fate.Alteration.{Alteration}
use Rattle.air.specs.declared.fate.Hearing.{Hearing}
use Rattle.damage.specs.Damage.{comes_bad, damaged}
use Rattle.packet.specs.Octets.{over}
use Rattle.agreement.specs.Turns.{Handed, Reception, handed_in, first_heard, received, call_with, heard_once, all_heard, no_response}
use Rattle.agreement.specs.Histories.{message_of, Every}
use Rattle.agreement.proofs.Ties.{Lawful, Sending, reach, Sized, up_after, Carries, Touched, Untouched, Facing, UpOk, CodeOk, StepOk, Clean, Fine}
use Rattle.agreement.proofs.Basics.{clash, true≢false}
use Rattle.agreement.proofs.Sessions.{Grew}
use Rattle.agreement.proofs.Damages as damages
use Rattle.agreement.proofs.Heard.{hear-good, keeps, called_is}
use Rattle.agreement.proofs.Following.{hear-fine}

-- The code of the first response that is heard.
abbrev pub first_code : Option Code → Bool → Code → Option Code
first_code (Some c) reply code = Some c
first_code None reply code = cond reply (Some code) None

module _ (t : Terms) (number : List ℕ → ℕ) (law : Lawful t number) (own peer : ℕ) (own_small : own < 65536) (peer_small : peer < 65536)
    (serial : ℕ) (message : List ℕ) (count n : ℕ) (sending : Sending t serial message count) (below : n < count)
    (blocks : Blocks) (fits : fitting t (piece_at t (length message) n).blocks blocks ≡ true) where
  abbrev pub route : Route
  route = record { source = own; destination = peer }

  abbrev pub back : Route
  back = record { source = peer; destination = own }

  abbrev pub piece : Piece
  piece = piece_at t (length message) n

  abbrev pub packet : List ℕ
  packet = packet_octets number (record { source = own; destination = peer }) (piece_at t (length message) n) (stream_of serial message) blocks

  abbrev pub header : Header
  header = header_for (record { source = own; destination = peer }) (piece_at t (length message) n) blocks

  -- The response that is heard has this code.
  abbrev pub Answers : Option (List ℕ) → Option Code → Type 0
  Answers None None = Unit {0}
  Answers None (Some c) = ⊥
  Answers (Some xs) None = ⊥
  Answers (Some xs) (Some c) = xs ≡ response_octets (record { route = record { source = peer; destination = own }; number = n; code = c })

  -- What the receiver leaves of one hearing.
  abbrev pub out_of : Reception → Hearing → After
  out_of x h = heard_of t number x.state x.store header (damaged t.block h packet)

  abbrev pub code_after : Option Code → Reception → Hearing → Option Code
  code_after code x h = first_code code h.reply (out_of x h).heard.code

  abbrev pub codes_after : Option Code → Reception → List Hearing → Option Code
  codes_after code x [] = code
  codes_after code x (h ∷ hs) = codes_after (code_after code x h) (heard_once t number back packet x h) hs

  abbrev pub Marked : Hearing → Alteration → Type 0
  Marked h x =
      (h.alteration ≡ Some x) × (x.«record» < length (carried blocks piece.blocks)) × (x.place < t.block) × (comes_bad h x.«record» ≡ false) × (x.mask % 256 ≢ 0)

  module _ (a : ℕ) where
    abbrev pub OnlyThere : Hearing → Type 0
    OnlyThere h = (x : Alteration) → Marked h x → get_or (carried blocks piece.blocks) x.«record» 0 ≡ a

    -- Where the receiver stands, with the code that is heard first.
    abbrev pub Stands : Bool → Option Code → State → List ℕ → Type 0
    Stands u code s store =
        (Touched t number serial message piece a u s store × CodeOk t number serial message piece u code s store)
        ⊎ (Untouched t number serial message piece u s × (code ≡ None) × (is_selective blocks ≡ false))

    -- The turn so far; u₀: the message was up before it.
    pub record Sofar (room : ℕ) (u₀ u : Bool) (code : Option Code) (x : Reception) : Type 0 where
      pub answers : Answers x.response code
      pub grew : Grew serial message u₀ u [] (map message_of x.ups)
      pub stands : Stands u code x.state x.store
      pub same_room : length x.store ≡ room

    facing : (u : Bool) (code : Option Code) (s : State) (store : List ℕ) → Stands u code s store → Facing t number serial message piece a u s store (is_selective blocks)
    facing u code s store (inl x) = inl x.0
    facing u code s store (inr x) = inr (x.0, x.2)

    code-known : (u : Bool) (code : Option Code) (s : State) (store : List ℕ) → Stands u code s store → CodeOk t number serial message piece u code s store
    code-known u code s store (inl x) = x.1
    code-known u code s store (inr x) = rw x.1 tt

    first-known : (u : Bool) (code : Option Code) (reply : Bool) (c : Code) (s : State) (store : List ℕ) → CodeOk t number serial message piece u code s store
        → CodeOk t number serial message piece u (Some c) s store → CodeOk t number serial message piece u (first_code code reply c) s store
    first-known u (Some d) reply c s store h g = h
    first-known u None true c s store h g = g
    first-known u None false c s store h g = tt

    grew-up : (u₀ u : Bool) (ups : List Handed) (store : List ℕ) (up : Option HandUp) → Grew serial message u₀ u [] (map message_of ups)
        → UpOk t number serial message piece u up store → Grew serial message u₀ (up_after u up) [] (map message_of (handed_in store up ups))
    grew-up u₀ u ups store None g h = g
    grew-up u₀ u ups store (Some up) (inl g) h =
        inr (sym g.0 ∙ h.0, refl, rw (h.2, h.3, g.1))
    grew-up u₀ u ups store (Some up) (inr g) h = absurd (true≢false g.1 h.0)

    abbrev answered : Code → List ℕ
    answered c = over 0 (response_octets (record { route = record { source = peer; destination = own }; number = n; code = c })) no_response

    answers-first : (response : Option (List ℕ)) (code : Option Code) (reply : Bool) (c : Code) → Answers response code
        → Answers (first_heard response reply (answered c)) (first_code code reply c)
    answers-first None None true c h = refl
    answers-first None None false c h = tt
    answers-first None (Some d) reply c h = absurd h
    answers-first (Some xs) None reply c h = absurd h
    answers-first (Some xs) (Some d) reply c h = h

    carries : (h : Hearing) → OnlyThere h → Carries t number serial message piece a header (damaged t.block h packet)
    carries h only = damages.heard-carries t number law route own_small peer_small serial message count n sending below blocks fits h a only

    -- What the call at the receiver is.
    called : (h : Hearing) → OnlyThere h → (u : Bool) (code : Option Code) (x : Reception) → Stands u code x.state x.store
        → call_with t number back packet x h ≡ responded_to back header no_response (out_of x h)
    called h only u code x st =
        called_is t number law serial message count n sending below a u x.state x.store header (damaged t.block h packet) back (carries h only)
        (facing u code x.state x.store st) refl refl

    hear-once : (h : Hearing) → OnlyThere h → (room : ℕ) (u₀ u : Bool) (code : Option Code) (x : Reception) → Sofar room u₀ u code x
        → Sofar room u₀ (up_after u (out_of x h).heard.up) (code_after code x h) (heard_once t number back packet x h)
    hear-once h only room u₀ u code x so =
        subst (λ (c : Called). Sofar room u₀ (up_after u o.heard.up) (code_after code x h) (received x h.reply c)) (sym (called h only u code x so.stands))
        (record {
          answers = answers-first x.response code h.reply o.heard.code so.answers;
          grew = grew-up u₀ u x.ups o.store o.heard.up so.grew step.up_ok;
          stands = inl (step.touched, first-known (up_after u o.heard.up) code h.reply o.heard.code o.state o.store held step.code_ok);
          same_room = step.same_room ∙ so.same_room;
        })
      where
        o : After
        o = out_of x h

        step : StepOk t number serial message piece a u x.store o
        step = hear-good t number law serial message count n sending below a u x.state x.store header (damaged t.block h packet) (carries h only) (facing u code x.state x.store so.stands)

        held : CodeOk t number serial message piece (up_after u o.heard.up) code o.state o.store
        held = keeps t number law serial message count n sending below a u x.state x.store header (damaged t.block h packet) (carries h only) code (code-known u code x.state x.store so.stands)

    pub hear-all : (hs : List Hearing) → Every OnlyThere hs → (room : ℕ) (u₀ u : Bool) (code : Option Code) (x : Reception) → Sofar room u₀ u code x
        → (u' : Bool) × Sofar room u₀ u' (codes_after code x hs) (all_heard t number back packet x hs)
    hear-all [] only room u₀ u code x so = (u, so)
    hear-all (h ∷ hs) only room u₀ u code x so =
        hear-all hs only.1 room u₀ (up_after u (out_of x h).heard.up) (code_after code x h) (heard_once t number back packet x h)
        (hear-once h only.0 room u₀ u code x so)

    -- The hearings of a turn that goes through.
    pub record WentThrough (hs : List Hearing) : Type 0 where
      pub hearing : Hearing
      pub once : hs ≡ hearing ∷ []
      pub none_bad : (i : ℕ) → i < length (carried blocks piece.blocks) → comes_bad hearing i ≡ false
      pub replied : hearing.reply ≡ true

    -- What a turn that is neither repeated nor altered leaves.
    pub record TurnFine (hs : List Hearing) (code : Option Code) (s : State) : Type 0 where
      pub not_lost : code ≡ Some OutOfStep → ⊥
      pub silent : code ≡ None → Clean t number serial message piece blocks s.phase s.blocks
      pub asked : (set : BlockSet) → code ≡ Some (AckSelective set) → Clean t number serial message piece (Only set) s.phase s.blocks
      pub anew : code ≡ Some FullRetry → Clean t number serial message piece All s.phase s.blocks
      pub acked : WentThrough hs → code ≡ Some Ack
      pub on_ack : code ≡ Some Ack → 0 < n → s.phase ≡ Waiting n

    all_blocks : (b : Blocks) → is_selective b ≡ false → b ≡ All
    all_blocks All e = refl
    all_blocks (Only set) e = clash cc

    known : (u : Bool) (code : Option Code) (s : State) (store : List ℕ) → Stands u code s store
        → Touched t number serial message piece a u s store ⊎ ((piece.start ≡ true) × (blocks ≡ All))
    known u code s store (inl x) = inl x.0
    known u code s store (inr x) = inr (x.0.starting, all_blocks blocks x.2)

    pub sized : (u : Bool) (code : Option Code) (s : State) (store : List ℕ) → Stands u code s store → Sized s.blocks
    sized u code s store (inl x) = x.0.sized
    sized u code s store (inr x) = x.0.sized

    Quiet : Hearing → Type 0
    Quiet h = (x : Alteration) → Marked h x → ⊥

    pub turn-fine : (hs : List Hearing) → length hs ≤ 1 → Every (λ h. (x : Alteration) → Marked h x → ⊥) hs → (room : ℕ) (u₀ u : Bool) (x : Reception) → Sofar room u₀ u None x
        → reach piece ≤ room → Clean t number serial message piece blocks x.state.phase x.state.blocks
        → TurnFine hs (codes_after None x hs) (all_heard t number back packet x hs).state
    turn-fine [] few quiet room u₀ u x so fit clean =
        record { not_lost = λ z. clash cc; silent = λ _. clean; asked = λ set z. clash cc; anew = λ z. clash cc; acked = λ th. clash (let q = th.once in cc); on_ack = λ z _. clash cc }
    turn-fine (h ∷ []) few quiet room u₀ u x so fit clean =
        subst (λ (c : Called). TurnFine (h ∷ []) (code_after None x h) (received x h.reply c).state) (sym (called h only u None x so.stands)) (go h.reply refl)
      where
        only : OnlyThere h
        only y m = absurd (quiet.0 y m)

        o : After
        o = out_of x h

        fine : Fine t number serial message piece blocks (damaged t.block h packet) o
        fine = hear-fine t number law serial message count n sending below a u blocks x.state x.store header (damaged t.block h packet) (omega (arith, so.same_room)) (carries h only) refl
            (damages.heard-exactly t number law route own_small peer_small serial message count n sending below blocks fits h quiet.0)
            (known u None x.state x.store so.stands) (sized u None x.state x.store so.stands) clean

        went : WentThrough (h ∷ []) → o.heard.code ≡ Ack
        went th =
            let q : h ≡ th.hearing = cc in
            fine.acked (damages.heard_all t number law route own_small peer_small serial message count n sending below blocks fits h (subst (λ (y : Hearing). (i : ℕ) → i < length (carried blocks piece.blocks) → comes_bad y i ≡ false) (sym q) th.none_bad))

        go : (b : Bool) → h.reply ≡ b → TurnFine (h ∷ []) (first_code None b o.heard.code) o.state
        go true r =
            record {
              not_lost = λ z. fine.not_lost cc;
              silent = λ _. fine.kept;
              asked = λ set z. fine.asked set cc;
              anew = λ z. fine.anew cc;
              acked = λ th. ap Some (went th);
              on_ack = λ z. fine.on_ack cc;
            }
        go false r =
            record {
              not_lost = λ z. clash cc;
              silent = λ _. fine.kept;
              asked = λ set z. clash cc;
              anew = λ z. clash cc;
              acked = λ th. absurd (let q : h ≡ th.hearing = cc in true≢false (ap (λ (y : Hearing). y.reply) q ∙ th.replied) r);
              on_ack = λ z _. clash cc;
            }
    turn-fine (h ∷ (h₂ ∷ hs)) few quiet room u₀ u x so fit clean = absurd (omega arith)
