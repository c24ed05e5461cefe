-- The text of printed lines.
use Rattle.std.proofs.Common.{◌≡◌, ℕ, ◌+◌, true, false, cond, List, [], ◌∷◌, ◌++◌, length, take, Some, slice_get, refl, sym, ◌∙◌, ap, subst, arith, append-nil, append_assoc}
use Rattle.fuxi_terms.proofs.Booleans.{both_true}
use Rattle.fuxi_terms.proofs.Lists.{take_last}
use Rattle.schedule_unit.specs.declared.party.Party.{Party as PartyHere}
use Rattle.schedule_unit.specs.declared.party.Role.{Role}
use Rattle.schedule_unit.specs.declared.party.Role.TheVariants.{Master, Agent, App}
use Rattle.party_ledgers.specs.Packets.{IsFormed, IsBodyOf, is_full, is_delta, to_app, is_number_of}
use Rattle.party_ledgers.specs.declared.packets.Packet.{Packet as PacketHere}
use Rattle.party_ledgers.specs.declared.packets.Kind.{Kind as KindHere}
use Rattle.party_ledgers.specs.declared.packets.Kind.TheVariants.{Ack as AckHere, Delta as DeltaHere, Full as FullHere, End}
use Rattle.party_ledgers.specs.declared.packets.Body.{Body as BodyHere}
use Rattle.party_ledgers.specs.declared.packets.Body.TheVariants.{Nothing, Row, RowDelta, Join, Grants, GrantsDelta, Demand, DemandDelta}
use Rattle.peer_channel.specs.Parcels.{role_number, id_of, party_of, kind_of, content_of, packet_of, parcel_is, IsSent}
use Rattle.spec_net.specs.Net.{Net, Packet}
use Rattle.spec_net.specs.Ledgers.{Ledger, body_length}
use Rattle.spec_net.specs.Channels.{is_master, body_of, frame_length}
use Rattle.spec_net.specs.Sides.{Parcel}
use Rattle.spec_refinement.specs.SeenWorlds.{parcel_of}
use Rattle.spec_world.specs.Outputs.{Line, Sent, Frame, sent_lines}
use Rattle.wire_frames.specs.Frames.{frame}
use Rattle.schedule_text.specs.PrintedLines.{line_text, frame_words, ended}
use Rattle.schedule_text.specs.Printing.{as_party, as_kind, as_line, output_text, role_number as printed_role}
use Rattle.schedule_text.specs.declared.output.Kind.{Kind as PrintedKind}
use Rattle.schedule_text.specs.declared.output.Output.{Output}
use Rattle.schedule_text.specs.declared.output.Output.TheVariants as out
use Rattle.schedule_replay.specs.ReplayTexts.{role_as, party_as, kind_as, body_as, packet_as, frame_of, lines_text}

-- One line. None of the program is of a frame
same_text : (line : Output) → line_text frame_of (as_line line) ≡ output_text line
same_text (out.Sent number from to kind inc seq bytes) = refl
same_text (out.Heard number fresh what) = refl
same_text (out.Lost number) = refl
same_text (out.Refused refusal) = refl
same_text (out.Judged machine votes) = refl
same_text (out.Halted epoch written) = refl
same_text (out.State events) = refl
same_text (out.Fence epoch) = refl
same_text (out.Job app group ended) = refl
same_text (out.Banned machine) = refl
same_text (out.Master epoch serving) = refl
same_text (out.Reported epoch machine) = refl
same_text (out.Grant epoch app unit machine count) = refl
same_text (out.Wait epoch app unit count) = refl
same_text (out.Agent machine boot inc seq) = refl
same_text (out.Row machine app unit count) = refl
same_text (out.App app boot inc seq) = refl
same_text (out.Hold app unit machine count) = refl
same_text (out.Carry app unit machine count) = refl
same_text (out.Packets number) = refl

one_line : (line : Line) → lines_text (line ∷ []) ≡ line_text frame_of line
one_line line = append-nil (line_text frame_of line)

pub line_written : (line : Output) (before after : List ℕ) → after ≡ before ++ output_text line → after ≡ before ++ lines_text (as_line line ∷ [])
line_written line before after is = is ∙ ap (λ t. before ++ t) (sym (one_line (as_line line) ∙ same_text line))

-- lines behind others
pub lines_append : (xs ys : List Line) → lines_text (xs ++ ys) ≡ lines_text xs ++ lines_text ys
lines_append [] ys = refl
lines_append (x ∷ xs) ys = ap (λ t. line_text frame_of x ++ t) (lines_append xs ys) ∙ sym (append_assoc (line_text frame_of x) (lines_text xs) (lines_text ys))

-- The line of a packet
same_role : (r : Role) → printed_role r ≡ role_number r
same_role Master = refl
same_role Agent = refl
same_role App = refl

same_party_word : (p : PartyHere) → as_party p ≡ party_of p
same_party_word p = λ i. record { id = record { role = same_role p.role i; number = p.number }; inc = p.inc }

pub sent_written : (packet : PacketHere) (kind : PrintedKind) (bytes number : ℕ) (net : Net Ledger) (x : Packet) (before after : List ℕ) → as_kind kind ≡ kind_of packet.kind → bytes ≡ 48 + body_length (content_of packet.body) → parcel_is packet ≡ parcel_of net x
    → after ≡ before ++ lines_text (as_line (out.Sent number packet.from packet.to kind packet.place.inc packet.place.seq bytes) ∷ []) → after ≡ before ++ lines_text (sent_lines net number (x ∷ []))
sent_written packet kind bytes number net x before after kind_is long is text =
    let named : packet_of packet ≡ x = ap (λ (p : Parcel). p.packet) is in
    let holds : content_of packet.body ≡ body_of net x.kind x = ap (λ (p : Parcel). p.body) is in
    let same : record { from = as_party packet.from; to = as_party packet.to; kind = as_kind kind; inc = packet.place.inc; seq = packet.place.seq } ≡ packet_of packet = λ i. record { from = same_party_word packet.from i; to = same_party_word packet.to i; kind = kind_is i; inc = packet.place.inc; seq = packet.place.seq } in
    text ∙ (λ i. before ++ lines_text (Sent number ((same ∙ named) i) ((long ∙ ap (λ b. 48 + body_length b) holds) i) ∷ []))

-- and of all packets of a turn, of which so many are written
sent_behind : (net : Net Ledger) (first : ℕ) (xs : List Packet) (y : Packet) → sent_lines net first (xs ++ y ∷ []) ≡ sent_lines net first xs ++ sent_lines net (first + length xs) (y ∷ [])
sent_behind net first [] y = ap (λ n. sent_lines net n (y ∷ [])) (omega arith)
sent_behind net first (x ∷ xs) y = ap (λ ls. Sent first x (frame_length net x) ∷ ls) (sent_behind net (first + 1) xs y ∙ ap (λ n. sent_lines net (first + 1) xs ++ sent_lines net n (y ∷ [])) (omega arith))

pub sent_more : (net : Net Ledger) (first i : ℕ) (xs : List Packet) (y : Packet) (before mid after : List ℕ) → slice_get xs i ≡ Some y → length (take i xs) ≡ i → mid ≡ before ++ lines_text (sent_lines net first (take i xs))
    → after ≡ mid ++ lines_text (sent_lines net (first + i) (y ∷ [])) → after ≡ before ++ lines_text (sent_lines net first (take (i + 1) xs))
sent_more net first i xs y before mid after at long one two =
    two ∙ ap (λ t. t ++ lines_text (sent_lines net (first + i) (y ∷ []))) one
    ∙ append_assoc before (lines_text (sent_lines net first (take i xs))) (lines_text (sent_lines net (first + i) (y ∷ [])))
    ∙ ap (λ t. before ++ t) (sym (ap lines_text (ap (sent_lines net first) (take_last xs i y at) ∙ sent_behind net first (take i xs) y ∙ ap (λ n. sent_lines net first (take i xs) ++ sent_lines net (first + n) (y ∷ [])) long)
    ∙ lines_append (sent_lines net first (take i xs)) (sent_lines net (first + i) (y ∷ []))))

-- A packet of the program is made again of what it says
back_role : (r : Role) → role_as (role_number r) ≡ r
back_role Master = refl
back_role Agent = refl
back_role App = refl

back_party : (p : PartyHere) → party_as (party_of p) ≡ p
back_party p = λ i. record { role = back_role p.role i; number = p.number; inc = p.inc }

back_kind : (k : KindHere) → (k ≡ End → ⊥) → kind_as (kind_of k) ≡ k
back_kind AckHere no_end = refl
back_kind DeltaHere no_end = refl
back_kind FullHere no_end = refl
back_kind End no_end = absurd (no_end refl)

no_truth : false ≡ true → ⊥
no_truth t = grind (arith, t)

from_master : (from to : Role) → to_app from to ≡ true → from ≡ Master
from_master Master to t = refl
from_master Agent to t = absurd (no_truth t)
from_master App to t = absurd (no_truth t)

from_app : (from to : Role) → to_app to from ≡ true → from ≡ App
from_app App to t = refl
from_app Master Master t = absurd (no_truth t)
from_app Master Agent t = absurd (no_truth t)
from_app Master App t = absurd (no_truth t)
from_app Agent Master t = absurd (no_truth t)
from_app Agent Agent t = absurd (no_truth t)
from_app Agent App t = absurd (no_truth t)

number_of_sender : (x : PacketHere) → IsFormed x → is_number_of x.from.role x.from.number ≡ true
number_of_sender x f =
    (both_true _ (is_number_of x.from.role x.from.number) (both_true _ (is_number_of x.to.role x.to.number) (both_true _ _ f.parties).0).0).1

is_of_master : (x : PacketHere) → IsFormed x → x.from.role ≡ Master → is_master (id_of x.from.role x.from.number) ≡ true
is_of_master x f is =
    let number = subst (λ r. is_number_of r x.from.number ≡ true) is (number_of_sender x f) in
    subst (λ r. is_master (id_of r x.from.number) ≡ true) (sym is) number

is_of_app : (x : PacketHere) → x.from.role ≡ App → is_master (id_of x.from.role x.from.number) ≡ false
is_of_app x is = subst (λ r. is_master (id_of r x.from.number) ≡ false) (sym is) refl

back_body : (x : PacketHere) → IsFormed x → (b : BodyHere) → IsBodyOf b x.kind x.from.role x.to.role → body_as (id_of x.from.role x.from.number) (content_of b) ≡ b
back_body x f Nothing h = refl
back_body x f (Row row) h = refl
back_body x f (RowDelta change) h = refl
back_body x f (Join join) h = refl
back_body x f (Grants tally) h = ap (λ b. cond b (Grants tally) (Demand tally)) (is_of_master x f (from_master x.from.role x.to.role (both_true (is_full x.kind) _ h).1))
back_body x f (GrantsDelta change) h = ap (λ b. cond b (GrantsDelta change) (DemandDelta change)) (is_of_master x f (from_master x.from.role x.to.role (both_true (is_delta x.kind) _ h.0).1))
back_body x f (Demand tally) h = ap (λ b. cond b (Grants tally) (Demand tally)) (is_of_app x (from_app x.from.role x.to.role (both_true (is_full x.kind) _ h).1))
back_body x f (DemandDelta change) h = ap (λ b. cond b (GrantsDelta change) (DemandDelta change)) (is_of_app x (from_app x.from.role x.to.role (both_true (is_delta x.kind) _ h.0).1))

pub back_packet : (x : PacketHere) → IsSent x → packet_as (packet_of x) (content_of x.body) ≡ x
back_packet x s = λ i. record { from = back_party x.from i; to = back_party x.to i; kind = back_kind x.kind s.no_end i; place = record { inc = x.place.inc; seq = x.place.seq }; body = back_body x s.formed x.body s.formed.body i }

-- so its frame is that of the world's packet
pub frame_written : (packet : PacketHere) (net : Net Ledger) (x : Packet) (number : ℕ) (bytes before after : List ℕ) → IsSent packet → bytes ≡ frame packet → parcel_is packet ≡ parcel_of net x
    → after ≡ before ++ ended (frame_words number bytes) → after ≡ before ++ lines_text (Frame number x (body_of net x.kind x) ∷ [])
frame_written packet net x number bytes before after s are is text =
    let same : frame_of x (body_of net x.kind x) ≡ bytes = (λ i. frame (packet_as ((sym is) i).packet ((sym is) i).body)) ∙ ap frame (back_packet packet s) ∙ sym are in
    text ∙ ap (λ bs. before ++ ended (frame_words number bs)) (sym same) ∙ ap (λ t. before ++ t) (sym (one_line (Frame number x (body_of net x.kind x))))
