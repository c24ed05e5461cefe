-- What one party hears of a packet, and what runs then stands for.
use Rattle.std.proofs.Common.{◌≡◌, ◌+◌, ℕ, true, [], ◌∷◌, Option, Some, None, sym, ◌∙◌, ap, subst, arith}
use Rattle.std.proofs.lemmas.Bool.Decides.{nat_tests}
use Rattle.std.specs.Prelude.{IfSome}
use Rattle.fuxi_terms.specs.Cluster.{is_valid_cluster}
use Rattle.fuxi_terms.proofs.Booleans.{both_true}
use Rattle.schedule_unit.specs.declared.party.Party.{Party}
use Rattle.schedule_unit.specs.declared.party.Role.{Role}
use Rattle.schedule_unit.specs.declared.party.Role.TheVariants.{Master, Agent, App}
use Rattle.party_ledgers.specs.Packets.{IsFormed, is_number_of}
use Rattle.party_ledgers.specs.PacketHeaders.{header_of}
use Rattle.party_ledgers.specs.declared.header.Header.{Header}
use Rattle.party_ledgers.specs.declared.packets.Packet.{Packet}
use Rattle.party_ledgers.specs.declared.packets.Heard.{Heard}
use Rattle.peer_channel.specs.Parcels.{id_of, parcel_is}
use Rattle.spec_net.specs.Net.{Net, Packet as WrittenPacket, Heard as WrittenHeard}
use Rattle.spec_net.specs.Ledgers.{Ledger}
use Rattle.spec_net.specs.Sides.{Parcel}
use Rattle.spec_world.specs.World.{World}
use Rattle.spec_world.specs.Good.{Good}
use Rattle.spec_world.specs.Outputs.{Came}
use Rattle.spec_world.specs.Events.{addressed, heard_by, heard_line}
use Rattle.spec_refinement.specs.SeenWorlds.{parcel_of}
use Rattle.spec_refinement.specs.Leading.{AllLead}
use Rattle.spec_refinement.specs.SeenParties.{Kind, IsFor, Role as SeenRole}
use Rattle.running_parties.specs.Slots.{SlotsRecord, AreWithin as PartiesWithin, HearInWorld, HearsOneIn}
use Rattle.schedule_replay.specs.Worlds.{WorldRecord, StandsFor}
use Rattle.party_commands.specs.CommandedParties.{kind_named}
use Rattle.schedule_replay.specs.Moves.{IsPart, IsHeardBy, IsHeardIn, HearsIn, heard_lines}

-- In a good world on a valid cluster all lead, as the law of changes states it
abbrev pub Leads : Type 0
Leads = (w : World) → is_valid_cluster w.cluster ≡ true → Good w → AllLead w

came_as : (number : ℕ) (heard : Heard) (word : WrittenHeard) (o : Option WrittenHeard) → o ≡ Some word → heard.fresh ≡ word.fresh → heard.what ≡ word.what → heard_lines number (Some heard) ≡ heard_line number o ∷ []
came_as number heard word o is fresh says =
    ap (λ f. Came number f heard.what ∷ []) fresh ∙ ap (λ v. Came number word.fresh v ∷ []) says ∙ ap (λ t. heard_line number t ∷ []) (sym is)

lost_as : (number : ℕ) (o : Option WrittenHeard) → o ≡ None → heard_lines number None ≡ heard_line number o ∷ []
lost_as number o is = ap (λ t. heard_line number t ∷ []) (sym is)

-- whom a packet is for is whom it names; a formed packet for a master has the number of one
abbrev pub number_named : Role → Party → ℕ
number_named Master p = p.inc
number_named Agent p = p.number
number_named App p = p.number

zero_of : (number : ℕ) → is_number_of Master number ≡ true → number ≡ 0
zero_of number is = grind (arith, nat_tests, is)

number_of_hearer : (packet : Packet) → IsFormed packet → is_number_of packet.to.role packet.to.number ≡ true
number_of_hearer packet f = (both_true _ (is_number_of packet.to.role packet.to.number) (both_true _ _ f.parties).0).1

pub is_for : (role : Role) (packet : Packet) (net : Net Ledger) (x : WrittenPacket) → packet.to.role ≡ role → IsFormed packet → parcel_is packet ≡ parcel_of net x → IsFor x (kind_named role) (number_named role packet.to)
is_for role packet net x is formed same = by role is
  where
    to : id_of packet.to.role packet.to.number ≡ x.to.id
    to = ap (λ (p : Parcel). p.packet.to.id) same

    by : (role : Role) → packet.to.role ≡ role → IsFor x (kind_named role) (number_named role packet.to)
    by Master e =
        let number : packet.to.number ≡ 0 = zero_of packet.to.number (subst (λ r. is_number_of r packet.to.number ≡ true) e (number_of_hearer packet formed)) in
        (sym to ∙ ap (λ r. id_of r packet.to.number) e ∙ ap (id_of Master) number, sym (ap (λ (p : Parcel). p.packet.to.inc) same))
    by Agent e = sym to ∙ ap (λ r. id_of r packet.to.number) e
    by App e = sym to ∙ ap (λ r. id_of r packet.to.number) e

-- One of any kind hears it
module _ {P : Type 0} {stands : P → SeenRole → Type 0} {steps : P → ℕ} {k : Kind} {of : WorldRecord → SlotsRecord P} {put : SlotsRecord P → WorldRecord → WorldRecord} where
  hears_in : IsPart P stands steps k of put → (w : World) (n : ℕ) (x : WrittenPacket) (old : WorldRecord) (after : SlotsRecord P) (heard : Option Heard) → StandsFor old w → HearsOneIn stands k w n x after heard → IsHeardIn w x (put after old) heard
  hears_in part w n x old after None s h = record {
    stands = subst (StandsFor (put after old)) (sym h.same) (part.stays w old after s h.stand);
    lines = λ number. lost_as number (heard_by w x) h.answers;
  }
  hears_in part w n x old after (Some heard) s h = record {
    stands = part.quiet w (addressed w x) n old after s h.world;
    lines = λ number. came_as number heard h.word (heard_by w x) h.answers h.fresh h.says;
  }

  pub hears_by : IsPart P stands steps k of put → Leads → (n : ℕ) (packet : Packet) (old : WorldRecord) (after : SlotsRecord P) (heard : Option Heard) → ((net : Net Ledger) (x : WrittenPacket) → parcel_is packet ≡ parcel_of net x → IsFor x k n)
      → HearInWorld stands n packet (of old) after heard → ((n : ℕ) → PartiesWithin steps n (of old) → PartiesWithin steps (n + 1) after) → IsHeardBy packet old (put after old) heard
  hears_by part leads n packet old after heard named h within = record {
    hears = λ w which x is s there same. hears_in part w n x old after heard s (h w k which x is.good (leads w is.valid is.good) (part.stand w old s) there (named w.net x same) same);
    once = part.moves old after within;
    pool = part.frames old after;
  }

  -- or tells of which packets with a header it hears without their bodies
  pub left_by : IsPart P stands steps k of put → Leads → (n : ℕ) (h : Header) (old : WorldRecord) → put (of old) old ≡ old → ((packet : Packet) → IsFormed packet → header_of packet ≡ h → (net : Net Ledger) (x : WrittenPacket) → parcel_is packet ≡ parcel_of net x → IsFor x k n)
      → (heard : Option Heard) → IfSome heard (λ t. (packet : Packet) → IsFormed packet → header_of packet ≡ h → HearInWorld stands n packet (of old) (of old) (Some t)) → IfSome heard (λ t. (packet : Packet) → IsFormed packet → header_of packet ≡ h → HearsIn packet old old (Some t))
  left_by part leads n h old same named None hears = tt
  left_by part leads n h old same named (Some t) hears = λ packet formed headed w which x is s there e.
      subst (λ r. IsHeardIn w x r (Some t)) same (hears_in part w n x old (of old) (Some t) s (hears packet formed headed w k which x is.good (leads w is.valid is.good) (part.stand w old s) there (named packet formed headed w.net x e) e))

-- whom a header names
pub names : (role : Role) (h : Header) → h.to.role ≡ role → (packet : Packet) → IsFormed packet → header_of packet ≡ h → (net : Net Ledger) (x : WrittenPacket) → parcel_is packet ≡ parcel_of net x → IsFor x (kind_named role) (number_named role h.to)
names role h is packet formed headed net x same =
    subst (λ (p : Party). IsFor x (kind_named role) (number_named role p)) (ap (λ (k : Header). k.to) headed) (is_for role packet net x (ap (λ (k : Header). k.to.role) headed ∙ is) formed same)
