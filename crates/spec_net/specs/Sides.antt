-- One side of a channel as its party has it: what it knows of the peer, what it received, and what it sent. With no net around it.
use Rattle.std.specs.Prelude.{ℕ, Bool, cond, List, [], ◌∷◌, ◌++◌, length, map, Option, Some, None, Result, Ok, Err}
use Rattle.fuxi_terms.specs.declared.Key.{Key}
use Rattle.fuxi_terms.specs.declared.answers.LedgerFault.{LedgerFault}
use Rattle.fuxi_terms.specs.declared.answers.LedgerFault.TheVariants.{Below, TooGreat}
use Rattle.fuxi_terms.specs.declared.answers.What.{What}
use Rattle.fuxi_terms.specs.declared.answers.What.TheVariants.{Taken, Ledger as SaysLedger, Exceeds as SaysExceeds}
use Rattle.fuxi_terms.specs.declared.vectors.Res.{Res}
use Rattle.fuxi_terms.specs.declared.vectors.Sum.{Sum}
use Rattle.fuxi_terms.specs.Counts.{then_do}
use Rattle.fuxi_terms.specs.Tallies.{patched_tally}
use Rattle.fuxi_terms.specs.TallyKeys.{greatest_grant, greatest_demand}
use Rattle.fuxi_terms.specs.Rows.{patched_row}
use Rattle.spec_net.specs.Net.{Party, Id, Link, unknown, Packet, Heard, at_index, is_taken, met, hear, turn_packets, unacknowledged}
use Rattle.spec_net.specs.Ledgers.{Ledger, nothing, row_ledger, report_ledger, tally_ledger, Body, Empty, Rows, RowChanges, Report, Tally, TallyChange}
use Rattle.spec_net.specs.Channels.{is_master, is_due, dropped_by, body_in}

-- what is known of the peer, the ledger that was received of it, and the own history towards it (its entries from index 1 on)
pub record Side : Type 0 where
  pub link : Link
  pub got : Ledger
  pub sent : List Ledger

abbrev pub new_side : Side
new_side = record { link = unknown; got = nothing; sent = [] }

-- the own ledger is the last entry, and it stands nowhere else
abbrev pub shown : Side → Ledger
shown e = at_index nothing e.sent (length e.sent)

-- a ledger is appended where it is due
abbrev pub appended : Bool → Ledger → Side → Side
appended even_if_equal l e = cond (is_due even_if_equal (shown e) l) (record { link = e.link; got = e.got; sent = e.sent ++ l ∷ [] }) e

abbrev pub resynced_side : Side → Side
resynced_side e = record { link = unacknowledged e.link; got = e.got; sent = e.sent }

-- A packet with what it holds
pub record Parcel : Type 0 where
  pub packet : Packet
  pub body : Body

-- what one turn sends of a side
abbrev pub turn_parcels : Party → Id → Side → List Parcel
turn_parcels p q e = map (λ (x : Packet). record { packet = x; body = body_in p.id q e.sent x.kind x.seq }) (turn_packets p q (length e.sent) e.link)

-- What a body makes of the ledger that was received, or why it is refused. The greatest numbers of a tally are those of its sender's kind
abbrev pub greatest_from : Id → Key → ℕ
greatest_from from k = cond (is_master from) (greatest_grant k) (greatest_demand k)

abbrev pub patched_by : Id → Ledger → Body → Result Ledger LedgerFault
patched_by from got Empty = Ok got
patched_by from got (Rows rows) = Ok (row_ledger rows)
patched_by from got (RowChanges changes) = then_do (patched_row got.rows changes) (λ rows. Ok (row_ledger rows))
patched_by from got (Report epoch rows) = Ok (report_ledger epoch rows)
patched_by from got (Tally head entries) = Ok (tally_ledger head entries)
patched_by from got (TallyChange change) =
    then_do (patched_tally Below TooGreat (greatest_from from) (dropped_by from) (record { head = got.head; entries = got.entries }) change) (λ t. Ok (tally_ledger t.head t.entries))

-- a ledger that is refused, one that takes more than there is, and one that is taken
pub data Taking : Type 0 where
  Refused : (fault : LedgerFault) → Taking
  TooMuch : (total : Sum) → (has : Res) → Taking
  Took : (ledger : Ledger) → Taking

abbrev pub unless_excess : Ledger → Option (Sum × Res) → Taking
unless_excess l None = Took l
unless_excess l (Some e) = TooMuch e.0 e.1

abbrev pub tested : (Ledger → Option (Sum × Res)) → Result Ledger LedgerFault → Taking
tested excess (Ok l) = unless_excess l (excess l)
tested excess (Err fault) = Refused fault

-- Hearing. Whether the sender is a new incarnation, the word, and the side after it
pub record HeardSide : Type 0 where
  pub fresh : Bool
  pub what : What
  pub side : Side

abbrev pub heard_as : Heard → Side → Link → Ledger → What → HeardSide
heard_as h e link got word = record { fresh = h.fresh; what = word; side = record { link = link; got = got; sent = e.sent } }

-- what is refused or too much changes nothing beyond the new incarnation
abbrev pub taken_as : Heard → Side → Packet → Taking → HeardSide
taken_as h e x (Took l) = heard_as h e h.link l Taken
taken_as h e x (Refused fault) = heard_as h e (met e.link x.from.inc) (cond h.fresh nothing e.got) (SaysLedger fault)
taken_as h e x (TooMuch total has) = heard_as h e (met e.link x.from.inc) (cond h.fresh nothing e.got) (SaysExceeds total has)

abbrev pub heard_with : Heard → Side → Parcel → (Ledger → Option (Sum × Res)) → HeardSide
heard_with h e x excess =
    let kept = cond h.fresh nothing e.got in
    cond (is_taken h.what) (taken_as h e x.packet (tested excess (patched_by x.packet.from.id kept x.body))) (heard_as h e h.link kept h.what)

-- the rules of hearing; to them comes what a taken body makes of the ledger. talks: the party talks to the sender; excess: what a ledger takes
-- more than there is
abbrev pub hears_side : Party → Bool → (Ledger → Option (Sum × Res)) → Side → Parcel → HeardSide
hears_side p talks excess e x = heard_with (hear p talks (length e.sent) e.link x.packet) e x excess
