-- What a change in a body says: it is the difference of the two ledgers, which the law of differences gives.
use Rattle.std.specs.Prelude.{◌≡◌, ℕ, ℤ, Bool, IsTrue, nat_eq, cond, List, Ok}
use Rattle.std.proofs.Common.{sym, ◌∙◌, ap}
use Rattle.fuxi_terms.specs.Keys.{RowKey}
use Rattle.fuxi_terms.specs.Rows.{IsRow, IsRowChange, patched_row}
use Rattle.fuxi_terms.specs.declared.answers.LedgerFault.TheVariants.{Below, TooGreat}
use Rattle.fuxi_terms.specs.Tallies.{TallyRecord, ChangeRecord, patched_tally, tally_difference}
use Rattle.fuxi_terms.specs.Counts.{then_do}
use Rattle.fuxi_terms.specs.TallyKeys.{greatest_grant, greatest_demand, credited_what, back_what}
use Rattle.ledger_law.specs.Differing.{tally_by_difference}
use Rattle.ledger_law.specs.Shapes.{IsTally, IsChange}
use Rattle.party_ledgers.specs.PartyDifferences.{row_by_difference, replaced}
use Rattle.party_ledgers.specs.Joins.{JoinRecord}
use Rattle.spec_net.specs.Ledgers.{Ledger, RowChanges, Report, TallyChange, row_ledger, report_ledger, tally_ledger, change_body}
use Rattle.spec_net.specs.Channels.{is_agent, dropped_by}
use Rattle.spec_net.specs.Sides.{patched_by}
use Rattle.party_ledgers.specs.Packets.{is_number_of}
use Rattle.schedule_unit.specs.declared.party.Role.TheVariants.{Master, Agent, App}
use Rattle.peer_channel.specs.Parcels.{id_of}

pub rows_are : (m n : ℕ) (a b : List (RowKey × ℕ)) (c : List (RowKey × ℤ)) → IsTrue (nat_eq m 0) → IsRow a → IsRow b → IsRowChange c → patched_row a c ≡ Ok b
    → RowChanges c ≡ change_body (is_agent (id_of Agent n)) (is_agent (id_of Master m)) (dropped_by (id_of Master m)) (row_ledger a) (row_ledger b)
rows_are m n a b c z ha hb hc made = ap RowChanges (row_by_difference.alone a b c ha hb hc.changes.changes made)

abbrev pub report_of : JoinRecord → Ledger
report_of j = report_ledger j.epoch j.table

abbrev pub tally_of : TallyRecord → Ledger
tally_of t = tally_ledger t.head t.entries

pub reports_are : (m n : ℕ) (a b c : JoinRecord) → replaced a c ≡ Ok b → Report c.epoch c.table ≡ Report b.epoch b.table
reports_are m n a b c made = let same : c ≡ b = cc in ap (λ (j : JoinRecord). Report j.epoch j.table) same

pub grants_are : (m n : ℕ) (a b : TallyRecord) (c : ChangeRecord) → IsTrue (nat_eq m 0) → IsTally greatest_grant a → IsTally greatest_grant b → IsChange greatest_grant c → patched_tally Below TooGreat greatest_grant credited_what a c ≡ Ok b
    → TallyChange c ≡ change_body (is_agent (id_of App n)) (is_agent (id_of Master m)) (dropped_by (id_of Master m)) (tally_of a) (tally_of b)
grants_are m n a b c z ha hb hc made =
    ap TallyChange ((tally_by_difference greatest_grant credited_what).alone a b c ha hb hc.entries.changes made)
    ∙ ap (λ (t : Bool). TallyChange (tally_difference (cond t credited_what back_what) (record { head = a.head; entries = a.entries }) (record { head = b.head; entries = b.entries }))) (sym z)

pub demands_are : (m n : ℕ) (a b : TallyRecord) (c : ChangeRecord) → IsTrue (is_number_of App m) → IsTally greatest_demand a → IsTally greatest_demand b → IsChange greatest_demand c → patched_tally Below TooGreat greatest_demand back_what a c ≡ Ok b
    → TallyChange c ≡ change_body (is_agent (id_of Master n)) (is_agent (id_of App m)) (dropped_by (id_of App m)) (tally_of a) (tally_of b)
demands_are m n a b c z ha hb hc made = ap TallyChange ((tally_by_difference greatest_demand back_what).alone a b c ha hb hc.entries.changes made)

pub grants_make : (m : ℕ) (v : TallyRecord) (c : ChangeRecord) → IsTrue (nat_eq m 0)
    → patched_by (id_of Master m) (tally_of v) (TallyChange c) ≡ then_do (patched_tally Below TooGreat greatest_grant credited_what v c) (λ w. Ok (tally_of w))
grants_make m v c z = λ i. then_do (patched_tally Below TooGreat (λ k. cond (z i) (greatest_grant k) (greatest_demand k)) (cond (z i) credited_what back_what) v c) (λ w. Ok (tally_of w))
