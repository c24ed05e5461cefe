-- Each entry of a history leads to the next by their difference: what has to be known of the entries for it.
use Rattle.std.proofs.Common.{◌≡◌, ℕ, ◌+◌, ◌≤◌, cond, List, length, Option, None, Some, Ok, refl, ap, arith}
use Rattle.fuxi_terms.specs.Keys.{key_cmp}
use Rattle.fuxi_terms.specs.Counts.{AreCounts, then_do}
use Rattle.fuxi_terms.specs.Tallies.{TallyRecord, patched_tally, tally_difference}
use Rattle.fuxi_terms.specs.declared.answers.LedgerFault.TheVariants.{Below, TooGreat}
use Rattle.fuxi_terms.specs.Rows.{row_total}
use Rattle.fuxi_terms.proofs.RowDifferences.{row_by_difference}
use Rattle.fuxi_terms.specs.declared.vectors.Res.{Res}
use Rattle.fuxi_terms.specs.declared.vectors.Sum.{Sum}
use Rattle.spec_net.specs.Net.{Id, at_index}
use Rattle.spec_net.specs.Ledgers.{Ledger, nothing, row_ledger, tally_ledger}
use Rattle.spec_net.specs.Channels.{master_id, agent_id, app_id, dropped_by}
use Rattle.spec_net.specs.Sides.{greatest_from}
use Rattle.spec_roles.specs.Agents.{row_excess}
use Rattle.spec_roles.specs.Apps.{no_excess}
use Rattle.spec_refinement.specs.PartyJoins.{Leads}
use Rattle.spec_refinement.specs.Leading.{RowsLead, TalliesLead, ReportsFit}
use Rattle.fuxi_terms.proofs.Patched.{tally_reaches}

-- rows
pub rows_lead : (has : List ℕ) (m : ℕ) (h : List Ledger) → RowsLead has h → Leads (row_excess has) master_id (agent_id m) h
rows_lead has m h r = record {
  next = λ n k one next le.
      let law = row_by_difference (at_index nothing h n).rows (at_index nothing h k).rows (r.rows n (omega (arith, next, le))) (r.rows k le) (r.few n k next le) in
      ap (λ o. then_do o (λ rows. Ok (row_ledger rows))) law;
  fit = λ n le. ap (λ b. cond b None (Some (record { q = row_total (at_index nothing h n).rows }, record { q = has }))) (r.fit n le);
}

-- tallies: in order with numbers in range
abbrev tally_of : Ledger → TallyRecord
tally_of l = record { head = l.head; entries = l.entries }

-- a change from one entry to the next is made
pub tallies_lead : (from : Id) (excess : Ledger → Option (Sum × Res)) (h : List Ledger) → ((n : ℕ) → n ≤ length h → AreCounts key_cmp (greatest_from from) (at_index nothing h n).entries)
    → (n k : ℕ) → k ≡ n + 1 → k ≤ length h → then_do (patched_tally Below TooGreat (greatest_from from) (dropped_by from) (tally_of (at_index nothing h n)) (tally_difference (dropped_by from) (tally_of (at_index nothing h n)) (tally_of (at_index nothing h k)))) (λ t. Ok (tally_ledger t.head t.entries))
    ≡ Ok (tally_ledger (at_index nothing h k).head (at_index nothing h k).entries)
tallies_lead from excess h counts n k next le =
    ap (λ o. then_do o (λ t. Ok (tally_ledger t.head t.entries))) (tally_reaches Below TooGreat (greatest_from from) (dropped_by from) (tally_of (at_index nothing h n)) (tally_of (at_index nothing h k)) (counts n (omega (arith, next, le))) (counts k le))

-- grants
pub grants_lead : (a : ℕ) (h : List Ledger) → TalliesLead master_id h → Leads no_excess master_id (app_id a) h
grants_lead a h t = record { next = λ n k one next le. tallies_lead master_id no_excess h t.counts n k next le; fit = λ n le. refl }

-- demands
pub demands_lead : (a : ℕ) (excess : Ledger → Option (Sum × Res)) (h : List Ledger) → TalliesLead (app_id a) h → ReportsFit (app_id a) excess h → Leads excess (app_id a) master_id h
demands_lead a excess h t r = record { next = λ n k one next le. tallies_lead (app_id a) excess h t.counts n k next le; fit = r.fit }

-- reports replace one another
pub reports_lead : (m : ℕ) (excess : Ledger → Option (Sum × Res)) (h : List Ledger) → ReportsFit (agent_id m) excess h → Leads excess (agent_id m) master_id h
reports_lead m excess h r = record { next = λ n k one next le. refl; fit = r.fit }
