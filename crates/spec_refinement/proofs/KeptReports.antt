-- A report that fits its machine as a whole fits it in the entries that a master keeps.
use Rattle.std.proofs.Common.{◌≡◌, ℕ, ◌*◌, Bool, true, false, cond, not, List, Some, None, refl, sym, ◌∙◌, arith}
use Rattle.std.specs.Prelude.{◌&&◌, filter, map}
use Rattle.fuxi_terms.specs.declared.vectors.Res.{Res}
use Rattle.fuxi_terms.specs.declared.vectors.Sum.{Sum}
use Rattle.fuxi_terms.specs.Cluster.{ClusterRecord, machine_of}
use Rattle.fuxi_terms.specs.Keys.{RowKey}
use Rattle.fuxi_terms.specs.Numbers.{has_number}
use Rattle.fuxi_terms.specs.Padded.{padded}
use Rattle.fuxi_terms.specs.Rows.{row_total}
use Rattle.fuxi_terms.specs.Totals.{total_of}
use Rattle.fuxi_terms.specs.Vectors.{fits, at_place}
use Rattle.fuxi_terms.proofs.Members.{sum_filter}
use Rattle.fuxi_terms.proofs.VectorLaws.{fits_places, fits-padded}
use Rattle.spec_net.specs.Net.{Id, at_index}
use Rattle.spec_net.specs.Ledgers.{Ledger, nothing}
use Rattle.spec_net.specs.Channels.{is_agent}
use Rattle.spec_roles.specs.Masters.{Master}
use Rattle.spec_roles.specs.MasterSteps.{adopts, is_kept}
use Rattle.spec_roles.specs.MasterRoles.{kept_total, report_excess as kept_excess}
use Rattle.spec_refinement.specs.SeenWorlds.{received_as}
use Rattle.spec_refinement.specs.PartyJoins.{Leads}
use Rattle.spec_refinement.specs.Leading.{report_excess}
use Rattle.spec_refinement.proofs.EntriesLead.{total_place}

-- the sizes of a row, each as often as it is counted, all together
total : List (RowKey × ℕ) → List ℕ
total rows = total_of (map (λ e. (e.1, e.0.size)) rows)

-- some entries of a row that fits fit
some_fit : (p : RowKey × ℕ → Bool) (rows : List (RowKey × ℕ)) (has : List ℕ) → fits (row_total rows) (padded has) ≡ true → fits (row_total (filter p rows)) (padded has) ≡ true
unfolding total
some_fit p rows has e =
    let whole = (fits_places (total rows) has).0 (sym (fits-padded (total rows) has) ∙ e) in
    fits-padded (total (filter p rows)) has ∙ (fits_places (total (filter p rows)) has).1 (λ i.
    let a = total_place rows i in
    let b = total_place (filter p rows) i in
    let s = sum_filter (λ (r : RowKey × ℕ). r.1 * at_place r.0.size i) p rows in
    let f = whole i in
    omega (arith, a, b, s, f))

-- what is not too much as a whole is not too much for a master
kept_within : (c : ClusterRecord) (M : Master) (from : Id) (l : Ledger) → report_excess c from l ≡ None → kept_excess c M from l ≡ None
kept_within c M from l e = by (is_agent from) _ _ e
  where
    whole : (b : Bool) (x : Sum × Res) → cond b None (Some x) ≡ None → b ≡ true
    whole true x e = refl
    whole false x e = cc

    tested : (a b f : Bool) (x : Sum × Res) → f ≡ true → cond (a && (not b && not f)) (Some x) None ≡ None
    tested true true true x e = refl
    tested true false true x e = refl
    tested false b true x e = refl
    tested a b false x e = cc

    by : (b : Bool) (x y : Sum × Res) → cond b (cond (fits (row_total l.rows) (padded (machine_of c from.number).has)) None (Some x)) None ≡ None
        → cond (b && (adopts M from.number l && (not (has_number from.number M.bans) && not (fits (kept_total M l) (padded (machine_of c from.number).has))))) (Some y) None ≡ None
    by false x y e = refl
    by true x y e = tested (adopts M from.number l) (has_number from.number M.bans) (fits (kept_total M l) (padded (machine_of c from.number).has)) y (some_fit (λ r. is_kept M.jobs r.0) l.rows (machine_of c from.number).has (whole (fits (row_total l.rows) (padded (machine_of c from.number).has)) x e))

-- so a history that leads as a whole leads for a master
pub kept_lead : (c : ClusterRecord) (M : Master) (from to : Id) (h : List Ledger) → Leads (report_excess c from) from to h → Leads (kept_excess c M from) from to h
kept_lead c M from to h l = record { next = l.next; fit = λ n le. kept_within c M from (received_as to from (at_index nothing h n)) (l.fit n le) }
