use Rattle.std.proofs.Common.{◌≡◌, [], map, Some, sym, ◌∙◌, ap, subst}
use Rattle.fuxi_terms.specs.Keys.{Spot}
use Rattle.fuxi_terms.specs.Jobs.{is_known}
use Rattle.grant_table.specs.GrantTables.{TableRecord, as_known}
use Rattle.allotment.specs.Allotted.{AllotmentRecord}
use Rattle.ledger_updates.specs.AllShown.{spot_of, has_spot, RowsAreBefore, GrantsAreBefore, ShowsRows, ShowsAllGrants}
use Rattle.fuxi_master.specs.StepEnds.{IsPublished}
use Rattle.fuxi_master.specs.Seen.{core_of}
use Rattle.fuxi_master.proofs.Projected.{known_alike}
use Rattle.fuxi_master.proofs.Ordered.{rows_same, grants_same}
use Rattle.fuxi_master.proofs.Published.{published}
use Rattle.fuxi_master.proofs.state.Core.publish.Goals as goal

pub show_all_rows-requires-clause-before : goal.show_all_rows-requires-clause-before
show_all_rows-requires-clause-before c =
    let x = c.args.self.now in
    let ordered = map spot_of c.in_ok-spots.spots.items in
    let same : (s : Spot) → has_spot s ordered ≡ has_spot s x.allotment.touched = λ s. c.in_ok-spots.ensures.same s ∙ ap (has_spot s) c.touched.ensures in
    let rows = rows_same x.allotment.table x.allotment.touched ordered same x.agents.items c.requires.mid.rows in
    subst (λ (t : TableRecord). RowsAreBefore t (map spot_of c.deref.result.now) x.agents.items) (sym c.table.ensures)
    (subst (λ ss. RowsAreBefore x.allotment.table ss x.agents.items) (sym (ap (map spot_of) c.deref.ensures.value)) rows)

pub show_all_grants-requires-clause-admitted : goal.show_all_grants-requires-clause-admitted
show_all_grants-requires-clause-admitted c a d there =
    let x = c.args.self.now in
    let kept = c.requires.mid.kept in
    ap (λ (t : TableRecord). is_known (as_known t.jobs) a) c.table-2.ensures ∙ known_alike (as_known x.allotment.table.jobs) x.known.jobs a (kept.jobs a) ∙ sym (kept.slots a (Some d) there)

pub returns : goal.returns
returns c =
    let x = c.args.self.now in
    let news = c.args.news.now in
    let ordered = map spot_of c.in_ok-spots.spots.items in
    let same : (s : Spot) → has_spot s ordered ≡ has_spot s x.allotment.touched = λ s. c.in_ok-spots.ensures.same s ∙ ap (has_spot s) c.touched.ensures in
    let before = grants_same x.allotment.table x.allotment.touched ordered same news x.reported.numbers x.apps.items c.requires.mid.grants in
    let before_here : GrantsAreBefore c.table-2.result.now (map spot_of c.deref-2.result.now) news x.reported.numbers x.apps.items =
    subst (λ (t : TableRecord). GrantsAreBefore t (map spot_of c.deref-2.result.now) news x.reported.numbers x.apps.items) (sym c.table-2.ensures)
    (subst (λ ss. GrantsAreBefore x.allotment.table ss news x.reported.numbers x.apps.items) (sym (ap (map spot_of) c.deref-2.ensures.value)) before) in
    let grants = subst (λ (t : TableRecord). ShowsAllGrants t news x.reported.numbers x.apps.items c.show_all_grants.new.apps.items) c.table-2.ensures (c.in_ok-show_all_grants.ensures x.reported.numbers before_here) in
    let rows = subst (λ (t : TableRecord). ShowsRows t news.reported x.agents.items c.show_all_rows.new.sides.items) c.table.ensures c.in_ok-show_all_rows.ensures in
    let cleared : record x.allotment { touched = [] } ≡ c.clear_touched.new.self =
    λ i. record { table = sym c.clear_touched.ensures.table i; placer = sym c.clear_touched.ensures.placer i; touched = sym c.clear_touched.ensures.touched i } in
    subst (λ (a : AllotmentRecord). IsPublished news (core_of x) (record (core_of x) { allotment = a; agents = c.show_all_rows.new.sides.items; apps = c.show_all_grants.new.apps.items })) cleared
    (published (core_of x) news c.requires.mid c.show_all_rows.new.sides.items c.show_all_grants.new.apps.items rows grants c.step_ends.ensures)
