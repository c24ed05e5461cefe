use Rattle.std.proofs.Common.{◌≡◌, ◌<◌, ◌≤◌, get_or, sym, ◌∙◌, ap, subst}
use Rattle.std.proofs.lemmas.List.{length-map}
use Rattle.fuxi_terms.proofs.ByPlace.{at_place-get_or}
use Rattle.fuxi_terms.specs.Tables.{usage_at}
use Rattle.grant_table.specs.GrantTables.{TableRecord, as_known}
use Rattle.grant_table.proofs.Bounds.{usage_small, usage_past}
use Rattle.grant_table.proofs.ChangedCounts.{load_at}
use Rattle.grant_table.proofs.table.GrantTable.used_by.Goals as goal

pub returns-clause-used : goal.returns-clause-used
returns-clause-used c i =
    let there = subst (λ n. c.args.group.0 < n) (sym c.self.invariant.groups ∙ length-map c.self.inside.usages.items _) c.requires in
    let load = load_at c.self.inside.usages.items c.args.group.0 c.index.result.now there c.index.ensures in
    at_place-get_or c.index.result.now.q i ∙ ap (λ xs. get_or xs i 0) (sym load) ∙ c.self.invariant.usages c.args.group.0 i c.requires
    ∙ ap (λ (t : TableRecord). usage_at (as_known t.jobs) c.args.group.0 i t.entries) c.self.view_is

pub returns-clause-within : goal.returns-clause-within
returns-clause-within c i = subst (λ (t : TableRecord). usage_at (as_known t.jobs) c.args.group.0 i t.entries ≤ 256000000000000) c.self.view_is (usage_small _ _ _ _ _ c.self.invariant c.args.group.0 i)

pub returns-clause-beyond : goal.returns-clause-beyond
returns-clause-beyond c i = subst (λ (t : TableRecord). t.cluster.resources ≤ i → usage_at (as_known t.jobs) c.args.group.0 i t.entries ≡ 0) c.self.view_is (usage_past _ _ _ _ _ c.self.invariant c.args.group.0 i)
