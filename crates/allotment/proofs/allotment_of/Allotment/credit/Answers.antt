use Rattle.std.proofs.Common.{◌≡◌, ℕ, true, nat_eq, List, sym, ◌∙◌, ap, subst}
use Rattle.std.specs.List.{AllByRecursion}
use Rattle.std.specs.FinMap.Entries.{where_key}
use Rattle.fuxi_terms.specs.Counts.{AreCounts, count}
use Rattle.fuxi_terms.specs.declared.Key.{Key}
use Rattle.fuxi_terms.specs.Jobs.{unit_count}
use Rattle.fuxi_terms.specs.Keys.{key_cmp}
use Rattle.fuxi_terms.specs.TallyKeys.{credited_key, is_back, greatest_demand, greatest_grant}
use Rattle.fuxi_terms.proofs.Alls.{all_passed}
use Rattle.fuxi_terms.proofs.CountsLemmas.{count_where}
use Rattle.fuxi_terms.proofs.KeyOrders.{same_key}
use Rattle.grant_table.specs.GrantTables.{as_known}
use Rattle.allotment.specs.Allotted.{CreditsBack, newly_credited}
use Rattle.allotment.proofs.CreditsBackLemmas.{credits_alone}
use Rattle.allotment.proofs.LastKinds.{demand_kinds, grant_kinds}
use Rattle.allotment.proofs.NewlyCreditedLemmas.{credited_alone}
use Rattle.allotment.proofs.allotment_of.Allotment.credit.Goals as goal

-- what is said of entries is said of them as they are read
as_read : (greatest : Key → ℕ) (es read : List (Key × ℕ)) → read ≡ es → AreCounts key_cmp greatest es → AreCounts key_cmp greatest read
as_read greatest es read same h = subst (AreCounts key_cmp greatest) (sym same) h

pub of_last_kind-backs-requires-clause-sorted : goal.of_last_kind-backs-requires-clause-sorted
of_last_kind-backs-requires-clause-sorted c = let read = c.entries-counts.ensures in let counts = as_read greatest_demand c.args.demand.now.entries c.entries-counts.result.now read.entries read.counts in counts.sorted

pub of_last_kind-backs-requires-clause-last : goal.of_last_kind-backs-requires-clause-last
of_last_kind-backs-requires-clause-last c = let read = c.entries-counts.ensures in demand_kinds c.entries-counts.result.now (as_read greatest_demand c.args.demand.now.entries c.entries-counts.result.now read.entries read.counts)

pub of_last_kind-credited-requires-clause-sorted : goal.of_last_kind-credited-requires-clause-sorted
of_last_kind-credited-requires-clause-sorted c = let read = c.entries-shown.ensures in let counts = as_read greatest_grant c.args.given.now.entries c.entries-shown.result.now read.entries read.counts in counts.sorted

pub of_last_kind-credited-requires-clause-last : goal.of_last_kind-credited-requires-clause-last
of_last_kind-credited-requires-clause-last c = let read = c.entries-shown.ensures in grant_kinds c.entries-shown.result.now (as_read greatest_grant c.args.given.now.entries c.entries-shown.result.now read.entries read.counts)

pub credit_run-requires-clause-backs : goal.credit_run-requires-clause-backs
credit_run-requires-clause-backs c = subst (AllByRecursion (λ e. is_back e.0 ≡ true)) (sym c.of_last_kind-backs.ensures.run) (all_passed (λ e. is_back e.0 ≡ true) (λ e. is_back e.0) c.entries-counts.result.now (λ e t. t))

-- the run of a kind has what all entries have of it
run_credits : (given shown run : List (Key × ℕ)) → run ≡ where_key key_cmp (λ k. nat_eq k.what 3) shown → shown ≡ given → (u m : ℕ) → count key_cmp run (credited_key u m) ≡ count key_cmp given (credited_key u m)
run_credits given shown run is same u m = ap (λ es. count key_cmp es (credited_key u m)) is ∙ count_where key_cmp same_key (λ k. nat_eq k.what 3) shown (credited_key u m) ∙ ap (λ es. count key_cmp es (credited_key u m)) same

pub returns-clause-credits : goal.returns-clause-credits
returns-clause-credits c =
    let given = c.args.given.now.entries in
    let backs = c.of_last_kind-backs.ensures.run ∙ ap (where_key key_cmp is_back) c.entries-counts.ensures.entries in
    let credited = c.of_last_kind-credited.result.now in
    credits_alone c.args.app.0 c.args.demand.now.entries credited given c.args.self.now c.credit_run.new.self (run_credits given c.entries-shown.result.now credited c.of_last_kind-credited.ensures.run c.entries-shown.ensures.entries)
    (subst (λ es. CreditsBack c.args.app.0 es credited c.args.self.now c.credit_run.new.self) backs c.in_ok-numbers.ensures.credits)

pub returns-clause-numbers : goal.returns-clause-numbers
returns-clause-numbers c =
    let given = c.args.given.now.entries in
    let backs = c.of_last_kind-backs.ensures.run ∙ ap (where_key key_cmp is_back) c.entries-counts.ensures.entries in
    let credited = c.of_last_kind-credited.result.now in
    let table = c.args.self.now.table in
    let units = unit_count (as_known table.jobs) c.args.app.0 in
    c.in_ok-numbers.ensures.numbers ∙ ap (newly_credited table.cluster units credited) backs
    ∙ credited_alone table.cluster units credited given (run_credits given c.entries-shown.result.now credited c.of_last_kind-credited.ensures.run c.entries-shown.ensures.entries) c.args.demand.now.entries
