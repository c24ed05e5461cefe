use Rattle.std.proofs.Common.{◌≡◌, ℕ, ◌+◌, true, nat_lt, [], ◌∷◌, ◌++◌, cond, get_or, sym, ◌∙◌, ap, subst}
use Rattle.std.specs.Prelude.{◌&&◌}
use Rattle.std.proofs.lemmas.List.{take_all}
use Rattle.std.proofs.lemmas.Option.{slice_get-get_or}
use Rattle.fuxi_terms.specs.Cluster.{has_machine}
use Rattle.fuxi_terms.specs.Counts.{count}
use Rattle.fuxi_terms.specs.declared.Key.{Key}
use Rattle.fuxi_terms.specs.Jobs.{unit_count}
use Rattle.fuxi_terms.specs.Keys.{key_cmp}
use Rattle.fuxi_terms.specs.TallyKeys.{credited_key, is_back, key}
use Rattle.fuxi_terms.proofs.Booleans.{number_is}
use Rattle.fuxi_terms.proofs.Lists.{all_at}
use Rattle.grant_table.specs.GrantTables.{as_known}
use Rattle.place_pass.specs.DemandWalks.{IsPast}
use Rattle.allotment.specs.Allotted.{CreditsBack, newly_credited}
use Rattle.allotment.proofs.CreditsBackLemmas.{credits_more}
use Rattle.allotment.proofs.IsPastLemmas.{later_past, next_credited}
use Rattle.allotment.proofs.NewlyCreditedLemmas.{newly_more}
use Rattle.allotment.proofs.OnlyTakesLemmas.{takes_again}
use Rattle.allotment.proofs.allotment_of.Allotment.credit_run.Goals as goal

abbrev no_entry : Key × ℕ
no_entry = (key 0 0 0, 0)

pub loop-index-preserved : goal.loop-index-preserved
loop-index-preserved c =
    let a = c.args.app.0 in
    let es = c.args.backs.now in
    let cs = c.args.credited.now in
    let x = c.args.self.now in
    let i = c.loop-index.index in
    let e = get_or es i no_entry in
    let inside = c.loop-index-test.true in
    let inv = c.loop-index.invariant in
    let backs = c.requires.backs in
    let at = slice_get-get_or es i no_entry inside in
    let back : is_back e.0 ≡ true = all_at (λ f. is_back f.0 ≡ true) es i e backs at in
    let sought = c.credited_key-sought.ensures in
    let agree = c.number_from-before.ensures.number ∙ ap (count key_cmp cs) sought in
    let table = inv.credits.table in
    let new = c.in_ok-new.ensures.new
    ∙ (λ j. nat_lt e.0.unit (unit_count (as_known (table j).jobs) a) && (has_machine (table j).cluster e.0.number && nat_lt (agree j) e.1))
    ∙ sym (λ j. back j && (nat_lt e.0.unit (unit_count (as_known x.table.jobs) a) && (has_machine x.table.cluster e.0.number && nat_lt (count key_cmp cs (credited_key e.0.unit e.0.number)) e.1))) in
    record {
      credits = credits_more a es cs i e x c.loop-index.self c.credit_one.new.self at inv.credits (c.in_ok-new.ensures.credits cs agree);
      takes = takes_again x c.loop-index.self c.credit_one.new.self inv.takes c.in_ok-new.ensures.takes;
      numbers = c.in_ok-add_new.ensures ∙ (λ j. inv.numbers j ++ cond c.in_ok-new.new ((sought j, e.1) ∷ []) []) ∙ newly_more x.table.cluster (unit_count (as_known x.table.jobs) a) cs es i e _ at new;
      past = λ lt.
          let f = get_or es (i + 1) no_entry in
          let last : is_back f.0 ≡ true = all_at (λ f. is_back f.0 ≡ true) es (i + 1) f backs (slice_get-get_or es (i + 1) no_entry lt) in
          later_past cs c.number_from-before.result.1 (credited_key e.0.unit e.0.number) (credited_key f.0.unit f.0.number) (next_credited i es no_entry c.requires.rise lt (number_is e.0.what 5 back) (number_is f.0.what 5 last))
          (subst (λ k. IsPast cs c.number_from-before.result.1 k) sought c.number_from-before.ensures.past);
    }

pub returns : goal.returns
returns c =
    let es = c.args.backs.now in
    let all = take_all c.loop-index.index es c.loop-index-test.false in
    let inv = c.loop-index.invariant in
    let x = c.args.self.now in
    record {
      credits = subst (λ fs. CreditsBack c.args.app.0 fs c.args.credited.now x c.loop-index.self) all inv.credits;
      takes = inv.takes;
      numbers = inv.numbers ∙ ap (newly_credited x.table.cluster (unit_count (as_known x.table.jobs) c.args.app.0) c.args.credited.now) all;
    }
