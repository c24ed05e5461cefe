use Rattle.std.proofs.Common.{◌≡◌, ◌+◌, ◌<◌, ℕ, List, cond, nat_eq, nat_lt, get_or, drop, sym, ◌∙◌, ap, subst}
use Rattle.std.specs.Prelude.{◌&&◌}
use Rattle.std.specs.List.{AllByRecursion}
use Rattle.std.proofs.lemmas.List.{drop_all, drop_more}
use Rattle.fuxi_terms.specs.declared.Key.{Key}
use Rattle.fuxi_terms.specs.Counts.{count}
use Rattle.fuxi_terms.specs.Keys.{key_cmp}
use Rattle.fuxi_terms.specs.TallyKeys.{count_key}
use Rattle.fuxi_terms.proofs.Booleans.{and_false}
use Rattle.fuxi_terms.proofs.MovesLemmas.{every}
use Rattle.app_master.specs.Usable.{is_named, usable_in, carried_at}
use Rattle.app_master.proofs.EntriesWalked.{no_entry, counts_none, counts_one}
use Rattle.app_master.proofs.carried.write_counted.Goals as goal

pub loop-key-preserved-then-not-is_counted : goal.loop-key-preserved-then-not-is_counted
loop-key-preserved-then-not-is_counted c =
    let es = c.entries-entries.result.now in
    let i = c.loop-key.key-index in
    let named = is_named c.args.grants.now in
    let usable = usable_in c.args.grants.now c.args.demand.now c.args.boot in
    let e = get_or es i no_entry in
    let rest = drop (i + 1) es in
    record {
      long = c.loop-key.invariant.long;
      left = λ u m lu lm.
          let x = carried_at c.loop-key.counts.items u m in
          counts_none e rest named usable c.args.units u m x lu (sym c.is_counted.ensures ∙ c.if-not-is_counted.true)
          ∙ ap (λ l. cond (named m && nat_lt 0 (count key_cmp l (count_key u m))) (usable u m) x) (sym (drop_more es i no_entry c.loop-key-test.true))
          ∙ c.loop-key.invariant.left u m lu lm;
    }

pub loop-key-preserved : goal.loop-key-preserved
loop-key-preserved c =
    let es = c.entries-entries.result.now in
    let i = c.loop-key.key-index in
    let named = is_named c.args.grants.now in
    let usable = usable_in c.args.grants.now c.args.demand.now c.args.boot in
    let e = get_or es i no_entry in
    let rest = drop (i + 1) es in
    let all = subst (λ (es : List (Key × ℕ)). AllByRecursion (λ e. 0 < e.1) es) (sym c.entries-entries.ensures.entries) c.entries-entries.ensures.counts.positive in
    let positive = every (λ (e : Key × ℕ). 0 < e.1) es i no_entry c.loop-key-test.true all in
    record {
      long = c.put.ensures.long ∙ c.loop-key.invariant.long;
      left = λ u m lu lm.
          let x = carried_at c.loop-key.counts.items u m in
          ap (cond (named m && nat_lt 0 (count key_cmp rest (count_key u m))) (usable u m))
          (c.put.ensures.counts u m (subst (λ n. m < n) (sym c.loop-key.invariant.long) lm) ∙ ap (λ n. cond (nat_eq u e.0.unit && nat_eq m e.0.number) n x) c.usable-number.ensures.number)
          ∙ counts_one e rest named usable c.args.units u m x positive (sym c.is_counted.ensures ∙ c.if-not-is_counted.false)
          ∙ ap (λ l. cond (named m && nat_lt 0 (count key_cmp l (count_key u m))) (usable u m) x) (sym (drop_more es i no_entry c.loop-key-test.true))
          ∙ c.loop-key.invariant.left u m lu lm;
    }

pub returns-clause-counts : goal.returns-clause-counts
returns-clause-counts c = λ u m lu lm.
    let named = is_named c.args.grants.now m in
    let usable = usable_in c.args.grants.now c.args.demand.now c.args.boot u m in
    let x = carried_at c.loop-key.counts.items u m in
    let none : count key_cmp (drop c.loop-key.key-index c.entries-entries.result.now) (count_key u m) ≡ 0 = ap (λ l. count key_cmp l (count_key u m)) (drop_all c.loop-key.key-index c.entries-entries.result.now c.loop-key-test.false) in
    sym (ap (λ n. cond (named && nat_lt 0 n) usable x) none ∙ ap (λ b. cond b usable x) (and_false named))
    ∙ c.loop-key.invariant.left u m lu lm
    ∙ ap (λ es. cond (named && nat_lt 0 (count key_cmp es (count_key u m))) usable (carried_at c.args.counts.now.items u m)) c.entries-entries.ensures.entries
