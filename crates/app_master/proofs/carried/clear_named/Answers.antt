use Rattle.std.proofs.Common.{◌≡◌, ◌+◌, ◌≤◌, ◌<◌, ℕ, false, cond, nat_eq, get_or, drop, sym, ◌∙◌, ap, arith}
use Rattle.std.proofs.lemmas.Bool.Decides.{nat_tests}
use Rattle.std.proofs.lemmas.List.{drop_all, drop_more}
use Rattle.fuxi_terms.specs.declared.Key.{Key}
use Rattle.fuxi_terms.specs.Counts.{count}
use Rattle.fuxi_terms.specs.Keys.{key_cmp}
use Rattle.fuxi_terms.specs.TallyKeys.{reported_key, greatest_grant}
use Rattle.fuxi_terms.proofs.MovesLemmas.{every}
use Rattle.app_master.specs.Usable.{carried_at}
use Rattle.app_master.proofs.EntriesWalked.{no_entry, reports_none, reports_one}
use Rattle.app_master.proofs.carried.clear_named.Goals as goal

pub loop-key-preserved-then-key-ne-REPORTED : goal.loop-key-preserved-then-key-ne-REPORTED
loop-key-preserved-then-key-ne-REPORTED c =
    let es = c.args.entries.now in
    let i = c.loop-key.key-index in
    let e = get_or es i no_entry in
    let differs = c.if-key-ne-REPORTED.true in
    let other : nat_eq e.0.what 1 ≡ false = grind (arith, nat_tests, differs) in
    record {
      long = c.loop-key.invariant.long;
      left = λ u m.
          let x = carried_at c.loop-key.counts.items u m in
          reports_none e (drop (i + 1) es) m x other
          ∙ ap (λ l. cond (nat_eq (count key_cmp l (reported_key m)) 1) 0 x) (sym (drop_more es i no_entry c.loop-key-test.true))
          ∙ c.loop-key.invariant.left u m;
    }

pub loop-key-preserved : goal.loop-key-preserved
loop-key-preserved c =
    let es = c.args.entries.now in
    let i = c.loop-key.key-index in
    let e = get_or es i no_entry in
    let lt = c.loop-key-test.true in
    let positive = every (λ (e : Key × ℕ). 0 < e.1) es i no_entry lt c.requires.positive in
    let within = every (λ (e : Key × ℕ). e.1 ≤ greatest_grant e.0) es i no_entry lt c.requires.within in
    record {
      long = c.clear.ensures.long ∙ c.loop-key.invariant.long;
      left = λ u m.
          let x = carried_at c.loop-key.counts.items u m in
          ap (cond (nat_eq (count key_cmp (drop (i + 1) es) (reported_key m)) 1) 0) (c.clear.ensures.counts u m)
          ∙ reports_one e (drop (i + 1) es) m x positive within c.if-key-ne-REPORTED.false
          ∙ ap (λ l. cond (nat_eq (count key_cmp l (reported_key m)) 1) 0 x) (sym (drop_more es i no_entry lt))
          ∙ c.loop-key.invariant.left u m;
    }

pub returns-clause-counts : goal.returns-clause-counts
returns-clause-counts c = λ u m.
    ap (λ l. cond (nat_eq (count key_cmp l (reported_key m)) 1) 0 (carried_at c.loop-key.counts.items u m)) (sym (drop_all c.loop-key.key-index c.args.entries.now c.loop-key-test.false))
    ∙ c.loop-key.invariant.left u m
