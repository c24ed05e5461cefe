use Rattle.std.proofs.Common.{◌<◌, ◌≤◌, [], ◌++◌, filter, length, get_or, sym, ◌∙◌, ap, arith}
use Rattle.std.proofs.lemmas.List.{take_all}
use Rattle.std.proofs.lemmas.Option.{slice_get-get_or}
use Rattle.fuxi_terms.specs.Cluster.{JobRecord}
use Rattle.preempt.specs.Walks.{all_units, holds_some, units_in}
use Rattle.preempt.proofs.UnitSteps.{holders_ordered, holders_some, passed_units}
use Rattle.preempt.proofs.walk.holders_of.Goals as goal

pub loop-index-preserved : goal.loop-index-preserved
loop-index-preserved c =
    let t = c.args.table.now in
    let test = holds_some t.entries in
    let k = c.loop-index.index in
    let no_record : JobRecord = record { number = 0; group = 0; units = [] } in
    let j = get_or t.jobs k no_record in
    let inside : k < length t.jobs = let a = c.loop-index-test.true in let b = c.jobs-index-end.ensures in omega (arith, a, b) in
    let at = slice_get-get_or t.jobs k no_record inside in
    record {
      pairs = c.in_ok-push_holders.ensures.pairs j at ∙ ap (λ ps. ps ++ filter test (units_in j (length j.units))) c.loop-index.invariant.pairs ∙ sym (passed_units test t.jobs k j at);
      entries = c.in_ok-push_holders.ensures.entries c.loop-index.invariant.entries;
    }

pub returns-clause-some : goal.returns-clause-some
returns-clause-some c =
    let t = c.args.table.now in
    let past : length t.jobs ≤ c.loop-index.index = let a = c.loop-index-test.false in let b = c.jobs-index-end.ensures in omega (arith, a, b) in
    holders_some t c.loop-index.holders.items (all_units t.jobs) (c.loop-index.invariant.pairs ∙ ap (λ js. filter (holds_some t.entries) (all_units js)) (take_all c.loop-index.index t.jobs past))

pub returns-clause-holders : goal.returns-clause-holders
returns-clause-holders c =
    let t = c.args.table.now in
    let past : length t.jobs ≤ c.loop-index.index = let a = c.loop-index-test.false in let b = c.jobs-index-end.ensures in omega (arith, a, b) in
    holders_ordered t c.is_sound.ensures c.loop-index.holders.items
    (c.loop-index.invariant.pairs ∙ ap (λ js. filter (holds_some t.entries) (all_units js)) (take_all c.loop-index.index t.jobs past)) c.loop-index.invariant.entries
