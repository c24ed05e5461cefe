use Rattle.std.proofs.Common.{ℕ, ◌+◌, ◌≤◌, drop, get_or, ◌∙◌, ap, arith, rules}
use Rattle.std.specs.Int.{w64}
use Rattle.std.specs.Int.RustNames.{FitsSigned}
use Rattle.std.proofs.lemmas.Int.{to_z-of_z}
use Rattle.fuxi_terms.specs.declared.Key.{Key}
use Rattle.fuxi_terms.specs.Keys.{key_cmp}
use Rattle.fuxi_terms.specs.Counts.{count, change_between}
use Rattle.fuxi_terms.specs.Tallies.{staying, ChangeRecord}
use Rattle.fuxi_terms.specs.TallyKeys.{greatest_grant, credited_what}
use Rattle.ledger_updates.proofs.GrantsSetLemmas.{count_small, number_small}
use Rattle.fuxi_terms.proofs.MovesLemmas.{rest_from, every, are_same, are_others, moves_rise, moves_skip, moves_put}
use Rattle.ledger_updates.proofs.job_grants.grants_change.Goals as goal

abbrev none : Key × ℕ
none = (record { what = 0; unit = 0; number = 0 }, 0)

pub loop-key-preserved-then-before-after : goal.loop-key-preserved-then-before-after
loop-key-preserved-then-before-after c =
    let ns = c.args.numbers.now in
    let i = c.loop-key.key-index in
    let n = get_or ns i none in
    let es = staying credited_what c.args.grants.now c.args.boot in
    record {
      head = c.loop-key.invariant.head;
      moves = moves_skip key_cmp es ns (drop i ns) (drop (i + 1) ns) n c.loop-key.change.entries (rest_from ns i none c.loop-key-test.true) c.loop-key.invariant.moves (are_same c.kept-before.result (count key_cmp es n.0) n.1 c.kept-before.ensures c.if-before-after.true);
    }

pub change_between-requires-clause-before : goal.change_between-requires-clause-before
change_between-requires-clause-before c = omega (arith, c.kept-before.ensures, count_small c.args.grants.now c.args.boot (get_or c.args.numbers.now c.loop-key.key-index none).0 c.entries-entries.ensures.counts)

pub change_between-requires-clause-after : goal.change_between-requires-clause-after
change_between-requires-clause-after c =
    let n = get_or c.args.numbers.now c.loop-key.key-index none in
    number_small n.0 n.1 (every (λ n. n.1 ≤ greatest_grant n.0) c.args.numbers.now c.loop-key.key-index none c.loop-key-test.true c.requires.numbers.within)

pub put-requires-clause-rises : goal.put-requires-clause-rises
put-requires-clause-rises c =
    let ns = c.args.numbers.now in
    let i = c.loop-key.key-index in
    moves_rise key_cmp (staying credited_what c.args.grants.now c.args.boot) ns (drop i ns) (drop (i + 1) ns) (get_or ns i none) c.loop-key.change.entries (rest_from ns i none c.loop-key-test.true) c.loop-key.invariant.moves

pub loop-key-preserved : goal.loop-key-preserved
loop-key-preserved c =
    let ns = c.args.numbers.now in
    let i = c.loop-key.key-index in
    let n = get_or ns i none in
    let es = staying credited_what c.args.grants.now c.args.boot in
    let is : FitsSigned w64 c.change_between.result = search rules in
    let ok = rw (to_z-of_z w64 c.change_between.result is) at c.in_ok-put.ensures.ok in
    let by = c.change_between.ensures ∙ ap (λ b. change_between b n.1) c.kept-before.ensures in
    let put = rw by at ok in
    record {
      head = ap (λ (d : ChangeRecord). d.head) put ∙ c.loop-key.invariant.head;
      moves = moves_put key_cmp es ns (drop i ns) (drop (i + 1) ns) n c.loop-key.change.entries (rest_from ns i none c.loop-key-test.true) c.loop-key.invariant.moves c.put.new.self.entries
          (are_others c.kept-before.result (count key_cmp es n.0) n.1 c.kept-before.ensures c.if-before-after.false) (ap (λ (d : ChangeRecord). d.entries) put);
    }
