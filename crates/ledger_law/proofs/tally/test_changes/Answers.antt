use Rattle.std.proofs.Common.{◌<◌, ◌^◌, sym, subst, get_or, rules}
use Rattle.std.specs.Prelude.{pos}
use Rattle.std.specs.Int.{w64}
use Rattle.std.specs.Int.RustNames.{FitsSigned}
use Rattle.std.proofs.lemmas.Int.{to_z-of_z}
use Rattle.std.proofs.lemmas.Result.{err_from_is_err_and}
use Rattle.fuxi_terms.specs.declared.answers.LedgerFault.TheVariants.{Below, TooGreat}
use Rattle.fuxi_terms.proofs.KeyOrders.{key_total, same_key}
use Rattle.ledger_law.specs.Shapes.{kept_under}
use Rattle.ledger_law.proofs.KeptUnder.{kept_bound}
use Rattle.fuxi_terms.proofs.TestedAlone.{refused_at, one_more, all_pass}
use Rattle.ledger_law.proofs.tally.test_changes.Goals as goal

pub moved_within-requires : goal.moved_within-requires
moved_within-requires g c = subst (λ n. n < 2 ^ 62) (sym c.kept_at-kept.ensures) (kept_bound g.S.Shape.greatest_of g.met.S.Shape.bounded c.args.same c.args.dropped c.args.entries.now _ c.requires.counts)

pub returns-in_err-moved_within-clause-err : goal.returns-in_err-moved_within-clause-err
returns-in_err-moved_within-clause-err g c =
    let p = err_from_is_err_and c.from_residual.result c.from_residual.ensures.1 in
    let fits : FitsSigned w64 (get_or c.args.changes.now c.loop-key.key-index (record { what = 0; unit = 0; number = 0 }, pos 0)).1 = search rules in
    let refusal = rw (to_z-of_z w64 _ fits) at c.in_err-moved_within.ensures in
    rw (p.1, p.2) (refused_at key_total same_key Below TooGreat g.S.Shape.greatest_of (kept_under c.args.same c.args.dropped c.args.entries.now) c.args.changes.now c.loop-key.key-index _ c.kept_at-kept.result _ c.loop-key-test.true c.requires.sorted c.loop-key.invariant c.kept_at-kept.ensures refusal)

pub loop-key-preserved : goal.loop-key-preserved
loop-key-preserved g c =
    let fits : FitsSigned w64 (get_or c.args.changes.now c.loop-key.key-index (record { what = 0; unit = 0; number = 0 }, pos 0)).1 = search rules in
    let made = rw (to_z-of_z w64 _ fits) at c.in_ok-moved_within.ensures in
    one_more key_total same_key Below TooGreat g.S.Shape.greatest_of (kept_under c.args.same c.args.dropped c.args.entries.now) c.args.changes.now c.loop-key.key-index _ c.kept_at-kept.result _ c.loop-key-test.true c.loop-key.invariant c.kept_at-kept.ensures made

pub returns-clause-ok : goal.returns-clause-ok
returns-clause-ok g c = all_pass key_total same_key Below TooGreat g.S.Shape.greatest_of (kept_under c.args.same c.args.dropped c.args.entries.now) c.args.changes.now c.loop-key.key-index c.loop-key-test.false c.requires.sorted c.loop-key.invariant
