use Rattle.std.proofs.Common.{get_or, ap, subst, arith, ◌∙◌}
use Rattle.std.proofs.lemmas.List.{length-map, take_all}
use Rattle.std.proofs.lemmas.Option.{slice_get-get_or}
use Rattle.place_pass.specs.Cells.{cell_of, cells_in, any_more}
use Rattle.place_pass.proofs.DemandScopesLemmas.{AreWritten, TellsMore, no_change, written_none, more_none, written_more, more_more, all_taken, all_more}
use Rattle.place_pass.proofs.demand.changes.write_changes.Goals as goal

pub loop-place-init : goal.loop-place-init
loop-place-init c = record {
  written = written_none c.args.cluster.now c.args.demand.now.entries (cells_in c.args.units.now);
  more = more_none c.args.cluster.now c.args.demand.now.entries (cells_in c.args.units.now);
}

pub loop-place-preserved : goal.loop-place-preserved
loop-place-preserved c =
    let k = c.args.cluster.now in
    let es = c.args.demand.now.entries in
    let cs = c.args.changes.now in
    let i = c.loop-place.place in
    let d = get_or cs i no_change in
    let is = slice_get-get_or cs i no_change c.loop-place-test.true in
    let before = cells_in c.args.units.now in
    let now = cells_in c.loop-place.units in
    let after = cells_in c.write_key_in-one.new.units in
    let h = c.loop-place.invariant.written in
    let w = c.write_key_in-one.ensures.cells in
    let n = length-map c.args.units.now.items cell_of in
    let m = length-map c.loop-place.units.items cell_of in
    record {
      written = written_more k es cs i d is before now after h w;
      more = more_more k es cs i d is before now after h w (λ u lt. c.requires.avoided u (omega (arith, lt, n))) c.loop-place.more c.write_key_in-one.result c.loop-place.invariant.more
          (λ lt. c.write_key_in-one.ensures.more (omega (arith, lt, m))) (λ ge. c.write_key_in-one.ensures.none (omega (arith, ge, m)));
    }

pub returns-clause-cells : goal.returns-clause-cells
returns-clause-cells c =
    let k = c.args.cluster.now in
    let es = c.args.demand.now.entries in
    let cs = c.args.changes.now in
    let before = cells_in c.args.units.now in
    let n = length-map c.args.units.now.items cell_of in
    all_taken k es cs before (cells_in c.loop-place.units) c.requires.same
    (subst (λ ds. AreWritten k es ds before (cells_in c.loop-place.units)) (take_all c.loop-place.place cs c.loop-place-test.false) c.loop-place.invariant.written)
    (λ u lt. c.requires.near u (omega (arith, lt, n))) (λ u lt. c.requires.racks u (omega (arith, lt, n))) (λ u lt. c.requires.avoided u (omega (arith, lt, n)))

pub returns-clause-more : goal.returns-clause-more
returns-clause-more c =
    let k = c.args.cluster.now in
    let es = c.args.demand.now.entries in
    let cs = c.args.changes.now in
    let before = cells_in c.args.units.now in
    all_more k es cs before (cells_in c.loop-place.units) c.requires.same c.loop-place.more
    (subst (λ ds. TellsMore k es ds before c.loop-place.more) (take_all c.loop-place.place cs c.loop-place-test.false) c.loop-place.invariant.more)
    ∙ ap (any_more k es before) (length-map c.args.units.now.items cell_of)
