use Rattle.std.proofs.Common.{◌≡◌, true, get_or, sym, ◌∙◌, ap, subst, arith, inl, inr}
use Rattle.std.proofs.lemmas.Bool.{cases_lt}
use Rattle.std.proofs.lemmas.List.{get_or-map, length-map}
use Rattle.fuxi_terms.specs.Vectors.{fits}
use Rattle.fuxi_terms.proofs.VectorLaws.{fits-refl, fits-trans}
use Rattle.place_pass.specs.Cells.{Cell, cell_of, cells_in, no_cell}
use Rattle.place_pass.proofs.CellsLemmas.{lesser_fits}
use Rattle.place_pass.proofs.demand.wishes.least_of.Goals as goal

pub loop-number-init : goal.loop-number-init
loop-number-init c = record { known = fits-refl c.args.least.now.q; above = λ u lt. absurd (omega (arith, lt)) }

pub loop-number-preserved : goal.loop-number-preserved
loop-number-preserved c =
    let n = c.loop-number.number in
    let items = c.args.units.now.items in
    let test = c.loop-number-test.true in
    let end = c.len-number-end.ensures in
    let both = lesser_fits c.lesser-lower.result.q c.loop-number.lower.q c.index.result.now.size.q c.lesser-lower.ensures in
    let read : get_or (cells_in c.args.units.now) n no_cell ≡ cell_of c.index.result.now = get_or-map cell_of items n c.index.result.now no_cell (omega (arith, test, end)) ∙ ap cell_of (sym c.index.ensures) in
    record {
      known = fits-trans c.lesser-lower.result.q c.loop-number.lower.q c.args.least.now.q both.0 c.loop-number.invariant.known;
      above = λ u lt. elim (cases_lt u n) [
        | inl l ↦ fits-trans c.lesser-lower.result.q c.loop-number.lower.q _ both.0 (c.loop-number.invariant.above u l)
        | inr ge ↦
            let same : n ≡ u = omega (arith, lt, ge) in
            subst (λ k. fits c.lesser-lower.result.q (get_or (cells_in c.args.units.now) k no_cell).unit.size ≡ true) same (ap (λ (x : Cell). fits c.lesser-lower.result.q x.unit.size) read ∙ both.1)
      ];
    }

pub returns-clause-above : goal.returns-clause-above
returns-clause-above c u lt =
    let test = c.loop-number-test.false in
    let end = c.len-number-end.ensures in
    let long = length-map c.args.units.now.items cell_of in
    c.loop-number.invariant.above u (omega (arith, lt, test, end, long))
