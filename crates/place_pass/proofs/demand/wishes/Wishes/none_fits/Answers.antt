use Rattle.std.proofs.Common.{◌≡◌, ℕ, List, Bool, true, false, refl, sym, ◌∙◌, subst}
use Rattle.fuxi_terms.specs.Vectors.{fits}
use Rattle.fuxi_terms.proofs.VectorLaws.{fits-trans}
use Rattle.place_pass.specs.Cells.{WishesRecord, AreAbove, cell_at}
use Rattle.fuxi_terms.proofs.Booleans.{not_true}
use Rattle.place_pass.proofs.demand.wishes.Wishes.none_fits.Goals as goal

pub returns : goal.returns
returns c e a u lt =
    let above = subst (λ (w : WishesRecord). AreAbove c.self.inside.least.q w.cells) c.self.view_is c.self.invariant.1 in
    let size = (cell_at c.args.self.now.cells a u).unit.size in
    too_large c.self.inside.least.q size c.args.free.now.q (fits size c.args.free.now.q) refl (sym c.fits.ensures ∙ not_true c.fits.result e) (above.above a u lt)
  where
    too_large : (least size free : List ℕ) (b : Bool) → fits size free ≡ b → fits least free ≡ false → fits least size ≡ true → b ≡ false
    too_large least size free true f g h = let t : false ≡ true = sym g ∙ fits-trans least size free h f in cc
    too_large least size free false f g h = refl
