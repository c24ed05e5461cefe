use Rattle.std.proofs.Common.{◌<◌, None, [], length, get_or, ap, arith}
use Rattle.fuxi_terms.proofs.Lists.{all_at}
use Rattle.fuxi_terms.specs.Keys.{Pair}
use Rattle.place_pass.specs.Bounds.{MarkRecord, no_groups}
use Rattle.place_pass.specs.Candidates.{turn_in}
use Rattle.place_pass.proofs.ScenesLemmas.{full_bounds}
use Rattle.place_pass.proofs.CandidatesLemmas.{place_of}
use Rattle.place_pass.proofs.search.look.look.Goals as goal

pub returns-clause-later : goal.returns-clause-later
returns-clause-later g c a u turn here ge lt = absurd (omega (arith, ge, lt))

-- a machine that has room for no unit
pub returns-then-is_full-clause-until : goal.returns-then-is_full-clause-until
returns-then-is_full-clause-until g c = let full = ap (λ (k : MarkRecord). k.until) c.fill.ensures in let fits = c.turn_fits.ensures in omega (arith, full, fits)

pub returns-then-is_full-clause-later : goal.returns-then-is_full-clause-later
returns-then-is_full-clause-later g c a u turn here ge lt = full_bounds c.args.input.now c.args.machine.0 (λ b v h. c.is_full.ensures c.if-is_full.true c.args.machine.0 b v (record { is = c.free-free.ensures.free; within = c.free-free.ensures.fits }) h) _ no_groups turn a u here

pub returns-then-is_full-clause-best : goal.returns-then-is_full-clause-best
returns-then-is_full-clause-best g c =
    let s = c.args.input.now in
    record {
      bounded = λ q has.
          let place = place_of q s.line.now.pairs has in
          let here = all_at (λ (p : Pair). p.1 < length (get_or s.wishes.now.cells p.0 [])) s.line.now.pairs place.place q c.requires.ready.admitted place.at in
          full_bounds s c.args.machine.0 (λ b v h. c.is_full.ensures c.if-is_full.true c.args.machine.0 b v (record { is = c.free-free.ensures.free; within = c.free-free.ensures.fits }) h) None _ (turn_in s.turn_of.now q) q.0 q.1 here;
      sight = tt;
    }
