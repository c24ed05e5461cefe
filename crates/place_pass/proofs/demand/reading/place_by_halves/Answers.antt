use Rattle.std.proofs.Common.{◌≡◌, ◌+◌, ◌-◌, ◌/◌, ◌<◌, ℕ, false, refl, sym, ◌∙◌, arith}
use Rattle.std.specs.Ordering.{is_ge}
use Rattle.std.specs.declared.cmp.Ordering.{Ordering}
use Rattle.std.specs.declared.cmp.Ordering.TheVariants.{Less, Equal, Greater}
use Rattle.fuxi_terms.specs.TallyKeys.{key}
use Rattle.place_pass.proofs.DemandWalksLemmas.{passes_all}
use Rattle.place_pass.proofs.demand.reading.place_by_halves.Goals as goal

below : (o : Ordering) → is_ge o ≡ false → o ≡ Less
below Less e = refl
below Equal e = cc
below Greater e = cc

pub loop-low-preserved : goal.loop-low-preserved
loop-low-preserved c =
    let es = c.args.entries.now in
    let i = c.loop-low.invariant in
    let inside = i.inside in
    let test = c.loop-low-test.true in
    let middle : ℕ = c.loop-low.low + (c.loop-low.high - c.loop-low.low) / 2 in
    let before : middle < c.loop-low.high = omega (arith, test) in
    record {
      order = omega (arith, before);
      inside = inside;
      past = passes_all middle es c.args.sought.now (key 0 0 0, 0) c.requires (omega (arith, before, inside)) (sym c.order.ensures ∙ below c.order.result (sym c.is_ge.ensures ∙ c.if-is_ge.false));
      there = i.there;
    }
