use Rattle.std.proofs.Common.{◌≤◌, ◌∙◌, arith, take, length, length-drop, subst}
use Rattle.std.proofs.lemmas.List.{take_rest}
use Rattle.std.specs.Io.KnownBytes.{Appends}
use Rattle.fuxi_io.proofs.AppendsLemmas.{appends_more}
use Rattle.fuxi_io.proofs.outside.write_all_of.Goals as goal

pub loop-at-preserved : goal.loop-at-preserved
loop-at-preserved g c =
    let bytes = c.args.bytes.now in
    let at = c.loop-at.at in
    let n = c.in-Ok.n in
    let rest = take_rest bytes at in
    let some = c.in-Ok.ensures.some in
    let wrote = subst (λ l. Appends (g.O.Sink.took c.loop-at.out) (g.O.Sink.took c.write.new.self) (take n l)) rest c.in-Ok.ensures.bytes in
    let bound = subst (λ l. n ≤ length l) rest c.in-Ok.ensures.bound in
    record {
      within = omega (arith, bound, length-drop at bytes, c.loop-at-test.true);
      took = appends_more _ _ _ bytes at n c.loop-at.invariant.took wrote;
      same = c.in-Ok.ensures.served ∙ c.loop-at.invariant.same;
      unused = λ zero. absurd (omega (arith, some, zero));
    }
