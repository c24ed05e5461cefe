use Rattle.std.proofs.Common.{subst, arith, inl, inr}
use Rattle.std.proofs.lemmas.Bool.{cases_lt}
use Rattle.fuxi_terms.specs.Keys.{Pair}
use Rattle.place_pass.specs.Bounds.{IsBounded}
use Rattle.place_pass.specs.Scenes.{board_in}
use Rattle.place_pass.specs.Candidates.{sight_rank, turn_in}
use Rattle.place_pass.proofs.CandidatesLemmas.{same_place, index_within, place_of}
use Rattle.place_pass.proofs.FirstByTurn.{has_at}
use Rattle.place_pass.proofs.search.look.best_from.Goals as goal

pub loop-place-preserved : goal.loop-place-preserved
loop-place-preserved c =
    let s = c.args.input.now in
    let line = s.line.now.pairs in
    let f = turn_in s.turn_of.now in
    let place = c.loop-place.place in
    let q : Pair = (c.at.result.0.0, c.at.result.1.0) in
    record {
      bounded = λ k p lt e. elim (cases_lt k place) [
        | inl l ↦ c.weigh.ensures.kept p (f p) (c.loop-place.invariant.bounded k p l e)
        | inr ge ↦ subst (λ z. IsBounded (board_in s) s.table.now.entries (sight_rank c.weigh.new.best) c.weigh.new.groups (f z) z c.args.machine.0) (same_place line k place p q (omega (arith, lt, ge)) e c.at.ensures) c.weigh.ensures.here
      ];
      sight = c.weigh.ensures.sight line place c.at.ensures (c.requires.ready.waits q.0 q.1 (has_at line place q c.at.ensures)) c.loop-place.invariant.sight;
    }

pub returns : goal.returns
returns c =
    let line = c.args.input.now.line.now.pairs in
    record {
      bounded = λ q has. let p = place_of q line has in let w = index_within line p.place q p.at in let n = c.len-place-end.ensures.number in let end = c.loop-place-test.false in
          c.loop-place.invariant.bounded p.place q (omega (arith, w, n, end)) p.at;
      sight = c.loop-place.invariant.sight;
    }
