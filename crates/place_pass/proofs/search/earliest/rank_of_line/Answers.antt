use Rattle.std.proofs.Common.{◌≡◌, true, Some, subst, arith, inl, inr}
use Rattle.std.proofs.lemmas.Bool.{cases_lt}
use Rattle.fuxi_terms.specs.Keys.{Pair}
use Rattle.place_pass.specs.Bounds.{rank_of, rank_at, is_bound}
use Rattle.place_pass.specs.Scenes.{board_in}
use Rattle.place_pass.specs.Candidates.{turn_in}
use Rattle.place_pass.proofs.CandidatesLemmas.{same_place, index_within, place_of}
use Rattle.place_pass.proofs.search.earliest.rank_of_line.Goals as goal

pub loop-place-preserved : goal.loop-place-preserved
loop-place-preserved c k m p lt e =
    let s = c.args.input.now in
    let line = s.line.now.pairs in
    let place = c.loop-place.place in
    let rank = c.earlier_of-rank.result in
    let q : Pair = (c.at.result.0.0, c.at.result.1.0) in
    let r : Pair → _ = λ z. rank_at (board_in s) s.table.now.entries (turn_in s.turn_of.now z) z m in
    elim (cases_lt k place) [
      | inl l ↦ c.earlier_of-rank.ensures.first (r p) (c.loop-place.invariant k m p l e)
      | inr far ↦ subst (λ z. is_bound (Some (rank_of rank)) (r z) ≡ true) (same_place line k place p q (omega (arith, lt, far)) e c.at.ensures) (c.earlier_of-rank.ensures.second (r q) (c.rank_anywhere.ensures m))
    ]

pub returns : goal.returns
returns c = record {
  bounded = λ q m has.
      let line = c.args.input.now.line.now.pairs in
      let p = place_of q line has in
      let w = index_within line p.place q p.at in
      let n = c.len-place-end.ensures.number in
      let end = c.loop-place-test.false in
      c.loop-place.invariant p.place m q (omega (arith, w, n, end)) p.at;
}
