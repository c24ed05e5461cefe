use Rattle.std.proofs.Common.{◌≡◌, true, sym, ◌∙◌, subst, arith, inl, inr}
use Rattle.std.proofs.lemmas.Bool.{cases_lt}
use Rattle.fuxi_terms.specs.Jobs.{group_of, size_at}
use Rattle.fuxi_terms.specs.Keys.{Pair}
use Rattle.grant_table.specs.GrantTables.{as_known}
use Rattle.spec_roles.specs.Placing.{is_allowed_in}
use Rattle.place_pass.proofs.FirstByTurn.{has_at}
use Rattle.place_pass.proofs.CandidatesLemmas.{index_within, place_of, same_place}
use Rattle.place_pass.proofs.marks.told.are_allowed.Goals as goal

pub loop-place-preserved : goal.loop-place-preserved
loop-place-preserved c k p lt e =
    let t = c.args.table.now in
    let line = c.args.line.now.pairs in
    let place = c.loop-place.place in
    let q : Pair = (c.at.result.0.0, c.at.result.1.0) in
    elim (cases_lt k place) [
      | inl l ↦ c.loop-place.invariant k p l e
      | inr ge ↦ subst (λ (z : Pair). is_allowed_in t.cluster (group_of (as_known t.jobs)) (size_at (as_known t.jobs)) t.entries z.0 z.1 ≡ true) (same_place line k place p q (omega (arith, lt, ge)) e c.at.ensures) (sym c.allowed.ensures ∙ c.if-not-allowed.false)
    ]

pub returns-then-not-allowed-clause-no : goal.returns-then-not-allowed-clause-no
returns-then-not-allowed-clause-no c h =
    let q : Pair = (c.at.result.0.0, c.at.result.1.0) in
    sym (sym c.allowed.ensures ∙ c.if-not-allowed.true) ∙ h q.0 q.1 (has_at c.args.line.now.pairs c.loop-place.place q c.at.ensures)

pub returns-clause-yes : goal.returns-clause-yes
returns-clause-yes c e a u has =
    let p = place_of (a, u) c.args.line.now.pairs has in
    let w = index_within c.args.line.now.pairs p.place (a, u) p.at in
    let n = c.len-place-end.ensures.number in
    let end = c.loop-place-test.false in
    c.loop-place.invariant p.place (a, u) (omega (arith, w, n, end)) p.at
