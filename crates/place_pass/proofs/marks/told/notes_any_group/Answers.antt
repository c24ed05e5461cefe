use Rattle.std.proofs.Common.{◌≡◌, false, get_or, sym, ◌∙◌, ap, subst, arith, inl, inr}
use Rattle.std.proofs.lemmas.Bool.{cases_lt}
use Rattle.place_pass.specs.Bounds.{MarkRecord, mark_at}
use Rattle.place_pass.proofs.SearchCountsLemmas.{none_any}
use Rattle.place_pass.proofs.marks.told.notes_any_group.Goals as goal

pub loop-number-preserved : goal.loop-number-preserved
loop-number-preserved c m g lt =
    elim (cases_lt m c.loop-number.number) [
      | inl less ↦ c.loop-number.invariant m g less
      | inr ge ↦ subst (λ z. get_or (mark_at c.args.marks.now z).groups g false ≡ false) (omega (arith, lt, ge)) (ap (λ (k : MarkRecord). get_or k.groups g false) (sym c.at.ensures) ∙ none_any c.at.result.now.groups g (sym c.notes_any.ensures ∙ c.if-notes_any.false))
    ]

pub returns : goal.returns
returns c e m g lt = let end = c.len-number-end.ensures.number in let test = c.loop-number-test.false in c.loop-number.invariant m g (omega (arith, lt, end, test))
