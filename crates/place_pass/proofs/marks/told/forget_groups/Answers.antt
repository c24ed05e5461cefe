use Rattle.std.proofs.Common.{◌≡◌, true, false, get_or, sym, ◌∙◌, ap, inr}
use Rattle.place_pass.specs.Bounds.{MarkRecord}
use Rattle.place_pass.proofs.SearchCountsLemmas.{none_noted}
use Rattle.place_pass.proofs.marks.told.forget_groups.Goals as goal

pub returns-then-not-are_allowed-clause-clear : goal.returns-then-not-are_allowed-clause-clear
returns-then-not-are_allowed-clause-clear c h m g lt = let f : false ≡ true = sym c.if-not-are_allowed.true ∙ c.are_allowed.ensures.no h in cc

pub returns-clause-marks : goal.returns-clause-marks
returns-clause-marks c m lt = inr (record { allowed = c.are_allowed.ensures.yes c.if-not-are_allowed.false; is = c.clear_all.ensures.marks m lt })

pub returns-clause-clear : goal.returns-clause-clear
returns-clause-clear c h m g lt = ap (λ (k : MarkRecord). get_or k.groups g false) (c.clear_all.ensures.marks m lt) ∙ none_noted g
