-- The lines of what may be found.
use Rattle.std.proofs.Common.{◌≡◌, ℕ, List, [], Option, Some, None, sym, ◌∙◌, ap, append-nil}
use Rattle.spec_roles.specs.Refusals.{with_found}
use Rattle.spec_world.specs.Outputs.{Line}
use Rattle.schedule_text.specs.PrintedLines.{line_text}
use Rattle.party_text.specs.Texts.{Shows}
use Rattle.spec_refinement.proofs.ShowsLemmas.{shows_same}

-- the lines of what is found, and none where nothing is
pub shows_found : {A : Type 0} (F : A → List Line) (o : Option A) (x : A) (ls : List Line) (a b : List ℕ) → o ≡ Some x → F x ≡ ls → Shows ls a b → Shows (with_found o [] F) a b
shows_found F o x ls a b is same h = shows_same line_text ls (with_found o [] F) a b (sym (ap (λ p. with_found p [] F) is ∙ same)) h

pub shows_none : {A : Type 0} (F : A → List Line) (o : Option A) (a : List ℕ) → o ≡ None → Shows (with_found o [] F) a a
shows_none F o a is = shows_same line_text [] (with_found o [] F) a a (sym (ap (λ p. with_found p [] F) is)) (λ frame. sym (append-nil a))
