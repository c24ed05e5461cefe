-- What a loop over numbers has printed, of each world that something holds of.
use Rattle.std.proofs.Common.{ℕ, List, [], ◌∷◌, ◌++◌, sym, ◌∙◌, ap, append-nil}
use Rattle.std.specs.List.{flat_map}
use Rattle.std.proofs.lemmas.List.Concat.{flat_map-append}
use Rattle.spec_world.specs.Outputs.{Line}
use Rattle.schedule_text.specs.PrintedLines.{line_text}
use Rattle.party_text.specs.Texts.{Shows}
use Rattle.spec_refinement.proofs.ShowsLemmas.{shows_same, shows_then}
use Rattle.schedule_text.specs.Writing.{Begins}

pub record Printed (So : Type 0) (a b : List ℕ) : Type 0 where
  pub shows : So
  pub begins : Begins a b

pub one_passed : (F : ℕ → List Line) (ks : List ℕ) (k : ℕ) (a b c : List ℕ) → Shows (flat_map F ks) a b → Shows (F k) b c → Shows (flat_map F (ks ++ k ∷ [])) a c
one_passed F ks k a b c h one = shows_same line_text (flat_map F ks ++ F k) (flat_map F (ks ++ k ∷ [])) a c (ap (λ l. flat_map F ks ++ l) (sym (append-nil (F k))) ∙ sym (flat_map-append F ks (k ∷ []))) (shows_then line_text (flat_map F ks) (F k) a b c h one)
