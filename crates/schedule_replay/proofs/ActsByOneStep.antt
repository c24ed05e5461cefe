-- What a function answers, from the one step that it is made of.
use Rattle.std.proofs.Common.{◌≡◌, ℕ, List, Result, Ok, Err, sym, subst}
use Rattle.std.specs.Prelude.{OnOk, IfErr}
use Rattle.spec_world.specs.World.{World, Step}
use Rattle.schedule_replay.specs.declared.stop.WorldStop.{WorldStop}
use Rattle.schedule_replay.specs.Worlds.{WorldRecord, IsWorld, StandsFor}
use Rattle.schedule_replay.specs.WorldSteps.{IsDone, Stops, limit_of}
use Rattle.schedule_replay.specs.Moves.{Acts, ActsOnce, IsActed, IsActedOnce, WantsMemory}
use Rattle.schedule_replay.proofs.MovesLemmas.{once_up_to}

-- what is so where nothing stopped decides, unless memory was refused
pub acts_if : (f : World → Step) (old new : WorldRecord) (before after : List ℕ) (P : Type 0) (result : Result (Unit {0}) WorldStop) → OnOk result P → IfErr result WantsMemory → (P → IsActed f old new before after) → Acts f old new before after result
acts_if f old new before after P (Ok done) ok err k = k ok
acts_if f old new before after P (Err stop) ok err k = λ w is s. err (limit_of w (f w).world)

pub once_if : (f : World → Step) (old new : WorldRecord) (before after : List ℕ) (P : Type 0) (result : Result (Unit {0}) WorldStop) → OnOk result P → IfErr result WantsMemory → (P → IsActedOnce f old new before after) → ActsOnce f old new before after result
once_if f old new before after P (Ok done) ok err k = k ok
once_if f old new before after P (Err stop) ok err k = err

-- A step that is another one in each world that is stood for
pub acted_as : (f g : World → Step) (old new : WorldRecord) (before after : List ℕ) → ((w : World) → IsWorld w → StandsFor old w → f w ≡ g w) → IsActed g old new before after → IsActed f old new before after
acted_as f g old new before after same h = record { does = λ w is s. subst (λ t. IsDone t new before after) (sym (same w is s)) (h.does w is s); moves = h.moves }

pub acts_as : (f g : World → Step) (old new : WorldRecord) (before after : List ℕ) (result : Result (Unit {0}) WorldStop) → ((w : World) → IsWorld w → StandsFor old w → f w ≡ g w) → Acts g old new before after result → Acts f old new before after result
acts_as f g old new before after (Ok done) same h = acted_as f g old new before after same h
acts_as f g old new before after (Err stop) same h = λ w is s. subst (λ (t : Step). Stops (limit_of w t.world) stop) (sym (same w is s)) (h w is s)

pub acts_once : (f g : World → Step) (old new : WorldRecord) (before after : List ℕ) (result : Result (Unit {0}) WorldStop) → ((w : World) → IsWorld w → StandsFor old w → f w ≡ g w) → ActsOnce g old new before after result → Acts f old new before after result
acts_once f g old new before after (Ok done) same h = record {
  does = λ w is s. subst (λ t. IsDone t new before after) (sym (same w is s)) (h.does w is s);
  moves = once_up_to old new h.moves;
}
acts_once f g old new before after (Err stop) same h = λ w is s. h (limit_of w (f w).world)
