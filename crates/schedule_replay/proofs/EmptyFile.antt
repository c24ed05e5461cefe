-- What an empty file stands for.
use Rattle.std.proofs.Common.{◌≡◌, ℕ, List, [], ◌∷◌, Result, Ok, Err, IfOk}
use Rattle.spec_roles.specs.HardState.{HardState, empty_hard}
use Rattle.hard_state.specs.HardFiles.{records_of}
use Rattle.schedule_replay.specs.Held.{Held}

pub opened_empty : (bytes : List ℕ) (h : HardState) → bytes ≡ [] → records_of bytes ≡ Ok h → h ≡ empty_hard
unfolding records_of
opened_empty [] h e is = cc
opened_empty (b ∷ bs) h e is = cc

pub opened_where : (E : Type 0) (bytes : List ℕ) (result : Result Held E) → bytes ≡ [] → IfOk result (λ c. records_of bytes ≡ Ok c.hard.value) → IfOk result (λ c. c.hard.value ≡ empty_hard)
opened_where E bytes (Ok c) empty is = opened_empty bytes c.hard.value empty is
opened_where E bytes (Err fault) empty is = tt
