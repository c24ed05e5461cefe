-- What a file stands for, and what a crash leaves of a checkpoint at rest.
use Rattle.std.proofs.Common.{◌≡◌, inl, ℕ, List, Option, None, Some, IfSome, Result, Ok, Err, refl, sym, ◌∙◌, ap, subst}
use Rattle.fuxi_io.specs.Disks.{Moment, Told, IsImage, Leaves}
use Rattle.fuxi_terms.specs.Limits.{most_records}
use Rattle.spec_roles.specs.HardState.{HardState, empty_hard}
use Rattle.hard_state.specs.Checkpoints.{Opened}
use Rattle.hard_state.specs.HardFiles.{IsAtRest, KeepsDamaged, Kept, opened_as, reads_as, records_of, taken, value_of}
use Rattle.hard_state.proofs.Images.{synced_image}
use Rattle.hard_state.proofs.StandsWhileAppended.{stands}

pub stands_for : (file : List ℕ) (o : Opened HardState) → reads_as file ≡ Ok o → records_of file ≡ Ok o.value
unfolding reads_as records_of
stands_for file o is = ap value_of (stands taken most_records empty_hard file o is)

pub rest_reads : (k : Kept) (m : Moment) → IsAtRest k m → records_of m.bytes ≡ Ok k.value
rest_reads k m rest = stands_for m.bytes (opened_as k) rest.reads

pub rest_leaves : (k : Kept) (m : Moment) → IsAtRest k m → Leaves (λ file. records_of file ≡ Ok k.value) m
rest_leaves k m rest file image = ap records_of (synced_image m.bytes file (subst (λ (n : Moment). IsImage n file) rest.synced image)) ∙ rest_reads k m rest

-- a file that stands for a value has no damaged record
pub whole_keeps : (value : HardState) (old new : Option Told) → IfSome old (λ t. records_of t.now.bytes ≡ Ok value) → KeepsDamaged old new
whole_keeps value None new whole = tt
whole_keeps value (Some t) new whole = λ offset damaged. let other : ◌≡◌ {A = Result HardState ℕ} (Ok value) (Err offset) = sym whole ∙ damaged in absurd (let no : ⊥ = cc in no)

-- a disk that was left alone has its damaged file as it was
pub idle_keeps : (told : Option Told) → KeepsDamaged told told
idle_keeps None = tt
idle_keeps (Some t) = λ offset damaged. inl refl
