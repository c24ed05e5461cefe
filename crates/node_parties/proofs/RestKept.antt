-- What a line leaves of a checkpoint at rest.
use Rattle.std.proofs.Common.{◌≡◌, ◌⊎◌, inl, inr, ⊎_elim, ℕ, Option, Some, None, Result, Ok, Err, refl, sym, subst}
use Rattle.std.specs.Prelude.{IfOk, OnErr}
use Rattle.fuxi_io.specs.Disks.{Told, Leaves, LeavesAlways, WhereTold}
use Rattle.spec_roles.specs.HardState.{HardState}
use Rattle.hard_state.specs.HardFiles.{IsAtRest}
use Rattle.node_core.specs.Roles.{Role, OfAgent, OfApp, OfMaster}
use Rattle.node_core.specs.NodeHalts.{FitsEither}
use Rattle.node_core.specs.declared.party.Answer.{Answer}
use Rattle.party_commands.specs.declared.masters.CommandError.{CommandError}
use Rattle.node_parties.specs.MasterParties.{DiskHas, NodeRecord, Rests, RestsAt, StandsAs}
use Rattle.party_commands.specs.CommandedParties.{IsEither}
use Rattle.node_parties.specs.NodeCommands.{LeavesEither, LeavesLine, hard_in}
use Rattle.node_parties.proofs.Moments.{leaves_last}

-- behind a line
pub line_rests : (x : NodeRecord) (after : HardState) (result : Result (NodeRecord × Answer) CommandError) (n m : ℕ) (a b : Option Told) → WhereTold (LeavesLine x.hard after result) a b → IfOk result (λ done. Rests done.0 m)
    → WhereTold (λ old new. RestsAt x n (Some old) → IfOk result (λ done. RestsAt done.0 m (Some new))) a b
line_rests x after result n m None b told may = tt
line_rests x after result n m (Some old) None told may = elim told [ ]
line_rests x after (Err halt) n m (Some old) (Some new) told may = λ rests. tt
line_rests x after (Ok done) n m (Some old) (Some new) told may = λ rests. record { sound = may.sound; long = may.long; rest = (told rests.rest).1 }

-- at which the node ended
line_halts : (x : NodeRecord) (r after : Role) (n : ℕ) (old new : Told) → StandsAs x r → ((new ≡ old) ⊎ LeavesAlways (IsEither x.hard.value (hard_in after)) old new) → RestsAt x n (Some old) → FitsEither DiskHas LeavesEither r after new
line_halts x (OfAgent r) after n old new s left rests = elim s [ ]
line_halts x (OfApp r) after n old new s left rests = elim s [ ]
line_halts x (OfMaster h r) after n old new s left rests =
    ⊎_elim (λ same. inl (record { kept = x.hard; value = s.value; rest = subst (λ (t : Told). IsAtRest x.hard t.now) (sym same) rests.rest }))
    (λ all. inr (inr (subst (λ v. Leaves (IsEither v (hard_in after)) new.now) s.value (leaves_last (IsEither x.hard.value (hard_in after)) old new all)))) left

pub told_halts : (x : NodeRecord) (r after : Role) (result : Result (NodeRecord × Answer) CommandError) (n : ℕ) (a b : Option Told) → StandsAs x r → WhereTold (LeavesLine x.hard (hard_in after) result) a b
    → WhereTold (λ old new. RestsAt x n (Some old) → FitsEither DiskHas LeavesEither r after new) a b
told_halts x r after result n None b s told = tt
told_halts x r after result n (Some old) None s told = elim told [ ]
told_halts x r after result n (Some old) (Some new) s told = λ rests. line_halts x r after n old new s (told rests.rest).0 rests

-- without a call of the disk
pub kept_halts : (x : NodeRecord) (r after : Role) (n : ℕ) (a : Option Told) → StandsAs x r → WhereTold (λ old new. RestsAt x n (Some old) → FitsEither DiskHas LeavesEither r after new) a a
kept_halts x r after n None s = tt
kept_halts x r after n (Some t) s = λ rests. line_halts x r after n t t s (inl refl) rests

pub on_err : {A E P : Type 0} (result : Result A E) → P → OnErr result P
on_err (Ok x) p = tt
on_err (Err e) p = p
