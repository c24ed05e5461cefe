-- A checkpoint at rest opens as the lease that is kept, whatever a crash leaves of it.
use Rattle.std.proofs.Common.{refl, Option, None, Some}
use Rattle.fuxi_io.specs.Disks.{Moment, Told, WhereTold}
use Rattle.hard_state.specs.HardFiles.{IsAtRest, OpensAs as HardOpensAs}
use Rattle.hard_state.proofs.HardFilesLemmas.{rest_leaves}
use Rattle.epoch_lease.specs.Files.{Endures, KeptLease, OpensLease}

pub rest_endures : (k : KeptLease) (m : Moment) → IsAtRest k.hard m → Endures k m
rest_endures k m rest = record {
  rest = rest;
  leaves = λ file image. record { value = k.hard.value; reads = rest_leaves k.hard m rest file image; last = refl; records = refl };
}

pub opens : (k : KeptLease) (old new : Option Told) → WhereTold (HardOpensAs k.hard) old new → WhereTold (OpensLease k) old new
opens k None new opened = tt
opens k (Some t) None opened = absurd opened
opens k (Some t) (Some u) opened = record { reads = opened.0; endures = rest_endures k u.now opened.1 }
