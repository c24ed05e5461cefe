-- A node whose file lets its epoch in, and that meets no fault, ends as its lines say.
use Rattle.std.proofs.Common.{◌≡◌, ◌⊎◌, inl, inr, ℕ, List, Option, Some, IfSome, Err, refl, sym, ◌∙◌, ap, subst}
use Rattle.fuxi_io.specs.Disks.{Told as Moments}
use Rattle.fuxi_io.specs.declared.status.LimitOf.{LimitOf}
use Rattle.fuxi_io.specs.declared.status.LimitOf.TheVariants.{Lines, Packets, Bytes, Records, Calls}
use Rattle.fuxi_io.specs.declared.status.Status.{Status}
use Rattle.fuxi_io.specs.declared.status.Status.TheVariants.{Done, Usage, BadInput, ReadFault, WriteFault, Limit, OutOfMemory, DiskFault, StaleEpoch, DamagedCheckpoint}
use Rattle.spec_roles.specs.Refusals.{Refusal}
use Rattle.spec_roles.specs.HardState.{Raise, hard_step}
use Rattle.hard_state.specs.HardFiles.{records_of}
use Rattle.fuxi_node.specs.NodeEnds.{EndsBy}
use Rattle.fuxi_node.specs.MasterEnds.{RefusesEpoch}
use Rattle.fuxi_node.specs.declared.kind.NodeKind.{NodeKind}
use Rattle.fuxi_node.specs.declared.kind.NodeKind.TheVariants.{Master, Agent, App}
use Rattle.fuxi_node.specs.NodeInputs.{LetsIn, MayStart, TellsDisk, ending_of, status_at}

-- a file that lets the epoch in is neither damaged nor refuses it
lets_no_refusal : (epoch : ℕ) (why : Refusal) (disk : Option Moments) → LetsIn epoch disk → IfSome disk (RefusesEpoch epoch why) → ⊥
lets_no_refusal epoch why disk l h =
    let r = subst (λ d. IfSome d (RefusesEpoch epoch why)) l.is h in
    let same : l.before ≡ r.before = cc in
    let refuses : hard_step l.before epoch Raise ≡ Err why = rw same r.refuses in
    let step = l.step in
    cc

lets_no_damage : (epoch offset : ℕ) (disk : Option Moments) → LetsIn epoch disk → IfSome disk (λ t. records_of t.now.bytes ≡ Err offset) → ⊥
lets_no_damage epoch offset disk l h =
    let damaged = subst (λ d. IfSome d (λ t. records_of t.now.bytes ≡ Err offset)) l.is h in
    let reads = l.reads in
    cc

no_stale : (kind : NodeKind) (disk : Option Moments) (fence : ℕ) → MayStart kind disk → TellsDisk kind (StaleEpoch fence) disk → ⊥
no_stale (Master epoch) disk fence may tells = lets_no_refusal epoch _ disk may tells
no_stale (Agent m boot) disk fence may tells = tells
no_stale (App a boot units) disk fence may tells = tells

no_damage : (kind : NodeKind) (disk : Option Moments) (offset : ℕ) → MayStart kind disk → TellsDisk kind (DamagedCheckpoint offset) disk → ⊥
no_damage (Master epoch) disk offset may tells = lets_no_damage epoch offset disk may tells
no_damage (Agent m boot) disk offset may tells = tells
no_damage (App a boot units) disk offset may tells = tells

no_full : (kind : NodeKind) (disk : Option Moments) (kept : ℕ) → MayStart kind disk → TellsDisk kind (Limit Records kept) disk → ⊥
no_full (Master epoch) disk kept may tells = lets_no_refusal epoch _ disk may tells.1
no_full (Agent m boot) disk kept may tells = tells
no_full (App a boot units) disk kept may tells = tells

-- no limit on records is one on lines
no_records : Records ≡ Lines → ⊥
no_records same = cc

module _ (kind : NodeKind) (bytes : List ℕ) (status : Status) (input left : Option (List ℕ)) (is : input ≡ Some bytes)
    (usage : status ≡ Usage → ⊥) (read : status ≡ ReadFault → ⊥) (write : status ≡ WriteFault → ⊥) (failed : status ≡ DiskFault → ⊥)
    (placed : IfSome input (λ bytes. EndsBy (ending_of kind bytes) status left)) where
  abbrev Completes : Type 0
  Completes = (status ≡ status_at (ending_of kind bytes)) ⊎ (status ≡ OutOfMemory)

  -- a status that tells nothing of a file
  pub completes : ((fence : ℕ) → status ≡ StaleEpoch fence → ⊥) → ((offset : ℕ) → status ≡ DamagedCheckpoint offset → ⊥) → ((kept : ℕ) → status ≡ Limit Records kept → ⊥) → Completes
  completes stale damaged full = by status refl (subst (λ i. IfSome i (λ bytes. EndsBy (ending_of kind bytes) status left)) is placed)
    where
      by : (s : Status) → status ≡ s → EndsBy (ending_of kind bytes) status left → Completes
      by Done same e = inl (same ∙ sym (ap status_at (subst (λ s. EndsBy (ending_of kind bytes) s left) same e).0))
      by (BadInput line fault) same e = inl (same ∙ sym (ap status_at (subst (λ s. EndsBy (ending_of kind bytes) s left) same e)))
      by (Limit Lines kept) same e = inl (same ∙ sym (ap status_at (subst (λ s. EndsBy (ending_of kind bytes) s left) same e)))
      by (Limit Packets kept) same e = absurd (subst (λ s. EndsBy (ending_of kind bytes) s left) same e)
      by (Limit Bytes kept) same e = absurd (subst (λ s. EndsBy (ending_of kind bytes) s left) same e)
      by (Limit Calls kept) same e = absurd (subst (λ s. EndsBy (ending_of kind bytes) s left) same e)
      by (Limit Records kept) same e = absurd (full kept same)
      by OutOfMemory same e = inr same
      by Usage same e = absurd (usage same)
      by ReadFault same e = absurd (read same)
      by WriteFault same e = absurd (write same)
      by DiskFault same e = absurd (failed same)
      by (StaleEpoch fence) same e = absurd (stale fence same)
      by (DamagedCheckpoint offset) same e = absurd (damaged offset same)

  -- one of an input that ended at the line of the cluster or before it
  pub completes_before : ((fence : ℕ) → status ≡ StaleEpoch fence → ⊥) → ((offset : ℕ) → status ≡ DamagedCheckpoint offset → ⊥) → ((what : LimitOf) (kept : ℕ) → status ≡ Limit what kept → what ≡ Lines) → Completes
  completes_before stale damaged limit = completes stale damaged (λ kept same. no_records (limit Records kept same))

  -- one of a node whose file lets its epoch in
  pub completes_behind : (disk : Option Moments) → MayStart kind disk → TellsDisk kind status disk → Completes
  completes_behind disk may tells = completes
      (λ fence same. no_stale kind disk fence may (subst (λ s. TellsDisk kind s disk) same tells))
      (λ offset same. no_damage kind disk offset may (subst (λ s. TellsDisk kind s disk) same tells))
      (λ kept same. no_full kind disk kept may (subst (λ s. TellsDisk kind s disk) same tells))
