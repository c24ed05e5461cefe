-- How it is told that a ledger or a change is not taken.
use Rattle.std.specs.Prelude.{◌≡◌, Result, Ok, Err}
use Rattle.fuxi_terms.specs.declared.OutOfMemory.{OutOfMemory}
use Rattle.fuxi_terms.specs.declared.answers.LedgerFault.{LedgerFault}
use Rattle.fuxi_terms.specs.declared.answers.LedgerFault.TheVariants.{Below, TooGreat, OutOfMemory as WantOfMemory}
use Rattle.fuxi_terms.specs.declared.answers.What.{What}
use Rattle.fuxi_terms.specs.declared.answers.What.TheVariants.{Ledger as SaysLedger, Exceeds as SaysExceeds}
use Rattle.peer_channel.specs.declared.limit.Refusal.{Refusal}
use Rattle.peer_channel.specs.declared.limit.Refusal.TheVariants.{Ledger as Refuses, Exceeds}

-- a refusal is a word; want of memory is none
abbrev pub Tells : LedgerFault → Result What OutOfMemory → Type 0
Tells WantOfMemory (Ok word) = ⊥
Tells (Below key kept change) (Ok word) = word ≡ SaysLedger (Below key kept change)
Tells (TooGreat key) (Ok word) = word ≡ SaysLedger (TooGreat key)
Tells fault (Err e) = Unit {0}

abbrev pub TellsWhy : Refusal → Result What OutOfMemory → Type 0
TellsWhy (Refuses fault) r = Tells fault r
TellsWhy (Exceeds total has) (Ok word) = word ≡ SaysExceeds total has
TellsWhy (Exceeds total has) (Err e) = Unit {0}
