-- What a change does to a ledger: it becomes what the change makes of it, or stays where the change is refused.
use Rattle.std.specs.Prelude.{◌≡◌, Result, Ok, Err}
use Rattle.fuxi_terms.specs.declared.answers.LedgerFault.{LedgerFault}
use Rattle.fuxi_terms.specs.declared.answers.LedgerFault.TheVariants.{Below, TooGreat, OutOfMemory}

-- a fault is the one that the outcome has; want of memory may come at any time
abbrev pub IsRefusal : {V : Type 0} → Result V LedgerFault → LedgerFault → Type 0
IsRefusal outcome OutOfMemory = Unit {0}
IsRefusal outcome (Below key kept change) = outcome ≡ Err (Below key kept change)
IsRefusal outcome (TooGreat key) = outcome ≡ Err (TooGreat key)

abbrev pub Applies : {V : Type 0} → Result V LedgerFault → V → V → Result (Unit {0}) LedgerFault → Type 0
Applies outcome old new (Ok done) = outcome ≡ Ok new
Applies outcome old new (Err fault) = (new ≡ old) × IsRefusal outcome fault
