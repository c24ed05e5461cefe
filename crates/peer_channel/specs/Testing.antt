-- What a party tests of a ledger before it takes it: whether it is too much. outcome: what a change makes of the ledger that was received.
use Rattle.std.specs.Prelude.{◌≡◌, Option, Some, None, Result, Ok, Err}
use Rattle.fuxi_terms.specs.declared.answers.LedgerFault.{LedgerFault}
use Rattle.fuxi_terms.specs.declared.vectors.Res.{Res}
use Rattle.fuxi_terms.specs.declared.vectors.Sum.{Sum}
use Rattle.fuxi_terms.specs.declared.answers.What.{What}
use Rattle.fuxi_terms.specs.declared.answers.What.TheVariants.{Taken, Exceeds as SaysExceeds}
use Rattle.delta_channel.specs.declared.receiver.Place.{Place}
use Rattle.full_sync.specs.Turns.{Endpoint}
use Rattle.peer_channel.specs.declared.limit.Excess.{Excess}
use Rattle.peer_channel.specs.declared.limit.Refusal.{Refusal}
use Rattle.peer_channel.specs.declared.limit.Refusal.TheVariants.{Ledger as Refuses, Exceeds}

-- a whole ledger is measured where it is not too much
abbrev pub Weighs : {M : Type 0} → (M → Type 0) → Option (Sum × Res) → Result M Excess → Type 0
Weighs measures excess (Ok measure) = (excess ≡ None) × measures measure
Weighs measures excess (Err e) = excess ≡ Some (e.total, e.has)

-- the ledger that a change makes, which is too much
pub record IsTooMuch {W : Type 0} (excess : W → Option (Sum × Res)) (outcome : Result W LedgerFault) (total : Sum) (has : Res) : Type 0 where
  pub ledger : W
  pub made : outcome ≡ Ok ledger
  pub much : excess ledger ≡ Some (total, has)

-- what a change would make is measured where it can be made and is not too much. A test may leave it to the making whether it can be made
abbrev pub WeighsChange : {M W : Type 0} → (M → W → Type 0) → (W → Option (Sum × Res)) → Result W LedgerFault → Result M Refusal → Type 0
WeighsChange {M} {W} measures excess outcome (Ok measure) = (ledger : W) → outcome ≡ Ok ledger → (excess ledger ≡ None) × measures measure ledger
WeighsChange measures excess outcome (Err (Refuses fault)) = outcome ≡ Err fault
WeighsChange measures excess outcome (Err (Exceeds total has)) = IsTooMuch excess outcome total has

-- a whole ledger that is not too much replaces what was received, at this place
pub record Takes {V D W : Type 0} (excess : Option (Sum × Res)) (place : Place) (ledger : W) (old new : Endpoint V D W) (word : What) : Type 0 where
  pub taken : excess ≡ None → (word ≡ Taken) × (new ≡ record { outgoing = old.outgoing; incoming = record { own = old.incoming.own; place = place; received = ledger }; acked = old.acked })
  pub left : (total : Sum) (has : Res) → excess ≡ Some (total, has) → (word ≡ SaysExceeds total has) × (new ≡ old)
