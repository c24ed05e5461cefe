-- A change that is taken leads to the next index.
use Rattle.std.proofs.Common.{◌≡◌, ℕ, ◌+◌, ◌<◌, length, List, Result, Ok, Some, false, slice_get, get_or, refl, subst, arith}
use Rattle.std.proofs.lemmas.Bool.Decides.{nat_tests}
use Rattle.std.proofs.lemmas.Option.{slice_get-get_or}
use Rattle.std.proofs.lemmas.Grind.{common_steps}
use Rattle.fuxi_terms.specs.declared.answers.LedgerFault.{LedgerFault}
use Rattle.delta_channel.specs.declared.receiver.Stamp.{Stamp}
use Rattle.delta_channel.specs.declared.receiver.Place.{Place}
use Rattle.delta_channel.specs.declared.receiver.Verdict.TheVariants.{Take}
use Rattle.delta_channel.specs.Standing.{IsChangeAt}
use Rattle.delta_channel.specs.Hearing.{verdict_of, Receiving, HasEntry}
use Rattle.delta_channel.specs.Calls.{IsTaken}

pub taken_next : (own : ℕ) (place : Place) (stamp : Stamp) → verdict_of own place stamp ≡ Take → stamp.full ≡ false → stamp.place.seq ≡ place.seq + 1
taken_next own place stamp taken delta = grind (arith, nat_tests, common_steps)

-- after the next change a receiver has the next entry
next_entry : {V D : Type 0} (patched : V → D → Result V LedgerFault) (stamp : Stamp) (change : D) (history : List V) (old : Receiving V) (new : V)
    → verdict_of old.own old.place stamp ≡ Take → stamp.full ≡ false → HasEntry old history → IsChangeAt patched change old.place.seq history
    → stamp.place.seq < length history → patched old.received change ≡ Ok new → slice_get history stamp.place.seq ≡ Some new
next_entry patched stamp change history old new taken delta has is_change long made =
    let next = taken_next old.own old.place stamp taken delta in
    let entry = get_or history stamp.place.seq new in
    let is_entry : slice_get history stamp.place.seq ≡ Some entry = slice_get-get_or history stamp.place.seq new long in
    let makes_entry : patched old.received change ≡ Ok entry = is_change old.received entry has (subst (λ n. slice_get history n ≡ Some entry) next is_entry) in
    cc

pub is_taken : {V D : Type 0} (patched : V → D → Result V LedgerFault) (stamp : Stamp) (change : D) (old : Receiving V) (new : V) → verdict_of old.own old.place stamp ≡ Take
    → patched old.received change ≡ Ok new → IsTaken patched stamp change old (record { own = old.own; place = stamp.place; received = new })
is_taken patched stamp change old new taken made = record {
  made = made;
  place = refl;
  own = refl;
  stands = λ delta history has is_change long. next_entry patched stamp change history old new taken delta has is_change long made;
}
