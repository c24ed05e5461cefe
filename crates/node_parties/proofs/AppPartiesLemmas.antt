-- An application stays that of its job, whatever it hears and is asked.
use Rattle.std.proofs.Common.{◌≡◌, ℕ, true, nat_eq, refl, sym, ◌∙◌, ap, subst}
use Rattle.std.specs.Prelude.{Option, Some, None, Result, Ok, Err, cond}
use Rattle.party_ledgers.specs.declared.packets.Packet.{Packet}
use Rattle.spec_roles.specs.Refusals.{Refusal as WrittenRefusal, NotRunning}
use Rattle.spec_roles.specs.Apps.{AppRole, AppCommand, app_hears_alone, commands_alone}
use Rattle.schedule_text.specs.declared.event.Event.{Event}
use Rattle.schedule_text.specs.Printing.{as_refusal}
use Rattle.schedule_text.specs.declared.refusal.Refusal.{Refusal}
use Rattle.peer_channel.specs.Parcels.{parcel_is}
use Rattle.app_master.specs.AppCores.{AppCore, StandsFor}
use Rattle.node_core.specs.Roles.{OfApp}
use Rattle.node_core.specs.PartyEvents.{Done, RefusedAs, IsCommanded, app_after, commanded, answered_by, stays}
use Rattle.party_commands.specs.PartyCommands.{Asks, command_of}
use Rattle.party_commands.specs.CommandedParties.{AskedAs}
use Rattle.node_parties.specs.AppParties.{StandsAs, IsOfJob}

pub hears_on : (n : ℕ) (r : AppRole) (x : Packet) (new : AppCore) → n ≡ r.job → StandsFor new (app_hears_alone r (parcel_is x)).role → IsOfJob n new
hears_on n r x new q s = record { role = (app_hears_alone r (parcel_is x)).role; stands = s; number = q ∙ sym s.job }

-- one that refuses what it is asked
pub refused_on : (n : ℕ) (r : AppRole) (old new : AppCore) (why : Refusal) (res : Result AppRole WrittenRefusal) → n ≡ r.job → StandsFor old r → AskedAs old new (Some why) res → IsOfJob n new
refused_on n r old new why (Ok role) q s a = elim a [ ]
refused_on n r old new why (Err f) q s a = let still = subst (λ (y : AppCore). StandsFor y r) (sym a.0) s in record { role = r; stands = still; number = q ∙ sym still.job }

-- what it is asked is done, or refused
does_asked : (r : AppRole) (old new : AppCore) (answer : Option Refusal) (res : Result AppRole WrittenRefusal) → StandsFor old r → AskedAs old new answer res
    → IsCommanded (StandsAs new) (elim answer [ None ↦ Done | Some why ↦ RefusedAs (as_refusal why) ]) (app_after r res)
does_asked r old new None (Ok role) s a = record { stands = a; answers = refl }
does_asked r old new None (Err f) s a = elim a [ ]
does_asked r old new (Some why) (Ok role) s a = elim a [ ]
does_asked r old new (Some why) (Err f) s a = record { stands = subst (λ (y : AppCore). StandsFor y r) (sym a.0) s; answers = ap (λ f. RefusedAs f) (sym a.1) }

-- an event that names its job
pub asked_does : (r : AppRole) (n : ℕ) (x : AppCommand) (old new : AppCore) (answer : Option Refusal) (event : Event) → command_of event ≡ Some (Asks n x) → nat_eq n r.job ≡ true → StandsFor old r → AskedAs old new answer (commands_alone r x)
    → IsCommanded (StandsAs new) (elim answer [ None ↦ Done | Some why ↦ RefusedAs (as_refusal why) ]) (commanded (OfApp r) event)
asked_does r n x old new answer event named own s a =
    subst (IsCommanded (StandsAs new) (elim answer [ None ↦ Done | Some why ↦ RefusedAs (as_refusal why) ]))
    (sym (ap (answered_by (OfApp r)) named ∙ ap (λ b. cond b (app_after r (commands_alone r x)) (stays (OfApp r) (RefusedAs NotRunning))) own)) (does_asked r old new answer (commands_alone r x) s a)
