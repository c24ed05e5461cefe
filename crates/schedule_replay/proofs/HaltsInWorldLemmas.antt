-- Stops within the writing of a line, in each world that the hard state and the masters are of.
use Rattle.std.proofs.Common.{◌≡◌, ℕ, ◌≤◌, Bool, cond, nat_eq, nat_lt, List, [], ◌∷◌, ◌++◌, Some, None, Result, Ok, Err, refl, sym, ◌∙◌, ap, subst, arith, append-nil}
use Rattle.std.specs.Prelude.{◌&&◌, ◌||◌}
use Rattle.std.specs.Ordering.{nat_cmp}
use Rattle.std.specs.FinMap.Entries.{find}
use Rattle.std.proofs.lemmas.Bool.Decides.{nat_tests}
use Rattle.fuxi_terms.proofs.Booleans.{both_true, same_tests}
use Rattle.spec_roles.specs.HardState.{HardState, HardEvent, Raise, Submission, Finishing, Banning, Unbanning, hard_step}
use Rattle.spec_roles.specs.Masters.{Master}
use Rattle.spec_roles.specs.MasterSteps.{Changed, MasterChange, MasterCommand, Admits, Ends, Bans, Unbans, change_of, command_of, writes}
use Rattle.spec_roles.specs.Refusals.{Refusal as WrittenRefusal}
use Rattle.spec_world.specs.Outputs.{Halted}
use Rattle.spec_world.specs.World.{World, Step, prints_nothing, refused}
use Rattle.spec_world.specs.Events.{Event, Halt, act, commanded, halted, is_written, start_master, without_master, writer_of}
use Rattle.hard_state.specs.HardFiles.{Refuses}
use Rattle.hard_state.specs.declared.fault.HardFault.{HardFault}
use Rattle.hard_state.specs.declared.fault.HardFault.TheVariants.{OutOfMemory}
use Rattle.party_commands.specs.CommandedParties.{done_by, written_for}
use Rattle.schedule_replay.specs.Held.{Held, IsOpen}
use Rattle.schedule_replay.specs.Writings.{IsLeft, counts_after}
use Rattle.fuxi_master.specs.Cores.{MasterRecord}
use Rattle.fuxi_master.specs.declared.event.MasterEvent.{MasterEvent}
use Rattle.fuxi_master.specs.declared.event.MasterEvent.TheVariants as event
use Rattle.running_parties.specs.Slots.{SlotsRecord}
use Rattle.running_parties.specs.RunningMasters.{AreMastersOf}
use Rattle.schedule_text.specs.declared.event.Event.{Event as LineEvent}
use Rattle.schedule_text.specs.declared.refusal.Refusal.{Refusal}
use Rattle.schedule_text.specs.declared.output.Output.{Output}
use Rattle.schedule_text.specs.declared.output.Output.TheVariants as out
use Rattle.schedule_text.specs.Printing.{as_line, as_refusal}
use Rattle.schedule_text.specs.Halting.{halting}
use Rattle.schedule_text.specs.Writing.{IsLineEvent}
use Rattle.schedule_replay.specs.declared.halts.Stop.{Stop}
use Rattle.schedule_replay.specs.ReplayTexts.{lines_text}
use Rattle.schedule_replay.specs.Worlds.{WorldRecord}
use Rattle.schedule_replay.specs.Moves.{Acts, Leaves}
use Rattle.schedule_replay.specs.MasterCommands.{Governing, IsGoverning, MayStart, TakesStep, governing}
use Rattle.schedule_replay.specs.HaltsInWorld.{Halts, IsHalted, IsWithin, WritesAs}
use Rattle.schedule_replay.proofs.LineEvents.{not_below}
use Rattle.schedule_replay.proofs.CommandSteps.{told_is, told_step, writes_done, writes_refused}
use Rattle.schedule_replay.proofs.MasterCommandsLemmas.{raise_done, raise_refused, stop_leaves}
use Rattle.schedule_replay.proofs.MastersActInWorld.{OrdersLeave, are_governing, governed_stands}
use Rattle.schedule_replay.proofs.MovesLemmas.{masters_once, once_up_to}

-- What a stop that a line can give says: behind one of the four calls, within one of five lines
pub within_of : (stop : Stop) (x : LineEvent) → IsLineEvent (halting stop.calls stop.all x) → IsWithin stop
within_of stop x h = let b = both_true _ _ h.stop.0 in record { some = not_below 1 stop.calls b.0; few = not_below stop.calls 4 b.1 }

-- A line whose tests before its writing have passed does what that writing does
some_is : (a b : HardEvent) → Some a ≡ Some b → a ≡ b
some_is a b is = cc

module _ (w : World) (e : ℕ) (x : MasterCommand) (M : Master) (runs : find nat_cmp e w.masters ≡ Some M) (own : M.epoch ≡ e) where
  writes_so : (v : HardEvent) (change : MasterChange) (d : Changed) → change_of w.cluster M change ≡ Ok d → command_of w.cluster w.hard M x ≡ writes w.cluster w.hard M v change → WritesAs w (commanded w e x) e v
  writes_so v change d changes is =
      let at : hard_step w.hard M.epoch v ≡ hard_step w.hard e v = ap (λ n. hard_step w.hard n v) own in
      let told = told_is w e x M runs in
      record {
        fails = λ r says. told ∙ ap (told_step w) (is ∙ writes_refused w.cluster w.hard M v change r (at ∙ says));
        done = λ k says.
            let step = told ∙ ap (told_step w) (is ∙ writes_done w.cluster w.hard M v change k d (at ∙ says) changes) in
            (ap (λ (t : Step). t.world.hard) step, ap (λ (t : Step). t.lines) step);
      }

  pub event_writes : (event : MasterEvent) (v : HardEvent) → command_of w.cluster w.hard M x ≡ done_by w.cluster w.hard M event → written_for event ≡ Some v → WritesAs w (commanded w e x) e v
  event_writes (event.Admit j) v is writes = subst (WritesAs w (commanded w e x) e) (some_is _ v writes) (writes_so (Submission j) (Admits j) _ refl is)
  event_writes (event.Finish a) v is writes = subst (WritesAs w (commanded w e x) e) (some_is _ v writes) (writes_so (Finishing a.0) (Ends a.0) _ refl is)
  event_writes (event.Ban m) v is writes = subst (WritesAs w (commanded w e x) e) (some_is _ v writes) (writes_so (Banning m.0) (Bans m.0) _ refl is)
  event_writes (event.Unban m) v is writes = subst (WritesAs w (commanded w e x) e) (some_is _ v writes) (writes_so (Unbanning m.0) (Unbans m.0) _ refl is)
  event_writes y v is writes = absurd cc

  pub tests_refuse : (r : Refusal) → command_of w.cluster w.hard M x ≡ Err (as_refusal r) → commanded w e x ≡ refused w (as_refusal r)
  tests_refuse r is = told_is w e x M runs ∙ ap (told_step w) is

pub start_writes : (w : World) (e : ℕ) → MayStart w e → WritesAs w (start_master w e) e Raise
start_writes w e may = record {
  fails = λ r says. raise_refused w e r may says;
  done = λ k says. let step = raise_done w e k may says in (ap (λ (t : Step). t.world.hard) step, ap (λ (t : Step). t.lines) step);
}

-- a refusal is no want of memory
pub no_want : (h : HardState) (fault : HardFault) (r : Refusal) → ((step : Result HardState WrittenRefusal) → Refuses step fault → step ≡ Err (as_refusal r)) → fault ≡ OutOfMemory → ⊥
no_want h fault r refused is = let no : Ok h ≡ Err (as_refusal r) = refused (Ok h) (subst (Refuses (Ok h)) (sym is) refl) in absurd cc

-- The step of a stop, from that of its line
halt_is : (w : World) (x : Event) (e calls : ℕ) (all : Bool) (s : Step) → writer_of x ≡ e → act w x ≡ s → act w (Halt calls all x) ≡ halted w e (is_written calls all) s.world s.lines
halt_is w x e calls all s named is =
    ap (λ n. halted w n (is_written calls all) (act w x).world (act w x).lines) named ∙ ap (λ (t : Step). halted w e (is_written calls all) t.world t.lines) is

-- nothing changes
none_leaves : (w : World) → Leaves w w
none_leaves w = record { agents = record { seen = λ n. refl; boots = λ n. refl }; apps = record { seen = λ n. refl; boots = λ n. refl }; packets = sym (append-nil _); cluster = refl; events = refl }

-- Refused before the writing
pub halt_refused : (w : World) (x : Event) (e calls : ℕ) (all : Bool) (g : Governing) (r : Refusal) → IsGoverning w g → writer_of x ≡ e → act w x ≡ refused w (as_refusal r) → IsHalted w (act w (Halt calls all x)) g (out.Refused r)
halt_refused w x e calls all g r s named is =
    subst (λ t. IsHalted w t g (out.Refused r)) (sym (halt_is w x e calls all (refused w (as_refusal r)) named is)) (record {
      parts = record { hard = s.hard; rests = s.rests; stand = s.stand; leaves = none_leaves w; quiet = refl };
      lines = refl;
    })

-- by it
pub halt_unwritten : (w : World) (x : Event) (e calls : ℕ) (all : Bool) (v : HardEvent) (old new : Held) (ms : SlotsRecord MasterRecord) (r : Refusal) → IsGoverning w (governing old ms) → writer_of x ≡ e → WritesAs w (act w x) e v
    → hard_step old.hard.value e v ≡ Err (as_refusal r) → new ≡ old → IsHalted w (act w (Halt calls all x)) (governing new ms) (out.Refused r)
halt_unwritten w x e calls all v old new ms r s named writes says same =
    let hard = s.hard in
    halt_refused w x e calls all (governing new ms) r (subst (λ y. IsGoverning w (governing y ms)) (sym same) s) named (writes.fails (as_refusal r) (ap (λ h. hard_step h e v) (sym hard) ∙ says))

-- or done
counted_as : (calls : ℕ) (all : Bool) → calls ≤ 4 → counts_after calls all ≡ is_written calls all
counted_as calls all few =
    let last : nat_eq calls 4 ≡ nat_lt 3 calls = same_tests (nat_eq calls 4) (nat_lt 3 calls) (λ t. grind (arith, nat_tests, t)) (λ t. grind (arith, nat_tests, t, few)) in
    ap (λ b. b || (nat_eq calls 3 && all)) last

abbrev stopped : World → ℕ → Bool → HardState → Step
stopped w e written k = record { world = without_master w e (cond written k w.hard); lines = Halted e written ∷ [] }

pub halt_done : (w : World) (x : Event) (e calls : ℕ) (all written : Bool) (v : HardEvent) (old new : Held) (ms after : SlotsRecord MasterRecord) → IsGoverning w (governing old ms) → writer_of x ≡ e → WritesAs w (act w x) e v
    → calls ≤ 4 → written ≡ counts_after calls all → IsOpen new → IsLeft (hard_step old.hard.value e v) old.hard.value written new.hard.value → ((h : HardState) → AreMastersOf (without_master w e h) after)
    → IsHalted w (act w (Halt calls all x)) (governing new after) (out.Halted e written)
halt_done w x e calls all written v old new ms after s named writes few counts rests left stand =
    by (hard_step w.hard e v) refl (subst (λ h. IsLeft (hard_step h e v) h written new.hard.value) s.hard left)
  where
    by : (r : Result HardState WrittenRefusal) → hard_step w.hard e v ≡ r → IsLeft r w.hard written new.hard.value → IsHalted w (act w (Halt calls all x)) (governing new after) (out.Halted e written)
    by (Err r) is none = absurd none
    by (Ok k) is left =
        let d = writes.done k is in
        let said : is_written calls all ≡ written = sym (counts ∙ counted_as calls all few) in
        let step : act w (Halt calls all x) ≡ stopped w e written k = halt_is w x e calls all (act w x) named refl
        ∙ ap (λ ls. halted w e (is_written calls all) (act w x).world ls) d.1 ∙ ap (stopped w e (is_written calls all)) d.0 ∙ ap (λ b. stopped w e b k) said in
        subst (λ t. IsHalted w t (governing new after) (out.Halted e written)) (sym step) (record {
          parts = record { hard = left; rests = rests; stand = stand (cond written k w.hard); leaves = stop_leaves w e (cond written k w.hard); quiet = refl };
          lines = refl;
        })

-- In what runs
pub halted_on : OrdersLeave → (x : Event) (stop : Stop) (old : WorldRecord) (held : Held) (masters : SlotsRecord MasterRecord) (printed : Output) (before after : List ℕ)
    → Halts old.cluster x stop (governing old.checkpoint old.masters) (governing held masters) printed → TakesStep old.masters masters → after ≡ before ++ lines_text (as_line printed ∷ [])
    → Acts (λ w. act w (Halt stop.calls stop.all x)) old (record old { checkpoint = held; masters = masters }) before after (Ok tt)
halted_on law x stop old held masters printed before after halts steps text = record {
  does = λ w is s.
      let h = halts w s.cluster (are_governing w old is s) in
      record {
        stands = governed_stands law w (prints_nothing (act w (Halt stop.calls stop.all x)).world) old held masters None s h.parts;
        text = text ∙ ap (λ ls. before ++ lines_text ls) (sym h.lines);
      };
  moves = once_up_to old (record old { checkpoint = held; masters = masters }) (masters_once old held masters old.pool steps);
}
