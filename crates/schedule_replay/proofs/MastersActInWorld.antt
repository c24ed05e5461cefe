-- From what is done or refused by one party to the step of the world that it is.
use Rattle.std.proofs.Common.{◌≡◌, ℕ, List, [], ◌++◌, Option, Some, None, Ok, sym, ◌∙◌, ap, subst}
use Rattle.spec_world.specs.World.{World, Step, refused}
use Rattle.schedule_replay.specs.Held.{Held, IsOpen}
use Rattle.fuxi_master.specs.Cores.{MasterRecord}
use Rattle.running_parties.specs.Slots.{SlotsRecord}
use Rattle.running_parties.specs.RunningMasters.{AreMastersOf}
use Rattle.schedule_text.specs.declared.refusal.Refusal.{Refusal}
use Rattle.schedule_text.specs.Printing.{as_refusal}
use Rattle.schedule_replay.specs.ReplayTexts.{lines_text}
use Rattle.schedule_replay.specs.Worlds.{WorldRecord, IsWorld, StandsFor}
use Rattle.schedule_replay.specs.WorldSteps.{IsDone}
use Rattle.schedule_replay.specs.Moves.{Leaves, Acts, refusal_lines}
use Rattle.schedule_replay.specs.MasterCommands.{Governing, IsGoverning, GovernsIn, Governs, GovernsOn, TakesStep, governing}
use Rattle.schedule_replay.proofs.MovesLemmas.{once_up_to, masters_once}

-- A step that is refused leaves what runs as it was, and prints why
pub is_refused : (w : World) (s : Step) (r : WorldRecord) (why : Refusal) (before after : List ℕ) → StandsFor r w → s ≡ refused w (as_refusal why) → after ≡ before ++ lines_text (refusal_lines (Some why)) → IsDone s r before after
is_refused w s r why before after stands is text = record {
  stands = subst (StandsFor r) (sym (ap (λ (t : Step). t.world) is)) stands;
  text = text ∙ ap (λ (t : Step). before ++ lines_text t.lines) (sym is);
}

-- one that prints nothing
pub is_quiet : (s : Step) (new : WorldRecord) (before after : List ℕ) → StandsFor new s.world → s.lines ≡ [] → after ≡ before ++ lines_text [] → IsDone s new before after
is_quiet s new before after stands none text = record { stands = stands; text = text ∙ ap (λ ls. before ++ lines_text ls) (sym none) }

-- The law of orders, as it is called for
abbrev pub OrdersLeave : Type 0
OrdersLeave = (w w' : World) (old : WorldRecord) (held : Held) (masters : SlotsRecord MasterRecord) → StandsFor old w → Leaves w w' → AreMastersOf w' masters → held.hard.value ≡ w'.hard → IsOpen held → StandsFor (record old { checkpoint = held; masters = masters }) w'

pub are_governing : (w : World) (r : WorldRecord) → IsWorld w → StandsFor r w → IsGoverning w (governing r.checkpoint r.masters)
are_governing w r is s = record { good = is.good; order = is.order; hard = s.hard; rests = s.rests; stand = s.masters }

-- what runs then stands for the world after it, done or refused
pub governed_stands : OrdersLeave → (w : World) (s : Step) (old : WorldRecord) (held : Held) (masters : SlotsRecord MasterRecord) (answer : Option Refusal) → StandsFor old w → GovernsIn w s (governing held masters) answer
    → StandsFor (record old { checkpoint = held; masters = masters }) s.world
governed_stands law w s old held masters None stands g = law w s.world old held masters stands g.leaves g.stand g.hard g.rests
governed_stands law w s old held masters (Some why) stands g =
    subst (StandsFor (record old { checkpoint = held; masters = masters })) (sym (ap (λ (t : Step). t.world) g.is)) (record {
      cluster = stands.cluster;
      hard = g.same.hard;
      rests = g.same.rests;
      masters = g.same.stand;
      agents = stands.agents;
      apps = stands.apps;
      packets = stands.packets;
      events = stands.events;
    })

governed_lines : (w : World) (s : Step) (new : Governing) (answer : Option Refusal) → GovernsIn w s new answer → s.lines ≡ refusal_lines answer
governed_lines w s new None g = g.quiet
governed_lines w s new (Some why) g = ap (λ (t : Step). t.lines) g.is

governed_in : OrdersLeave → (w : World) (s : Step) (old : WorldRecord) (held : Held) (masters : SlotsRecord MasterRecord) (answer : Option Refusal) (before after : List ℕ) → StandsFor old w → GovernsIn w s (governing held masters) answer
    → after ≡ before ++ lines_text (refusal_lines answer) → IsDone s (record old { checkpoint = held; masters = masters }) before after
governed_in law w s old held masters answer before after stands g text = record {
  stands = governed_stands law w s old held masters answer stands g;
  text = text ∙ ap (λ ls. before ++ lines_text ls) (sym (governed_lines w s (governing held masters) answer g));
}

pub governed_on : OrdersLeave → (f : World → Step) (old : WorldRecord) (held : Held) (masters : SlotsRecord MasterRecord) (answer : Option Refusal) (before after : List ℕ)
    → GovernsOn old.cluster f (governing old.checkpoint old.masters) (governing held masters) answer → TakesStep old.masters masters → after ≡ before ++ lines_text (refusal_lines answer)
    → Acts f old (record old { checkpoint = held; masters = masters }) before after (Ok tt)
governed_on law f old held masters answer before after governs steps text = record {
  does = λ w is s. governed_in law w (f w) old held masters answer before after s (governs w s.cluster (are_governing w old is s)) text;
  moves = once_up_to old (record old { checkpoint = held; masters = masters }) (masters_once old held masters old.pool steps);
}

pub governed : OrdersLeave → (f : World → Step) (old : WorldRecord) (held : Held) (masters : SlotsRecord MasterRecord) (answer : Option Refusal) (before after : List ℕ)
    → Governs f (governing old.checkpoint old.masters) (governing held masters) answer → TakesStep old.masters masters → after ≡ before ++ lines_text (refusal_lines answer)
    → Acts f old (record old { checkpoint = held; masters = masters }) before after (Ok tt)
governed law f old held masters answer before after governs steps text =
    governed_on law f old held masters answer before after (λ w _ s. governs w s) steps text
