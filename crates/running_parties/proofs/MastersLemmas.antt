-- Masters in their slots.
use Rattle.std.proofs.Common.{◌≡◌, ℕ, ◌<◌, Bool, true, false, cond, not, nat_eq, List, [], ◌∷◌, Option, Some, None, is_some, Result, Ok, Err, ◌≤◌, refl, sym, ◌∙◌, ap, subst}
use Rattle.std.specs.Prelude.{IfOk, IfSome, OnOk, T, ◌||◌}
use Rattle.std.specs.List.{AllByRecursion, list_any}
use Rattle.std.specs.List.Sorted.{IsStrictlySortedBy}
use Rattle.std.specs.Map.{keys_of, lookup}
use Rattle.std.specs.BTreeMap.{is_at}
use Rattle.std.proofs.lemmas.Map.Lookups.{btree_set_from_contains, exact_unsigned}
use Rattle.std.specs.Option.{option_map}
use Rattle.std.specs.Ordering.{nat_cmp, is_eq, is_lt}
use Rattle.std.specs.declared.cmp.Ordering.TheVariants.{Less}
use Rattle.std.specs.Cmp.{nat_cmp_total}
use Rattle.std.specs.FinMap.Entries.{find, where_key, is_sorted, below_all, is_some-find, find-where_key}
use Rattle.fuxi_io.specs.Disks.{Told, WhereTold}
use Rattle.fuxi_terms.specs.declared.OutOfMemory.{OutOfMemory}
use Rattle.fuxi_terms.specs.declared.answers.What.{What}
use Rattle.fuxi_terms.specs.Cluster.{ClusterRecord}
use Rattle.fuxi_terms.proofs.Booleans.{eq_turned, nat_itself, number_is}
use Rattle.fuxi_terms.proofs.CountsLemmas.{both_true, lesser}
use Rattle.fuxi_terms.proofs.Lookups.{none_is}
use Rattle.party_ledgers.specs.Packets.{IsFormed}
use Rattle.party_ledgers.specs.PacketHeaders.{header_of}
use Rattle.party_ledgers.specs.declared.header.Header.{Header}
use Rattle.party_ledgers.specs.declared.packets.Heard.{Heard}
use Rattle.party_ledgers.specs.declared.packets.Packet.{Packet}
use Rattle.peer_channel.specs.Parcels.{parcel_is}
use Rattle.spec_net.specs.Sides.{Parcel}
use Rattle.spec_roles.specs.HardState.{HardState}
use Rattle.spec_roles.specs.Masters.{Master}
use Rattle.spec_roles.specs.MasterRoles.{MasterRole, Sent as SentAs, HeardAs, master_commanded, master_started}
use Rattle.spec_roles.specs.MasterSteps.{MasterCommand}
use Rattle.spec_roles.specs.Refusals.{Refusal as WrittenRefusal, NotRunning, with_found}
use Rattle.spec_world.specs.World.{World, Step, prints_nothing, refused}
use Rattle.spec_world.specs.Good.{Good}
use Rattle.spec_world.specs.Events.{commanded, without_master}
use Rattle.spec_refinement.specs.SeenWorlds.{master_seen}
use Rattle.fuxi_master.specs.Cores.{MasterRecord, StandsFor}
use Rattle.fuxi_master.specs.Steps.{StepsAlike}
use Rattle.fuxi_master.specs.declared.event.MasterEvent.TheVariants.{Packet as PacketComes, Turn, Resync}
use Rattle.hard_state.specs.HardFiles.{Kept}
use Rattle.party_commands.specs.CommandedParties.{KnowsWritten, LeavesOrder, ObeyedAs}
use Rattle.party_commands.specs.declared.masters.CommandError.{CommandError}
use Rattle.schedule_text.specs.declared.refusal.Refusal.{Refusal}
use Rattle.fuxi_master.specs.declared.event.Outcome.{Outcome}
use Rattle.fuxi_master.specs.declared.event.Outcome.TheVariants.{Sent, Heard as HeardOne}
use Rattle.spec_refinement.specs.SeenParties.{Role, OfMaster, OfAgent, OfApp, Masters, hears, resynced, seen, GovernsAs, Governs, MasterStarts, master_after}
use Rattle.running_parties.specs.PartyAnswers.{Hears, HearsAlike, Sends, SendsAlike}
use Rattle.running_parties.specs.Slots.{SlotsRecord, entry_at, slot_at, boot_at, IsSet, IsGone, IsNone, StandsAt, StartInWorld}
use Rattle.running_parties.specs.RunningMasters.{MasterStands, AreMastersOf, AreMastersOver, MasterAt, MasterRunsAs, MasterStartInWorld, StopInWorld, ObeysOneIn, ObeyInWorld, RestsAgain, epochs_of}
use Rattle.running_parties.proofs.SlotsLemmas.{stand_now, stand_set, stand_still, stand_same, at_slot, ties}

-- What a master answers
same_heard : (new old : Bool) (word other : What) → HeardAs new word ≡ HeardAs old other → (new ≡ old) × (word ≡ other)
same_heard new old word other e = (cc, cc)

same_sent : (parcels others : List Parcel) → SentAs parcels ≡ SentAs others → parcels ≡ others
same_sent parcels others e = cc

pub heard_role : (packet : Packet) (old : MasterRecord) (r : Result (MasterRecord × Heard) OutOfMemory) → IfOk r (λ after. StepsAlike (PacketComes packet) old.core after.0.core (HeardOne after.1))
    → IfOk r (λ after. HearsAlike (MasterStands old) (MasterStands after.0) packet after.1)
heard_role packet old (Err e) steps = tt
heard_role packet old (Ok after) steps = λ r s. by r s
  where
    by : (r : Role) → MasterStands old r → Hears (MasterStands after.0) (hears r (parcel_is packet)) after.1
    by (OfMaster r) s =
        let a = steps r s in
        let h = same_heard _ _ _ _ a.says in
        record { role = a.role; fresh = h.0; says = h.1 }
    by (OfAgent r) s = absurd s
    by (OfApp r) s = absurd s

pub left_role : (h : Header) (m : MasterRecord) (heard : Option Heard) → IfSome heard (λ t. (packet : Packet) → IsFormed packet → header_of packet ≡ h → StepsAlike (PacketComes packet) m.core m.core (HeardOne t))
    → IfSome heard (λ t. (packet : Packet) → IsFormed packet → header_of packet ≡ h → HearsAlike (MasterStands m) (MasterStands m) packet t)
left_role h m None steps = tt
left_role h m (Some t) steps = λ packet formed is. heard_role packet m (Ok (m, t)) (steps packet formed is)

pub sent_role : (old : MasterRecord) (r : Result (MasterRecord × List Packet) OutOfMemory) → IfOk r (λ after. StepsAlike Turn old.core after.0.core (Sent after.1))
    → IfOk r (λ after. SendsAlike (MasterStands old) (MasterStands after.0) after.1)
sent_role old (Err e) steps = tt
sent_role old (Ok after) steps = λ r s. by r s
  where
    by : (r : Role) → MasterStands old r → Sends (MasterStands after.0) r after.1
    by (OfMaster r) s = let a = steps r s in record { role = a.role; says = same_sent _ _ a.says }
    by (OfAgent r) s = absurd s
    by (OfApp r) s = absurd s

pub resyncs_role : (old new : MasterRecord) (o : Outcome) → StepsAlike Resync old.core new.core o → (r : Role) → MasterStands old r → MasterStands new (resynced r)
resyncs_role old new o steps (OfMaster r) s = (steps r s).role
resyncs_role old new o steps (OfAgent r) s = absurd s
resyncs_role old new o steps (OfApp r) s = absurd s

-- who runs
pub master_at : (w : World) (e : ℕ) (o : Option MasterRecord) → StandsAt MasterStands o (seen w Masters e) → MasterAt w e o
master_at w e o s = by (find nat_cmp e w.masters) refl o s
  where
    by : (f : Option Master) → find nat_cmp e w.masters ≡ f → (o : Option MasterRecord) → StandsAt MasterStands o (option_map (λ M. OfMaster (master_seen w M)) f) → MasterAt w e o
    by None is None s = is
    by None is (Some m) s = absurd s
    by (Some M) is None s = absurd s
    by (Some M) is (Some m) s = record { master = M; runs = is; stands = s }

-- Starts
pub master_started_in : ((w : World) (h : HardState) (e : ℕ) → Good w → w.hard.fence < e → MasterStarts w h e) → (c : ClusterRecord) (h : HardState) (e : ℕ) (m : MasterRecord) (old new : SlotsRecord MasterRecord) (result : Result (Unit {0}) OutOfMemory)
    → StandsFor m.core (master_started c h e) → OnOk result (StartInWorld MasterStands e m 0 old new) → OnOk result (MasterStartInWorld c h e old new)
master_started_in join c h e m old new (Err fault) stands start = tt
master_started_in join c h e m old new (Ok done) stands start = λ w good s cluster later.
    let x = join w h e good later in
    record { stand = start w (master_after w h e) Masters (OfMaster (master_started w.cluster h e)) s x (subst (λ k. StandsFor m.core (master_started k h e)) cluster stands); acts = x.acts }

-- Stops
turned : {X : Type 0} (b : Bool) (o : Option X) → cond (not b) o None ≡ cond b None o
turned true o = refl
turned false o = refl

-- what is found after a key is gone
find_without : {X : Type 0} (es : List (ℕ × X)) (e q : ℕ) → find nat_cmp q (where_key nat_cmp (λ k. not (nat_eq k e)) es) ≡ cond (nat_eq q e) None (find nat_cmp q es)
find_without es e q =
    find-where_key nat_cmp (λ k. not (nat_eq k e)) q (λ x t. ap (λ k. not (nat_eq k e)) (sym (number_is q x (sym (ties q x) ∙ ap is_eq t)))) es ∙ turned (nat_eq q e) (find nat_cmp q es)

abbrev seen_as : World → Option Master → Option Role
seen_as w o = option_map (λ M. OfMaster (master_seen w M)) o

left_over : (w : World) (e : ℕ) (h : HardState) (old new : SlotsRecord MasterRecord) → AreMastersOf w old → IsGone e old new → AreMastersOf (without_master w e h) new
left_over w e h old new s gone = stand_now MasterStands w (without_master w e h) Masters e None None old new s
    (ap (seen_as w) (find_without w.masters e e ∙ ap (λ b. cond b None (find nat_cmp e w.masters)) (nat_itself e)))
    (λ m other. ap (seen_as w) (find_without w.masters e m ∙ ap (λ b. cond b None (find nat_cmp m w.masters)) (eq_turned m e ∙ other)))
    refl (λ m other. refl) tt refl gone

-- for whom there is a slot runs, and no other
alike : (o : Option MasterRecord) (r : Option Role) → StandsAt MasterStands o r → is_some o ≡ is_some r
alike None None s = refl
alike None (Some r) s = absurd s
alike (Some m) None s = absurd s
alike (Some m) (Some r) s = refl

some_seen : (w : World) (o : Option Master) → is_some (seen_as w o) ≡ is_some o
some_seen w None = refl
some_seen w (Some M) = refl

pub slots_alike : (w : World) (x : SlotsRecord MasterRecord) (e : ℕ) → AreMastersOf w x → is_some (entry_at x e) ≡ is_some (find nat_cmp e w.masters)
slots_alike w x e s = s.full e ∙ alike (slot_at x e) (seen w Masters e) (s.each e) ∙ some_seen w (find nat_cmp e w.masters)

stopped : World → ℕ → Option Master → Step
stopped w e o = with_found o (refused w NotRunning) (λ M. prints_nothing (record w { masters = where_key nat_cmp (λ k. not (nat_eq k e)) w.masters }))

left : (w : World) (e : ℕ) (old new : SlotsRecord MasterRecord) (o : Option Master) → AreMastersOf w old → IsGone e old new → find nat_cmp e w.masters ≡ o → AreMastersOf (stopped w e o).world new
unfolding stopped
left w e old new (Some M) s gone is = left_over w e w.hard old new s gone
left w e old new None s gone is =
    let none : entry_at old e ≡ None = none_is _ (slots_alike w old e s ∙ ap is_some is) in
    stand_same MasterStands w Masters e old new s (record { here = gone.here ∙ sym none; others = gone.others })

pub stop_in : (e : ℕ) (old new : SlotsRecord MasterRecord) (b : Bool) → IsGone e old new → b ≡ is_some (entry_at old e) → StopInWorld e old new b
unfolding stopped
stop_in e old new b gone is w s = record { stand = left w e old new (find nat_cmp e w.masters) s gone refl; left = λ h. left_over w e h old new s gone; answers = is ∙ slots_alike w old e s }

-- Commands
abbrev pub GovernsJoin : Type 0
GovernsJoin = (w : World) (e : ℕ) (x : MasterCommand) → Good w → Governs w e x (seen w Masters e)

-- the master knows what is written, as a good world says
pub knows_written : (e : ℕ) (h : HardState) (m : MasterRecord) (x : SlotsRecord MasterRecord) → AreMastersOver h x → slot_at x e ≡ Some m → KnowsWritten h m.core
knows_written e h m x over is =
    let w = over.world in
    let good = over.good in
    let r : MasterRunsAs w e m.core = master_at w e (Some m) (at_slot MasterStands w Masters e (Some m) x over.stand is) in
    let shown = good.stands.masters e r.master r.runs in
    subst (λ k. KnowsWritten k m.core) (sym over.hard) (record {
      role = master_seen w r.master;
      stands = r.stands;
      ran = subst (λ n. n ≤ w.hard.fence) (sym shown.epoch) shown.ran;
      jobs = (good.knows e r.master r.runs).marks;
    })

-- one that is done or refused by the master alone is so in the world
pub obeyed_here : GovernsJoin → (e : ℕ) (x : MasterCommand) (h k : HardState) (p q : MasterRecord) (answer : Option Refusal) (old new : SlotsRecord MasterRecord) → slot_at old e ≡ Some p → IsSet e (Some q) (boot_at old e) old new
    → ((r : MasterRole) → StandsFor p.core r → ObeyedAs r h k q.core answer (master_commanded r h x)) → ObeyInWorld e x h k old new (Some answer)
obeyed_here join e x h k p q answer old new was set core w good s hard = by (seen w Masters e) refl (at_slot MasterStands w Masters e (Some p) old s was) (join w e x good)
  where
    obeyed : (r : MasterRole) (answer : Option Refusal) (step : Result (MasterRole × HardState) WrittenRefusal) → seen w Masters e ≡ Some (OfMaster r) → GovernsAs w e (commanded w e x) step → ObeyedAs r h k q.core answer step → ObeysOneIn w e x k new (Some answer)
    obeyed r None (Ok d) runs g o = record { stand = stand_set MasterStands w _ Masters e (OfMaster d.0) [] q (boot_at old e) old new s g.acts (s.last e) o.0 set; role = OfMaster d.0; acts = g.acts; hard = o.1 ∙ sym g.hard; quiet = g.lines }
    obeyed r None (Err f) runs g o = absurd o
    obeyed r (Some why) (Ok d) runs g o = absurd o
    obeyed r (Some why) (Err f) runs g o = record { same = g ∙ ap (refused w) o.2; stand = stand_still MasterStands w Masters e (OfMaster r) q old new s runs o.0 set; hard = o.1 ∙ hard }

    by : (o : Option Role) → seen w Masters e ≡ o → StandsAt MasterStands (Some p) o → Governs w e x o → ObeysOneIn w e x k new (Some answer)
    by None runs st g = absurd st
    by (Some (OfAgent r)) runs st g = absurd g
    by (Some (OfApp r)) runs st g = absurd g
    by (Some (OfMaster r)) runs st g = obeyed r answer (master_commanded r h x) runs (subst (λ y. GovernsAs w e (commanded w e x) (master_commanded r y x)) (sym hard) g) (core r st)

pub obeyed_none : GovernsJoin → (e : ℕ) (x : MasterCommand) (h : HardState) (old new : SlotsRecord MasterRecord) → IsNone e old new → ObeyInWorld e x h h old new None
obeyed_none join e x h old new none w good s hard = by (seen w Masters e) (at_slot MasterStands w Masters e None old s none.was) (join w e x good)
  where
    by : (o : Option Role) → StandsAt MasterStands None o → Governs w e x o → ObeysOneIn w e x h new None
    by None st g = record { same = g; stand = stand_same MasterStands w Masters e old new s none.now; hard = hard }
    by (Some r) st g = absurd st

-- At rest. Nothing was written
pub rests_still : (k : Kept) (result : Result (Option (Option Refusal)) CommandError) (told : Option Told) → WhereTold (RestsAgain k k result) told told
rests_still k result None = tt
rests_still k (Ok a) (Some t) = λ rest. rest
rests_still k (Err f) (Some t) = λ rest. tt

-- or what a command leaves
pub rests_obeyed : (before after : Kept) (h : HardState) (first : Result (MasterRecord × Option Refusal) CommandError) (result : Result (Option (Option Refusal)) CommandError) → ((X : Type 0) → OnOk first X → OnOk result X) → (old new : Option Told) → WhereTold (LeavesOrder before after h first) old new → WhereTold (RestsAgain before after result) old new
rests_obeyed before after h first result same None new told = tt
rests_obeyed before after h first result same (Some t) None told = told
rests_obeyed before after h first result same (Some t) (Some u) told = λ rest. same _ (told rest).1

-- Epochs, of two lists in order with the same ones
rises : (es : List (ℕ × Master)) → T (is_sorted nat_cmp es) → IsStrictlySortedBy nat_cmp (epochs_of es)
unfolding IsStrictlySortedBy
rises [] h = tt
rises (e ∷ es) h = let b = both_true (below_all nat_cmp e.0 es) _ h in (above e.0 es b.0, rises es b.1)
  where
    above : (n : ℕ) (es : List (ℕ × Master)) → T (below_all nat_cmp n es) → AllByRecursion (λ y. nat_cmp n y ≡ Less) (epochs_of es)
    above n [] h = tt
    above n (f ∷ es) h = let b = both_true (is_lt (nat_cmp n f.0)) _ h in (lesser _ b.0, above n es b.1)

looked_up : {X : Type 0} (test : ℕ → Bool) (es : List (ℕ × X)) → list_any test (keys_of es) ≡ is_some (lookup test es)
looked_up test [] = refl
looked_up {X} test (e ∷ es) = by (test e.0) (looked_up test es)
  where
    by : (b : Bool) → list_any test (keys_of es) ≡ is_some (lookup test es) → (b || list_any test (keys_of es)) ≡ is_some (cond b (Some e.1) (lookup test es))
    by true rest = refl
    by false rest = rest

pub epochs_same : (w : World) (x : SlotsRecord MasterRecord) → T (is_sorted nat_cmp w.masters) → IsStrictlySortedBy nat_cmp (keys_of x.slots) → AreMastersOf w x → epochs_of w.masters ≡ keys_of x.slots
epochs_same w x sorted rising s = btree_set_from_contains nat_cmp_total (record { keys = epochs_of w.masters }) (record { keys = keys_of x.slots }) (rises w.masters sorted) rising
    (λ e. sym (is_some-find nat_cmp e w.masters) ∙ sym (slots_alike w x e s) ∙ sym (looked_up (is_at (nat_cmp e)) x.slots)) exact_unsigned
