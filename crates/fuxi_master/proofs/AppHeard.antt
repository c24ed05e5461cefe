-- A core that heard an application is in order, but that its grants do not have a new boot yet.
use Rattle.std.proofs.Common.{◌≡◌, ℕ, ◌<◌, ◌≤◌, Bool, true, false, cond, not, nat_eq, nat_lt, length, set, Option, Some, None, Ok, slice_get, refl, sym, ◌∙◌, ap, subst, arith}
use Rattle.std.specs.Prelude.{◌&&◌, ◌||◌, is_some, IfSome, if◌then◌else◌}
use Rattle.std.proofs.lemmas.Bool.Decides.{nat_tests}
use Rattle.std.proofs.lemmas.Option.{slice_get_within, IfSome_then}
use Rattle.fuxi_terms.specs.Counts.{count}
use Rattle.fuxi_terms.specs.Jobs.{is_known, is_live, has_ended, unit_count}
use Rattle.fuxi_terms.specs.Keys.{key_cmp}
use Rattle.fuxi_terms.specs.Tallies.{ChangeRecord, empty_tally}
use Rattle.fuxi_terms.specs.declared.Key.{Key}
use Rattle.fuxi_terms.specs.Cluster.{has_machine}
use Rattle.fuxi_terms.specs.TallyKeys.{back_key, credited_key, greatest_grant}
use Rattle.fuxi_terms.proofs.Booleans.{and_true, both_true, both_false, nat_itself, number_is, eq_turned}
use Rattle.fuxi_terms.proofs.CountsLemmas.{count_where}
use Rattle.fuxi_terms.proofs.KeyOrders.{same_key}
use Rattle.ledger_law.specs.Shapes.{IsTally}
use Rattle.party_ledgers.specs.declared.packets.Heard.{Heard}
use Rattle.party_ledgers.specs.declared.packets.Body.TheVariants.{DemandDelta}
use Rattle.party_ledgers.specs.declared.packets.Packet.{Packet}
use Rattle.spec_net.specs.Net.{hear, is_taken}
use Rattle.spec_net.specs.Ledgers.{Ledger, nothing, at_key, TallyChange}
use Rattle.spec_net.specs.Channels.{master_id, app_id, dropped_by}
use Rattle.spec_net.specs.Sides.{Side, HeardSide, greatest_from, patched_by}
use Rattle.spec_roles.specs.Masters.{credited_of, demand_of}
use Rattle.grant_table.specs.GrantTables.{as_known}
use Rattle.place_pass.specs.Placers.{is_named}
use Rattle.spec_roles.specs.MasterSteps.{master_party, is_there, counted}
use Rattle.spec_roles.specs.MasterRoles.{MasterRole, report_excess}
use Rattle.peer_channel.specs.Bodies.{tally_of}
use Rattle.peer_channel.specs.Parcels.{packet_of, parcel_is, content_of}
use Rattle.peer_channel.specs.CoreSides.{HearsAlike}
use Rattle.ledger_updates.specs.AllShown.{App, ShowsJob}
use Rattle.fuxi_master.specs.Cores.{CoreRecord, IsNear, IsCore, HasBoots, IsWithin, StandsFor, patched_grants}
use Rattle.fuxi_master.specs.Heard.{heard_of, with_heard, HearsApp, IsAppHeard, ChangesAsked}
use Rattle.fuxi_master.specs.ToldAsHeard.{IsHeardOnly, ToldButAt}
use Rattle.fuxi_master.proofs.AppHeardAlike.{each_app, heard_side, stands_heard, hears_app}
use Rattle.fuxi_master.proofs.ChangedTallies.{IsLeft, left_untaken, made_taken, tally_left}
use Rattle.fuxi_master.proofs.DemandTaken.{live_is}
use Rattle.fuxi_master.proofs.NewlyCredited.{back_there, credited_shown}
use Rattle.fuxi_master.proofs.Projected.{units_alike}
use Rattle.fuxi_master.proofs.Indexed.{each_set, length_set}

module _ (x : CoreRecord) (core : IsCore x) (a : ℕ) (old new : App) (packet : Packet) (heard : Heard)
    (at : slice_get x.apps a ≡ Some (Some old)) (known : is_known x.known.jobs a ≡ true) (hears : HearsAlike empty_tally patched_grants (IsTally greatest_grant) tally_of tally_of (λ l. None) packet old new heard)
    (outgoing : new.outgoing ≡ old.outgoing) (to : (packet_of packet).to.id ≡ master_id) where
  lt : a < length x.apps
  lt = slice_get_within x.apps a (Some old) at

  abbrev after : CoreRecord
  after = record x { apps = set x.apps a (Some new) }

  each : (P : ℕ → App → Type 0) → P a new → ((b : ℕ) (d : App) → nat_eq a b ≡ false → slice_get x.apps b ≡ Some (Some d) → P b d) → (b : ℕ) (d : App) → slice_get (set x.apps a (Some new)) b ≡ Some (Some d) → P b d
  each P here others = each_app x a old new packet heard lt at known hears outgoing to core.near.role core.near.stands P here others

  heard_near : IsNear after
  heard_near = record {
    kept = record {
      epoch = core.near.kept.epoch;
      numbers = core.near.kept.numbers;
      jobs = core.near.kept.jobs;
      agents = core.near.kept.agents;
      apps = λ b e. let lt = core.near.kept.apps b e in let wide = length_set x.apps a (Some new) in omega (arith, lt, wide);
      slots = each_set (λ b o. is_some o ≡ is_known x.known.jobs b) x.apps a (Some new) lt (sym known) (λ b o _ e. core.near.kept.slots b o e);
      size = core.near.kept.size;
      rising = core.near.kept.rising;
      below = core.near.kept.below;
      agents_own = core.near.kept.agents_own;
      apps_own = each (λ _ (d : App). d.outgoing.own ≡ x.epoch) (ap (λ o. o.own) outgoing ∙ core.near.kept.apps_own a old at) (λ b d _ e. core.near.kept.apps_own b d e);
    };
    waits = core.near.waits;
    up = core.near.up;
    touched = core.near.touched;
    rows = core.near.rows;
    grants = each (λ b d. ShowsJob b x.reported.numbers x.allotment.table.entries d.outgoing.present) (subst (ShowsJob a x.reported.numbers x.allotment.table.entries) (ap (λ o. o.present) (sym outgoing)) (core.near.grants a old at)) (λ b d _ e. core.near.grants b d e);
    role = with_heard core.near.role (app_id a) (heard_of core.near.role (app_id a) packet);
    stands = stands_heard x a old new packet heard lt at known hears outgoing to core.near.role core.near.stands;
  }

  heard_boots : heard.fresh ≡ nat_lt old.incoming.place.inc packet.from.inc → new.incoming.place.inc ≡ (if nat_lt old.incoming.place.inc packet.from.inc then packet.from.inc else old.incoming.place.inc) → HasBoots (λ b. heard.fresh && nat_eq b a) after
  heard_boots fresh peer = record {
    known = each (λ b (d : App). (heard.fresh && nat_eq b a) ≡ false → d.outgoing.present.head ≡ d.incoming.place.inc)
        (λ off. ap (λ o. o.present.head) outgoing ∙ core.boots.known a old at refl ∙ sym (same (sym (ap (λ t. heard.fresh && t) (nat_itself a)) ∙ off)))
        (λ b d other e _. core.boots.known b d e refl);
    unknown = each (λ b (d : App). (heard.fresh && nat_eq b a) ≡ true → d.outgoing.present.head < d.incoming.place.inc)
        (λ on.
        let f : nat_lt old.incoming.place.inc packet.from.inc ≡ true = sym fresh ∙ (both_true heard.fresh (nat_eq a a) on).0 in
        let inc : new.incoming.place.inc ≡ packet.from.inc = peer ∙ ap (λ b. if b then packet.from.inc else old.incoming.place.inc) f in
        let head : new.outgoing.present.head ≡ old.incoming.place.inc = ap (λ o. o.present.head) outgoing ∙ core.boots.known a old at refl in
        let less : old.incoming.place.inc < packet.from.inc = grind (arith, nat_tests, f) in
        omega (arith, less, inc, head))
        (λ b d other e on. absurd (let t = (both_true heard.fresh (nat_eq b a) on).1 in let f : nat_eq a b ≡ true = grind (arith, nat_tests, t) in let g : true ≡ false = sym f ∙ other in cc));
  }
    where
      same : (heard.fresh && true) ≡ false → new.incoming.place.inc ≡ old.incoming.place.inc
      same off =
          let f : nat_lt old.incoming.place.inc packet.from.inc ≡ false = sym fresh ∙ by heard.fresh off in
          peer ∙ ap (λ b. if b then packet.from.inc else old.incoming.place.inc) f
        where
          by : (b : Bool) → (b && true) ≡ false → b ≡ false
          by true e = e
          by false e = refl

  abbrev R : MasterRole
  R = core.near.role

  abbrev heard_now : HeardSide
  heard_now = heard_of R (app_id a) packet

  alike : HearsApp a packet heard after R
  alike = hears_app x a old new packet heard lt at known hears outgoing to R core.near.stands

  -- what was received of it
  untaken_got : is_taken heard.what ≡ false → heard_now.side.got ≡ cond heard.fresh nothing (R.sides (app_id a)).got
  untaken_got off =
      let e = R.sides (app_id a) in
      left_untaken (hear (master_party R.state) true (length e.sent) e.link (packet_of packet)) e (parcel_is packet) (report_excess R.cluster R.state (app_id a)) (ap is_taken (sym alike.says) ∙ off)
      ∙ ap (λ f. cond f nothing e.got) (sym alike.fresh)

  abbrev side_at : ℕ → Bool → Side
  side_at b t = elim t as (λ _. Side) [ true ↦ heard_now.side | false ↦ R.sides (app_id b) ]

  -- so what was told of the others is what was received of them
  heard_only : IsHeardOnly a heard.fresh (is_taken heard.what) (with_heard R (app_id a) heard_now)
  heard_only = record {
    others = record {
      told = λ b off live head. elim (nat_eq a b) as (λ t. nat_eq a b ≡ t → (side_at b t).got.head ≡ R.state.epoch → demand_of R.state b ≡ counted R.cluster R.state.jobs b (side_at b t).got) [
        | true ↦ λ e head.
            let quiet = both_false heard.fresh (is_taken heard.what) (other_false (heard.fresh || is_taken heard.what) (nat_eq b a) off (eq_turned b a ∙ e)) in
            let same : heard_now.side.got ≡ (R.sides (app_id b)).got = untaken_got quiet.1 ∙ ap (λ f. cond f nothing (R.sides (app_id a)).got) quiet.0 ∙ ap (λ (k : ℕ). (R.sides (app_id k)).got) (number_is a b e) in
            core.told.told b refl live (ap (λ (l : Ledger). l.head) (sym same) ∙ head) ∙ ap (counted R.cluster R.state.jobs b) (sym same)
        | false ↦ λ e head. core.told.told b refl live head
      ] refl head;
      credits = λ b u m _. core.told.credits b u m refl;
    };
    bare = λ fresh off head.
        let got : heard_now.side.got ≡ nothing = untaken_got off ∙ ap (λ f. cond f nothing (R.sides (app_id a)).got) fresh in
        let zero : 0 ≡ R.state.epoch = ap (λ (l : Ledger). l.head) (sym got) ∙ ap (λ t. (side_at a t).got.head) (sym (nat_itself a)) ∙ head in
        let epoch = core.near.stands.stands.epoch in
        let positive = core.near.kept.epoch in
        omega (arith, zero, epoch, positive);
  }
    where
      other_false : (p q : Bool) → (p && q) ≡ false → q ≡ true → p ≡ false
      other_false true q e t = absurd (let f : true ≡ false = sym t ∙ e in cc)
      other_false false q e t = refl

  -- a change of a demand that counted names the keys at which it asks otherwise now
  module _ (counted_before : (nat_eq old.incoming.received.head x.epoch && not (has_ended x.known.jobs a)) ≡ true) (change : ChangeRecord) (body : packet.body ≡ DemandDelta change) where
    change_left : heard.fresh ≡ false → is_taken heard.what ≡ true → IsLeft (greatest_from (packet_of packet).from.id) change (R.sides (app_id a)).got heard_now.side.got
    change_left fresh taken =
        let e = R.sides (app_id a) in
        let from = (packet_of packet).from.id in
        let made = made_taken (hear (master_party R.state) true (length e.sent) e.link (packet_of packet)) e (parcel_is packet) (report_excess R.cluster R.state (app_id a)) (ap is_taken (sym alike.says) ∙ taken) in
        let one : patched_by from e.got (TallyChange change) ≡ Ok heard_now.side.got = (λ i. patched_by from (cond ((sym fresh ∙ alike.fresh) i) nothing e.got) (content_of (sym body i))) ∙ made in
        tally_left (greatest_from from) (dropped_by from) e.got heard_now.side.got change one

    asked_new : heard.fresh ≡ false → is_taken heard.what ≡ true → new.incoming.received.head ≡ x.epoch → ToldButAt change.entries a new.incoming.received.entries new.outgoing.present.entries x.allotment
    asked_new fresh taken now =
        let h = core.near.stands in
        let e = R.sides (app_id a) in
        let p = is_there R.cluster (unit_count R.state.jobs a) in
        let left = change_left fresh taken in
        let counts = both_true (nat_eq old.incoming.received.head x.epoch) (not (has_ended x.known.jobs a)) counted_before in
        let got_old = (h.stands.apps a old at).got in
        let got_new = (heard_side x a old new packet heard lt at known hears outgoing to R h).side.got in
        let before : e.got.head ≡ x.epoch = ap (λ (l : Ledger). l.head) got_old ∙ number_is old.incoming.received.head x.epoch counts.0 in
        let kept : change.head ≡ e.got.head = sym left.head ∙ ap (λ (l : Ledger). l.head) got_new ∙ now ∙ sym before in
        let live : is_live R.state.jobs a ≡ true = ap (λ js. is_live js a) h.stands.jobs ∙ live_is x.known.jobs a known ∙ counts.1 in
        let told = core.told.told a refl live (before ∙ sym h.stands.epoch) in
        let stays : (k : Key) → is_named k change.entries ≡ false → count key_cmp e.got.entries k ≡ count key_cmp new.incoming.received.entries k = λ k off. sym (left.entries kept k off) ∙ ap (λ (l : Ledger). count key_cmp l.entries k) got_new in
        record {
          asks = record {
            cluster = R.cluster;
            master = R.state;
            allots = h.stands.allots;
            asks = λ k off.
                ap (λ l. at_key l k) told
                ∙ count_where key_cmp same_key p e.got.entries k
                ∙ ap (λ n. cond (p k) n 0) (stays k off)
                ∙ sym (count_where key_cmp same_key p new.incoming.received.entries k);
          };
          credits = λ k off back unit machine.
              let what = number_is k.what 5 back in
              let named : back_key k.unit k.number ≡ k = (λ i. record { what = sym what i; unit = k.unit; number = k.number }) in
              let units = units_alike (as_known x.allotment.table.jobs) R.state.jobs h.stands.allots.placing.jobs a in
              let there : p k ≡ true = back_there R.cluster (unit_count R.state.jobs a) k back ∙ (λ i. nat_lt k.unit (length (sym units i)) && has_machine (sym h.stands.allots.placing.cluster i) k.number) ∙ and_true _ _ unit machine in
              let had : at_key (demand_of R.state a) k ≡ count key_cmp new.incoming.received.entries k = ap (λ l. at_key l k) told ∙ count_where key_cmp same_key p e.got.entries k ∙ ap (λ b. cond b (count key_cmp e.got.entries k) 0) there ∙ stays k off in
              let paid : at_key (demand_of R.state a) k ≤ count key_cmp (credited_of R.state a) (credited_key k.unit k.number) = subst (λ (q : Key). at_key (demand_of R.state a) q ≤ count key_cmp (credited_of R.state a) (credited_key k.unit k.number)) named (core.told.credits a k.unit k.number refl) in
              let shown : count key_cmp (credited_of R.state a) (credited_key k.unit k.number) ≡ count key_cmp new.outgoing.present.entries (credited_key k.unit k.number) = ap (λ cs. count key_cmp cs (credited_key k.unit k.number)) (h.stands.credited a old at) ∙ credited_shown old.outgoing.present.entries k.unit k.number ∙ ap (λ o. count key_cmp o.present.entries (credited_key k.unit k.number)) (sym outgoing) in
              omega (arith, had, paid, shown);
        }

    changes_asked : ChangesAsked a heard.fresh (is_taken heard.what) change after
    changes_asked = record {
      asks = λ d there. each (λ b (d : App). nat_eq a b ≡ true → heard.fresh ≡ false → is_taken heard.what ≡ true → d.incoming.received.head ≡ x.epoch → ToldButAt change.entries a d.incoming.received.entries d.outgoing.present.entries x.allotment)
          (λ _. asked_new)
          (λ b d off e t. absurd (let f : true ≡ false = sym t ∙ off in cc))
          a d there (nat_itself a);
    }

  heard_within : (n : ℕ) → IsWithin n x → IsWithin n after
  heard_within n w = record {
    agents = w.agents;
    apps = each (λ _ (d : App). d.outgoing.last ≤ n) (let last : new.outgoing.last ≡ old.outgoing.last = ap (λ o. o.last) outgoing in let le = w.apps a old at in omega (arith, last, le)) (λ b d _ e. w.apps b d e);
    turns = w.turns;
  }

  heard_alike : (r : MasterRole) → StandsFor x r → HearsApp a packet heard after r
  heard_alike r h = hears_app x a old new packet heard lt at known hears outgoing to r h

  pub app_heard : heard.fresh ≡ nat_lt old.incoming.place.inc packet.from.inc → new.incoming.place.inc ≡ (if nat_lt old.incoming.place.inc packet.from.inc then packet.from.inc else old.incoming.place.inc)
      → (change : Option ChangeRecord) → IfSome change (λ change. ((nat_eq old.incoming.received.head x.epoch && not (has_ended x.known.jobs a)) ≡ true) × (packet.body ≡ DemandDelta change)) → IsAppHeard a packet heard change x after
  unfolding heard_near
  app_heard fresh peer change told = record {
    near = heard_near;
    boots = heard_boots fresh peer;
    only = heard_only;
    within = heard_within;
    hears = heard_alike;
    asks = IfSome_then change told (λ change was. changes_asked was.0 change was.1);
  }
