-- A step of a core is the step of the master by itself.
use Rattle.std.proofs.Common.{inl, inr, ◌≡◌, ℕ, ◌+◌, ◌^◌, ◌<◌, ◌≤◌, Bool, true, false, cond, nat_eq, nat_lt, List, [], ◌∷◌, ◌++◌, length, Option, Some, None, refl, sym, ◌∙◌, ap, subst, arith}
use Rattle.std.specs.Prelude.{◌&&◌, ◌||◌, ◌⊎◌}
use Rattle.fuxi_terms.specs.Cluster.{ClusterRecord}
use Rattle.fuxi_terms.specs.Jobs.{is_known}
use Rattle.fuxi_terms.specs.Limits.{most_steps}
use Rattle.fuxi_terms.specs.Numbers.{has_number, with_number}
use Rattle.std.proofs.lemmas.Bool.Decides.{nat_tests}
use Rattle.fuxi_terms.specs.declared.answers.What.TheVariants.{Stranger}
use Rattle.fuxi_terms.specs.declared.vectors.Res.{Res}
use Rattle.fuxi_terms.specs.declared.vectors.Sum.{Sum}
use Rattle.fuxi_terms.proofs.Alls.{all_more}
use Rattle.fuxi_terms.proofs.Booleans.{both_true, nat_itself, and_false}
use Rattle.schedule_unit.specs.declared.party.MachineNo.{MachineNo}
use Rattle.party_ledgers.specs.declared.packets.Heard.{Heard}
use Rattle.party_ledgers.specs.declared.packets.Packet.{Packet}
use Rattle.spec_net.specs.Net.{Id, Party, same_id, is_taken}
use Rattle.spec_net.specs.Ledgers.{Ledger}
use Rattle.spec_net.specs.Channels.{master_id, agent_id, app_id, is_agent}
use Rattle.spec_net.specs.Sides.{Side, HeardSide, Parcel, hears_side}
use Rattle.spec_roles.specs.Masters.{Master}
use Rattle.spec_roles.specs.Placing.{line_up}
use Rattle.spec_roles.specs.MasterSteps.{master_party, talks, settled_if_serving, is_all_reported, told_of, adopted_of, adopts, adopted, take_report, take_demand, meet_app, said}
use Rattle.spec_roles.specs.MasterRoles.{MasterRole, set_side, publish_alone, offers_alone, side_after, ends_alone, report_excess, MasterHeard, master_hears_alone, master_told}
use Rattle.peer_channel.specs.Parcels.{packet_of, parcel_is}
use Rattle.ledger_updates.specs.declared.grants.StepChanges.{StepChanges}
use Rattle.ledger_updates.specs.AllShown.{Down}
use Rattle.fuxi_master.specs.Cores.{CoreRecord, IsNear, IsCore, HasBoots, IsWithin, IsWithinSoon, StandsFor}
use Rattle.fuxi_master.specs.ToldAsHeard.{IsToldAsHeard, IsHeardOnly}
use Rattle.fuxi_master.specs.Heard.{heard_of, with_heard, HearsAgent, HearsApp, Changes, AreStepChanges, adopting, adopting_role, demanding}
use Rattle.fuxi_master.specs.Steps.{HasRole, EndsAlike, HearsRole, agent_named, app_named, forced_by}
use Rattle.fuxi_master.proofs.PeersSides.{same_peer}
use Rattle.fuxi_master.proofs.Quiet.{quiet_ends}

-- bounds grow
pub wider : (n : ℕ) (x : CoreRecord) → IsWithin n x → IsWithin (n + 1) x
wider n x w = record {
  agents = all_more (λ (d : Down). d.outgoing.last ≤ n) (λ (d : Down). d.outgoing.last ≤ n + 1) (λ d le. omega (arith, le)) x.agents w.agents;
  apps = λ a d e. let le = w.apps a d e in omega (arith, le);
  turns = let t = w.turns in omega (arith, t);
}

pub soon : (n : ℕ) (x : CoreRecord) → IsWithin n x → IsWithinSoon n x
soon n x w = record { agents = w.agents; apps = w.apps; turns = let t = w.turns in omega (arith, t) }

-- in the middle of a step there is such a master by itself
pub has_role : (news : StepChanges) (to : MasterRole → MasterRole) (x y : CoreRecord) (near : IsNear x) → Changes news to x y → IsToldAsHeard (λ _. false) (to near.role) → HasRole news y
has_role news to x y near changes told = record { role = to near.role; stands = changes.stands near.role near.stands; told = told }

-- a line that is up to date plays no part at the end
pub ends_lined : (c : ClusterRecord) (sides : Id → Side) (M : Master) (even_if_equal : List Id) → line_up (line_up M) ≡ line_up M → ends_alone c sides (line_up M) even_if_equal ≡ ends_alone c sides M even_if_equal
ends_lined c sides M even_if_equal e = ap {A = Master} (λ K. record { cluster = c; state = settled_if_serving c (record K { serving = M.serving || is_all_reported c M }); sides = publish_alone sides (offers_alone c sides (settled_if_serving c (record K { serving = M.serving || is_all_reported c M })) even_if_equal) }) e

-- a side that is put where it was
put_back : (sides : Id → Side) (q : Id) → set_side sides q (sides q) ≡ sides
put_back sides q = λ i d. at d i
  where
    at : (d : Id) → set_side sides q (sides q) d ≡ sides d
    at d = elim (same_id q d) as (λ b. same_id q d ≡ b → elim b as (λ _. Side) [ true ↦ sides q | false ↦ sides d ] ≡ sides d) [ true ↦ λ t. ap sides (same_peer q d t) | false ↦ λ _. refl ] refl

-- what a master has heard of a side is what it has become
heard_side : (r : MasterRole) (q : Id) (h : HeardSide) → (with_heard r q h).sides q ≡ h.side
heard_side r q h = ap (λ b. elim b as (λ _. Side) [ true ↦ h.side | false ↦ r.sides q ]) (and_itself q)
  where
    and_itself : (q : Id) → same_id q q ≡ true
    and_itself q = (λ i. nat_itself q.role i && nat_itself q.number i)

-- nothing of the state changes
nothing_told : (M : Master) (q : Id) (l : Ledger) → told_of M false false q l ≡ M
nothing_told M q l = elim (is_agent q) as (λ b. cond b (cond false (take_report M q.number l) M) (let M1 = meet_app false M q.number in cond false (take_demand M1 q.number l) M1) ≡ M) [ true ↦ refl | false ↦ refl ]

nothing_adopted : (M : Master) (q : Id) (l : Ledger) → adopted_of M false q l ≡ []
nothing_adopted M q l = elim (is_agent q) as (λ b. cond (b && false) (q ∷ []) [] ≡ []) [ true ↦ refl | false ↦ refl ]

module _ (law : (c : ClusterRecord) (sides : Id → Side) (M : Master) (even_if_equal : List Id) (q : Id) → publish_alone sides (offers_alone c sides M even_if_equal) q ≡ side_after c sides M even_if_equal q) where
  -- what is answered of a packet, and the role that it leads to
  abbrev Alike : CoreRecord → Heard → MasterHeard → Type 0
  Alike x heard t = (StandsFor x t.role) × (heard.fresh ≡ t.fresh) × (heard.what ≡ t.what)

  hears_from : (x : CoreRecord) (packet : Packet) (heard : Heard) (r : MasterRole) (t : MasterHeard) → master_hears_alone (report_excess r.cluster r.state) r (parcel_is packet) ≡ t → Alike x heard t → HearsRole packet x heard r
  hears_from x packet heard r t is a = record {
    role = subst (λ (m : MasterHeard). StandsFor x m.role) (sym is) a.0;
    fresh = a.1 ∙ ap (λ (m : MasterHeard). m.fresh) (sym is);
    says = a.2 ∙ ap (λ (m : MasterHeard). m.what) (sym is);
  }

  -- a packet that is for another party, or of one with whom the master does not talk
  abbrev unheard : MasterRole → MasterHeard
  unheard r = record { fresh = false; what = Stranger; role = r }

  abbrev told_by_peer : MasterRole → Id → Packet → MasterHeard
  told_by_peer r q packet = master_told r q (hears_side (master_party r.state) true (report_excess r.cluster r.state q) (r.sides q) (parcel_is packet))

  stranger_either : (strangers : (p : Party) (b : Bool) (excess : Ledger → Option (Sum × Res)) (e : Side) (x : Parcel) → (same_id x.packet.to.id p.id && b) ≡ false → hears_side p b excess e x ≡ record { fresh = false; what = Stranger; side = e }) → (x : CoreRecord) → IsCore x → (packet : Packet) (r : MasterRole) → StandsFor x r → (q : Id) (t : Bool) → (same_id (packet_of packet).to.id (master_party r.state).id && t) ≡ false → Alike x (record { fresh = false; what = Stranger }) (cond t (told_by_peer r q packet) (unheard r))
  stranger_either strangers x core packet r h q false off = (h, refl, refl)
  stranger_either strangers x core packet r h q true off =
      let c = r.cluster in
      let M = r.state in
      let l = said c M q (r.sides q).got in
      let path : told_by_peer r q packet ≡ record { fresh = false; what = Stranger; role = ends_alone c r.sides M [] } =
      ap (master_told r q) (strangers (master_party M) true (report_excess c M q) (r.sides q) (parcel_is packet) off)
      ∙ (λ i. record { fresh = false; what = Stranger; role = ends_alone c (put_back r.sides q i) (nothing_told M q l i) (nothing_adopted M q l i) }) in
      subst (Alike x (record { fresh = false; what = Stranger })) (sym path) (quiet_ends law x core r h, refl, refl)

  pub stranger_hears : (strangers : (p : Party) (b : Bool) (excess : Ledger → Option (Sum × Res)) (e : Side) (x : Parcel) → (same_id x.packet.to.id p.id && b) ≡ false → hears_side p b excess e x ≡ record { fresh = false; what = Stranger; side = e }) → (x : CoreRecord) → IsCore x → (packet : Packet) → (same_id (packet_of packet).to.id master_id ≡ false) ⊎ ((r : MasterRole) → StandsFor x r → talks r.cluster r.state (packet_of packet).from.id ≡ false) → (r : MasterRole) → StandsFor x r → HearsRole packet x (record { fresh = false; what = Stranger }) r
  stranger_hears strangers x core packet why r h = hears_from x packet (record { fresh = false; what = Stranger }) r
      (cond (talks r.cluster r.state (packet_of packet).from.id) (told_by_peer r (packet_of packet).from.id packet) (unheard r)) refl
      (stranger_either strangers x core packet r h (packet_of packet).from.id (talks r.cluster r.state (packet_of packet).from.id) (by why))
    where
      by : (same_id (packet_of packet).to.id master_id ≡ false) ⊎ ((r : MasterRole) → StandsFor x r → talks r.cluster r.state (packet_of packet).from.id ≡ false) → (same_id (packet_of packet).to.id master_id && talks r.cluster r.state (packet_of packet).from.id) ≡ false
      by (inl e) = ap (λ b. b && talks r.cluster r.state (packet_of packet).from.id) e
      by (inr f) = ap (λ b. same_id (packet_of packet).to.id master_id && b) (f r h) ∙ and_false (same_id (packet_of packet).to.id master_id)

  -- a packet of a peer
  from_peer : (packet : Packet) (r : MasterRole) (q : Id) → (packet_of packet).from.id ≡ q → talks r.cluster r.state q ≡ true → master_hears_alone (report_excess r.cluster r.state) r (parcel_is packet) ≡ told_by_peer r q packet
  from_peer packet r q from talk = (λ i. cond (talks r.cluster r.state (from i)) (told_by_peer r (from i) packet) (unheard r)) ∙ ap (λ b. cond b (told_by_peer r q packet) (unheard r)) talk

  -- an agent's packet that brings no report that is adopted
  pub agent_quiet : (x : CoreRecord) → IsCore x → (m : ℕ) (packet : Packet) (heard : Heard) (due : Bool) (r : MasterRole) → HearsAgent m packet heard due x r → due ≡ false → (packet_of packet).from.id ≡ agent_id m → talks r.cluster r.state (agent_id m) ≡ true → HearsRole packet x heard r
  agent_quiet x core m packet heard due r ha off from talk =
      let c = r.cluster in
      let M = r.state in
      let h = heard_of r (agent_id m) packet in
      let taken = is_taken h.what in
      let none : (taken && adopts M m h.side.got) ≡ false = sym ha.due_is ∙ off in
      let state : told_of M h.fresh taken (agent_id m) h.side.got ≡ M = not_adopted M m h.side.got taken none in
      let even_if_equal : adopted_of M taken (agent_id m) h.side.got ≡ [] = ap (λ b. cond b (agent_id m ∷ []) []) none in
      hears_from x packet heard r (told_by_peer r (agent_id m) packet) (from_peer packet r (agent_id m) from talk)
      (subst (StandsFor x) (λ i. ends_alone c (set_side r.sides (agent_id m) h.side) (sym state i) (sym even_if_equal i)) (quiet_ends law x core (with_heard r (agent_id m) h) ha.role), ha.fresh, ha.says)
    where
      not_adopted : (M : Master) (m : ℕ) (l : Ledger) (t : Bool) → (t && adopts M m l) ≡ false → cond t (take_report M m l) M ≡ M
      not_adopted M m l true e = ap (λ b. cond b (record M { reported = with_number m M.reported; table = cond (has_number m M.bans) M.table (adopted M.jobs m l.rows M.table) }) M) e
      not_adopted M m l false e = refl

  -- one that brings such a report
  pub agent_adopted : (x y v : CoreRecord) (machine : MachineNo) (packet : Packet) (heard : Heard) (due : Bool) (news : StepChanges) (r : MasterRole) → HearsAgent machine.0 packet heard due x r → due ≡ true → (packet_of packet).from.id ≡ agent_id machine.0 → talks r.cluster r.state (agent_id machine.0) ≡ true
      → AreStepChanges (Some machine) None news → Changes news (adopting_role machine.0) x y → ((s : MasterRole) → StandsFor x s → line_up (adopting_role machine.0 s).state ≡ (adopting_role machine.0 s).state) → EndsAlike news y v → HearsRole packet v heard r
  agent_adopted x y v machine packet heard due news r ha on from talk is changes lined ends =
      let m = machine.0 in
      let c = r.cluster in
      let M = r.state in
      let h = heard_of r (agent_id m) packet in
      let taken = is_taken h.what in
      let both = both_true taken (adopts M m h.side.got) (sym ha.due_is ∙ on) in
      let r1 = with_heard r (agent_id m) h in
      let ended = ends (adopting_role m r1) (changes.stands r1 ha.role) in
      let got : (r1.sides (agent_id m)).got ≡ h.side.got = ap (λ (e : Side). e.got) (heard_side r (agent_id m) h) in
      let even_if_equal : forced_by news ≡ agent_id m ∷ [] = (λ i. agent_named (is.reported_is i) ++ app_named (is.admitted_is i)) in
      let state : told_of M h.fresh taken (agent_id m) h.side.got ≡ adopting M m h.side.got = (λ i. cond (both.0 i) (cond (both.1 i) (adopting M m h.side.got) M) M) in
      let due_one : adopted_of M taken (agent_id m) h.side.got ≡ agent_id m ∷ [] = (λ i. cond (both.0 i && both.1 i) (agent_id m ∷ []) []) in
      hears_from v packet heard r (told_by_peer r (agent_id m) packet) (from_peer packet r (agent_id m) from talk) (
        subst (StandsFor v) (ends_lined c r1.sides (adopting M m (r1.sides (agent_id m)).got) (forced_by news) (lined r1 ha.role)
            ∙ (λ i. ends_alone c r1.sides (adopting M m (got i)) (even_if_equal i)) ∙ (λ i. ends_alone c r1.sides (sym state i) (sym due_one i))) ended,
        ha.fresh,
        ha.says,
      )

  -- an application that is known by the boot that it had
  pub app_quiet_core : (x : CoreRecord) (near : IsNear x) (f t : Bool) (a : ℕ) → HasBoots (λ b. f && nat_eq b a) x → IsHeardOnly a f t near.role → f ≡ false → t ≡ false → IsCore x
  app_quiet_core x near f t a boots only off untaken = record {
    near = near;
    boots = record {
      known = λ b d e _. boots.known b d e (ap (λ t. t && nat_eq b a) off);
      unknown = λ b d e t. cc;
    };
    told = record { told = λ b _ live head. only.others.told b (λ i. (off i || untaken i) && nat_eq b a) live head; credits = λ b u m _. only.others.credits b u m (λ i. (off i || untaken i) && nat_eq b a) };
  }

  -- an application's packet that changes nothing of it
  pub app_kept : (x : CoreRecord) → IsCore x → (a : ℕ) (packet : Packet) (heard : Heard) (r : MasterRole) → HearsApp a packet heard x r → heard.fresh ≡ false → is_taken heard.what ≡ false → (packet_of packet).from.id ≡ app_id a → talks r.cluster r.state (app_id a) ≡ true → HearsRole packet x heard r
  app_kept x core a packet heard r ha old kept from talk =
      let c = r.cluster in
      let M = r.state in
      let h = heard_of r (app_id a) packet in
      let l = said c M (app_id a) h.side.got in
      let fresh : h.fresh ≡ false = sym ha.fresh ∙ old in
      let taken : is_taken h.what ≡ false = ap is_taken (sym ha.says) ∙ kept in
      let state : told_of M h.fresh (is_taken h.what) (app_id a) l ≡ M = (λ i. told_of M (fresh i) (taken i) (app_id a) l) in
      hears_from x packet heard r (told_by_peer r (app_id a) packet) (from_peer packet r (app_id a) from talk)
      (subst (StandsFor x) (λ i. ends_alone c (set_side r.sides (app_id a) h.side) (sym state i) []) (quiet_ends law x core (with_heard r (app_id a) h) ha.role), ha.fresh, ha.says)

  pub app_quiet : (x : CoreRecord) (near : IsNear x) (a : ℕ) (packet : Packet) (heard : Heard) (r : MasterRole) → HearsApp a packet heard x r → HasBoots (λ b. heard.fresh && nat_eq b a) x → IsHeardOnly a heard.fresh (is_taken heard.what) near.role → heard.fresh ≡ false → is_taken heard.what ≡ false → (packet_of packet).from.id ≡ app_id a → talks r.cluster r.state (app_id a) ≡ true → HearsRole packet x heard r
  app_quiet x near a packet heard r ha boots only old kept from talk =
      app_kept x (app_quiet_core x near heard.fresh (is_taken heard.what) a boots only old kept) a packet heard r ha old kept from talk

  -- one that does
  pub app_changed : (x y v : CoreRecord) (a : ℕ) (packet : Packet) (heard : Heard) (taken : Bool) (news : StepChanges) (r : MasterRole) → HearsApp a packet heard x r → taken ≡ is_taken heard.what → (packet_of packet).from.id ≡ app_id a → talks r.cluster r.state (app_id a) ≡ true
      → (news.reported ≡ None) × (news.admitted ≡ None) → Changes news (λ s. demanding heard.fresh taken s a) x y → EndsAlike news y v → HearsRole packet v heard r
  app_changed x y v a packet heard taken news r ha is from talk none changes ends =
      let c = r.cluster in
      let M = r.state in
      let h = heard_of r (app_id a) packet in
      let r1 = with_heard r (app_id a) h in
      let ended = ends (demanding heard.fresh taken r1 a) (changes.stands r1 ha.role) in
      let got : (r1.sides (app_id a)).got ≡ h.side.got = ap (λ (e : Side). e.got) (heard_side r (app_id a) h) in
      let even_if_equal : forced_by news ≡ [] = (λ i. agent_named (none.0 i) ++ app_named (none.1 i)) in
      hears_from v packet heard r (told_by_peer r (app_id a) packet) (from_peer packet r (app_id a) from talk)
      (subst (StandsFor v) (λ i. ends_alone c r1.sides (told_of M (ha.fresh i) ((is ∙ ap is_taken ha.says) i) (app_id a) (said c M (app_id a) (got i))) (even_if_equal i)) ended, ha.fresh, ha.says)

-- with whom a master talks
pub agent_talks : (x : CoreRecord) (r : MasterRole) → StandsFor x r → (m : ℕ) → m < length x.allotment.table.cluster.machines → talks r.cluster r.state (agent_id m) ≡ true
agent_talks x r h m lt =
    let n : length x.allotment.table.cluster.machines ≡ length r.cluster.machines = ap (λ (k : ClusterRecord). length k.machines) h.stands.cluster in
    let there : nat_lt m (length r.cluster.machines) ≡ true = grind (arith, nat_tests, lt, n) in
    ap (λ b. b || (false && is_known r.state.jobs m)) there

pub app_talks : (x : CoreRecord) (r : MasterRole) → StandsFor x r → (a : ℕ) → is_known x.known.jobs a ≡ true → talks r.cluster r.state (app_id a) ≡ true
app_talks x r h a known = ap (λ js. is_known js a) h.stands.jobs ∙ known

pub agent_unknown : (x : CoreRecord) (r : MasterRole) → StandsFor x r → (m : ℕ) → length x.allotment.table.cluster.machines ≤ m → talks r.cluster r.state (agent_id m) ≡ false
agent_unknown x r h m ge =
    let n : length x.allotment.table.cluster.machines ≡ length r.cluster.machines = ap (λ (k : ClusterRecord). length k.machines) h.stands.cluster in
    let not_there : nat_lt m (length r.cluster.machines) ≡ false = grind (arith, nat_tests, ge, n) in
    ap (λ b. b || (false && is_known r.state.jobs m)) not_there

pub app_unknown : (x : CoreRecord) (r : MasterRole) → StandsFor x r → (a : ℕ) → is_known x.known.jobs a ≡ false → talks r.cluster r.state (app_id a) ≡ false
app_unknown x r h a unknown = ap (λ js. is_known js a) h.stands.jobs ∙ unknown

-- turns stay in their range
pub few_turns : (n : ℕ) (x : CoreRecord) → IsWithin n x → n ≤ most_steps → x.allotment.placer.seen.turns < 2 ^ 63
few_turns n x w few = let t = w.turns in omega (arith, t, few)
