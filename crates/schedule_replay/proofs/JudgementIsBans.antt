-- Judgements: the tests of one, and its bans, one after another.
use Rattle.std.proofs.Common.{◌≡◌, ℕ, ◌+◌, ◌-◌, ◌<◌, ◌≤◌, true, false, nat_lt, List, [], ◌∷◌, ◌++◌, length, get_or, map, take, count_by, All, Option, Some, None, is_some, Result, refl, sym, ◌∙◌, ap, subst, arith}
use Rattle.std.specs.Global.{Vec}
use Rattle.std.specs.Ordering.{nat_cmp}
use Rattle.std.specs.FinMap.Entries.{find}
use Rattle.std.proofs.lemmas.Bool.Decides.{nat_tests}
use Rattle.std.proofs.lemmas.List.{get_or-map, length-map, map_more}
use Rattle.fuxi_terms.specs.Cluster.{ClusterRecord, is_valid_cluster}
use Rattle.fuxi_terms.specs.Limits.{most_machines, most_records}
use Rattle.fuxi_terms.specs.Lists.{below}
use Rattle.fuxi_terms.proofs.Booleans.{and_true, both_true}
use Rattle.fuxi_terms.proofs.Lists.{length-below}
use Rattle.schedule_unit.specs.declared.party.MachineNo.{MachineNo}
use Rattle.spec_roles.specs.HardState.{HardState, is_fenced}
use Rattle.spec_roles.specs.Masters.{Master}
use Rattle.spec_roles.specs.MasterSteps.{BansMachine}
use Rattle.spec_roles.specs.Refusals.{NotRunning, Fenced, HardFull, with_found}
use Rattle.spec_roles.specs.Votes.{VotesRecord, judged, marks, votes_in, votes_of}
use Rattle.spec_world.specs.World.{World, Step, refused, then_step, unless_refused}
use Rattle.spec_world.specs.Events.{Ban, ban_each, commanded, is_too_full, judge}
use Rattle.spec_world.specs.EventRanges.{is_counted}
use Rattle.spec_world.specs.Outputs.{Judged}
use Rattle.bad_nodes.specs.Ranks.{number_of}
use Rattle.schedule_replay.specs.Held.{Held}
use Rattle.fuxi_master.specs.Cores.{CoreRecord, MasterRecord}
use Rattle.running_parties.specs.Slots.{SlotsRecord}
use Rattle.running_parties.specs.RunningMasters.{MasterRunsAs}
use Rattle.schedule_text.specs.declared.refusal.Refusal.{Refusal}
use Rattle.schedule_replay.specs.ReplayTexts.{lines_text}
use Rattle.schedule_replay.specs.Worlds.{WorldRecord, IsWorld, StandsFor}
use Rattle.schedule_replay.specs.Moves.{IsActedOnce, ban_one}
use Rattle.schedule_replay.specs.declared.commands.Judgement.{Judgement}
use Rattle.schedule_replay.specs.MasterCommands.{Governing, IsGoverning, IsDecided, Decides, DecidesIn, Governs, TakesStep, governing}
use Rattle.schedule_replay.proofs.LineEvents.{not_below}
use Rattle.schedule_replay.proofs.MovesLemmas.{masters_once}
use Rattle.schedule_replay.proofs.MastersActInWorld.{OrdersLeave, are_governing, governed_stands}
use Rattle.schedule_replay.proofs.PeersActInWorld.{first_fails, first_passes}
use Rattle.schedule_replay.proofs.StepAfterStep.{GoodKept, OrderKept, acted_is}

-- The tests of a judgement, where its master runs
abbrev judging : World → ℕ → ℕ → ℕ → Master → Step
judging w e least percent M = let votes = votes_in w.cluster M in let machines = judged votes least percent in
    unless_refused w (is_fenced w.hard M.epoch ∷ is_too_full w.hard (length machines) ∷ []) (ban_each e votes machines)

abbrev judging_at : World → ℕ → ℕ → ℕ → Option Master → Step
judging_at w e least percent o = with_found o (refused w NotRunning) (judging w e least percent)

none_found : (o : Option Master) → false ≡ is_some o → o ≡ None
none_found None is = refl
none_found (Some M) is = let no : ⊥ = grind (arith, is) in absurd no

pub runs_none : (w : World) (e least percent : ℕ) → false ≡ is_some (find nat_cmp e w.masters) → judge w e least percent ≡ refused w NotRunning
runs_none w e least percent none = ap (judging_at w e least percent) (none_found (find nat_cmp e w.masters) none)

fence_is : (w : World) (g : Governing) (fence : ℕ) → IsGoverning w g → fence ≡ g.checkpoint.hard.value.fence → fence ≡ w.hard.fence
fence_is w g fence s is = is ∙ ap (λ (h : HardState). h.fence) s.hard

pub is_below_fence : (w : World) (e least percent fence : ℕ) (g : Governing) (core : CoreRecord) → IsGoverning w g → MasterRunsAs w e core → fence ≡ g.checkpoint.hard.value.fence → e < fence → judge w e least percent ≡ refused w (Fenced fence)
is_below_fence w e least percent fence g core s r is low =
    let M = r.master in
    let own = (s.good.recorded.masters e M r.runs).0 in
    let same = fence_is w g fence s is in
    let t : nat_lt M.epoch w.hard.fence ≡ true = grind (arith, nat_tests, own, same, low) in
    ap (judging_at w e least percent) r.runs
    ∙ first_fails w (nat_lt M.epoch w.hard.fence) (Fenced w.hard.fence) (is_too_full w.hard (length (judged (votes_in w.cluster M) least percent)) ∷ []) (ban_each e (votes_in w.cluster M) (judged (votes_in w.cluster M) least percent)) t
    ∙ ap (λ n. refused w (Fenced n)) (sym same)

few_machines : (c : ClusterRecord) → is_valid_cluster c ≡ true → length c.machines ≤ most_machines
few_machines c valid = not_below (length c.machines) most_machines (both_true _ _ (both_true _ _ (both_true _ _ valid).1).0).1

-- with what is counted of a master that is not fenced
module _ (w : World) (e least percent fence records : ℕ) (g : Governing) (core : CoreRecord) (votes : VotesRecord) (machines : Vec MachineNo) (s : IsGoverning w g) (r : MasterRunsAs w e core)
    (at : fence ≡ g.checkpoint.hard.value.fence) (above : fence ≤ e) (counted : votes ≡ votes_in w.cluster r.master) (listed : map number_of machines.items ≡ judged votes least percent)
    (written : records ≡ g.checkpoint.hard.value.records) (most : records ≤ most_records) where
  same : judged (votes_in w.cluster r.master) least percent ≡ map number_of machines.items
  same = ap (λ v. judged v least percent) (sym counted) ∙ sym listed

  records_are : records ≡ w.hard.records
  records_are = written ∙ ap (λ (h : HardState). h.records) s.hard

  not_fenced : judge w e least percent ≡ unless_refused w (is_too_full w.hard (length machines.items) ∷ []) (ban_each e votes (map number_of machines.items))
  not_fenced =
      let M = r.master in
      let own = (s.good.recorded.masters e M r.runs).0 in
      let fence_same = fence_is w g fence s at in
      let t : nat_lt M.epoch w.hard.fence ≡ false = grind (arith, nat_tests, own, fence_same, above) in
      ap (judging_at w e least percent) r.runs
      ∙ first_passes w (nat_lt M.epoch w.hard.fence) (Fenced w.hard.fence) (is_too_full w.hard (length (judged (votes_in w.cluster M) least percent)) ∷ []) (ban_each e (votes_in w.cluster M) (judged (votes_in w.cluster M) least percent)) t
      ∙ (λ i. unless_refused w (is_too_full w.hard (length (same i)) ∷ []) (ban_each e ((sym counted) i) (same i)))
      ∙ ap (λ n. unless_refused w (is_too_full w.hard n ∷ []) (ban_each e votes (map number_of machines.items))) (length-map machines.items number_of)

  pub is_too_many : most_records - records < length machines.items → judge w e least percent ≡ refused w (HardFull most_records)
  is_too_many more =
      let t : nat_lt most_records (w.hard.records + length machines.items) ≡ true = grind (arith, nat_tests, records_are, most, more) in
      not_fenced ∙ first_fails w (nat_lt most_records (w.hard.records + length machines.items)) (HardFull most_records) [] (ban_each e votes (map number_of machines.items)) t

  pub is_decided : is_valid_cluster w.cluster ≡ true → length machines.items ≤ most_records - records → All (λ m. m < length votes.votes) (judged votes least percent) → IsDecided w e least percent (record { votes = votes; machines = machines })
  is_decided valid few there =
      let n = length w.cluster.machines in
      let t : nat_lt most_records (w.hard.records + length machines.items) ≡ false = grind (arith, nat_tests, records_are, most, few) in
      record {
        bans = not_fenced ∙ first_passes w (nat_lt most_records (w.hard.records + length machines.items)) (HardFull most_records) [] (ban_each e votes (map number_of machines.items)) t;
        may = record {
          there = subst (All (λ m. m < length votes.votes)) (sym listed) there;
          votes = subst (λ k. k ≤ most_machines) (sym (ap (λ (v : VotesRecord). length v.votes) counted ∙ length-map (below n) (λ m. count_by (λ j. marks r.master j m) r.master.jobs) ∙ length-below n)) (few_machines w.cluster valid);
          few = omega (arith, few);
        };
      }

-- what is answered, in each world that is stood for
pub decides_in : (e least percent : ℕ) (r now : WorldRecord) (answer said : Result Judgement Refusal) → r ≡ now → answer ≡ said → Decides e least percent (governing r.checkpoint r.masters) answer → (w : World) → IsWorld w → StandsFor now w → DecidesIn w e least percent said
decides_in e least percent r now answer said is same decides w good stands = subst (DecidesIn w e least percent) same (decides w good.valid (are_governing w r good (subst (λ x. StandsFor x w) (sym is) stands)))

-- A machine of a judgement
pub is_there : (P : ℕ → Type 0) (ms : List MachineNo) (i : ℕ) (m : MachineNo) → All P (map number_of ms) → i < length ms → m ≡ get_or ms i m → P m.0
is_there P ms i m all lt is = subst P (get_or-map number_of ms i m m.0 lt ∙ ap number_of (sym is)) (all i m.0 (subst (λ n. i < n) (sym (length-map ms number_of)) lt))

-- One ban
pub bans_one : OrdersLeave → (e m votes : ℕ) (old : WorldRecord) (held : Held) (masters : SlotsRecord MasterRecord) (answer : Option Refusal) (before after : List ℕ)
    → Governs (λ w. commanded w e (BansMachine m)) (governing old.checkpoint old.masters) (governing held masters) answer → TakesStep old.masters masters → after ≡ before ++ lines_text (Judged m votes ∷ [])
    → IsActedOnce (ban_one e m votes) old (record old { checkpoint = held; masters = masters }) before after
bans_one act e m votes old held masters answer before after governs steps text = record {
  does = λ w is s. record { stands = governed_stands act w (commanded w e (BansMachine m)) old held masters answer s (governs w (are_governing w old is s)); text = text };
  moves = masters_once old held masters old.pool steps;
  pool = refl;
}

-- which leads to a world to which inputs lead
pub ban_is : GoodKept → OrderKept → (e m : ℕ) → 0 < e → m < most_machines → (v : World) → IsWorld v → 0 < v.events → is_valid_cluster (commanded v e (BansMachine m)).world.cluster ≡ true → IsWorld (commanded v e (BansMachine m)).world
ban_is good order e m first there v is some valid = acted_is good order v (Ban e m) some (and_true (is_counted e) (nat_lt m most_machines) (grind (arith, nat_tests, first)) (grind (arith, nat_tests, there))) valid is

-- one more
bans_more : (e : ℕ) (votes : VotesRecord) (ms : List ℕ) (m : ℕ) (w : World) → ban_each e votes (ms ++ m ∷ []) w ≡ then_step (ban_each e votes ms w) (ban_one e m (votes_of votes m))
bans_more e votes [] m w = refl
bans_more e votes (n ∷ ns) m w = ap {B = Step} (λ (s : Step). record { world = s.world; lines = Judged n (votes_of votes n) ∷ s.lines }) (bans_more e votes ns m (commanded w e (BansMachine n)).world)

pub bans_next : (e : ℕ) (votes : VotesRecord) (ms : List MachineNo) (i : ℕ) (m : MachineNo) (count : ℕ) → m ≡ get_or ms i m → i < length ms → count ≡ votes_of votes m.0
    → (w : World) → ban_each e votes (map number_of (take (i + 1) ms)) w ≡ then_step (ban_each e votes (map number_of (take i ms)) w) (ban_one e m.0 count)
bans_next e votes ms i m count is lt counted w =
    ap (λ ns. ban_each e votes ns w) (map_more number_of ms i m lt ∙ ap (λ (x : MachineNo). map number_of (take i ms) ++ number_of x ∷ []) (sym is)) ∙ bans_more e votes (map number_of (take i ms)) m.0 w
    ∙ ap (λ k. then_step (ban_each e votes (map number_of (take i ms)) w) (ban_one e m.0 k)) (sym counted)
