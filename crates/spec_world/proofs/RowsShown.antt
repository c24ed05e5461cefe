-- A master sent an agent a row exactly where its machine is reported.
use Rattle.std.proofs.Common.{◌≡◌, ℕ, ◌+◌, ◌<◌, Bool, true, false, cond, not, nat_eq, nat_lt, List, [], ◌∷◌, ◌++◌, length, length-append, map, filter, refl, sym, ◌∙◌, ap, subst, arith}
use Rattle.std.specs.Prelude.{◌&&◌, ◌||◌}
use Rattle.std.specs.List.{AllByRecursion}
use Rattle.std.proofs.lemmas.Bool.Decides.{nat_tests}
use Rattle.fuxi_terms.specs.Cluster.{ClusterRecord, has_machine}
use Rattle.fuxi_terms.specs.Keys.{RowKey, Spot}
use Rattle.fuxi_terms.specs.Jobs.{KnownJob, is_live, job_numbers}
use Rattle.fuxi_terms.specs.Lists.{below}
use Rattle.fuxi_terms.specs.Numbers.{has_number, with_number}
use Rattle.spec_net.specs.Net.{Net, Party, Id, Heard, is_taken, Posts, last, move, same_id, at_index}
use Rattle.spec_net.specs.Ledgers.{Ledger, nothing, row_ledger, same_ledger}
use Rattle.spec_net.specs.Channels.{agent_id, app_id, is_agent, present, Offer, is_due, publish_one, publish}
use Rattle.spec_roles.specs.Masters.{Master}
use Rattle.spec_roles.specs.MasterSteps.{master_party, peers, spot_row_key, is_one_of, adopts, adopted, take_report, take_demand, meet_app}
use Rattle.spec_world.specs.Parties.{projection, offers, told, adopted_now}
use Rattle.spec_world.specs.Good.{FitsMachines}
use Rattle.fuxi_terms.proofs.Booleans.{both_false, either, number_is, same_tests, or_false, eq_turned, or_right}
use Rattle.fuxi_terms.specs.Tables.{Table}
use Rattle.spec_net.proofs.NetLemmas.{id_is}
use Rattle.spec_net.proofs.PublishLemmas.{set_here, set_beside, publish_grows}
use Rattle.spec_world.proofs.SettledLemmas.{number_below, number_with}
use Rattle.spec_roles.proofs.MapLemmas.{with_back}

-- what is published to one peer
module _ (p : Party) (q : Id) where
  one_empty : (net : Net Ledger) (o : Offer) → net.histories p q ≡ [] → (same_id o.to q ≡ true → (o.ledger ≡ nothing) × (o.even_if_equal ≡ false)) → (publish_one net p o).histories p q ≡ []
  one_empty net o h f = by (same_id o.to q) refl
    where
      by : (b : Bool) → same_id o.to q ≡ b → (publish_one net p o).histories p q ≡ []
      by false e = either (λ (n : Net Ledger). n.histories p q ≡ []) (is_due o.even_if_equal (present net p o.to) o.ledger) (move net (Posts p o.to o.ledger)) net (λ _. set_beside net.histories p o.to (net.histories p o.to ++ o.ledger ∷ []) q e ∙ h) (λ _. h)
      by true e =
          let k = f e in
          let shown : present net p o.to ≡ nothing = ap (λ d. present net p d) (id_is o.to q e) ∙ ap (λ (hs : List Ledger). at_index nothing hs (length hs)) h in
          let due : is_due o.even_if_equal (present net p o.to) o.ledger ≡ false = (λ i. is_due (k.1 i) (shown i) (k.0 i)) in
          ap (λ b. (cond b (move net (Posts p o.to o.ledger)) net).histories p q) due ∙ h

  module _ (W : Id → Ledger) (even_if_equal : List Id) where
    abbrev offered : List Id → List Offer
    offered qs = map (λ r. record { to = r; even_if_equal = is_one_of r even_if_equal; ledger = W r }) qs

    -- nothing new, and not even_if_equal: nothing is sent
    stays_empty : (qs : List Id) (net : Net Ledger) → W q ≡ nothing → is_one_of q even_if_equal ≡ false → net.histories p q ≡ [] → (publish net p (offered qs)).histories p q ≡ []
    stays_empty [] net w f h = h
    stays_empty (r ∷ rs) net w f h = let o : Offer = record { to = r; even_if_equal = is_one_of r even_if_equal; ledger = W r } in
        stays_empty rs (publish_one net p o) w f (one_empty net o h (λ e. let same = id_is r q e in (ap W same ∙ w, ap (λ d. is_one_of d even_if_equal) same ∙ f)))

    -- even_if_equal: something is sent
    is_sent : (qs : List Id) (net : Net Ledger) → is_one_of q even_if_equal ≡ true → is_one_of q qs ≡ true → 0 < last (publish net p (offered qs)) p q
    is_sent [] net f i = cc
    is_sent (r ∷ rs) net f i = let o : Offer = record { to = r; even_if_equal = is_one_of r even_if_equal; ledger = W r } in
        elim (same_id r q) as (λ b. same_id r q ≡ b → (b || is_one_of q rs) ≡ true → 0 < last (publish (publish_one net p o) p (offered rs)) p q) [
          | true ↦ λ e _.
              let same = id_is r q e in
              let due : is_due (is_one_of r even_if_equal) (present net p r) (W r) ≡ true = ap (λ b. b || not (same_ledger (present net p r) (W r))) (ap (λ d. is_one_of d even_if_equal) same ∙ f) in
              let hist : (publish_one net p o).histories p r ≡ net.histories p r ++ W r ∷ [] = ap (λ b. (cond b (move net (Posts p r (W r))) net).histories p r) due ∙ set_here net.histories p r (net.histories p r ++ W r ∷ []) in
              let long : length ((publish_one net p o).histories p r) ≡ length (net.histories p r) + 1 = ap length hist ∙ simp length-append (omega arith) in
              let here : last (publish_one net p o) p q ≡ last (publish_one net p o) p r = ap (λ d. last (publish_one net p o) p d) (sym same) in
              let up = ((publish_grows (publish_one net p o) p (offered rs)).longer p q).long in
              omega (arith, long, here, up)
          | false ↦ λ _ i. is_sent rs (publish_one net p o) f i
        ] refl i

is_peer : (m : ℕ) (ms : List ℕ) (ys : List Id) → has_number m ms ≡ true → is_one_of (agent_id m) (map agent_id ms ++ ys) ≡ true
is_peer m [] ys h = cc
is_peer m (k ∷ ks) ys h = elim (nat_eq m k) as (λ b. nat_eq m k ≡ b → (b || has_number m ks) ≡ true → (nat_eq k m || is_one_of (agent_id m) (map agent_id ks ++ ys)) ≡ true) [
  | true ↦ λ e _. let t : nat_eq k m ≡ true = grind (arith, nat_tests, e) in ap (λ b. b || is_one_of (agent_id m) (map agent_id ks ++ ys)) t
  | false ↦ λ _ h. or_right (nat_eq k m) _ (is_peer m ks ys h)
] refl h

no_row : (jobs : List KnownJob) (m : ℕ) (rs : List ℕ) (es : Table) → has_number m rs ≡ false → AllByRecursion (λ e. has_number e.0.machine rs ≡ true) es → map {B = RowKey × ℕ} (λ (e : Spot × ℕ). (spot_row_key jobs e.0, e.1)) (filter (λ e. nat_eq e.0.machine m) es) ≡ []
no_row jobs m rs [] none h = refl
no_row jobs m rs (e ∷ es) none h = elim (nat_eq e.0.machine m) as (λ b. nat_eq e.0.machine m ≡ b → map {B = RowKey × ℕ} (λ (e : Spot × ℕ). (spot_row_key jobs e.0, e.1)) (cond b (e ∷ filter (λ e. nat_eq e.0.machine m) es) (filter (λ e. nat_eq e.0.machine m) es)) ≡ []) [
  | true ↦ λ t. let yes : has_number m rs ≡ true = subst (λ k. has_number k rs ≡ true) (number_is e.0.machine m t) h.0 in absurd (let f : ⊥ = cc in f)
  | false ↦ λ _. no_row jobs m rs es none h.1
] refl

-- the end of a step: rows were sent before, or are even_if_equal, exactly where machines are reported
pub shown_after : (c : ClusterRecord) (net : Net Ledger) (R : Master) (even_if_equal : List Id) → FitsMachines c R → ((m : ℕ) → has_number m R.reported ≡ true → has_machine c m ≡ true)
    → ((m : ℕ) → (nat_lt 0 (last net (master_party R) (agent_id m)) || is_one_of (agent_id m) even_if_equal) ≡ has_number m R.reported)
    → (m : ℕ) → nat_lt 0 (last (publish net (master_party R) (offers c net R even_if_equal)) (master_party R) (agent_id m)) ≡ has_number m R.reported
shown_after c net R even_if_equal fits there before m = by (has_number m R.reported) refl
  where
    p : Party
    p = master_party R

    by : (b : Bool) → has_number m R.reported ≡ b → nat_lt 0 (last (publish net (master_party R) (offers c net R even_if_equal)) (master_party R) (agent_id m)) ≡ has_number m R.reported
    by true t = again (nat_lt 0 (last net (master_party R) (agent_id m))) refl (before m ∙ t) ∙ sym t
      where
        again : (b : Bool) → nat_lt 0 (last net (master_party R) (agent_id m)) ≡ b → (b || is_one_of (agent_id m) even_if_equal) ≡ true → nat_lt 0 (last (publish net (master_party R) (offers c net R even_if_equal)) (master_party R) (agent_id m)) ≡ true
        again true e _ = let up = ((publish_grows net (master_party R) (offers c net R even_if_equal)).longer (master_party R) (agent_id m)).long in grind (arith, nat_tests, e, up)
        again false e f = let some = is_sent (master_party R) (agent_id m) (projection net R) even_if_equal (peers c R) net f (is_peer m (below (length c.machines)) (map app_id (job_numbers R.jobs)) (number_below (length c.machines) m (there m t))) in grind (arith, nat_tests, some)
    by false t =
        let b = both_false (nat_lt 0 (last net (master_party R) (agent_id m))) (is_one_of (agent_id m) even_if_equal) (before m ∙ t) in
        let nothing_sent : net.histories (master_party R) (agent_id m) ≡ [] = empty (net.histories (master_party R) (agent_id m)) b.0 in
        let w : projection net R (agent_id m) ≡ nothing = ap row_ledger (no_row R.jobs m R.reported R.table t fits.reported) in
        let still = stays_empty (master_party R) (agent_id m) (projection net R) even_if_equal (peers c R) net w b.1 nothing_sent in
        ap (λ (hs : List Ledger). nat_lt 0 (length hs)) still ∙ sym t
      where
        empty : (hs : List Ledger) → nat_lt 0 (length hs) ≡ false → hs ≡ []
        empty [] e = refl
        empty (x ∷ hs) e = absurd (let f : ⊥ = (let g : 0 < length (x ∷ hs) = omega arith in grind (arith, nat_tests, e, g)) in f)

-- nothing even_if_equal, and the same machines reported
pub rows_same : (m : ℕ) (sent : Bool) (even_if_equal : List Id) (old new : List ℕ) → is_one_of (agent_id m) even_if_equal ≡ false → new ≡ old → sent ≡ has_number m old → (sent || is_one_of (agent_id m) even_if_equal) ≡ has_number m new
rows_same m sent even_if_equal old new none same e = ap (λ b. sent || b) none ∙ or_false sent ∙ e ∙ ap (has_number m) (sym same)

-- applications are no agents
pub no_agents : (m : ℕ) (ns : List ℕ) → is_one_of (agent_id m) (map app_id ns) ≡ false
no_agents m [] = refl
no_agents m (n ∷ ns) = no_agents m ns

-- a number that was added
pub with_is : (n m : ℕ) (ms : List ℕ) → has_number n (with_number m ms) ≡ (nat_eq n m || has_number n ms)
with_is n m ms = same_tests _ _
    (λ h. elim (nat_eq n m) as (λ b. nat_eq n m ≡ b → (b || has_number n ms) ≡ true) [ true ↦ λ _. refl | false ↦ λ e. with_back n m ms h e ] refl)
    (λ h. number_with n m ms h)

-- a master that heard something: what is adopted is even_if_equal
pub rows_told : (M : Master) (h : Heard) (from : Id) (l : Ledger) (m : ℕ) (sent : Bool) → sent ≡ has_number m M.reported → (sent || is_one_of (agent_id m) (adopted_now M h from l)) ≡ has_number m (told M h from l).reported
rows_told M h from l m sent e = by (is_agent from) refl
  where
    met : (fresh : Bool) → (meet_app fresh M from.number).reported ≡ M.reported
    met true = refl
    met false = refl

    of_app : (let N = meet_app h.fresh M from.number in cond (is_taken h.what) (take_demand N from.number l) N).reported ≡ M.reported
    of_app = let N = meet_app h.fresh M from.number in
        either (λ (X : Master). X.reported ≡ M.reported) (is_taken h.what) (take_demand N from.number l) N
        (λ _. either (λ (X : Master). X.reported ≡ M.reported) (nat_eq l.head N.epoch && is_live N.jobs from.number) _ _ (λ _. met h.fresh) (λ _. met h.fresh)) (λ _. met h.fresh)

    adopting : is_agent from ≡ true → (a : Bool) → (sent || is_one_of (agent_id m) (cond a (from ∷ []) [])) ≡ has_number m (cond a (record M { reported = with_number from.number M.reported; table = cond (has_number from.number M.bans) M.table (adopted M.jobs from.number l.rows M.table) }) M).reported
    adopting r true =
        let one : is_one_of (agent_id m) (from ∷ []) ≡ nat_eq m from.number = or_false _ ∙ ap (λ b. b && nat_eq from.number m) r ∙ eq_turned from.number m in
        ap (λ b. sent || b) one ∙ ap (λ b. b || nat_eq m from.number) e ∙ turn (has_number m M.reported) (nat_eq m from.number) ∙ sym (with_is m from.number M.reported)
      where
        turn : (a b : Bool) → (a || b) ≡ (b || a)
        turn true true = refl
        turn true false = refl
        turn false true = refl
        turn false false = refl
    adopting r false = or_false sent ∙ e

    by : (b : Bool) → is_agent from ≡ b → (sent || is_one_of (agent_id m) (cond (b && (is_taken h.what && adopts M from.number l)) (from ∷ []) []))
        ≡ has_number m (cond b (cond (is_taken h.what) (take_report M from.number l) M) (let N = meet_app h.fresh M from.number in cond (is_taken h.what) (take_demand N from.number l) N)).reported
    by true r = elim (is_taken h.what) as (λ t. (sent || is_one_of (agent_id m) (cond (t && adopts M from.number l) (from ∷ []) [])) ≡ has_number m (cond t (take_report M from.number l) M).reported) [
      | true ↦ adopting r (adopts M from.number l)
      | false ↦ or_false sent ∙ e
    ]
    by false r = or_false sent ∙ e ∙ ap (has_number m) (sym of_app)
