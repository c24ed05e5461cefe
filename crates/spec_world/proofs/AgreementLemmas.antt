-- Where a master and its peers are quiet, an agent's table has the counts of the master's.
use Rattle.std.proofs.Common.{◌≡◌, ◌⊎◌, inl, inr, ℕ, zero, suc, ◌+◌, ◌-◌, ◌<◌, min, Bool, true, false, cond, not, nat_eq, nat_lt, List, [], ◌∷◌, ◌++◌, length, map, filter, Option, Some, None, refl, sym, ◌∙◌, ap, subst, arith, add-zero}
use Rattle.std.specs.Prelude.{◌&&◌, ◌||◌, T, is_some}
use Rattle.std.specs.Option.{unwrap_or}
use Rattle.std.specs.List.{AllByRecursion, list_all, sum_by}
use Rattle.std.specs.Ordering.{nat_cmp, eq_by_cmp, is_eq}
use Rattle.std.specs.Cmp.{tied_itself}
use Rattle.std.proofs.lemmas.Map.Lookups.{exact_unsigned}
use Rattle.fuxi_terms.specs.declared.Key.{Key}
use Rattle.fuxi_terms.specs.Counts.{count}
use Rattle.std.specs.FinMap.Entries.{find, below_all, is_sorted}
use Rattle.std.proofs.lemmas.Bool.Decides.{nat_tests}
use Rattle.std.proofs.lemmas.List.Sums.{sum_by-cons}
use Rattle.fuxi_terms.specs.Keys.{key_cmp, RowKey, Spot, spot_cmp}
use Rattle.fuxi_terms.proofs.CountsLemmas.{both_true as both, tied, below_none}
use Rattle.spec_net.specs.Net.{Net, Party, last}
use Rattle.spec_net.specs.Ledgers.{Ledger, at_key}
use Rattle.fuxi_terms.specs.TallyKeys.{reported_key, count_key, credited_key, back_key}
use Rattle.spec_net.specs.Channels.{master_id, agent_id, app_id, party, is_caught_up, view, present}
use Rattle.fuxi_terms.specs.Jobs.{KnownJob, job_of, is_known, is_live, job_numbers}
use Rattle.fuxi_terms.specs.Cluster.{has_machine}
use Rattle.fuxi_terms.specs.Lists.{below}
use Rattle.fuxi_terms.specs.Numbers.{has_number, with_number}
use Rattle.spec_roles.specs.Masters.{Master, credited_of}
use Rattle.fuxi_terms.specs.Tables.{spot, held_on, Table}
use Rattle.spec_world.specs.World.{World, Agent, App}
use Rattle.spec_roles.specs.MasterSteps.{master_party, spot_row_key, count_entries, grants}
use Rattle.spec_roles.specs.Refusals.{with_found}
use Rattle.spec_world.specs.Parties.{projection, agent_table, usable, carried_at, app_held}
use Rattle.spec_roles.specs.Apps.{names, uncredited}
use Rattle.spec_world.specs.Quiet.{has_all, is_at_rest, is_agent_quiet, is_app_quiet, is_quiet}
use Rattle.spec_world.specs.Safe.{row_count}
use Rattle.fuxi_terms.proofs.Alls.{all_front, all_back, all_map}
use Rattle.fuxi_terms.proofs.Booleans.{both_true, number_is}
use Rattle.fuxi_terms.proofs.KeyOrders.{key_total, spot_total, same_spot}
use Rattle.spec_world.proofs.ViewsLemmas.{caught_up}
use Rattle.spec_world.proofs.GrantsLemmas.{grants_counts, grants_credits, nothing_held}
use Rattle.spec_world.specs.Good.{Invariant, IsShowing, reported_entries}

-- Sums over a row are counts of the table
module _ (jobs : List KnownJob) (a u m : ℕ) where
  abbrev counted : RowKey × ℕ → ℕ
  counted e = cond (nat_eq e.0.job a && nat_eq e.0.unit u) e.1 0

  abbrev row_of : Table → List (RowKey × ℕ)
  row_of table = map (λ e. (spot_row_key jobs e.0, e.1)) (filter (λ e. nat_eq e.0.machine m) table)

  zero_more : (n : ℕ) → 0 + n ≡ n
  zero_more n = omega arith

  -- an entry at another place counts nothing
  other_entry : (e : Spot × ℕ) (es : Table) → eq_by_cmp spot_cmp (spot a u m) e.0 ≡ false → sum_by counted (row_of (e ∷ es)) ≡ sum_by counted (row_of es)
  other_entry e es apart = by_machine (nat_eq e.0.machine m) refl
    where
      by_pair : (b : Bool) → (nat_eq e.0.job a && nat_eq e.0.unit u) ≡ b → nat_eq e.0.machine m ≡ true → cond b e.1 0 ≡ 0
      by_pair false t k = refl
      by_pair true t k =
          let p = both_true (nat_eq e.0.job a) (nat_eq e.0.unit u) t in
          let j = number_is e.0.job a p.0 in
          let n = number_is e.0.unit u p.1 in
          let c = number_is e.0.machine m k in
          let same : spot a u m ≡ e.0 = λ i. record { job = sym j i; unit = sym n i; machine = sym c i } in
          let yes : eq_by_cmp spot_cmp (spot a u m) e.0 ≡ true = ap (λ s. eq_by_cmp spot_cmp (spot a u m) s) (sym same) ∙ ap is_eq (tied_itself spot_total (spot a u m)) in
          absurd (let f : ⊥ = cc in f)

      by_machine : (b : Bool) → nat_eq e.0.machine m ≡ b → sum_by counted (map (λ e. (spot_row_key jobs e.0, e.1)) (cond b (e ∷ filter (λ e. nat_eq e.0.machine m) es) (filter (λ e. nat_eq e.0.machine m) es))) ≡ sum_by counted (row_of es)
      by_machine false k = refl
      by_machine true k = sum_by-cons counted (spot_row_key jobs e.0, e.1) (row_of es) ∙ ap (λ n. n + sum_by counted (row_of es)) (by_pair (nat_eq e.0.job a && nat_eq e.0.unit u) refl k) ∙ zero_more (sum_by counted (row_of es))

  own_entry : (e : Spot × ℕ) (es : Table) → spot a u m ≡ e.0 → sum_by counted (row_of (e ∷ es)) ≡ e.1 + sum_by counted (row_of es)
  own_entry e es same =
      let here : nat_eq e.0.machine m ≡ true = let k : m ≡ e.0.machine = ap (λ (s : Spot). s.machine) same in grind (arith, nat_tests, k) in
      let pair : (nat_eq e.0.job a && nat_eq e.0.unit u) ≡ true =
      let j : a ≡ e.0.job = ap (λ (s : Spot). s.job) same in let n : u ≡ e.0.unit = ap (λ (s : Spot). s.unit) same in
      let x : nat_eq e.0.job a ≡ true = grind (arith, nat_tests, j) in let y : nat_eq e.0.unit u ≡ true = grind (arith, nat_tests, n) in ap (λ b. b && nat_eq e.0.unit u) x ∙ y in
      ap (λ b. sum_by counted (map (λ e. (spot_row_key jobs e.0, e.1)) (cond b (e ∷ filter (λ e. nat_eq e.0.machine m) es) (filter (λ e. nat_eq e.0.machine m) es)))) here
      ∙ sum_by-cons counted (spot_row_key jobs e.0, e.1) (row_of es)
      ∙ ap (λ b. cond b e.1 0 + sum_by counted (row_of es)) pair

  row_counts : (table : Table) → T (is_sorted spot_cmp table) → sum_by counted (row_of table) ≡ unwrap_or (find spot_cmp (spot a u m) table) 0
  row_counts [] s = refl
  row_counts (e ∷ es) s =
      let parts = both (below_all spot_cmp e.0 es) (is_sorted spot_cmp es) s in
      elim (eq_by_cmp spot_cmp (spot a u m) e.0) as (λ b. eq_by_cmp spot_cmp (spot a u m) e.0 ≡ b → sum_by counted (row_of (e ∷ es)) ≡ unwrap_or (cond b (Some e.1) (find spot_cmp (spot a u m) es)) 0) [
        | true ↦ λ t.
            let same : spot a u m ≡ e.0 = same_spot (spot a u m) e.0 (tied _ t) in
            let none : find spot_cmp (spot a u m) es ≡ None = subst (λ x. find spot_cmp x es ≡ None) (sym same) (below_none spot_cmp e.0 es parts.0) in
            let rest : sum_by counted (row_of es) ≡ 0 = row_counts es parts.1 ∙ ap (λ o. unwrap_or o 0) none in
            own_entry e es same ∙ ap (λ n. e.1 + n) rest ∙ add-zero e.1
        | false ↦ λ t. other_entry e es t ∙ row_counts es parts.1
      ] refl

-- what holds of each peer holds of each agent of the cluster
all_last : {A : Type 0} (P : A → Type 0) (xs : List A) (y : A) → AllByRecursion P (xs ++ y ∷ []) → P y
all_last P [] y h = h.0
all_last P (x ∷ xs) y h = all_last P xs y h.1

at_below : (P : ℕ → Type 0) (n m : ℕ) → AllByRecursion P (below n) → nat_lt m n ≡ true → P m
at_below P zero m h lt = absurd (let f : m < 0 = grind (arith, nat_tests, lt) in omega (arith, f))
at_below P (suc n) m h lt = elim (nat_eq m n) as (λ b. nat_eq m n ≡ b → P m) [
  | true ↦ λ t. subst P (sym (number_is m n t)) (all_last P (below n) n h)
  | false ↦ λ t. at_below P n m (all_front P (below n) (n ∷ []) h) (grind (arith, nat_tests, lt, t))
] refl

passes_below : (p : ℕ → Bool) (n m : ℕ) → list_all p (below n) ≡ true → nat_lt m n ≡ true → p m ≡ true
passes_below p n m h lt = at_below (λ k. p k ≡ true) n m (each (below n) h) lt
  where
    each : (ks : List ℕ) → list_all p ks ≡ true → AllByRecursion (λ k. p k ≡ true) ks
    each [] t = tt
    each (k ∷ ks) t = let b = both_true (p k) (list_all p ks) t in (b.0, each ks b.1)

-- A quiet world
quiet_at : (w : World) (e : ℕ) (M : Master) → find nat_cmp e w.masters ≡ Some M → is_quiet w e ≡ true → list_all (is_agent_quiet w M) (below (length w.cluster.machines)) ≡ true
quiet_at w e M found quiet =
    (both_true (list_all (is_agent_quiet w M) (below (length w.cluster.machines))) (list_all (λ (g : ℕ × App). is_app_quiet w M g.0 g.1) w.apps)
    (ap (λ o. with_found o false (λ M. list_all (is_agent_quiet w M) (below (length w.cluster.machines)) && list_all (λ (g : ℕ × App). is_app_quiet w M g.0 g.1) w.apps)) (sym found) ∙ quiet)).0

agent_at_rest : (w : World) (M : Master) (m : ℕ) (g : Agent) → find nat_cmp m w.agents ≡ Some g → is_agent_quiet w M m ≡ true → is_at_rest w.net M (party (agent_id m) g.boot) ≡ true
agent_at_rest w M m g found quiet =
    (both_true (has_number m M.reported) (is_at_rest w.net M (party (agent_id m) g.boot))
    (ap (λ o. with_found o false (λ g. has_number m M.reported && is_at_rest w.net M (party (agent_id m) g.boot))) (sym found) ∙ quiet)).1

-- an agent that has caught up has the row that its master sent last
caught_table : (net : Net Ledger) (s p : Party) → has_all net s p ≡ true → s.id ≡ master_id → agent_table net p ≡ (present net s p.id).rows
caught_table net s p all is_master_id =
    let parts = both_true (is_caught_up net s p) (nat_lt 0 (last net s p.id)) all in
    let seq : (net.links p s.id).seq ≡ last net s p.id = number_is _ _ (both_true (nat_eq (net.links p s.id).known s.inc) (nat_eq (net.links p s.id).seq (last net s p.id)) parts.0).1 in
    let some : nat_eq (net.links p s.id).seq 0 ≡ false = grind (arith, nat_tests, parts.1, seq) in
    subst (λ d. cond (nat_eq (net.links p d).seq 0) (present net p d).rows (view net p d).rows ≡ (present net s p.id).rows) is_master_id
    (ap (λ b. cond b (present net p s.id).rows (view net p s.id).rows) some ∙ ap (λ (l : Ledger). l.rows) (caught_up net s p parts.0))

-- an agent that has heard all has the master's counts
pub agent_agrees : (w : World) (e : ℕ) (M : Master) (m : ℕ) (g : Agent) → Invariant w → find nat_cmp e w.masters ≡ Some M → is_quiet w e ≡ true → find nat_cmp m w.agents ≡ Some g
    → (a u : ℕ) → row_count (agent_table w.net (party (agent_id m) g.boot)) a u ≡ held_on M.table a u m
agent_agrees w e M m g h found quiet runs a u =
    let there : has_machine w.cluster m ≡ true = h.machines m g runs in
    let p = party (agent_id m) g.boot in
    let k = h.masters e M found in
    let rest = agent_at_rest w M m g runs (passes_below (is_agent_quiet w M) (length w.cluster.machines) m (quiet_at w e M found quiet) there) in
    let all : has_all w.net (master_party M) p ≡ true = (both_true (has_all w.net (master_party M) p) (has_all w.net p (master_party M)) (both_true (nat_eq (w.net.links p master_id).known M.epoch) _ rest).1).0 in
    let shown : present w.net (master_party M) (agent_id m) ≡ projection w.net M (agent_id m) =
    at_below (λ n. present w.net (master_party M) (agent_id n) ≡ projection w.net M (agent_id n)) (length w.cluster.machines) m
    (all_map (λ q. present w.net (master_party M) q ≡ projection w.net M q) agent_id (below (length w.cluster.machines)) (all_front _ (map agent_id (below (length w.cluster.machines))) (map app_id (job_numbers M.jobs)) k.shows)) there in
    ap (λ rows. row_count rows a u) (caught_table w.net (master_party M) p all refl ∙ ap (λ (l : Ledger). l.rows) shown)
    ∙ row_counts M.jobs a u m M.table k.tabled.sorted

-- Applications: what grants say
reported_found : (m : ℕ) (ms : List ℕ) (rest : List (Key × ℕ)) → has_number m ms ≡ true → count key_cmp (reported_entries ms ++ rest) (reported_key m) ≡ 1
reported_found m [] rest e = cc
reported_found m (k ∷ ms) rest e = elim (nat_eq m k) as (λ b. nat_eq m k ≡ b → (b || has_number m ms) ≡ true → count key_cmp (reported_entries (k ∷ ms) ++ rest) (reported_key m) ≡ 1) [
  | true ↦ λ t _.
      let same = number_is m k t in
      ap (λ b. unwrap_or (cond b (Some 1) (find key_cmp (reported_key m) (reported_entries ms ++ rest))) 0)
      (ap (λ n. eq_by_cmp key_cmp (reported_key m) (reported_key n)) (sym same) ∙ ap is_eq (tied_itself key_total (reported_key m)))
  | false ↦ λ t f. elim (eq_by_cmp key_cmp (reported_key m) (reported_key k)) as (λ b. unwrap_or (cond b (Some 1) (find key_cmp (reported_key m) (reported_entries ms ++ rest))) 0 ≡ 1) [ true ↦ refl | false ↦ reported_found m ms rest f ]
] refl e

-- The numbers of known jobs
all_with : (P : ℕ → Type 0) (n : ℕ) (ns : List ℕ) → AllByRecursion P (with_number n ns) → P n × AllByRecursion P ns
all_with P n [] h = (h.0, tt)
all_with P n (m ∷ ms) h = by (all_with P n ms) (nat_lt n m) (nat_eq n m) refl h
  where
    by : (AllByRecursion P (with_number n ms) → P n × AllByRecursion P ms) → (b d : Bool) → nat_eq n m ≡ d → AllByRecursion P (cond b (n ∷ m ∷ ms) (cond d (m ∷ ms) (m ∷ with_number n ms))) → P n × AllByRecursion P (m ∷ ms)
    by rest true d e h = (h.0, h.1)
    by rest false true e h = (subst P (sym (number_is n m e)) h.0, h)
    by rest false false e h = let r = rest h.1 in (r.0, (h.0, r.1))

-- what holds of each number of the known jobs holds of a known job
pub at_numbers : (P : ℕ → Type 0) (jobs : List KnownJob) (a : ℕ) → AllByRecursion P (job_numbers jobs) → is_known jobs a ≡ true → P a
at_numbers P [] a h e = cc
at_numbers P (j ∷ js) a h e =
    let k = all_with P j.job.number (job_numbers js) h in
    elim (nat_eq j.job.number a) as (λ b. nat_eq j.job.number a ≡ b → is_some (cond b (Some j) (job_of js a)) ≡ true → P a) [
      | true ↦ λ t _. subst P (number_is j.job.number a t) k.0
      | false ↦ λ _ e. at_numbers P js a k.1 e
    ] refl e

-- what each application passes one of them passes
passes_found : {A : Type 0} (p : ℕ → A → Bool) (es : List (ℕ × A)) (a : ℕ) (x : A) → list_all (λ (g : ℕ × A). p g.0 g.1) es ≡ true → find nat_cmp a es ≡ Some x → p a x ≡ true
passes_found p [] a x h f = cc
passes_found {A} p (e ∷ es) a x h f =
    let b = both_true (p e.0 e.1) (list_all (λ (g : ℕ × A). p g.0 g.1) es) h in
    elim (eq_by_cmp nat_cmp a e.0) as (λ t. eq_by_cmp nat_cmp a e.0 ≡ t → cond t (Some e.1) (find nat_cmp a es) ≡ Some x → p a x ≡ true) [
      | true ↦ λ t f. let k : a ≡ e.0 = exact_unsigned a e.0 (tied _ t) in let same : e.1 ≡ x = cc in (λ i. p (k i) (sym same i)) ∙ b.0
      | false ↦ λ _ f. passes_found p es a x b.1 f
    ] refl f

quiet_apps : (w : World) (e : ℕ) (M : Master) → find nat_cmp e w.masters ≡ Some M → is_quiet w e ≡ true → list_all (λ (g : ℕ × App). is_app_quiet w M g.0 g.1) w.apps ≡ true
quiet_apps w e M found quiet =
    (both_true (list_all (is_agent_quiet w M) (below (length w.cluster.machines))) (list_all (λ (g : ℕ × App). is_app_quiet w M g.0 g.1) w.apps)
    (ap (λ o. with_found o false (λ M. list_all (is_agent_quiet w M) (below (length w.cluster.machines)) && list_all (λ (g : ℕ × App). is_app_quiet w M g.0 g.1) w.apps)) (sym found) ∙ quiet)).1

quiet_reported : (w : World) (M : Master) (m : ℕ) → is_agent_quiet w M m ≡ true → has_number m M.reported ≡ true
quiet_reported w M m quiet = by (find nat_cmp m w.agents) quiet
  where
    by : (o : Option Agent) → with_found o false (λ g. has_number m M.reported && is_at_rest w.net M (party (agent_id m) g.boot)) ≡ true → has_number m M.reported ≡ true
    by None e = cc
    by (Some g) e = (both_true (has_number m M.reported) (is_at_rest w.net M (party (agent_id m) g.boot)) e).0

-- what is usable where the view is these grants, and nothing is given back that was not credited
usable_is : (net : Net Ledger) (p : Party) (G : Ledger) (u m n : ℕ) → view net p master_id ≡ G → at_key G (count_key u m) ≡ n → (n ≡ 0) ⊎ ((nat_eq G.head p.inc ≡ true) × (at_key G (credited_key u m) ≡ at_key (present net p master_id) (back_key u m))) → usable net p u m ≡ n
usable_is net p G u m n seen counts free = subst (λ (l : Ledger). at_key l (count_key u m) - min (at_key l (count_key u m)) (uncredited l (present net p master_id) p.inc u m) ≡ n) (sym seen) (by free)
  where
    by : (n ≡ 0) ⊎ ((nat_eq G.head p.inc ≡ true) × (at_key G (credited_key u m) ≡ at_key (present net p master_id) (back_key u m))) → at_key G (count_key u m) - min (at_key G (count_key u m)) (uncredited G (present net p master_id) p.inc u m) ≡ n
    by (inl none) = omega (arith, counts, none)
    by (inr same) =
        let z : uncredited G (present net p master_id) p.inc u m ≡ 0 = ap (λ b. at_key (present net p master_id) (back_key u m) - cond b (at_key G (credited_key u m)) 0) same.0 ∙ (let e = same.1 in omega (arith, e)) in
        omega (arith, counts, z)

-- and so has an application
pub app_agrees : (w : World) (e : ℕ) (M : Master) (a : ℕ) (g : App) → Invariant w → find nat_cmp e w.masters ≡ Some M → is_quiet w e ≡ true → find nat_cmp a w.apps ≡ Some g → is_known M.jobs a ≡ true
    → (u m : ℕ) → has_machine w.cluster m ≡ true → app_held w.net (party (app_id a) g.boot) g u m ≡ held_on M.table a u m
app_agrees w e M a g h found quiet runs known u m there =
    ap (λ b. cond b (usable w.net p u m) (carried_at g u m)) named ∙ usable_is w.net p G u m (held_on M.table a u m) seen (grants_counts M boot a k.tabled u m) (free (is_live M.jobs a) refl)
  where
    p : Party
    p = party (app_id a) g.boot

    boot : ℕ
    boot = (w.net.links (master_party M) (app_id a)).known

    G : Ledger
    G = grants M boot a

    k : IsShowing w.cluster w.hard w.net e M
    k = h.masters e M found

    at_rest : is_at_rest w.net M p ≡ true
    at_rest = rests (is_known M.jobs a) known (passes_found (is_app_quiet w M) w.apps a g (quiet_apps w e M found quiet) runs)
      where
        rests : (b : Bool) → b ≡ true → (not b || is_at_rest w.net M p) ≡ true → is_at_rest w.net M p ≡ true
        rests true t e = e
        rests false t e = cc

    both_ways : (has_all w.net (master_party M) p ≡ true) × (has_all w.net p (master_party M) ≡ true)
    both_ways = both_true (has_all w.net (master_party M) p) (has_all w.net p (master_party M)) (both_true (nat_eq (w.net.links p master_id).known M.epoch) _ at_rest).1

    shown : present w.net (master_party M) (app_id a) ≡ G
    shown = at_numbers (λ n. present w.net (master_party M) (app_id n) ≡ projection w.net M (app_id n)) M.jobs a
        (all_map (λ q. present w.net (master_party M) q ≡ projection w.net M q) app_id (job_numbers M.jobs) (all_back (λ q. present w.net (master_party M) q ≡ projection w.net M q) (map agent_id (below (length w.cluster.machines))) (map app_id (job_numbers M.jobs)) k.shows)) known

    seen : view w.net p master_id ≡ G
    seen = caught_up w.net (master_party M) p (both_true (is_caught_up w.net (master_party M) p) _ both_ways.0).0 ∙ shown

    up : is_caught_up w.net p (master_party M) ≡ true
    up = (both_true (is_caught_up w.net p (master_party M)) _ both_ways.1).0

    same_boot : nat_eq boot g.boot ≡ true
    same_boot = (both_true (nat_eq boot g.boot) _ up).0

    named : names (view w.net p master_id) m ≡ true
    named = ap (λ (l : Ledger). nat_eq (at_key l (reported_key m)) 1) seen
        ∙ ap (λ n. nat_eq n 1) (reported_found m M.reported (count_entries a M.table ++ credited_of M a) (quiet_reported w M m (passes_below (is_agent_quiet w M) (length w.cluster.machines) m (quiet_at w e M found quiet) there)))

    free : (b : Bool) → is_live M.jobs a ≡ b → (held_on M.table a u m ≡ 0) ⊎ ((nat_eq G.head g.boot ≡ true) × (at_key G (credited_key u m) ≡ at_key (present w.net p master_id) (back_key u m)))
    free false t = inl (nothing_held M a u m k.tabled t)
    free true t = inr (same_boot, grants_credits M boot a k.tabled u m ∙ k.credited.credits a t u m ∙ ap (λ (l : Ledger). at_key l (back_key u m)) (caught_up w.net p (master_party M) up))
