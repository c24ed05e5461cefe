-- What an application writes: its demands are in order and name what is there, and among those of one epoch no number given back falls.
use Rattle.std.proofs.Common.{◌≡◌, ℕ, zero, suc, ◌+◌, ◌<◌, ◌≤◌, Bool, true, false, cond, not, nat_eq, nat_lt, List, [], ◌∷◌, ◌++◌, length, length-append, Option, Some, None, refl, sym, ◌∙◌, ap, subst, arith}
use Rattle.std.specs.Prelude.{◌&&◌, ◌||◌, is_some}
use Rattle.std.specs.Option.{option_map, unwrap_or}
use Rattle.std.specs.Ordering.{eq_by_cmp}
use Rattle.std.specs.FinMap.Entries.{find, find-where_key}
use Rattle.std.proofs.lemmas.Bool.Decides.{nat_tests}
use Rattle.fuxi_terms.specs.declared.Key.{Key}
use Rattle.fuxi_terms.specs.Cluster.{ClusterRecord, has_rack, has_machine}
use Rattle.fuxi_terms.specs.Keys.{key_cmp}
use Rattle.fuxi_terms.proofs.CountsLemmas.{tied, count-set_count, counts-set_count, counts-where_key}
use Rattle.spec_net.specs.Net.{Net, Party, Id, set_at, same_id, Posts, move, at_index}
use Rattle.spec_net.specs.Ledgers.{Ledger, nothing, same_ledger, at_key}
use Rattle.spec_world.specs.Good.{greatest_in_demand, BacksRise, IsRanged, IsTidy, DemandsHold, KnowsMore, StartsAnew}
use Rattle.fuxi_terms.specs.TallyKeys.{back_key, is_back}
use Rattle.spec_net.specs.Channels.{Offer, publish_one, publish, master_id, present, to_master, publish, shape}
use Rattle.fuxi_terms.specs.Jobs.{KnownJob, job_of, unit_count}
use Rattle.spec_roles.specs.Apps.{joined_demand, changed_demand}
use Rattle.spec_roles.specs.MasterSteps.{is_there}
use Rattle.spec_net.specs.Sound.{Rising}
use Rattle.fuxi_terms.proofs.Booleans.{either}
use Rattle.fuxi_terms.proofs.KeyOrders.{key_total, same_key}
use Rattle.spec_net.proofs.SoundLemmas.{at_front, at_end}
use Rattle.spec_net.proofs.PublishLemmas.{set_here, set_beside}
use Rattle.spec_net.proofs.NetLemmas.{id_is}
use Rattle.std.specs.List.{AllByRecursion}

-- what a demand has to show behind another
pub record MayFollow (c : ClusterRecord) (units : ℕ) (a b : Ledger) : Type 0 where
  pub backs : BacksRise a b
  pub anew : StartsAnew a b
  pub tidy : IsTidy b
  pub ranged : IsRanged c units b

past_end : (h : List Ledger) (n : ℕ) → length h < n → at_index nothing h n ≡ nothing
past_end h zero lt = absurd (omega (arith, lt))
past_end [] (suc n) lt = refl
past_end (x ∷ h) (suc zero) lt = absurd (omega (arith, lt))
past_end (x ∷ h) (suc (suc n)) lt = past_end h (suc n) (omega (arith, lt))

-- what holds of each entry and of the new one
pub at_append : (P : Ledger → Type 0) (h : List Ledger) (x : Ledger) → P x → ((n : ℕ) → P (at_index nothing h n)) → (n : ℕ) → P (at_index nothing (h ++ x ∷ []) n)
at_append P h x here old n = by (nat_lt (length h) n) refl (nat_lt (length h + 1) n) refl
  where
    long : length (h ++ x ∷ []) ≡ length h + 1
    long = simp length-append (omega arith)

    by : (b : Bool) → nat_lt (length h) n ≡ b → (d : Bool) → nat_lt (length h + 1) n ≡ d → P (at_index nothing (h ++ x ∷ []) n)
    by false t d s = let within : n ≤ length h = grind (arith, nat_tests, t) in subst P (sym (at_front nothing h (x ∷ []) n within)) (old n)
    by true t false s = let is : n ≡ length h + 1 = (let above : length h < n = grind (arith, nat_tests, t) in let most : n ≤ length h + 1 = grind (arith, nat_tests, s) in omega (arith, above, most)) in subst P (sym (at_end nothing h x n is)) here
    by true t true s =
        let past : length (h ++ x ∷ []) < n = (let more : length h + 1 < n = grind (arith, nat_tests, s) in omega (arith, more, long)) in
        let before : length h < n = grind (arith, nat_tests, t) in
        subst P (past_end h n before ∙ sym (past_end (h ++ x ∷ []) n past)) (old n)

-- what holds of each two neighbours and of the last entry and the new one
next_append : (P : Ledger → Ledger → Type 0) (h : List Ledger) (x : Ledger) → P (at_index nothing h (length h)) x → ((n : ℕ) → n + 1 ≤ length h → P (at_index nothing h n) (at_index nothing h (n + 1)))
    → (n : ℕ) → n + 1 ≤ length (h ++ x ∷ []) → P (at_index nothing (h ++ x ∷ []) n) (at_index nothing (h ++ x ∷ []) (n + 1))
next_append P h x here old n le = elim (nat_lt n (length h)) as (λ b. nat_lt n (length h) ≡ b → P (at_index nothing (h ++ x ∷ []) n) (at_index nothing (h ++ x ∷ []) (n + 1))) [
  | true ↦ λ t. let within : n < length h = grind (arith, nat_tests) in
      subst (λ (e : Ledger × Ledger). P e.0 e.1) (λ i. (sym (at_front nothing h (x ∷ []) n (omega (arith, within))) i, sym (at_front nothing h (x ∷ []) (n + 1) (omega (arith, within))) i)) (old n (omega (arith, within)))
  | false ↦ λ t. let same : n ≡ length h = (let most : n ≤ length h = omega (arith, long, le) in let least : length h ≤ n = grind (arith, nat_tests) in omega (arith, most, least)) in
      subst (λ (e : Ledger × Ledger). P e.0 e.1) (λ i. (sym (at_front nothing h (x ∷ []) n (omega (arith, same)) ∙ ap (at_index nothing h) same) i, sym (at_end nothing h x (n + 1) (omega (arith, same))) i)) here
] refl
  where
    long : length (h ++ x ∷ []) ≡ length h + 1
    long = simp length-append (omega arith)

demands_append : (c : ClusterRecord) (units : ℕ) (h : List Ledger) (x : Ledger) → MayFollow c units (at_index nothing h (length h)) x → DemandsHold c units h → DemandsHold c units (h ++ x ∷ [])
demands_append c units h x f w = record {
  backs = next_append BacksRise h x f.backs w.backs;
  anew = next_append StartsAnew h x f.anew w.anew;
  tidy = at_append IsTidy h x f.tidy w.tidy;
  ranged = at_append (IsRanged c units) h x f.ranged w.ranged;
}

-- what holds of each entry of each history of a party, and of what it publishes
publish_one_each : (P : Id → Ledger → Type 0) (net : Net Ledger) (p : Party) (o : Offer) → P o.to o.ledger → ((q : Id) (n : ℕ) → P q (at_index nothing (net.histories p q) n)) → (q : Id) (n : ℕ) → P q (at_index nothing ((publish_one net p o).histories p q) n)
publish_one_each P net p o here old q n =
    either (λ (m : Net Ledger). P q (at_index nothing (m.histories p q) n)) (o.even_if_equal || not (same_ledger (present net p o.to) o.ledger)) (move net (Posts p o.to o.ledger)) net (λ _. by (same_id o.to q) refl) (λ _. old q n)
  where
    by : (b : Bool) → same_id o.to q ≡ b → P q (at_index nothing (set_at net.histories p o.to (net.histories p o.to ++ o.ledger ∷ []) p q) n)
    by true e = subst (λ d. P d (at_index nothing (set_at net.histories p o.to (net.histories p o.to ++ o.ledger ∷ []) p d) n)) (id_is o.to q e)
        (subst (λ h. P o.to (at_index nothing h n)) (sym (set_here net.histories p o.to (net.histories p o.to ++ o.ledger ∷ []))) (at_append (P o.to) (net.histories p o.to) o.ledger here (old o.to) n))
    by false e = subst (λ h. P q (at_index nothing h n)) (sym (set_beside net.histories p o.to (net.histories p o.to ++ o.ledger ∷ []) q e)) (old q n)

-- a fact of each offer is one of each entry
pub publish_each : (P : Id → Ledger → Type 0) (net : Net Ledger) (p : Party) (os : List Offer) → AllByRecursion (λ o. P o.to o.ledger) os → ((q : Id) (n : ℕ) → P q (at_index nothing (net.histories p q) n)) → (q : Id) (n : ℕ) → P q (at_index nothing ((publish net p os).histories p q) n)
publish_each P net p [] h old = old
publish_each P net p (o ∷ os) h old = publish_each P (publish_one net p o) p os h.1 (publish_one_each P net p o h.0 old)

-- a demand that is published
pub published_demands : (c : ClusterRecord) (units : ℕ) (net : Net Ledger) (p : Party) (ledger : Ledger) → MayFollow c units (present net p master_id) ledger → DemandsHold c units (net.histories p master_id) → DemandsHold c units ((publish net p (to_master ledger)).histories p master_id)
published_demands c units net p ledger f w =
    either (λ (n : Net Ledger). DemandsHold c units (n.histories p master_id)) (false || not (same_ledger (present net p master_id) ledger)) (move net (Posts p master_id ledger)) net
    (λ _. subst (DemandsHold c units) (sym (set_here net.histories p master_id (net.histories p master_id ++ ledger ∷ []))) (demands_append c units (net.histories p master_id) ledger f w)) (λ _. w)

-- nothing is added
pub knows_itself : (jobs : List KnownJob) → KnowsMore jobs jobs
knows_itself jobs = record { known = λ a k. (k, refl) }

-- one addition after another
pub knows_then : (a b c : List KnownJob) → KnowsMore a b → KnowsMore b c → KnowsMore a c
knows_then a b c f g = record { known = λ j k. let x = f.known j k in let y = g.known j x.0 in (y.0, y.1 ∙ x.1) }

-- with more jobs the range is wider
pub more_units : (jobs jobs' : List KnownJob) → KnowsMore jobs jobs' → (a : ℕ) → unit_count jobs a ≤ unit_count jobs' a
more_units jobs jobs' k a = by (job_of jobs a) refl
  where
    by : (o : Option KnownJob) → job_of jobs a ≡ o → unit_count jobs a ≤ unit_count jobs' a
    by None e = let z : unit_count jobs a ≡ 0 = ap (λ o. length (unwrap_or (option_map (λ (j : KnownJob). j.job.units) o) [])) e in omega (arith, z)
    by (Some j) e = let s : unit_count jobs' a ≡ unit_count jobs a = ap length (k.known a (ap is_some e)).1 in omega (arith, s)

-- what is in a smaller range is in a wider one
pub ranged_wider : (c : ClusterRecord) (m n : ℕ) (d : Ledger) → m ≤ n → IsRanged c m d → IsRanged c n d
ranged_wider c m n d le r q out = r q (by (nat_lt q.unit m) refl)
  where
    rest : Bool
    rest = nat_eq q.what 1 || cond (nat_eq q.what 3) (has_rack c q.number) (has_machine c q.number)

    by : (b : Bool) → nat_lt q.unit m ≡ b → (b && rest) ≡ false
    by true t = let more : nat_lt q.unit n ≡ true = grind (arith, nat_tests, t, le) in ap (λ b. b && rest) (sym more) ∙ out
    by false t = refl

-- demands hold for more jobs
pub wider : (c : ClusterRecord) (jobs jobs' : List KnownJob) (a : ℕ) (h : List Ledger) → KnowsMore jobs jobs' → DemandsHold c (unit_count jobs a) h → DemandsHold c (unit_count jobs' a) h
wider c jobs jobs' a h k w = record { backs = w.backs; anew = w.anew; tidy = w.tidy; ranged = λ n. ranged_wider c (unit_count jobs a) (unit_count jobs' a) (at_index nothing h n) (more_units jobs jobs' k a) (w.ranged n) }

-- between two entries with one head
pub backs_between : (h : List Ledger) (known : ℕ) → Rising shape h known → ((n : ℕ) → n + 1 ≤ length h → BacksRise (at_index nothing h n) (at_index nothing h (n + 1)))
    → (i j : ℕ) → i ≤ j → j ≤ length h → (at_index nothing h i).head ≡ (at_index nothing h j).head → (u m : ℕ) → at_key (at_index nothing h i) (back_key u m) ≤ at_key (at_index nothing h j) (back_key u m)
backs_between h known r w i zero le top e u m = let same : i ≡ 0 = omega (arith, le) in let s = ap (λ n. at_key (at_index nothing h n) (back_key u m)) same in omega (arith, s)
backs_between h known r w i (suc j) le top e u m = elim (nat_lt j i) as (λ b. nat_lt j i ≡ b → at_key (at_index nothing h i) (back_key u m) ≤ at_key (at_index nothing h (suc j)) (back_key u m)) [
  | true ↦ λ t. let above : j < i = grind (arith, nat_tests) in let same : i ≡ suc j = omega (arith, above, le) in let s = ap (λ n. at_key (at_index nothing h n) (back_key u m)) same in omega (arith, s)
  | false ↦ λ t. let within : i ≤ j = grind (arith, nat_tests) in
      let a = r.rises i j within (omega (arith, top)) in
      let b = r.rises j (suc j) (omega arith) top in
      let next : j + 1 ≡ suc j = omega arith in
      let ij : (at_index nothing h i).head ≡ (at_index nothing h j).head = omega (arith, a, b, e) in
      let jj : (at_index nothing h j).head ≡ (at_index nothing h (j + 1)).head = sym ij ∙ e ∙ ap (λ n. (at_index nothing h n).head) (sym next) in
      let step = w j (omega (arith, top)) jj u m in
      let s = ap (λ n. at_key (at_index nothing h n) (back_key u m)) next in
      omega (arith, s, step, backs_between h known r w i j within (omega (arith, top)) ij u m)
] refl

-- A demand in which one number changes
at_changed : (d : Ledger) (k : Key) (n : ℕ) (q : Key) → at_key (changed_demand d k n) q ≡ cond (eq_by_cmp key_cmp q k) n (at_key d q)
at_changed d k n q = count-set_count key_total d.entries k n q

-- a changed demand may follow on the one before
pub changed_follows : (c : ClusterRecord) (units : ℕ) (d : Ledger) (k : Key) (n : ℕ) → n ≤ greatest_in_demand k → is_there c units k ≡ true → (is_back k ≡ true → at_key d k ≤ n) → IsTidy d → IsRanged c units d → MayFollow c units d (changed_demand d k n)
changed_follows c units d k n le there rises t r = record {
  backs = λ e u m. backs u m (eq_by_cmp key_cmp (back_key u m) k) refl;
  anew = λ differs. absurd (differs refl);
  tidy = counts-set_count key_total greatest_in_demand same_key d.entries k n le t;
  ranged = λ q out. ranged q out (eq_by_cmp key_cmp q k) refl;
}
  where
    backs : (u m : ℕ) (b : Bool) → eq_by_cmp key_cmp (back_key u m) k ≡ b → at_key d (back_key u m) ≤ at_key (changed_demand d k n) (back_key u m)
    backs u m false e = let s = at_changed d k n (back_key u m) ∙ ap (λ b. cond b n (at_key d (back_key u m))) e in omega (arith, s)
    backs u m true e =
        let s = at_changed d k n (back_key u m) ∙ ap (λ b. cond b n (at_key d (back_key u m))) e in
        let same : back_key u m ≡ k = same_key (back_key u m) k (tied _ e) in
        let up = rises (ap is_back (sym same)) in
        let at = ap (at_key d) same in
        omega (arith, s, up, at)

    ranged : (q : Key) → is_there c units q ≡ false → (b : Bool) → eq_by_cmp key_cmp q k ≡ b → at_key (changed_demand d k n) q ≡ 0
    ranged q out false e = at_changed d k n q ∙ ap (λ b. cond b n (at_key d q)) e ∙ r q out
    ranged q out true e = let same : is_there c units q ≡ is_there c units k = ap (is_there c units) (same_key q k (tied _ e)) in absurd (let f : ⊥ = cc in f)

-- a demand of a new epoch may follow whatever stood: it gives nothing back
pub joined_follows : (c : ClusterRecord) (units epoch : ℕ) (d : Ledger) → d.head < epoch → IsTidy d → IsRanged c units d → MayFollow c units d (joined_demand epoch d)
joined_follows c units epoch d above t r = record {
  backs = λ e u m. absurd (omega (arith, e, above));
  anew = λ _ u m. ap (λ o. unwrap_or o 0) (find-where_key key_cmp (λ k. not (is_back k)) (back_key u m) (λ x e. ap (λ k. not (is_back k)) (sym (same_key (back_key u m) x e))) d.entries);
  tidy = counts-where_key key_total greatest_in_demand _ d.entries t;
  ranged = λ q out. ap (λ o. unwrap_or o 0) (find-where_key key_cmp (λ k. not (is_back k)) q (λ x e. ap (λ k. not (is_back k)) (sym (same_key q x e))) d.entries) ∙ kept (not (is_back q)) q (r q out);
}
  where
    kept : (b : Bool) (q : Key) → at_key d q ≡ 0 → unwrap_or (cond b (find key_cmp q d.entries) None) 0 ≡ 0
    kept true q e = e
    kept false q e = refl
