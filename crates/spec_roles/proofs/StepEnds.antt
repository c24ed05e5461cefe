-- What the end of a master's step does to its sides, said of each peer.
use Rattle.std.proofs.Common.{◌≡◌, ℕ, zero, suc, ◌<◌, ◌≤◌, Bool, true, false, cond, not, nat_eq, nat_lt, List, [], ◌∷◌, ◌++◌, length, map, Option, Some, refl, sym, ◌∙◌, ap, subst, arith}
use Rattle.std.specs.Prelude.{◌&&◌, ◌||◌, is_some}
use Rattle.std.specs.List.{AllByRecursion}
use Rattle.std.proofs.lemmas.List.{map-append}
use Rattle.std.proofs.lemmas.Bool.Decides.{nat_tests}
use Rattle.std.proofs.lemmas.List.Folds.{list_any-append}
use Rattle.fuxi_terms.specs.Cluster.{ClusterRecord}
use Rattle.spec_net.specs.Net.{Id, same_id}
use Rattle.spec_net.specs.Ledgers.{Ledger, same_ledger}
use Rattle.spec_net.specs.Channels.{agent_id, app_id, is_agent, is_app, Offer}
use Rattle.fuxi_terms.specs.Jobs.{KnownJob, job_of, is_known, job_numbers}
use Rattle.fuxi_terms.specs.Lists.{below}
use Rattle.fuxi_terms.specs.Numbers.{with_number}
use Rattle.spec_roles.specs.Masters.{Master}
use Rattle.spec_roles.specs.MasterSteps.{projected, talks, peers, is_one_of}
use Rattle.spec_net.proofs.NetLemmas.{id_is}
use Rattle.fuxi_terms.proofs.Booleans.{number_is, or_false}
use Rattle.spec_net.specs.Sides.{Side, shown, appended}
use Rattle.spec_roles.specs.MasterRoles.{set_side, publish_alone, offers_alone, side_after}

-- no peer stands twice in the list
pub AreDistinct : List Id → Type 0
AreDistinct [] = Unit {0}
AreDistinct (q ∷ qs) = (is_one_of q qs ≡ false) × AreDistinct qs

module _ (f : Id → Bool) (g : Id → Ledger) where
  offer : Id → Offer
  offer q = record { to = q; even_if_equal = f q; ledger = g q }

  -- each of the peers has its ledger appended once, all others stay
  pub published_at : (qs : List Id) → AreDistinct qs → (sides : Id → Side) (q : Id)
      → publish_alone sides (map (λ q. record { to = q; even_if_equal = f q; ledger = g q }) qs) q ≡ cond (is_one_of q qs) (appended (f q) (g q) (sides q)) (sides q)
  unfolding AreDistinct
  published_at [] d sides q = refl
  published_at (a ∷ qs) d sides q =
      let next = set_side sides a (appended (f a) (g a) (sides a)) in
      published_at qs d.1 next q ∙ elim (same_id a q) as (λ b. same_id a q ≡ b → cond (is_one_of q qs) (appended (f q) (g q) (elim b as (λ _. Side) [ true ↦ appended (f a) (g a) (sides a) | false ↦ sides q ])) (elim b as (λ _. Side) [ true ↦ appended (f a) (g a) (sides a) | false ↦ sides q ])
      ≡ cond (b || is_one_of q qs) (appended (f q) (g q) (sides q)) (sides q)) [
        | true ↦ λ e. let same = id_is a q e in subst (λ q. cond (is_one_of q qs) (appended (f q) (g q) (appended (f a) (g a) (sides a))) (appended (f a) (g a) (sides a)) ≡ appended (f q) (g q) (sides q)) same
            (ap (λ b. cond b (appended (f a) (g a) (appended (f a) (g a) (sides a))) (appended (f a) (g a) (sides a))) d.0)
        | false ↦ λ e. refl
      ] refl

-- a ledger that is shown already is not appended
pub shown_stays : (e : Side) (l : Ledger) → same_ledger (shown e) l ≡ true → appended false l e ≡ e
shown_stays e l same = ap (λ b. cond (not b) (record { link = e.link; got = e.got; sent = e.sent ++ l ∷ [] }) e) same

-- Which peers there are
or_assoc : (a b c : Bool) → (a || (b || c)) ≡ ((a || b) || c)
or_assoc true b c = refl
or_assoc false b c = refl

or_swap : (a b c : Bool) → (b || (a || c)) ≡ (a || (b || c))
or_swap true true c = refl
or_swap true false c = refl
or_swap false b c = refl

or_twice : (a b c : Bool) → a ≡ b → (b || c) ≡ (a || (b || c))
or_twice true true c e = refl
or_twice true false c e = cc
or_twice false b c e = refl

listed_both : (q : Id) (xs ys : List Id) → is_one_of q (xs ++ ys) ≡ (is_one_of q xs || is_one_of q ys)
listed_both q xs ys = list_any-append (λ p. nat_eq p.role q.role && nat_eq p.number q.number) xs ys

below_more : (r k n : ℕ) → ((nat_eq r 2 && nat_lt k n) || (nat_eq 2 r && nat_eq n k)) ≡ (nat_eq r 2 && nat_lt k (suc n))
below_more r k n = by (nat_eq r 2) (nat_eq 2 r) (nat_lt k n) (nat_eq n k) (nat_lt k (suc n)) (grind (arith, nat_tests)) (grind (arith, nat_tests))
  where
    by : (a b x y z : Bool) → a ≡ b → (x || y) ≡ z → ((a && x) || (b && y)) ≡ (a && z)
    by true true x y z e h = h
    by true false x y z e h = cc
    by false true x y z e h = cc
    by false false x y z e h = refl

none_below : (r k : ℕ) → false ≡ (nat_eq r 2 && nat_lt k 0)
none_below r k = by (nat_eq r 2) (nat_lt k 0) (grind (arith, nat_tests))
  where
    by : (a b : Bool) → b ≡ false → false ≡ (a && b)
    by true b e = sym e
    by false b e = refl

-- the agents of the cluster
pub agents_listed : (n : ℕ) (q : Id) → is_one_of q (map agent_id (below n)) ≡ (is_agent q && nat_lt q.number n)
agents_listed zero q = none_below q.role q.number
agents_listed (suc n) q =
    ap (is_one_of q) (map-append agent_id (below n) (n ∷ [])) ∙ listed_both q (map agent_id (below n)) (agent_id n ∷ [])
    ∙ (λ i. agents_listed n q i || or_false (nat_eq 2 q.role && nat_eq n q.number) i) ∙ below_more q.role q.number n

with_listed : (n : ℕ) (ns : List ℕ) (q : Id) → is_one_of q (map app_id (with_number n ns)) ≡ ((nat_eq 3 q.role && nat_eq n q.number) || is_one_of q (map app_id ns))
with_listed n [] q = refl
with_listed n (m ∷ ms) q = by (with_listed n ms q) (nat_lt n m) (nat_eq n m) refl
  where
    by : is_one_of q (map app_id (with_number n ms)) ≡ ((nat_eq 3 q.role && nat_eq n q.number) || is_one_of q (map app_id ms)) → (a b : Bool) → nat_eq n m ≡ b → is_one_of q (map app_id (cond a (n ∷ m ∷ ms) (cond b (m ∷ ms) (m ∷ with_number n ms)))) ≡ ((nat_eq 3 q.role && nat_eq n q.number) || ((nat_eq 3 q.role && nat_eq m q.number) || is_one_of q (map app_id ms)))
    by rest true b e = refl
    by rest false true e = or_twice (nat_eq 3 q.role && nat_eq n q.number) (nat_eq 3 q.role && nat_eq m q.number) (is_one_of q (map app_id ms)) (let same = number_is n m e in ap (λ k. nat_eq 3 q.role && nat_eq k q.number) same)
    by rest false false e = ap (λ b. (nat_eq 3 q.role && nat_eq m q.number) || b) rest ∙ or_swap (nat_eq 3 q.role && nat_eq n q.number) (nat_eq 3 q.role && nat_eq m q.number) (is_one_of q (map app_id ms))

known_more : (r a n : ℕ) (j : KnownJob) (o : Option KnownJob) → ((nat_eq 3 r && nat_eq n a) || (nat_eq r 3 && is_some o)) ≡ (nat_eq r 3 && is_some (cond (nat_eq n a) (Some j) o))
known_more r a n j o = by (nat_eq 3 r) (nat_eq r 3) (nat_eq n a) (grind (arith, nat_tests))
  where
    by : (x y z : Bool) → x ≡ y → ((x && z) || (y && is_some o)) ≡ (y && is_some (cond z (Some j) o))
    by true true true e = refl
    by true true false e = refl
    by true false z e = cc
    by false true z e = cc
    by false false z e = refl

-- the applications of known jobs
pub apps_listed : (jobs : List KnownJob) (q : Id) → is_one_of q (map app_id (job_numbers jobs)) ≡ (is_app q && is_known jobs q.number)
apps_listed [] q = by (nat_eq q.role 3)
  where
    by : (a : Bool) → false ≡ (a && false)
    by true = refl
    by false = refl
apps_listed (j ∷ js) q = with_listed j.job.number (job_numbers js) q ∙ ap (λ b. (nat_eq 3 q.role && nat_eq j.job.number q.number) || b) (apps_listed js q) ∙ known_more q.role q.number j.job.number j (job_of js q.number)

-- a master's peers are those to whom it talks
pub peers_talk : (c : ClusterRecord) (M : Master) (q : Id) → is_one_of q (peers c M) ≡ talks c M q
peers_talk c M q = listed_both q (map agent_id (below (length c.machines))) (map app_id (job_numbers M.jobs)) ∙ (λ i. agents_listed (length c.machines) q i || apps_listed M.jobs q i)

-- They are distinct
all_append : (P : Id → Type 0) (xs ys : List Id) → AllByRecursion P xs → AllByRecursion P ys → AllByRecursion P (xs ++ ys)
all_append P [] ys h k = k
all_append P (x ∷ xs) ys h k = (h.0, all_append P xs ys h.1 k)

distinct_both : (xs ys : List Id) → AreDistinct xs → AreDistinct ys → AllByRecursion (λ q. is_one_of q ys ≡ false) xs → AreDistinct (xs ++ ys)
unfolding AreDistinct
distinct_both [] ys d e n = e
distinct_both (x ∷ xs) ys d e n = (listed_both x xs ys ∙ (λ i. d.0 i || n.0 i), distinct_both xs ys d.1 e n.1)

agents_distinct : (n : ℕ) → AreDistinct (map agent_id (below n))
unfolding AreDistinct
agents_distinct zero = tt
agents_distinct (suc n) = subst AreDistinct (sym (map-append agent_id (below n) (n ∷ []))) (distinct_both (map agent_id (below n)) (agent_id n ∷ []) (agents_distinct n) (refl, tt) (others n (omega arith)))
  where
    others : (k : ℕ) → k ≤ n → AllByRecursion (λ q. is_one_of q (agent_id n ∷ []) ≡ false) (map agent_id (below k))
    others zero le = tt
    others (suc k) le = subst (AllByRecursion (λ q. is_one_of q (agent_id n ∷ []) ≡ false)) (sym (map-append agent_id (below k) (k ∷ []))) (all_append _ (map agent_id (below k)) (agent_id k ∷ []) (others k (omega arith)) (let e : nat_eq n k ≡ false = grind (arith, nat_tests, le) in ap (λ b. b || false) e, tt))

-- numbers that rise from above a bound
Rise : ℕ → List ℕ → Type 0
Rise b [] = Unit {0}
Rise b (n ∷ ns) = (b ≤ n) × Rise (suc n) ns

rise_less : (a b : ℕ) (ns : List ℕ) → a ≤ b → Rise b ns → Rise a ns
unfolding Rise
rise_less a b [] le h = tt
rise_less a b (n ∷ ns) le h = (omega (arith, le, h.0), h.1)

with_rises : (b n : ℕ) (ns : List ℕ) → b ≤ n → Rise b ns → Rise b (with_number n ns)
unfolding Rise
with_rises b n [] le h = (le, tt)
with_rises b n (m ∷ ms) le h = by (λ more. with_rises (suc m) n ms more h.1) (nat_lt n m) (nat_eq n m) refl refl
  where
    by : (suc m ≤ n → Rise (suc m) (with_number n ms)) → (x y : Bool) → nat_lt n m ≡ x → nat_eq n m ≡ y → Rise b (cond x (n ∷ m ∷ ms) (cond y (m ∷ ms) (m ∷ with_number n ms)))
    by rest true y e f = (le, (let lt : n < m = grind (arith, nat_tests, e) in omega arith, h.1))
    by rest false true e f = h
    by rest false false e f = (h.0, rest (grind (arith, nat_tests, e, f)))

numbers_rise : (jobs : List KnownJob) → Rise 0 (job_numbers jobs)
unfolding Rise
numbers_rise [] = tt
numbers_rise (j ∷ js) = with_rises 0 j.job.number (job_numbers js) (omega arith) (numbers_rise js)

rising_distinct : (b : ℕ) (ns : List ℕ) → Rise b ns → AreDistinct (map app_id ns)
unfolding AreDistinct Rise
rising_distinct b [] h = tt
rising_distinct b (n ∷ ns) h = (absent n (suc n) ns (omega arith) h.1, rising_distinct (suc n) ns h.1)
  where
    absent : (n b : ℕ) (ms : List ℕ) → n < b → Rise b ms → is_one_of (app_id n) (map app_id ms) ≡ false
    absent n b [] lt k = refl
    absent n b (m ∷ ms) lt k =
        let k0 = k.0 in
        let e : nat_eq m n ≡ false = grind (arith, nat_tests, lt, k0) in
        (λ i. e i || is_one_of (app_id n) (map app_id ms)) ∙ absent n (suc m) ms (omega (arith, lt, k0)) k.1

apart : (ns ms : List ℕ) → AllByRecursion (λ q. is_one_of q (map app_id ms) ≡ false) (map agent_id ns)
apart [] ms = tt
apart (n ∷ ns) ms = (one ms, apart ns ms)
  where
    one : (ms : List ℕ) → is_one_of (agent_id n) (map app_id ms) ≡ false
    one [] = refl
    one (m ∷ ms) = one ms

-- no peer of a master stands twice
pub peers_distinct : (c : ClusterRecord) (M : Master) → AreDistinct (peers c M)
peers_distinct c M = distinct_both (map agent_id (below (length c.machines))) (map app_id (job_numbers M.jobs)) (agents_distinct (length c.machines)) (rising_distinct 0 (job_numbers M.jobs) (numbers_rise M.jobs)) (apart (below (length c.machines)) (job_numbers M.jobs))

-- the end of a master's step, said of each peer
pub ends_at : (c : ClusterRecord) (sides : Id → Side) (M : Master) (even_if_equal : List Id) (q : Id) → publish_alone sides (offers_alone c sides M even_if_equal) q ≡ side_after c sides M even_if_equal q
ends_at c sides M even_if_equal q = published_at (λ q. is_one_of q even_if_equal) (λ q. projected M q (sides q).link.known) (peers c M) (peers_distinct c M) sides q
    ∙ ap (λ b. cond b (appended (is_one_of q even_if_equal) (projected M q (sides q).link.known) (sides q)) (sides q)) (peers_talk c M q)
