-- A master that is done with a step has nothing to do at the end of the next one, where nothing changes.
use Rattle.std.proofs.Common.{◌≡◌, ℕ, zero, suc, ◌<◌, Bool, true, false, cond, not, nat_eq, nat_lt, List, [], ◌∷◌, ◌++◌, length, map, Option, Some, None, refl, sym, ◌∙◌, ap, subst, arith}
use Rattle.std.specs.Prelude.{◌&&◌, ◌||◌, filter}
use Rattle.std.specs.List.{AllByRecursion, flat_map, list_all}
use Rattle.std.proofs.lemmas.Bool.Decides.{nat_tests}
use Rattle.fuxi_terms.specs.Cluster.{ClusterRecord}
use Rattle.fuxi_terms.specs.Jobs.{unit_count, job_numbers}
use Rattle.fuxi_terms.specs.Keys.{Spot, Pair}
use Rattle.fuxi_terms.specs.Lists.{below}
use Rattle.fuxi_terms.specs.Numbers.{has_number}
use Rattle.fuxi_terms.specs.TallyKeys.{want_key}
use Rattle.fuxi_terms.proofs.Alls.{all_flat, all_mapped, all_more, all_passed}
use Rattle.fuxi_terms.proofs.Booleans.{nat_itself, number_is, or_left, or_right}
use Rattle.spec_roles.specs.Masters.{Master, out}
use Rattle.spec_roles.specs.MasterSteps.{settled_if_serving, ready, is_all_reported}
use Rattle.spec_roles.specs.Placing.{waiting_pairs, has_pair, lined, line_up, placeable, first_placeable, granted, settle, settled, all_out}
use Rattle.spec_roles.proofs.PlacingEnds.{is_placeable}
use Rattle.spec_roles.proofs.TransitionsLemmas.{ready_besides}
use Rattle.spec_world.specs.Good.{AllWait, IsBounded, IsRangedMaster, IsResting}
use Rattle.spec_world.proofs.SettledLemmas.{job_listed, number_below, ranged_same, ready_rests}
use Rattle.spec_world.proofs.TablesInOrder.{ready_waits}

-- a pair with something out is among those that wait
number_passes : (n : ℕ) (test : ℕ → Bool) (ns : List ℕ) → test n ≡ true → has_number n ns ≡ true → has_number n (filter test ns) ≡ true
number_passes n test [] t h = cc
number_passes n test (m ∷ ms) t h = by (λ k. number_passes n test ms t k) (nat_eq n m) refl h
  where
    by : (has_number n ms ≡ true → has_number n (filter test ms) ≡ true) → (b : Bool) → nat_eq n m ≡ b → (b || has_number n ms) ≡ true → has_number n (cond (test m) (m ∷ filter test ms) (filter test ms)) ≡ true
    by rest true e _ =
        let passes : test m ≡ true = subst (λ k. test k ≡ true) (number_is n m e) t in
        ap (λ b. has_number n (cond b (m ∷ filter test ms) (filter test ms))) passes ∙ or_left (nat_eq n m) (has_number n (filter test ms)) e
    by rest false e h = again (test m)
      where
        again : (b : Bool) → has_number n (cond b (m ∷ filter test ms) (filter test ms)) ≡ true
        again true = or_right (nat_eq n m) (has_number n (filter test ms)) (rest h)
        again false = rest h

pair_append : (p : Pair) (xs ys : List Pair) → has_pair p (xs ++ ys) ≡ (has_pair p xs || has_pair p ys)
pair_append p [] ys = refl
pair_append p (x ∷ xs) ys = elim (nat_eq p.0 x.0 && nat_eq p.1 x.1) as (λ b. (b || has_pair p (xs ++ ys)) ≡ ((b || has_pair p xs) || has_pair p ys)) [ true ↦ refl | false ↦ pair_append p xs ys ]

pair_made : (a u : ℕ) (us : List ℕ) → has_number u us ≡ true → has_pair (a, u) (map (λ u. (a, u)) us) ≡ true
pair_made a u [] h = cc
pair_made a u (v ∷ vs) h = by (λ k. pair_made a u vs k) (nat_eq u v) refl h
  where
    by : (has_number u vs ≡ true → has_pair (a, u) (map (λ u. (a, u)) vs) ≡ true) → (b : Bool) → nat_eq u v ≡ b → (b || has_number u vs) ≡ true → has_pair (a, u) ((a, v) ∷ map (λ u. (a, u)) vs) ≡ true
    by rest true e _ = or_left (nat_eq a a && nat_eq u v) (has_pair (a, u) (map (λ u. (a, u)) vs)) (ap (λ b. b && nat_eq u v) (nat_itself a) ∙ e)
    by rest false e h = or_right (nat_eq a a && nat_eq u v) (has_pair (a, u) (map (λ u. (a, u)) vs)) (rest h)

pair_in : (a u : ℕ) (f : ℕ → List Pair) (ns : List ℕ) → has_number a ns ≡ true → has_pair (a, u) (f a) ≡ true → has_pair (a, u) (flat_map f ns) ≡ true
pair_in a u f [] h k = cc
pair_in a u f (n ∷ ns) h k = pair_append (a, u) (f n) (flat_map f ns) ∙ by (λ g. pair_in a u f ns g k) (nat_eq a n) refl h
  where
    by : (has_number a ns ≡ true → has_pair (a, u) (flat_map f ns) ≡ true) → (b : Bool) → nat_eq a n ≡ b → (b || has_number a ns) ≡ true → (has_pair (a, u) (f n) || has_pair (a, u) (flat_map f ns)) ≡ true
    by rest true e _ = or_left (has_pair (a, u) (f n)) (has_pair (a, u) (flat_map f ns)) (subst (λ x. has_pair (a, u) (f x) ≡ true) (number_is a n e) k)
    by rest false e h = or_right (has_pair (a, u) (f n)) (has_pair (a, u) (flat_map f ns)) (rest h)

waits : (c : ClusterRecord) (M : Master) → IsRangedMaster c M → (a u : ℕ) → nat_lt 0 (out M a u) ≡ true → has_pair (a, u) (waiting_pairs M) ≡ true
waits c M r a u h =
    pair_in a u (λ a. map (λ u. (a, u)) (filter (λ u. nat_lt 0 (out M a u)) (below (unit_count M.jobs a)))) (job_numbers M.jobs) (job_listed M.jobs a u (there (nat_lt u (unit_count M.jobs a)) refl))
    (pair_made a u (filter (λ u. nat_lt 0 (out M a u)) (below (unit_count M.jobs a))) (number_passes u (λ u. nat_lt 0 (out M a u)) (below (unit_count M.jobs a)) h (number_below (unit_count M.jobs a) u (there (nat_lt u (unit_count M.jobs a)) refl))))
  where
    there : (b : Bool) → nat_lt u (unit_count M.jobs a) ≡ b → nat_lt u (unit_count M.jobs a) ≡ true
    there true e = e
    there false e = let none = r.wanted a u e in let some : 0 < out M a u = grind (arith, nat_tests, h) in absurd (omega (arith, some, none))

-- and those that wait have something out
all_waiting : (M : Master) → AllByRecursion (λ p. nat_lt 0 (out M p.0 p.1) ≡ true) (waiting_pairs M)
all_waiting M = all_flat (λ p. nat_lt 0 (out M p.0 p.1) ≡ true) (λ a. map (λ u. (a, u)) (filter (λ u. nat_lt 0 (out M a u)) (below (unit_count M.jobs a)))) (job_numbers M.jobs)
    (λ a. all_mapped (λ p. nat_lt 0 (out M p.0 p.1) ≡ true) (λ u. (a, u)) (filter (λ u. nat_lt 0 (out M a u)) (below (unit_count M.jobs a))) (all_passed (λ u. nat_lt 0 (out M a u) ≡ true) (λ u. nat_lt 0 (out M a u)) (below (unit_count M.jobs a)) (λ u e. e)))

-- A line that is up to date stays as it is
all_pass : (test : Pair → Bool) (ps : List Pair) → AllByRecursion (λ p. test p ≡ true) ps → filter test ps ≡ ps
all_pass test [] h = refl
all_pass test (p ∷ ps) h = ap (λ b. cond b (p ∷ filter test ps) (filter test ps)) h.0 ∙ ap (λ l. p ∷ l) (all_pass test ps h.1)

none_pass : (test : Pair → Bool) (ps : List Pair) → AllByRecursion (λ p. test p ≡ false) ps → filter test ps ≡ []
none_pass test [] h = refl
none_pass test (p ∷ ps) h = ap (λ b. cond b (p ∷ filter test ps) (filter test ps)) h.0 ∙ none_pass test ps h.1

append_none : (ps : List Pair) → ps ++ [] ≡ ps
append_none [] = refl
append_none (p ∷ ps) = ap (λ l. p ∷ l) (append_none ps)

line_stays : (c : ClusterRecord) (M : Master) → IsResting c M → AllWait M M.line → lined M.line (waiting_pairs M) ≡ M.line
line_stays c M r w =
    ap (λ l. l ++ filter (λ p. not (has_pair p M.line)) (waiting_pairs M)) (all_pass (λ p. has_pair p (waiting_pairs M)) M.line (all_more (λ p. nat_lt 0 (out M p.0 p.1) ≡ true) (λ p. has_pair p (waiting_pairs M) ≡ true) (λ p e. waits c M r.ranged p.0 p.1 e) M.line w))
    ∙ ap (λ l. M.line ++ l) (none_pass (λ p. not (has_pair p M.line)) (waiting_pairs M) (all_more (λ p. nat_lt 0 (out M p.0 p.1) ≡ true) (λ p. not (has_pair p M.line) ≡ false) (λ p e. ap not (r.line p.0 p.1 ∙ e)) (waiting_pairs M) (all_waiting M)))
    ∙ append_none M.line

-- nothing is granted
none_first : (c : ClusterRecord) (M : Master) → ((a u m : ℕ) → placeable c M a u m ≡ false) → first_placeable c M ≡ None
none_first c M none = by (first_placeable c M) refl
  where
    by : (o : Option Spot) → first_placeable c M ≡ o → first_placeable c M ≡ None
    by None e = e
    by (Some s) e = let yes = is_placeable c M s e in let no = none s.job s.unit s.machine in absurd (let f : ⊥ = cc in f)

settle_stays : (c : ClusterRecord) (fuel : ℕ) (M : Master) → first_placeable c M ≡ None → settle c fuel M ≡ M
settle_stays c zero M e = refl
settle_stays c (suc fuel) M e = ap (λ o. elim o as (λ _. Master) [ None ↦ M | Some s ↦ settle c fuel (granted M s) ]) e

served_stays : (c : ClusterRecord) (M : Master) → ((a u m : ℕ) → placeable c M a u m ≡ false) → settled_if_serving c M ≡ M
served_stays c M none = by M.serving
  where
    by : (b : Bool) → elim b as (λ _. Master) [ true ↦ settled c M | false ↦ M ] ≡ M
    by true = settle_stays c (all_out M) M (none_first c M none)
    by false = refl

-- a master that rests
rests_stay : (c : ClusterRecord) (M : Master) → IsResting c M → AllWait M M.line → (M.serving || is_all_reported c M) ≡ M.serving → ready c M ≡ M
rests_stay c M r w phase =
    ap (λ b. settled_if_serving c (line_up (record M { serving = b }))) phase
    ∙ ap (λ l. settled_if_serving c (record M { line = l })) (line_stays c M r w)
    ∙ served_stays c M r.settled

-- the end of a step ends what there was to do
pub ready_stays : (c : ClusterRecord) (N : Master) → IsBounded c (ready c N) → ready c (ready c N) ≡ ready c N
ready_stays c N b = rests_stay c R (ready_rests c N ranged) (ready_waits c N) phase
  where
    R : Master
    R = ready c N

    -- what is wanted is of units that are there
    ranged : IsRangedMaster c N
    ranged =
        let k = ready_besides c N in
        let of_units : IsRangedMaster c (ready c N) = record { reported = b.reported; wanted = λ a u none. (b.demands a).1 (want_key u) (ap (λ t. t && true) none) } in
        ranged_same c (ready c N) N (record { jobs = sym k.jobs; demands = sym k.demands; reported = sym k.reported }) of_units

    twice : (x y : Bool) → ((x || y) || y) ≡ (x || y)
    twice true y = refl
    twice false true = refl
    twice false false = refl

    phase : ((ready c N).serving || is_all_reported c (ready c N)) ≡ (ready c N).serving
    phase = let k = ready_besides c N in
        (λ i. k.serving i || list_all (λ m. has_number m (k.reported i)) (below (length c.machines))) ∙ twice N.serving (is_all_reported c N) ∙ sym k.serving
