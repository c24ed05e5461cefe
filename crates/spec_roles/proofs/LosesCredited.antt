-- A master's counts fall only by what is credited, and where it bans, ends or makes room.
use Rattle.std.proofs.Common.{◌≡◌, ◌⊎◌, inl, inr, ℕ, ◌+◌, ◌-◌, ◌<◌, ◌≤◌, Bool, true, false, cond, not, nat_eq, nat_lt, List, [], ◌∷◌, Some, None, Ok, refl, sym, ◌∙◌, ap, subst, arith, min}
use Rattle.std.specs.Prelude.{◌&&◌, ◌||◌, T}
use Rattle.std.specs.Option.{unwrap_or}
use Rattle.std.specs.Ordering.{nat_cmp, eq_by_cmp, is_eq}
use Rattle.std.specs.Cmp.{tied_itself}
use Rattle.std.specs.FinMap.Entries.{below_all, find, put, where_key, is_sorted, is_sorted-where_key}
use Rattle.std.proofs.lemmas.Bool.Decides.{nat_tests}
use Rattle.fuxi_terms.specs.declared.Key.{Key}
use Rattle.fuxi_terms.specs.Cluster.{ClusterRecord, has_machine}
use Rattle.fuxi_terms.specs.Counts.{count, set_count}
use Rattle.fuxi_terms.specs.Jobs.{is_known, is_live}
use Rattle.fuxi_terms.specs.Keys.{key_cmp, Spot, spot_cmp}
use Rattle.fuxi_terms.specs.Numbers.{has_number}
use Rattle.fuxi_terms.specs.TallyKeys.{credited_key, back_key, is_back}
use Rattle.fuxi_terms.specs.Tables.{spot, held_on, Table}
use Rattle.fuxi_terms.proofs.Booleans.{both_true, either, number_is}
use Rattle.fuxi_terms.proofs.CountsLemmas.{both_true as both, tied, below_none, count-set_count}
use Rattle.fuxi_terms.proofs.KeyOrders.{key_total, same_key, spot_total, same_spot}
use Rattle.spec_net.specs.Net.{Id}
use Rattle.spec_net.specs.Ledgers.{Ledger, nothing}
use Rattle.spec_net.specs.Channels.{app_id, is_agent, is_app}
use Rattle.spec_roles.specs.Masters.{Master, credited_of}
use Rattle.spec_roles.specs.MasterSteps.{counted, talks, said, ready, adopted, adopts, credit, raise_credited, take_demand, meet_app, told_of, MasterChange, Changed, change_of, Admits, Ends, Bans, Unbans, Begins, Preempts}
use Rattle.spec_roles.specs.Transitions.{IsOrderly, credited_at, LosesOnlyCredited, MayLose}
use Rattle.spec_roles.proofs.MapLemmas.{found_put}
use Rattle.spec_roles.proofs.RaisedCredits.{raised}
use Rattle.spec_roles.proofs.TransitionsLemmas.{EachChange, changed_has, EachHeard, heard_has, reported_in, ready_besides, ready_rises, count_left, adopted_beside, credit_one, credit_beside}

-- Crediting an entry that is not given back here takes nothing here
one_beside : (a : ℕ) (cs : List (Key × ℕ)) (e : Key × ℕ) (table : Table) (u m : ℕ) → eq_by_cmp key_cmp (back_key u m) e.0 ≡ false → count spot_cmp (credit_one a cs e table) (spot a u m) ≡ count spot_cmp table (spot a u m)
one_beside a cs e table u m other =
    let s = spot a e.0.unit e.0.number in
    let here = count spot_cmp table s in
    let k = here - min (e.1 - count key_cmp cs (credited_key e.0.unit e.0.number)) here in
    either (λ t. count spot_cmp t (spot a u m) ≡ count spot_cmp table (spot a u m)) (is_back e.0) (set_count spot_cmp table s k) table
    (λ back. count-set_count spot_total table s k (spot a u m) ∙ ap (λ b. cond b k (count spot_cmp table (spot a u m))) (apart back (eq_by_cmp spot_cmp (spot a u m) s) refl)) (λ _. refl)
  where
    apart : is_back e.0 ≡ true → (b : Bool) → eq_by_cmp spot_cmp (spot a u m) (spot a e.0.unit e.0.number) ≡ b → eq_by_cmp spot_cmp (spot a u m) (spot a e.0.unit e.0.number) ≡ false
    apart back false t = t
    apart back true t =
        let same : spot a u m ≡ spot a e.0.unit e.0.number = same_spot (spot a u m) (spot a e.0.unit e.0.number) (tied _ t) in
        let what : 5 ≡ e.0.what = sym (number_is e.0.what 5 back) in
        let unit : u ≡ e.0.unit = ap (λ (x : Spot). x.unit) same in
        let number : m ≡ e.0.number = ap (λ (x : Spot). x.machine) same in
        let key : back_key u m ≡ e.0 = (λ i. record { what = what i; unit = unit i; number = number i }) in
        let yes : eq_by_cmp key_cmp (back_key u m) e.0 ≡ true = ap (λ k. eq_by_cmp key_cmp (back_key u m) k) (sym key) ∙ ap is_eq (tied_itself key_total (back_key u m)) in
        absurd (let f : ⊥ = cc in f)

-- nor does a demand that gives nothing back here
credit_unsaid : (a : ℕ) (cs es : List (Key × ℕ)) (table : Table) (u m : ℕ) → find key_cmp (back_key u m) es ≡ None → count spot_cmp (credit a cs es table) (spot a u m) ≡ count spot_cmp table (spot a u m)
credit_unsaid a cs [] table u m n = refl
credit_unsaid a cs (e ∷ es) table u m n = by (eq_by_cmp key_cmp (back_key u m) e.0) refl n (credit_unsaid a cs es (credit_one a cs e table) u m)
  where
    by : (b : Bool) → eq_by_cmp key_cmp (back_key u m) e.0 ≡ b → cond b (Some e.1) (find key_cmp (back_key u m) es) ≡ None
        → (find key_cmp (back_key u m) es ≡ None → count spot_cmp (credit a cs es (credit_one a cs e table)) (spot a u m) ≡ count spot_cmp (credit_one a cs e table) (spot a u m)) → count spot_cmp (credit a cs es (credit_one a cs e table)) (spot a u m) ≡ count spot_cmp table (spot a u m)
    by true t n rest = cc
    by false t n rest = rest n ∙ one_beside a cs e table u m t

-- here a demand takes at most what it gives back beyond what was credited
credit_loses : (a : ℕ) (cs es : List (Key × ℕ)) (table : Table) (u m : ℕ) → T (is_sorted key_cmp es)
    → count spot_cmp table (spot a u m) ≤ count spot_cmp (credit a cs es table) (spot a u m) + (count key_cmp es (back_key u m) - count key_cmp cs (credited_key u m))
credit_loses a cs [] table u m k = omega arith
credit_loses a cs (e ∷ es) table u m k = by (eq_by_cmp key_cmp (back_key u m) e.0) refl (credit_loses a cs es (credit_one a cs e table) u m (both (below_all key_cmp e.0 es) (is_sorted key_cmp es) k).1)
  where
    q : Spot
    q = spot a u m

    n : ℕ
    n = count spot_cmp table q

    more : ℕ
    more = e.1 - count key_cmp cs (credited_key u m)

    itself : eq_by_cmp spot_cmp q q ≡ true
    itself = ap is_eq (tied_itself spot_total q)

    one : back_key u m ≡ e.0 → count spot_cmp (credit_one a cs e table) q ≡ n - min more n
    one same = ap (λ (k : Key). count spot_cmp (credit_one a cs (k, e.1) table) q) (sym same) ∙ count-set_count spot_total table q (n - min more n) q ∙ ap (λ b. cond b (n - min more n) n) itself

    by : (b : Bool) → eq_by_cmp key_cmp (back_key u m) e.0 ≡ b
        → count spot_cmp (credit_one a cs e table) q ≤ count spot_cmp (credit a cs es (credit_one a cs e table)) q + (count key_cmp es (back_key u m) - count key_cmp cs (credited_key u m))
        → n ≤ count spot_cmp (credit a cs es (credit_one a cs e table)) q + (unwrap_or (cond b (Some e.1) (find key_cmp (back_key u m) es)) 0 - count key_cmp cs (credited_key u m))
    by true t rest =
        let same : back_key u m ≡ e.0 = same_key (back_key u m) e.0 (tied _ t) in
        let none : find key_cmp (back_key u m) es ≡ None = ap (λ k. find key_cmp k es) same ∙ below_none key_cmp e.0 es (both (below_all key_cmp e.0 es) (is_sorted key_cmp es) k).0 in
        let x = credit_unsaid a cs es (credit_one a cs e table) u m none in
        let y = one same in
        omega (arith, x, y)
    by false t rest = let x = one_beside a cs e table u m t in omega (arith, x, rest)

-- Changes
pub record KeepsCounts (M : Master) (x : MasterChange) (N : Master) : Type 0 where
  pub keeps : (a u m : ℕ) → (MayLose x a u m → ⊥) → held_on M.table a u m ≤ held_on N.table a u m

-- each change
pub each_change : (c : ClusterRecord) (M : Master) → EachChange c M (KeepsCounts M)
each_change c M = record {
  admits = λ j. record { keeps = λ a u m _. omega arith };
  ends = λ b. record { keeps = λ a u m never. left (λ s. not (nat_eq s.job b)) a u m (nat_eq a b) (λ e. never (sym (number_is a b e))) refl };
  bans = λ n. record { keeps = λ a u m never. left (λ s. not (nat_eq s.machine n)) a u m (nat_eq m n) (λ e. never (sym (number_is m n e))) refl };
  unbans = λ n. record { keeps = λ a u m _. omega arith };
  begins = record { keeps = λ a u m _. omega arith };
  preempts = λ p _ _. record { keeps = λ a u m never. absurd (never tt) };
}
  where
    left : (p : Spot → Bool) (a u m : ℕ) (b : Bool) → (b ≡ true → ⊥) → p (spot a u m) ≡ not b → count spot_cmp M.table (spot a u m) ≤ count spot_cmp (where_key spot_cmp p M.table) (spot a u m)
    left p a u m true never e = absurd (never refl)
    left p a u m false never e = let x : count spot_cmp (where_key spot_cmp p M.table) (spot a u m) ≡ count spot_cmp M.table (spot a u m) = count_left p M.table (spot a u m) ∙ ap (λ b. cond b (count spot_cmp M.table (spot a u m)) 0) e in omega (arith, x)

-- numbers are the same or not
pub numbers : (x y : ℕ) → (x ≡ y) ⊎ (x ≡ y → ⊥)
numbers x y = by (nat_eq x y) refl
  where
    by : (b : Bool) → nat_eq x y ≡ b → (x ≡ y) ⊎ (x ≡ y → ⊥)
    by true e = inl (number_is x y e)
    by false e = inr (λ same. let yes : nat_eq x y ≡ true = grind (arith, nat_tests, same) in absurd (let f : ⊥ = cc in f))

-- whether a change may lose grants here is decided
decided : (x : MasterChange) (a u m : ℕ) → MayLose x a u m ⊎ (MayLose x a u m → ⊥)
decided (Admits j) a u m = inr (λ f. f)
decided (Ends b) a u m = numbers b a
decided (Bans n) a u m = numbers n m
decided (Unbans n) a u m = inr (λ f. f)
decided Begins a u m = inr (λ f. f)
decided Preempts a u m = inl tt

pub changes_lose : (c : ClusterRecord) (M : Master) (x : MasterChange) (d : Changed) → change_of c M x ≡ Ok d → (a u m : ℕ) → held_on (ready c d.state).table a u m < held_on M.table a u m → MayLose x a u m
changes_lose c M x d e a u m falls = by (decided x a u m)
  where
    by : MayLose x a u m ⊎ (MayLose x a u m → ⊥) → MayLose x a u m
    by (inl may) = may
    by (inr never) =
        let k = (changed_has c M (KeepsCounts M) (each_change c M) x d e).keeps a u m never in
        let r = ready_rises c d.state (spot a u m) in
        absurd (omega (arith, k, r, falls))

-- Hearing
is_this_app : (q : Id) → is_app q ≡ true → q ≡ app_id q.number
is_this_app q e = let role = number_is q.role 3 e in (λ i. record { role = role i; number = q.number })

record Loses (fresh : Bool) (from : Id) (M N : Master) : Type 0 where
  it : LosesOnlyCredited fresh from M N

-- what is credited to a new boot
pub met_credited : (fresh : Bool) (M : Master) (a u m : ℕ) → credited_at (meet_app fresh M a) a u m ≡ cond fresh 0 (credited_at M a u m)
met_credited true M a u m = ap (λ cs. count key_cmp cs (credited_key u m)) (found_put a [] [] M.credited)
met_credited false M a u m = refl

met_table : (fresh : Bool) (M : Master) (a : ℕ) → (meet_app fresh M a).table ≡ M.table
met_table true M a = refl
met_table false M a = refl

-- a demand that is taken
demand_loses : (N : Master) (n : ℕ) (l : Ledger) → T (is_sorted key_cmp l.entries) → (u m : ℕ) → held_on N.table n u m ≤ held_on (take_demand N n l).table n u m + (credited_at (take_demand N n l) n u m - credited_at N n u m)
demand_loses N n l k u m = either (λ (X : Master). held_on N.table n u m ≤ held_on X.table n u m + (credited_at X n u m - credited_at N n u m)) (nat_eq l.head N.epoch && is_live N.jobs n)
    (record N { demands = put nat_cmp n l N.demands; table = credit n (credited_of N n) l.entries N.table; credited = put nat_cmp n (raise_credited (credited_of N n) l.entries) N.credited })
    (record N { demands = put nat_cmp n nothing N.demands })
    (λ _.
    let loses = credit_loses n (credited_of N n) l.entries N.table u m k in
    let is : count key_cmp (unwrap_or (find nat_cmp n (put nat_cmp n (raise_credited (credited_of N n) l.entries) N.credited)) []) (credited_key u m) ≡ cond (nat_lt (credited_at N n u m) (count key_cmp l.entries (back_key u m))) (count key_cmp l.entries (back_key u m)) (credited_at N n u m) =
    ap (λ cs. count key_cmp cs (credited_key u m)) (found_put n (raise_credited (credited_of N n) l.entries) [] N.credited) ∙ raised (credited_of N n) l.entries k u m in
    let most = greater (credited_at N n u m) (count key_cmp l.entries (back_key u m)) (nat_lt (credited_at N n u m) (count key_cmp l.entries (back_key u m))) refl in
    omega (arith, loses, is, most))
    (λ _. omega arith)
  where
    greater : (x y : ℕ) (b : Bool) → nat_lt x y ≡ b → y ≤ cond b y x
    greater x y true e = omega arith
    greater x y false e = grind (arith, nat_tests, e)

demand_beside : (N : Master) (n : ℕ) (l : Ledger) (a u m : ℕ) → nat_eq a n ≡ false → held_on N.table a u m ≤ held_on (take_demand N n l).table a u m
demand_beside N n l a u m other = either (λ (X : Master). held_on N.table a u m ≤ held_on X.table a u m) (nat_eq l.head N.epoch && is_live N.jobs n)
    (record N { demands = put nat_cmp n l N.demands; table = credit n (credited_of N n) l.entries N.table; credited = put nat_cmp n (raise_credited (credited_of N n) l.entries) N.credited })
    (record N { demands = put nat_cmp n nothing N.demands })
    (λ _. let same = credit_beside n (credited_of N n) l.entries N.table (spot a u m) other in omega (arith, same)) (λ _. omega arith)

each_heard : (c : ClusterRecord) (M : Master) (fresh : Bool) (from : Id) (l : Ledger) → IsOrderly M → (is_agent from ≡ false → T (is_sorted key_cmp l.entries)) → talks c M from ≡ true → EachHeard M fresh from l (Loses fresh from M)
each_heard c M fresh from l h k t = record {
  same = λ agent. record { it = record { own = λ a u m _. omega arith; others = λ a u m _. omega arith } };
  reports = λ agent adopts. record { it = record { own = λ a u m _. (let x = reported a u m adopts (nat_eq m from.number) refl in omega (arith, x)); others = λ a u m _. reported a u m adopts (nat_eq m from.number) refl } };
  meets = λ _. record { it = record { own = λ a u m _. met a u m; others = λ a u m _. met_same a u m } };
  demands = λ app. record { it = record { own = λ a u m is. demanded app a u m is; others = λ a u m never. besides app a u m never } };
}
  where
    N : Master
    N = meet_app fresh M from.number

    met_same : (a u m : ℕ) → held_on M.table a u m ≤ held_on N.table a u m
    met_same a u m = let e : held_on N.table a u m ≡ held_on M.table a u m = ap (λ t. held_on t a u m) (met_table fresh M from.number) in omega (arith, e)

    met : (a u m : ℕ) → held_on M.table a u m ≤ held_on N.table a u m + (credited_at N a u m - cond fresh 0 (credited_at M a u m))
    met a u m = let e = met_same a u m in omega (arith, e)

    turned : (b : Bool) → not b ≡ true → b ≡ false
    turned true e = cc
    turned false e = refl

    unreported : adopts M from.number l ≡ true → has_number from.number M.reported ≡ false
    unreported e = turned (has_number from.number M.reported) (both_true (nat_eq l.head M.epoch) (not (has_number from.number M.reported)) e).1

    reported : (a u m : ℕ) → adopts M from.number l ≡ true → (b : Bool) → nat_eq m from.number ≡ b → held_on M.table a u m ≤ held_on (reported_in M from.number l).table a u m
    reported a u m ad true e = let z : held_on M.table a u m ≡ 0 = h.reported a u m (ap (λ n. has_number n M.reported) (number_is m from.number e) ∙ unreported ad) in omega (arith, z)
    reported a u m ad false e = either (λ t. held_on M.table a u m ≤ held_on t a u m) (has_number from.number M.bans) M.table (adopted M.jobs from.number l.rows M.table) (λ _. omega arith) (λ _. let x = adopted_beside M.jobs from.number l.rows M.table (spot a u m) e in omega (arith, x))

    demanded : is_agent from ≡ false → (a u m : ℕ) → from ≡ app_id a → held_on M.table a u m ≤ held_on (take_demand N from.number l).table a u m + (credited_at (take_demand N from.number l) a u m - cond fresh 0 (credited_at M a u m))
    demanded app a u m is =
        let n : from.number ≡ a = ap (λ (d : Id). d.number) is in
        subst (λ a. held_on M.table a u m ≤ held_on (take_demand N from.number l).table a u m + (credited_at (take_demand N from.number l) a u m - cond fresh 0 (credited_at M a u m))) n
        (let d = demand_loses N from.number l (k app) u m in let e = met_same from.number u m in let x = met_credited fresh M from.number u m in omega (arith, d, e, x))

    besides : is_agent from ≡ false → (a u m : ℕ) → (from ≡ app_id a → ⊥) → held_on M.table a u m ≤ held_on (take_demand N from.number l).table a u m
    besides app a u m never =
        let this : is_app from ≡ true = talks_app app t in
        let other : nat_eq a from.number ≡ false = apart (nat_eq a from.number) refl (λ same. never (is_this_app from this ∙ ap app_id (sym same))) in
        let d = demand_beside N from.number l a u m other in let e = met_same a u m in omega (arith, d, e)
      where
        apart : (b : Bool) → nat_eq a from.number ≡ b → (a ≡ from.number → ⊥) → nat_eq a from.number ≡ false
        apart true e n = absurd (n (number_is a from.number e))
        apart false e n = e

        talks_app : is_agent from ≡ false → talks c M from ≡ true → is_app from ≡ true
        talks_app other t = by (is_app from) (sym (ap (λ b. (b && has_machine c from.number) || (is_app from && is_known M.jobs from.number)) other) ∙ t)
          where
            by : (b : Bool) → ((false && has_machine c from.number) || (b && is_known M.jobs from.number)) ≡ true → b ≡ true
            by true e = refl
            by false e = cc

pub hearing_loses : (c : ClusterRecord) (M : Master) (fresh taken : Bool) (from : Id) (l : Ledger) → IsOrderly M → (is_agent from ≡ false → T (is_sorted key_cmp l.entries)) → talks c M from ≡ true → LosesOnlyCredited fresh from M (ready c (told_of M fresh taken from (said c M from l)))
hearing_loses c M fresh taken from l h k t =
    let heard = said c M from l in
    let sorted : is_agent from ≡ false → T (is_sorted key_cmp heard.entries) = λ app. either (λ (d : Ledger). T (is_sorted key_cmp d.entries)) (is_agent from) l (counted c M.jobs from.number l) (λ _. k app) (λ _. is_sorted-where_key key_cmp _ l.entries (k app)) in
    let X = told_of M fresh taken from heard in
    let g = (heard_has M fresh taken from heard (Loses fresh from M) (each_heard c M fresh from heard h sorted t)).it in
    let s = ready_besides c X in
    record {
      own = λ a u m is.
          let x = g.own a u m is in
          let r = ready_rises c X (spot a u m) in
          let e : credited_at (ready c X) a u m ≡ credited_at X a u m = ap (λ cs. count key_cmp (unwrap_or (find nat_cmp a cs) []) (credited_key u m)) s.credited in
          omega (arith, x, r, e);
      others = λ a u m never. let x = g.others a u m never in let r = ready_rises c X (spot a u m) in omega (arith, x, r);
    }
