-- All grants at some spots are gone.
use Rattle.std.proofs.Common.{◌≡◌, ℕ, ◌+◌, ◌-◌, ◌≤◌, Bool, true, false, cond, nat_eq, nat_lt, List, refl, sym, ◌∙◌, ap, subst, arith}
use Rattle.std.specs.Prelude.{◌&&◌, ◌||◌, [], ◌∷◌, length, Some}
use Rattle.std.specs.Option.{unwrap_or, option_map}
use Rattle.std.specs.Ordering.{eq_by_cmp, is_eq}
use Rattle.std.specs.Cmp.{tied_itself}
use Rattle.std.proofs.lemmas.Bool.Decides.{nat_tests}
use Rattle.fuxi_terms.specs.Cluster.{ClusterRecord, JobRecord}
use Rattle.fuxi_terms.specs.Jobs.{KnownJob, job_of, unit_count}
use Rattle.fuxi_terms.specs.Counts.{count}
use Rattle.fuxi_terms.specs.Keys.{Spot, spot_cmp}
use Rattle.fuxi_terms.specs.Tables.{spot, held_on, Table}
use Rattle.fuxi_terms.proofs.Booleans.{both_true, and_true, number_is, nat_itself, same_tests, and_false}
use Rattle.fuxi_terms.proofs.CountsLemmas.{tied, count-set_count}
use Rattle.fuxi_terms.proofs.KeyOrders.{spot_total, same_spot}
use Rattle.spec_roles.specs.Masters.{Master}
use Rattle.grant_table.specs.GrantTables.{TableRecord, AreJobs, as_known, without_count}
use Rattle.place_pass.specs.Placers.{SeenRecord}
use Rattle.allotment.specs.PlacingReads.{IsPlacing, has_spot}
use Rattle.allotment.specs.SettlingRuns.{AreTouched}
use Rattle.allotment.specs.Allotted.{AllotmentRecord, Allots, AllWait, Clears, OnlyTakes, Touches}
use Rattle.fuxi_terms.proofs.ValidJobs.{units_few}
use Rattle.allotment.proofs.OnlyTakesLemmas.{takes_none, takes_again}

-- the same table, named by itself
retable : (t : TableRecord) (s : SeenRecord) (c : ClusterRecord) (M : Master) → IsPlacing t s c M → IsPlacing t s c (record M { table = t.entries })
retable t s c M h = record { cluster = h.cluster; numbers = h.numbers; jobs = h.jobs; entries = refl; wants = h.wants; near = h.near; racks = h.racks; avoids = h.avoids; usable = h.usable; line = h.line }

pub allots_itself : (x : AllotmentRecord) (c : ClusterRecord) (M N : Master) → Allots x c (record M { table = N.table }) → Allots x c (record M { table = x.table.entries })
allots_itself x c M N h = record { placing = retable x.table x.placer.seen c (record M { table = N.table }) h.placing }

pub touched_again : (x y z : AllotmentRecord) → Touches x y → Touches y z → Touches x z
touched_again x y z a b = record {
  spots = record {
    kept = λ s e. b.spots.kept s (a.spots.kept s e);
    others = λ s f. b.spots.others s f ∙ a.spots.others s (missing s f (has_spot s y.touched) refl);
  };
  turns = b.turns ∙ a.turns;
}
  where
    missing : (s : Spot) → has_spot s z.touched ≡ false → (r : Bool) → has_spot s y.touched ≡ r → r ≡ false
    missing s f false e = refl
    missing s f true e = let t = b.spots.kept s e in cc

-- and then the line is brought up to date
pub touched_still : (x y z : AllotmentRecord) → Touches x y → z.table ≡ y.table → z.touched ≡ y.touched → AreTouched x.table.entries z.table.entries x.touched z.touched
touched_still x y z a table touched = subst (λ (ss : List Spot). AreTouched x.table.entries z.table.entries x.touched ss) (sym touched) (subst (λ (t : TableRecord). AreTouched x.table.entries t.entries x.touched y.touched) (sym table) a.spots)

pub untouched : (x : AllotmentRecord) → Touches x x
untouched x = record { spots = record { kept = λ s e. e; others = λ s f. refl }; turns = refl }

-- nothing is gone
pub cleared_none : (x : AllotmentRecord) → AllWait x → Clears (λ s. false) x x
cleared_none x w = record {
  stands = λ c M h. record { placing = retable x.table x.placer.seen c M h.placing };
  waits = w;
  touches = untouched x;
  table = refl;
  takes = takes_none x;
  counts = λ s. refl;
}

-- these are gone, and then those
pub cleared_both : (g h : Spot → Bool) (x y z : AllotmentRecord) → Clears g x y → Clears h y z → Clears (λ s. g s || h s) x z
cleared_both g h x y z a b = record {
  stands = λ c M k. b.stands c (record M { table = y.table.entries }) (a.stands c M k);
  waits = b.waits;
  touches = touched_again x y z a.touches b.touches;
  table = b.table ∙ ap (λ (t : TableRecord). record t { entries = z.table.entries }) a.table;
  takes = takes_again x y z a.takes b.takes;
  counts = λ s. b.counts s ∙ ap (cond (h s) 0) (a.counts s) ∙ either_gone (g s) (h s) (count spot_cmp x.table.entries s);
}
  where
    either_gone : (p q : Bool) (n : ℕ) → cond q 0 (cond p 0 n) ≡ cond (p || q) 0 n
    either_gone true true n = refl
    either_gone true false n = refl
    either_gone false true n = refl
    either_gone false false n = refl

pub cleared_as : (g h : Spot → Bool) (x y : AllotmentRecord) → ((s : Spot) → g s ≡ h s) → Clears g x y → Clears h x y
cleared_as g h x y same a = record { stands = a.stands; waits = a.waits; touches = a.touches; table = a.table; takes = a.takes; counts = λ s. a.counts s ∙ ap (λ b. cond b 0 (count spot_cmp x.table.entries s)) (same s) }

-- one spot
pub is_spot : (s : Spot) (a u m : ℕ) → eq_by_cmp spot_cmp s (spot a u m) ≡ (nat_eq s.job a && (nat_eq s.unit u && nat_eq s.machine m))
is_spot s a u m = same_tests _ _ to from
  where
    to : eq_by_cmp spot_cmp s (spot a u m) ≡ true → (nat_eq s.job a && (nat_eq s.unit u && nat_eq s.machine m)) ≡ true
    to e =
        let same = same_spot s (spot a u m) (tied _ e) in
        ap (λ (x : Spot). nat_eq x.job a && (nat_eq x.unit u && nat_eq x.machine m)) same ∙ and_true (nat_eq a a) _ (nat_itself a) (and_true (nat_eq u u) (nat_eq m m) (nat_itself u) (nat_itself m))

    from : (nat_eq s.job a && (nat_eq s.unit u && nat_eq s.machine m)) ≡ true → eq_by_cmp spot_cmp s (spot a u m) ≡ true
    from e =
        let p = both_true (nat_eq s.job a) _ e in
        let q = both_true (nat_eq s.unit u) (nat_eq s.machine m) p.1 in
        let j = number_is s.job a p.0 in let k = number_is s.unit u q.0 in let l = number_is s.machine m q.1 in
        let same : s ≡ spot a u m = λ i. record { job = j i; unit = k i; machine = l i } in
        ap (λ x. eq_by_cmp spot_cmp x (spot a u m)) same ∙ ap is_eq (tied_itself spot_total (spot a u m))

pub count_cleared : (es : Table) (a u m k : ℕ) → k ≡ count spot_cmp es (spot a u m) → (s : Spot) → count spot_cmp (without_count es (spot a u m) k) s ≡ cond (nat_eq s.job a && (nat_eq s.unit u && nat_eq s.machine m)) 0 (count spot_cmp es s)
count_cleared es a u m k all s =
    let none : count spot_cmp es (spot a u m) - k ≡ 0 = omega (arith, all) in
    count-set_count spot_total es (spot a u m) (count spot_cmp es (spot a u m) - k) s ∙ (λ i. cond (is_spot s a u m i) (none i) (count spot_cmp es s))

-- one unit more
pub unit_more : (a u m : ℕ) (s : Spot) → ((nat_eq s.job a && (nat_lt s.unit u && nat_eq s.machine m)) || (nat_eq s.job a && (nat_eq s.unit u && nat_eq s.machine m))) ≡ (nat_eq s.job a && (nat_lt s.unit (u + 1) && nat_eq s.machine m))
unit_more a u m s = by (nat_eq s.job a) (nat_eq s.machine m) (nat_lt s.unit u) (nat_eq s.unit u) ∙ ap (λ b. nat_eq s.job a && (b && nat_eq s.machine m)) below
  where
    by : (j m l e : Bool) → ((j && (l && m)) || (j && (e && m))) ≡ (j && ((l || e) && m))
    by true true true e = refl
    by true true false e = refl
    by true false true true = refl
    by true false true false = refl
    by true false false true = refl
    by true false false false = refl
    by false m l e = refl

    below : (nat_lt s.unit u || nat_eq s.unit u) ≡ nat_lt s.unit (u + 1)
    below = grind (arith, nat_tests)

pub no_unit_yet : (a m : ℕ) (s : Spot) → false ≡ (nat_eq s.job a && (nat_lt s.unit 0 && nat_eq s.machine m))
no_unit_yet a m s = let f : nat_lt s.unit 0 ≡ false = grind (arith, nat_tests) in sym (ap (λ b. nat_eq s.job a && (b && nat_eq s.machine m)) f ∙ and_false (nat_eq s.job a))

pub cleared_spot : (x y : AllotmentRecord) (a u m k : ℕ) → k ≡ held_on x.table.entries a u m
    → ((c : ClusterRecord) (M : Master) → Allots x c M → Allots y c (record M { table = without_count M.table (spot a u m) k })) → AllWait y → Touches x y
    → y.table ≡ record x.table { entries = without_count x.table.entries (spot a u m) k } → OnlyTakes x y → Clears (λ s. nat_eq s.job a && (nat_eq s.unit u && nat_eq s.machine m)) x y
cleared_spot x y a u m k all stands waits touches table takes = record {
  stands = λ c M h. allots_itself y c M (record M { table = without_count M.table (spot a u m) k }) (stands c M h);
  waits = waits;
  touches = touches;
  table = table ∙ ap (λ es. record x.table { entries = es }) (sym (ap (λ (t : TableRecord). t.entries) table));
  takes = takes;
  counts = λ s. ap (λ (t : TableRecord). count spot_cmp t.entries s) table ∙ count_cleared x.table.entries a u m k all s;
}

-- where nothing is held there nothing has to go
pub none_held : (x : AllotmentRecord) (a u m : ℕ) → AllWait x → held_on x.table.entries a u m ≡ 0 → Clears (λ s. nat_eq s.job a && (nat_eq s.unit u && nat_eq s.machine m)) x x
none_held x a u m waits none = record {
  stands = λ c M h. record { placing = retable x.table x.placer.seen c M h.placing };
  waits = waits;
  touches = untouched x;
  table = refl;
  takes = takes_none x;
  counts = λ s. by s (nat_eq s.job a && (nat_eq s.unit u && nat_eq s.machine m)) refl;
}
  where
    by : (s : Spot) (b : Bool) → (nat_eq s.job a && (nat_eq s.unit u && nat_eq s.machine m)) ≡ b → count spot_cmp x.table.entries s ≡ cond b 0 (count spot_cmp x.table.entries s)
    by s true e = ap (count spot_cmp x.table.entries) (same_spot s (spot a u m) (tied _ (is_spot s a u m ∙ e))) ∙ none
    by s false e = refl

-- a job has at most 8 units
pub table_units_few : (js : List JobRecord) → AreJobs js → (a : ℕ) → unit_count (as_known js) a ≤ 8
table_units_few [] h a = omega arith
table_units_few (j ∷ js) h a = by (nat_eq j.number a) (units_few j h.0) (table_units_few js h.1.1 a)
  where
    by : (b : Bool) → length j.units ≤ 8 → unit_count (as_known js) a ≤ 8 → length (unwrap_or (option_map (λ (k : KnownJob). k.job.units) (cond b (Some (record { job = j; ended = false })) (job_of (as_known js) a))) []) ≤ 8
    by true x y = x
    by false x y = y
