-- What so many grants more and so many fewer set, from what the caller and the invariant say.
use Rattle.std.proofs.Common.{◌≡◌, ℕ, ◌+◌, ◌-◌, ◌*◌, ◌<◌, ◌≤◌, Bool, true, false, cond, nat_eq, List, [], length, get_or, refl, sym, ◌∙◌, ap, subst, arith}
use Rattle.std.specs.Prelude.{◌&&◌, Some, None, Option, slice_get}
use Rattle.std.specs.Option.{option_map, unwrap_or}
use Rattle.std.proofs.lemmas.List.{get_or-map, length-map}
use Rattle.std.proofs.lemmas.List.Sums.{get_or-le-sum_by}
use Rattle.fuxi_terms.specs.Cluster.{ClusterRecord, MachineRecord, JobRecord, no_machine, has_at, rack_of}
use Rattle.fuxi_terms.specs.Vectors.{plus, minus, times, at_place}
use Rattle.fuxi_terms.specs.Keys.{spot_cmp}
use Rattle.fuxi_terms.specs.Counts.{count, set_count}
use Rattle.fuxi_terms.proofs.ByPlace.{get_or-plus, get_or-minus, get_or-times, at_place-get_or}
use Rattle.fuxi_terms.proofs.VectorLaws.{at_place-padded}
use Rattle.fuxi_terms.specs.Jobs.{unit_count, unit_of, size_at, group_of}
use Rattle.fuxi_terms.specs.Tables.{spot, held_on, total_at, usage_at, held_in, Table}
use Rattle.fuxi_terms.specs.declared.vectors.Res.{Res}
use Rattle.cluster_desc.specs.declared.cluster.Machine.{Machine}
use Rattle.cluster_desc.specs.Records.{machine_of}
use Rattle.grant_table.specs.GrantTables.{TableRecord, Cell, cell_at, with_cell, raised, lowered, with_count, without_count, entries_in, loads_of, as_known, IsUnit, IsLevel}
use Rattle.fuxi_terms.proofs.Booleans.{nat_itself}
use Rattle.grant_table.proofs.Totals.{held_in_set, total_set, usage_set}
use Rattle.grant_table.proofs.SetTotals.{MaySet, counts_all, count_in, set_entries}
use Rattle.grant_table.proofs.Bounds.{few_machines, rack_small, has_small, held_small, usage_small}

-- ---- what is read
pub load_at : (used : List Res) (m : ℕ) (r : Res) → m < length used → r ≡ get_or used m r → get_or (loads_of used) m [] ≡ r.q
load_at used m r lt e = get_or-map (λ (r : Res). r.q) used m r [] lt ∙ ap (λ (r : Res). r.q) (sym e)

pub has_is : (ms : List MachineRecord) (m i : ℕ) (x : Machine) → option_map machine_of (slice_get ms m) ≡ Some x → at_place x.has.q i ≡ at_place (unwrap_or (slice_get ms m) no_machine).has i
has_is ms m i x e = by (slice_get ms m) e
  where
    by : (o : Option MachineRecord) → option_map machine_of o ≡ Some x → at_place x.has.q i ≡ at_place (unwrap_or o no_machine).has i
    by None e = cc
    by (Some r) e = let same : machine_of r ≡ x = cc in subst (λ (y : Machine). at_place y.has.q i ≡ at_place r.has i) same (at_place-padded r.has i)

pub rack_is : (ms : List MachineRecord) (m : ℕ) (x : Machine) → option_map machine_of (slice_get ms m) ≡ Some x → x.rack.0 ≡ (unwrap_or (slice_get ms m) no_machine).rack
rack_is ms m x e = by (slice_get ms m) e
  where
    by : (o : Option MachineRecord) → option_map machine_of o ≡ Some x → x.rack.0 ≡ (unwrap_or o no_machine).rack
    by None e = cc
    by (Some r) e = let same : machine_of r ≡ x = cc in subst (λ (y : Machine). y.rack.0 ≡ r.rack) same refl

-- ---- a unit and a machine that are there
pub record IsThere (c : ClusterRecord) (jobs : List JobRecord) (cells : List (List Cell)) (loads spent : List (List ℕ)) (a u m : ℕ) : Type 0 where
  pub level : IsLevel c jobs cells loads spent
  pub unit : u < unit_count (as_known jobs) a
  pub machine : m < length c.machines

-- what the caller says of the value, said of the fields
pub there_from : (t : TableRecord) (c : ClusterRecord) (jobs : List JobRecord) (cells : List (List Cell)) (loads spent : List (List ℕ)) (a u m : ℕ) → record { cluster = c; jobs = jobs; entries = entries_in cells } ≡ t
    → IsLevel c jobs cells loads spent → u < unit_count (as_known t.jobs) a → m < length t.cluster.machines → IsThere c jobs cells loads spent a u m
there_from t c jobs cells loads spent a u m e l unit machine = record {
  level = l;
  unit = subst (λ (t : TableRecord). u < unit_count (as_known t.jobs) a) (sym e) unit;
  machine = subst (λ (t : TableRecord). m < length t.cluster.machines) (sym e) machine;
}

module _ (c : ClusterRecord) (jobs : List JobRecord) (cells : List (List Cell)) (loads spent : List (List ℕ)) (a u m : ℕ) (h : IsThere c jobs cells loads spent a u m) where
  abbrev old : Cell
  old = cell_at cells a u

  abbrev n : ℕ
  n = get_or old.counts m 0

  abbrev es : Table
  es = entries_in cells

  pub us : IsUnit c jobs es a u old
  us = h.level.unit a u h.unit

  pub rack_there : rack_of c m < 64
  rack_there = rack_small c h.level.valid m h.machine

  pub machine_there : m < length old.counts
  machine_there = subst (λ n. m < n) (sym us.wide) h.machine

  pub held_few : old.held ≤ 25600000
  held_few = held_small c jobs es a u old (few_machines c h.level.valid) us

  pub size_is : (i : ℕ) → get_or old.size i 0 ≡ size_at (as_known jobs) a u i
  size_is i = ap (λ xs. get_or xs i 0) us.sized ∙ sym (at_place-get_or (unit_of (as_known jobs) a u).size i)

  -- what stands there is part of each total
  pub part_held : n ≤ old.held
  part_held = let p = get_or-le-sum_by (λ (n : ℕ). n) old.counts m 0 machine_there in let s = us.summed in omega (arith, p, s)

  self : (nat_eq a a && (nat_eq u u && nat_eq (rack_of c m) (rack_of c m))) ≡ true
  self = ap (λ t. t && (nat_eq u u && nat_eq (rack_of c m) (rack_of c m))) (nat_itself a) ∙ ap (λ t. t && nat_eq (rack_of c m) (rack_of c m)) (nat_itself u) ∙ nat_itself (rack_of c m)

  before : count spot_cmp es (spot a u m) ≡ n
  before = count_in c jobs cells loads spent h.level a u m

  pub part_rack : n ≤ get_or old.racks (rack_of c m) 0
  part_rack =
      let s = held_in_set (spot a u m) 0 es (counts_all c jobs cells loads spent h.level).sorted c a u (rack_of c m) in
      let x = part (nat_eq a a && (nat_eq u u && nat_eq (rack_of c m) (rack_of c m))) _ (count spot_cmp es (spot a u m)) (held_in c es a u (rack_of c m)) self s in
      let r = us.in_rack (rack_of c m) rack_there in
      let b = before in
      omega (arith, x, r, b)
    where
      part : (t : Bool) (x y z : ℕ) → t ≡ true → x + cond t y 0 ≡ z + cond t 0 0 → y ≤ z
      part true x y z e s = omega (arith, s)
      part false x y z e s = cc

  part_of : (t : Bool) (x y z s : ℕ) → t ≡ true → x + cond t (y * s) 0 ≡ z + cond t (0 * s) 0 → y * s ≤ z
  part_of true x y z s e h = omega (arith, h)
  part_of false x y z s e h = cc

  pub part_load : (i : ℕ) → n * size_at (as_known jobs) a u i ≤ get_or (get_or loads m []) i 0
  part_load i =
      let s = total_set (spot a u m) 0 es (counts_all c jobs cells loads spent h.level).sorted (as_known jobs) m i in
      let x = part_of (nat_eq m m) _ (count spot_cmp es (spot a u m)) (total_at (as_known jobs) m i es) (size_at (as_known jobs) a u i) (nat_itself m) s in
      let t = h.level.totals m i h.machine in
      subst (λ z. z * size_at (as_known jobs) a u i ≤ get_or (get_or loads m []) i 0) before (omega (arith, x, t))

  pub group_there : group_of (as_known jobs) a < 32
  group_there = let g = us.group in let e = us.grouped in omega (arith, g, e)

  pub part_usage : (i : ℕ) → n * size_at (as_known jobs) a u i ≤ get_or (get_or spent (group_of (as_known jobs) a) []) i 0
  part_usage i =
      let s = usage_set (spot a u m) 0 es (counts_all c jobs cells loads spent h.level).sorted (as_known jobs) (group_of (as_known jobs) a) i in
      let x = part_of (nat_eq (group_of (as_known jobs) a) (group_of (as_known jobs) a)) _ (count spot_cmp es (spot a u m)) (usage_at (as_known jobs) (group_of (as_known jobs) a) i es) (size_at (as_known jobs) a u i) (nat_itself (group_of (as_known jobs) a)) s in
      let t = h.level.usages (group_of (as_known jobs) a) i group_there in
      subst (λ z. z * size_at (as_known jobs) a u i ≤ get_or (get_or spent (group_of (as_known jobs) a) []) i 0) before (omega (arith, x, t))

  -- ---- so many more
  module _ (k : ℕ) (few : held_on es a u m + k ≤ 100000) (room : (i : ℕ) → total_at (as_known jobs) m i es + k * size_at (as_known jobs) a u i ≤ has_at c m i) where
    pub load_room : (i : ℕ) → get_or (get_or loads m []) i 0 + k * size_at (as_known jobs) a u i ≤ 1000000000000
    load_room i = let t = h.level.totals m i h.machine in let r = room i in let s = has_small c h.level.valid m i h.machine in omega (arith, t, r, s)

    pub usage_room : (i : ℕ) → get_or (get_or spent (group_of (as_known jobs) a) []) i 0 + k * size_at (as_known jobs) a u i ≤ 1000000000000000
    usage_room i = let t = h.level.usages (group_of (as_known jobs) a) i group_there in let s = usage_small c jobs cells loads spent h.level (group_of (as_known jobs) a) i in let r = load_room i in omega (arith, t, s, r)

    more : (x y s : ℕ) → (x + y) * s ≡ x * s + y * s
    more x y s = grind arith

    pub may_add : (q p : List ℕ) → ((i : ℕ) → get_or q i 0 ≡ get_or (get_or loads m []) i 0 + k * size_at (as_known jobs) a u i) → ((i : ℕ) → get_or p i 0 ≡ get_or (get_or spent (group_of (as_known jobs) a) []) i 0 + k * size_at (as_known jobs) a u i)
        → MaySet c jobs cells loads spent a u m (n + k) (old.held + k) (get_or old.racks (rack_of c m) 0 + k) q p
    may_add q p is_q is_p = record {
      unit = h.unit;
      machine = h.machine;
      rack = rack_there;
      few = let b = before in let f = few in omega (arith, b, f);
      held = omega arith;
      in_rack = omega arith;
      load = λ i. let e = is_q i in let s = more n k (size_at (as_known jobs) a u i) in omega (arith, e, s);
      room = λ i. let e = is_q i in let t = h.level.totals m i h.machine in let r = room i in omega (arith, e, t, r);
      usage = λ i. let e = is_p i in let s = more n k (size_at (as_known jobs) a u i) in omega (arith, e, s);
    }

    -- and it is so many more in the map
    pub added_entries : entries_in (with_cell cells a u (raised old m (rack_of c m) k)) ≡ with_count es (spot a u m) k
    added_entries =
        set_entries c jobs cells loads spent a u m (n + k) (old.held + k) (get_or old.racks (rack_of c m) 0 + k) _ _ h.level
        (may_add (plus (get_or loads m []) (times k old.size)) (plus (get_or spent (group_of (as_known jobs) a) []) (times k old.size))
        (λ i. get_or-plus (get_or loads m []) (times k old.size) i ∙ ap (λ x. get_or (get_or loads m []) i 0 + x) (get_or-times k old.size i ∙ ap (λ x. k * x) (size_is i)))
        (λ i. get_or-plus (get_or spent (group_of (as_known jobs) a) []) (times k old.size) i ∙ ap (λ x. get_or (get_or spent (group_of (as_known jobs) a) []) i 0 + x) (get_or-times k old.size i ∙ ap (λ x. k * x) (size_is i))))
        ∙ ap (λ x. set_count spot_cmp es (spot a u m) (x + k)) (sym before)

  -- ---- so many fewer
  module _ (k : ℕ) (held : k ≤ held_on es a u m) where
    pub fewer : k ≤ n
    fewer = let b = before in omega (arith, b, held)

    split : (x y s : ℕ) → (x + y) * s ≡ x * s + y * s
    split x y s = grind arith

    -- what goes and what is left
    apart : (i : ℕ) → n * size_at (as_known jobs) a u i ≡ k * size_at (as_known jobs) a u i + (n - k) * size_at (as_known jobs) a u i
    apart i = let f = fewer in let e : n ≡ k + (n - k) = omega (arith, f) in ap (λ x. x * size_at (as_known jobs) a u i) e ∙ split k (n - k) (size_at (as_known jobs) a u i)

    pub taken_load : (i : ℕ) → k * size_at (as_known jobs) a u i ≤ get_or (get_or loads m []) i 0
    taken_load i = let p = part_load i in let s = apart i in omega (arith, p, s)

    pub taken_usage : (i : ℕ) → k * size_at (as_known jobs) a u i ≤ get_or (get_or spent (group_of (as_known jobs) a) []) i 0
    taken_usage i = let p = part_usage i in let s = apart i in omega (arith, p, s)

    pub may_take : (q p : List ℕ) → ((i : ℕ) → get_or q i 0 ≡ get_or (get_or loads m []) i 0 - k * size_at (as_known jobs) a u i) → ((i : ℕ) → get_or p i 0 ≡ get_or (get_or spent (group_of (as_known jobs) a) []) i 0 - k * size_at (as_known jobs) a u i)
        → MaySet c jobs cells loads spent a u m (n - k) (old.held - k) (get_or old.racks (rack_of c m) 0 - k) q p
    may_take q p is_q is_p = record {
      unit = h.unit;
      machine = h.machine;
      rack = rack_there;
      few = let w = us.within m in omega (arith, w);
      held = let f = fewer in let p = part_held in omega (arith, f, p);
      in_rack = let f = fewer in let p = part_rack in omega (arith, f, p);
      load = λ i. let e = is_q i in let s = apart i in let t = taken_load i in omega (arith, e, s, t);
      room = λ i. let e = is_q i in let t = h.level.totals m i h.machine in let f = h.level.fits m i h.machine in omega (arith, e, t, f);
      usage = λ i. let e = is_p i in let s = apart i in let t = taken_usage i in omega (arith, e, s, t);
    }

    -- and it is so many fewer in the map
    pub taken_entries : entries_in (with_cell cells a u (lowered old m (rack_of c m) k)) ≡ without_count es (spot a u m) k
    taken_entries =
        set_entries c jobs cells loads spent a u m (n - k) (old.held - k) (get_or old.racks (rack_of c m) 0 - k) _ _ h.level
        (may_take (minus (get_or loads m []) (times k old.size)) (minus (get_or spent (group_of (as_known jobs) a) []) (times k old.size))
        (λ i. get_or-minus (get_or loads m []) (times k old.size) i ∙ ap (λ x. get_or (get_or loads m []) i 0 - x) (get_or-times k old.size i ∙ ap (λ x. k * x) (size_is i)))
        (λ i. get_or-minus (get_or spent (group_of (as_known jobs) a) []) (times k old.size) i ∙ ap (λ x. get_or (get_or spent (group_of (as_known jobs) a) []) i 0 - x) (get_or-times k old.size i ∙ ap (λ x. k * x) (size_is i))))
        ∙ ap (λ x. set_count spot_cmp es (spot a u m) (x - k)) (sym before)

-- the usage of the unit's group, as the program reads it
pub usage_read : (c : ClusterRecord) (jobs : List JobRecord) (cells : List (List Cell)) (loads : List (List ℕ)) (usages : List Res) (a u m : ℕ) → IsThere c jobs cells loads (loads_of usages) a u m
    → (g : ℕ) → g ≡ group_of (as_known jobs) a → (r : Res) → r ≡ get_or usages g r → get_or (loads_of usages) g [] ≡ r.q
usage_read c jobs cells loads usages a u m h g is r e =
    let small = group_there c jobs cells loads (loads_of usages) a u m h in
    let n = h.level.groups in
    let l = length-map usages (λ (r : Res). r.q) in
    load_at usages g r (omega (arith, is, small, n, l)) e
