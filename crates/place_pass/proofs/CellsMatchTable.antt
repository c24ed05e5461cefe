-- What a placer keeps of a unit is what a table that is level with it has.
use Rattle.std.proofs.Common.{◌≡◌, ℕ, zero, suc, ◌<◌, ◌≤◌, Bool, true, false, cond, not, nat_eq, nat_lt, List, [], ◌∷◌, length, get_or, map, refl, sym, ◌∙◌, ap, subst, arith}
use Rattle.std.specs.Prelude.{Option, Some, None, slice_get, IsTrue, ◌&&◌}
use Rattle.std.specs.Option.{option_map, unwrap_or}
use Rattle.std.specs.List.{list_all}
use Rattle.std.proofs.lemmas.Bool.Decides.{nat_tests}
use Rattle.std.proofs.lemmas.List.{length-map, get_or-map}
use Rattle.fuxi_terms.specs.Cluster.{ClusterRecord, MachineRecord, GroupRecord, is_vector_of, JobRecord, UnitRecord, is_valid_cluster, is_valid_machine, is_valid_group, is_between, limit_at, has_at, no_group, no_machine, rack_of}
use Rattle.fuxi_terms.specs.Vectors.{at_place}
use Rattle.std.proofs.Math.ListN.{get_or-eq_default}
use Rattle.fuxi_terms.proofs.ByPlace.{at_place-get_or}
use Rattle.place_pass.specs.declared.demand.wishes.Wish.{Wish}
use Rattle.cluster_desc.specs.declared.cluster.Machine.{Machine}
use Rattle.cluster_desc.specs.Records.{machine_of as padded_machine}
use Rattle.fuxi_terms.specs.Jobs.{KnownJob, job_of, units_of, unit_of, unit_count, group_of, most_of, no_unit}
use Rattle.grant_table.specs.GrantTables.{TableRecord, as_known, AreJobs}
use Rattle.place_pass.specs.Cells.{Cell, cell_of, cell_at, no_cell, job_in, job_at, AreWishes}
use Rattle.place_pass.specs.Placers.{AreLevel}
use Rattle.fuxi_terms.proofs.Booleans.{both_true, number_is}
use Rattle.fuxi_terms.proofs.Lookups.{by_record}

units_of_cells : (a : ℕ) (xs : List Cell) → unwrap_or (option_map (λ (j : JobRecord). j.units) (job_in a xs)) [] ≡ map (λ (x : Cell). x.unit) xs
units_of_cells a [] = refl
units_of_cells a (x ∷ xs) = refl

module _ (c : ClusterRecord) (cells : List (List Cell)) (t : TableRecord) (l : AreLevel c (job_at cells) t) where
  pub units_are : (a : ℕ) → map (λ (x : Cell). x.unit) (get_or cells a []) ≡ units_of (as_known t.jobs) a
  units_are a = sym (units_of_cells a (get_or cells a [])) ∙ ap (λ o. unwrap_or (option_map (λ (j : JobRecord). j.units) o) []) (l.jobs_are a) ∙ sym (by_record (λ (j : JobRecord). j.units) [] (job_of (as_known t.jobs) a))

  pub count_is : (a : ℕ) → length (get_or cells a []) ≡ unit_count (as_known t.jobs) a
  count_is a = sym (length-map (get_or cells a []) (λ (x : Cell). x.unit)) ∙ ap length (units_are a)

  pub unit_is : (a u : ℕ) → u < length (get_or cells a []) → (cell_at cells a u).unit ≡ unit_of (as_known t.jobs) a u
  unit_is a u lt = sym (get_or-map (λ (x : Cell). x.unit) (get_or cells a []) u no_cell no_unit lt) ∙ ap (λ us. get_or us u no_unit) (units_are a) ∙ got (units_of (as_known t.jobs) a) u
    where
      got : (us : List UnitRecord) (u : ℕ) → get_or us u no_unit ≡ unwrap_or (slice_get us u) no_unit
      got [] u = refl
      got (x ∷ xs) zero = refl
      got (x ∷ xs) (suc u) = got xs u

  -- and so is its greatest number per machine
  pub most_is : (w : Wish) (a u : ℕ) → u < length (get_or cells a []) → cell_of w ≡ cell_at cells a u → w.most ≡ most_of (as_known t.jobs) a u
  most_is w a u lt cell = ap (λ (x : Cell). x.unit.most) cell ∙ ap (λ (x : UnitRecord). x.most) (unit_is a u lt)

  pub group_is : (o : List Bool) → AreWishes c cells o → (a u : ℕ) → u < length (get_or cells a []) → (cell_at cells a u).group ≡ group_of (as_known t.jobs) a
  group_is o w a u lt = (w.unit a u lt).group ∙ first (get_or cells a []) (omega (arith, lt)) ∙ ap (λ o. unwrap_or (option_map (λ (j : JobRecord). j.group) o) 0) (l.jobs_are a) ∙ sym (by_record (λ (j : JobRecord). j.group) 0 (job_of (as_known t.jobs) a))
    where
      first : (xs : List Cell) → 0 < length xs → (get_or xs 0 no_cell).group ≡ unwrap_or (option_map (λ (j : JobRecord). j.group) (job_in a xs)) 0
      first [] s = absurd (omega (arith, s))
      first (x ∷ xs) s = refl

-- ---- what a valid cluster and valid jobs say
pub few_machines : (c : ClusterRecord) → IsTrue (is_valid_cluster c) → length c.machines ≤ 256
few_machines c v =
    let rest : (is_between 1 256 (length c.machines) && (list_all (is_valid_machine c.resources) c.machines && (is_between 1 32 (length c.groups) && list_all (is_valid_group c.resources) c.groups))) ≡ true = (both_true (is_between 1 8 c.resources) _ v).1 in
    let b : is_between 1 256 (length c.machines) ≡ true = (both_true (is_between 1 256 (length c.machines)) _ rest).0 in
    let most : not (nat_lt 256 (length c.machines)) ≡ true = (both_true (not (nat_lt (length c.machines) 1)) _ b).1 in
    grind (arith, nat_tests, most)

pub rack_small : (c : ClusterRecord) → IsTrue (is_valid_cluster c) → (m : ℕ) → m < length c.machines → rack_of c m < 64
rack_small c v m lt =
    let rest : (is_between 1 256 (length c.machines) && (list_all (is_valid_machine c.resources) c.machines && (is_between 1 32 (length c.groups) && list_all (is_valid_group c.resources) c.groups))) ≡ true = (both_true (is_between 1 8 c.resources) _ v).1 in
    let all : list_all (is_valid_machine c.resources) c.machines ≡ true = (both_true (list_all (is_valid_machine c.resources) c.machines) _ (both_true (is_between 1 256 (length c.machines)) _ rest).1).0 in
    let t : nat_lt (rack_of c m) 64 ≡ true = (both_true (nat_lt (rack_of c m) 64) _ (at c.machines m all lt)).0 in
    grind (arith, nat_tests, t)
  where
    at : (ms : List MachineRecord) (m : ℕ) → list_all (is_valid_machine c.resources) ms ≡ true → m < length ms → is_valid_machine c.resources (unwrap_or (slice_get ms m) no_machine) ≡ true
    at [] m h lt = absurd (omega (arith, lt))
    at (x ∷ xs) zero h lt = (both_true (is_valid_machine c.resources x) (list_all (is_valid_machine c.resources) xs) h).0
    at (x ∷ xs) (suc m) h lt = at xs m (both_true (is_valid_machine c.resources x) (list_all (is_valid_machine c.resources) xs) h).1 (omega (arith, lt))

-- the group of a job that is there is below 32
pub group_small : (js : List JobRecord) → AreJobs js → (a : ℕ) → group_of (as_known js) a < 32
group_small [] h a = omega arith
group_small (j ∷ js) h a =
    let t : nat_lt j.group 32 ≡ true = (both_true (nat_lt j.group 32) _ (both_true (nat_lt j.number 256) _ h.0).1).0 in
    let here : j.group < 32 = grind (arith, nat_tests, t) in
    by (nat_eq j.number a) here (group_small js h.1.1 a)
  where
    by : (b : Bool) → j.group < 32 → group_of (as_known js) a < 32 → unwrap_or (option_map (λ (k : KnownJob). k.job.group) (cond b (Some (record { job = j; ended = false })) (job_of (as_known js) a))) 0 < 32
    by true x y = x
    by false x y = y

vector_past : (n : ℕ) (qs : List ℕ) (i : ℕ) → n ≤ i → is_vector_of n qs ≡ true → at_place qs i ≡ 0
vector_past n qs i le h =
    let long : length qs ≡ n = number_is _ _ (both_true (nat_eq (length qs) n) _ h).0 in
    at_place-get_or qs i ∙ get_or-eq_default qs 0 (omega (arith, long, le))

-- a group may have nothing of a resource that the cluster does not have
pub limit_past : (c : ClusterRecord) → IsTrue (is_valid_cluster c) → (g i : ℕ) → c.resources ≤ i → limit_at c g i ≡ 0
limit_past c v g i le =
    let rest : (is_between 1 256 (length c.machines) && (list_all (is_valid_machine c.resources) c.machines && (is_between 1 32 (length c.groups) && list_all (is_valid_group c.resources) c.groups))) ≡ true = (both_true (is_between 1 8 c.resources) _ v).1 in
    let two : (is_between 1 32 (length c.groups) && list_all (is_valid_group c.resources) c.groups) ≡ true = (both_true (list_all (is_valid_machine c.resources) c.machines) _ (both_true (is_between 1 256 (length c.machines)) _ rest).1).1 in
    by c.groups g (both_true (is_between 1 32 (length c.groups)) _ two).1
  where
    by : (gs : List GroupRecord) (g : ℕ) → list_all (is_valid_group c.resources) gs ≡ true → at_place (unwrap_or (slice_get gs g) no_group).limit i ≡ 0
    by [] g h = refl
    by (x ∷ xs) zero h = vector_past c.resources x.limit i le (both_true (is_vector_of c.resources x.limit) _ (both_true (is_vector_of c.resources x.quota) _ (both_true (is_valid_group c.resources x) _ h).0).1).0
    by (x ∷ xs) (suc g) h = by xs g (both_true (is_valid_group c.resources x) _ h).1

-- a machine has nothing of a resource that the cluster does not have
pub has_past : (c : ClusterRecord) → IsTrue (is_valid_cluster c) → (m i : ℕ) → c.resources ≤ i → has_at c m i ≡ 0
has_past c v m i le =
    let rest : (is_between 1 256 (length c.machines) && (list_all (is_valid_machine c.resources) c.machines && (is_between 1 32 (length c.groups) && list_all (is_valid_group c.resources) c.groups))) ≡ true = (both_true (is_between 1 8 c.resources) _ v).1 in
    let all : list_all (is_valid_machine c.resources) c.machines ≡ true = (both_true (list_all (is_valid_machine c.resources) c.machines) _ (both_true (is_between 1 256 (length c.machines)) _ rest).1).0 in
    by c.machines m all
  where
    by : (ms : List MachineRecord) (m : ℕ) → list_all (is_valid_machine c.resources) ms ≡ true → at_place (unwrap_or (slice_get ms m) no_machine).has i ≡ 0
    by [] m h = refl
    by (x ∷ xs) zero h = vector_past c.resources x.has i le (both_true (nat_lt x.rack 64) _ (both_true (is_valid_machine c.resources x) (list_all (is_valid_machine c.resources) xs) h).0).1
    by (x ∷ xs) (suc m) h = by xs m (both_true (is_valid_machine c.resources x) (list_all (is_valid_machine c.resources) xs) h).1

pub rack_is : (ms : List MachineRecord) (m : ℕ) (x : Machine) → option_map padded_machine (slice_get ms m) ≡ Some x → x.rack.0 ≡ (unwrap_or (slice_get ms m) no_machine).rack
rack_is ms m x e = by (slice_get ms m) e
  where
    by : (o : Option MachineRecord) → option_map padded_machine o ≡ Some x → x.rack.0 ≡ (unwrap_or o no_machine).rack
    by None e = cc
    by (Some r) e = let same : padded_machine r ≡ x = cc in subst (λ (y : Machine). y.rack.0 ≡ r.rack) same refl

-- a machine that is read has a rack that may be there
pub rack_few : (k c : ClusterRecord) → k ≡ c → IsTrue (is_valid_cluster c) → (m : ℕ) → m < length c.machines → (x : Machine) → option_map padded_machine (slice_get k.machines m) ≡ Some x → x.rack.0 < 64
rack_few k c same v m lt x e =
    let is = rack_is k.machines m x e in
    let small = rack_small c v m lt in
    let rack = ap (λ (y : ClusterRecord). rack_of y m) same in
    omega (arith, is, small, rack)
