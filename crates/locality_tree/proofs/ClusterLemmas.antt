-- What a valid cluster and a valid job say of racks, numbers and units.
use Rattle.std.proofs.Common.{◌≡◌, ℕ, zero, suc, ◌<◌, ◌≤◌, ◌+◌, true, not, nat_lt, List, [], ◌∷◌, ◌++◌, Option, Some, None, option_map, slice_get, length, get_or, take, map, refl, ap, ◌∙◌, arith}
use Rattle.std.specs.Prelude.{◌&&◌, IsTrue}
use Rattle.std.specs.List.{list_all}
use Rattle.std.proofs.lemmas.Bool.Decides.{nat_tests}
use Rattle.std.proofs.lemmas.List.{length-map, map_push}
use Rattle.fuxi_terms.specs.Cluster.{ClusterRecord, MachineRecord, JobRecord, is_valid_cluster, is_valid_machine, is_valid_group, is_valid_job, is_between}
use Rattle.fuxi_terms.proofs.Booleans.{both_true}
use Rattle.fuxi_terms.proofs.Lists.{take_last}
use Rattle.cluster_desc.specs.Records.{machine_of}
use Rattle.cluster_desc.specs.declared.cluster.Machine.{Machine}
use Rattle.locality_tree.specs.Trees.{racks_of}

module _ (c : ClusterRecord) (v : IsTrue (is_valid_cluster c)) where
  rest : (is_between 1 256 (length c.machines) && (list_all (is_valid_machine c.resources) c.machines && (is_between 1 32 (length c.groups) && list_all (is_valid_group c.resources) c.groups))) ≡ true
  rest = (both_true (is_between 1 8 c.resources) _ v).1

  pub few_racks : length (racks_of c) ≤ 256
  few_racks =
      let b : is_between 1 256 (length c.machines) ≡ true = (both_true (is_between 1 256 (length c.machines)) _ rest).0 in
      let most : not (nat_lt 256 (length c.machines)) ≡ true = (both_true (not (nat_lt (length c.machines) 1)) _ b).1 in
      let few : length c.machines ≤ 256 = grind (arith, nat_tests, most) in
      let l = length-map c.machines (λ m. m.rack) in
      omega (arith, few, l)

  low : (ms : List MachineRecord) (m : ℕ) → list_all (is_valid_machine c.resources) ms ≡ true → m < length (map (λ m. m.rack) ms) → get_or (map (λ m. m.rack) ms) m 0 < 64
  low [] m h l = absurd (omega (arith, l))
  low (x ∷ xs) zero h l =
      let t : nat_lt x.rack 64 ≡ true = (both_true (nat_lt x.rack 64) _ (both_true (is_valid_machine c.resources x) (list_all (is_valid_machine c.resources) xs) h).0).0 in
      grind (arith, nat_tests, t)
  low (x ∷ xs) (suc m) h l = low xs m (both_true (is_valid_machine c.resources x) (list_all (is_valid_machine c.resources) xs) h).1 (omega (arith, l))

  pub low_racks : (m : ℕ) → m < length (racks_of c) → get_or (racks_of c) m 0 < 64
  low_racks m l = low c.machines m (both_true (list_all (is_valid_machine c.resources) c.machines) _ (both_true (is_between 1 256 (length c.machines)) _ rest).1).0 l

-- the racks of one machine more
pub next_rack : (ms : List MachineRecord) (n : ℕ) (m : Machine) → option_map machine_of (slice_get ms n) ≡ Some m → map (λ m. m.rack) (take (n + 1) ms) ≡ map (λ m. m.rack) (take n ms) ++ m.rack.0 ∷ []
next_rack ms n m h = by (slice_get ms n) refl h
  where
    same : (a b : Machine) → Some a ≡ Some b → a ≡ b
    same a b e = cc

    by : (o : Option MachineRecord) → slice_get ms n ≡ o → option_map machine_of o ≡ Some m → map (λ m. m.rack) (take (n + 1) ms) ≡ map (λ m. m.rack) (take n ms) ++ m.rack.0 ∷ []
    by None e g = absurd (cc)
    by (Some r) e g =
        let is : machine_of r ≡ m = same (machine_of r) m g in
        ap (map (λ (m : MachineRecord). m.rack)) (take_last ms n r e) ∙ map_push (λ (m : MachineRecord). m.rack) (take n ms) r ∙ ap (λ (x : Machine). map (λ (m : MachineRecord). m.rack) (take n ms) ++ x.rack.0 ∷ []) is

-- a valid job has a number below 256 and at most 8 units
pub small_job : (j : JobRecord) → IsTrue (is_valid_job 8 j) → (j.number < 256) × (length j.units ≤ 8)
small_job j v =
    let parts = both_true (nat_lt j.number 256) _ v in
    let few : is_between 1 8 (length j.units) ≡ true = (both_true (is_between 1 8 (length j.units)) _ (both_true (nat_lt j.group 32) _ parts.1).1).0 in
    let most : not (nat_lt 8 (length j.units)) ≡ true = (both_true (not (nat_lt (length j.units) 1)) _ few).1 in
    let low : nat_lt j.number 256 ≡ true = parts.0 in
    (grind (arith, nat_tests, low), grind (arith, nat_tests, most))
