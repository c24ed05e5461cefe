-- What the test of a valid job says.
use Rattle.std.proofs.Common.{◌≡◌, ◌<◌, ◌≤◌, true, not, nat_lt, length, IsTrue, arith}
use Rattle.std.specs.Prelude.{◌&&◌}
use Rattle.std.specs.List.{list_all}
use Rattle.std.proofs.lemmas.Bool.Decides.{nat_tests}
use Rattle.fuxi_terms.specs.Cluster.{JobRecord, is_valid_job, is_valid_unit, is_between}
use Rattle.fuxi_terms.proofs.Booleans.{both_true}

pub job_small : (j : JobRecord) → IsTrue (is_valid_job 8 j) → j.number < 256
job_small j v = let t : nat_lt j.number 256 ≡ true = (both_true (nat_lt j.number 256) _ v).0 in grind (arith, nat_tests, t)

pub group_valid : (j : JobRecord) → IsTrue (is_valid_job 8 j) → j.group < 32
group_valid j v = let t : nat_lt j.group 32 ≡ true = (both_true (nat_lt j.group 32) _ (both_true (nat_lt j.number 256) _ v).1).0 in grind (arith, nat_tests, t)

pub units_valid : (j : JobRecord) → IsTrue (is_valid_job 8 j) → (is_between 1 8 (length j.units) && list_all (is_valid_unit 8) j.units) ≡ true
units_valid j v = (both_true (nat_lt j.group 32) _ (both_true (nat_lt j.number 256) _ v).1).1

units_between : (j : JobRecord) → IsTrue (is_valid_job 8 j) → is_between 1 8 (length j.units) ≡ true
units_between j v = (both_true (is_between 1 8 (length j.units)) _ (units_valid j v)).0

pub units_few : (j : JobRecord) → IsTrue (is_valid_job 8 j) → length j.units ≤ 8
units_few j v = let t : not (nat_lt 8 (length j.units)) ≡ true = (both_true (not (nat_lt (length j.units) 1)) _ (units_between j v)).1 in grind (arith, nat_tests, t)

pub units_some : (j : JobRecord) → IsTrue (is_valid_job 8 j) → 1 ≤ length j.units
units_some j v = let t : not (nat_lt (length j.units) 1) ≡ true = (both_true (not (nat_lt (length j.units) 1)) _ (units_between j v)).0 in grind (arith, nat_tests, t)
