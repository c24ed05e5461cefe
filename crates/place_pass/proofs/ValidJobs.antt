-- What a valid job says of its numbers.
use Rattle.std.proofs.Common.{◌≡◌, ℕ, zero, suc, ◌<◌, true, nat_lt, nat_eq, List, [], ◌∷◌, length, get_or, arith}
use Rattle.std.specs.Prelude.{IsTrue}
use Rattle.std.specs.List.{list_all}
use Rattle.fuxi_terms.specs.Cluster.{JobRecord, UnitRecord, is_valid_job, is_valid_unit, is_between, is_vector_of, is_priority, is_size}
use Rattle.fuxi_terms.specs.Jobs.{no_unit}
use Rattle.fuxi_terms.proofs.Booleans.{both_true, number_is}

pub sizes_eight : (j : JobRecord) → IsTrue (is_valid_job 8 j) → (u : ℕ) → u < length j.units → length (get_or j.units u no_unit).size ≡ 8
sizes_eight j v u lt = at j.units u (both_true (is_between 1 8 (length j.units)) _ (both_true (nat_lt j.group 32) _ (both_true (nat_lt j.number 256) _ v).1).1).1 lt
  where
    at : (us : List UnitRecord) (u : ℕ) → list_all (is_valid_unit 8) us ≡ true → u < length us → length (get_or us u no_unit).size ≡ 8
    at [] u h lt = absurd (omega (arith, lt))
    at (x ∷ xs) zero h lt =
        let b = both_true (is_valid_unit 8 x) (list_all (is_valid_unit 8) xs) h in
        let w = (both_true (is_vector_of 8 x.size) _ (both_true (is_size 8 x.size) _ (both_true (is_priority x.priority) _ b.0).1).0).0 in
        number_is _ _ (both_true (nat_eq (length x.size) 8) _ w).0
    at (x ∷ xs) (suc u) h lt = at xs u (both_true (is_valid_unit 8 x) (list_all (is_valid_unit 8) xs) h).1 (omega (arith, lt))
