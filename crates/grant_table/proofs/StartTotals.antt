-- The table without a job.
use Rattle.std.proofs.Common.{◌≡◌, ℕ, zero, suc, List, [], length, get_or, refl, sym, ◌∙◌, ap, arith}
use Rattle.std.specs.Prelude.{replicate, IsTrue}
use Rattle.std.proofs.lemmas.List.{length-map, length-replicate}
use Rattle.fuxi_terms.specs.Cluster.{ClusterRecord, is_valid_cluster}
use Rattle.fuxi_terms.specs.Tables.{total_at, usage_at}
use Rattle.fuxi_terms.specs.declared.vectors.Res.{Res}
use Rattle.grant_table.specs.Nested.{entries_of}
use Rattle.grant_table.specs.GrantTables.{Cell, entries_in, loads_of, as_known, IsLevel}
use Rattle.fuxi_terms.proofs.IndexedLists.{repeated_at}

pub none_in : (cells : List (List Cell)) → cells ≡ [] → entries_in cells ≡ []
unfolding entries_of
none_in cells e = ap entries_in e

pub no_load : (used : List Res) (n : ℕ) (r : Res) → used ≡ replicate n r → r.q ≡ replicate 8 0 → (m i : ℕ) → get_or (get_or (loads_of used) m []) i 0 ≡ 0
no_load used n r e q m i = ap (λ xs. get_or (get_or (loads_of xs) m []) i 0) e ∙ by n m
  where
    by : (n m : ℕ) → get_or (get_or (loads_of (replicate n r)) m []) i 0 ≡ 0
    by zero m = refl
    by (suc n) zero = ap (λ xs. get_or xs i 0) q ∙ repeated_at {A = ℕ} 0 8 i
    by (suc n) (suc m) = by n m

pub loads_long : (used : List Res) (n : ℕ) (r : Res) → used ≡ replicate n r → length (loads_of used) ≡ n
loads_long used n r e = length-map used (λ (r : Res). r.q) ∙ ap length e ∙ length-replicate n r

pub empty_level : (c : ClusterRecord) (cells : List (List Cell)) (loads spent : List (List ℕ)) → IsTrue (is_valid_cluster c) → cells ≡ []
    → length loads ≡ length c.machines → ((m i : ℕ) → get_or (get_or loads m []) i 0 ≡ 0) → length spent ≡ 32 → ((g i : ℕ) → get_or (get_or spent g []) i 0 ≡ 0) → IsLevel c [] cells loads spent
empty_level c cells loads spent valid e ll lz sl sz = record {
  valid = valid;
  in_order = tt;
  units = λ a. ap (λ xs. length (get_or xs a [])) e;
  unit = λ a u lt. absurd (omega (arith, lt));
  machines = ll;
  totals = λ m i lt. lz m i ∙ sym (ap (λ es. total_at (as_known []) m i es) none);
  fits = λ m i lt. let z : total_at (as_known []) m i (entries_in cells) ≡ 0 = ap (λ es. total_at (as_known []) m i es) none in omega (arith, z);
  groups = sl;
  usages = λ g i lt. sz g i ∙ sym (ap (λ es. usage_at (as_known []) g i es) none);
}
  where
    none : entries_in cells ≡ []
    none = none_in cells e
