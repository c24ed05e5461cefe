-- When the row of a table is another one with numbers set: the spots that were touched have these numbers, and all others what they had.
use Rattle.std.specs.Prelude.{◌≡◌, ◌++◌, ℕ, true, cond, nat_eq, List, map, filter, Some, None}
use Rattle.std.specs.Option.{is_some}
use Rattle.std.specs.FinMap.Entries.{find}
use Rattle.fuxi_terms.specs.Counts.{count}
use Rattle.fuxi_terms.specs.Jobs.{KnownJob}
use Rattle.fuxi_terms.specs.Tables.{spot, Table}
use Rattle.fuxi_terms.specs.Keys.{RowKey, row_cmp, Spot, spot_cmp, key_cmp}
use Rattle.fuxi_terms.specs.Numbers.{has_number}
use Rattle.fuxi_terms.specs.TallyKeys.{reported_key, count_key, credited_key, credited_what}
use Rattle.fuxi_terms.specs.declared.Key.{Key}
use Rattle.std.specs.List.{AllByRecursion}
use Rattle.spec_roles.specs.MasterSteps.{spot_row_key, count_entries}

-- the row of a machine in a table
abbrev pub row_of : List KnownJob → ℕ → Table → List (RowKey × ℕ)
row_of jobs m table = map (λ e. (spot_row_key jobs e.0, e.1)) (filter (λ e. nat_eq e.0.machine m) table)

abbrev pub spot_of : RowKey → ℕ → Spot
spot_of k m = spot k.job k.unit m

pub record RowFollows (jobs : List KnownJob) (m : ℕ) (old new : Table) (ns : List (RowKey × ℕ)) : Type 0 where
  pub keys : (q : RowKey) → is_some (find row_cmp q ns) ≡ true → q ≡ spot_row_key jobs (spot_of q m)
  pub counts : (s : Spot) → s.machine ≡ m → count spot_cmp new s ≡ cond (is_some (find row_cmp (spot_row_key jobs s) ns)) (count row_cmp ns (spot_row_key jobs s)) (count spot_cmp old s)

-- the entries of the grants of a job: the machines that are reported, its counts, and what is credited
abbrev pub grant_entries : ℕ → List ℕ → Table → List (Key × ℕ) → List (Key × ℕ)
grant_entries a reported table credited = map (λ m. (reported_key m, 1)) reported ++ (count_entries a table ++ credited)

-- what is found there at a key of each kind
pub record HasNumbers (a : ℕ) (reported : List ℕ) (table : Table) (credited : List (Key × ℕ)) : Type 0 where
  pub machines : (m : ℕ) → find key_cmp (reported_key m) (grant_entries a reported table credited) ≡ cond (has_number m reported) (Some 1) None
  pub counts : (u m : ℕ) → find key_cmp (count_key u m) (grant_entries a reported table credited) ≡ find spot_cmp (spot a u m) table
  pub given : (u m : ℕ) → find key_cmp (credited_key u m) (grant_entries a reported table credited) ≡ find key_cmp (credited_key u m) credited

-- what a key has after the numbers were set
abbrev pub after_setting : List (Key × ℕ) → List (Key × ℕ) → Key → ℕ
after_setting es ns q = cond (is_some (find key_cmp q ns)) (count key_cmp ns q) (count key_cmp es q)

-- each kind of number is what it was, or what is set
pub record GrantsFollow (a : ℕ) (es ns : List (Key × ℕ)) (reported : List ℕ) (table : Table) (credited : List (Key × ℕ)) : Type 0 where
  pub machines : (m : ℕ) → cond (has_number m reported) 1 0 ≡ after_setting es ns (reported_key m)
  pub counts : (u m : ℕ) → count spot_cmp table (spot a u m) ≡ after_setting es ns (count_key u m)
  pub given : (u m : ℕ) → count key_cmp credited (credited_key u m) ≡ after_setting es ns (credited_key u m)
  pub kinds : AllByRecursion (λ e. nat_eq e.0.what credited_what ≡ true) credited
