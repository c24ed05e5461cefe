-- Where the units of each job are as before, so is the map and each total: a table may have empty places more.
use Rattle.std.proofs.Common.{◌≡◌, ℕ, ◌≤◌, List, [], length, get_or, sym, ◌∙◌, ap, subst, arith}
use Rattle.fuxi_terms.specs.Cluster.{ClusterRecord, JobRecord, has_at}
use Rattle.fuxi_terms.specs.Limits.{greatest_count}
use Rattle.fuxi_terms.specs.Tables.{total_at, usage_at}
use Rattle.fuxi_terms.proofs.CountsLemmas.{same_counts}
use Rattle.fuxi_terms.proofs.KeyOrders.{spot_total, same_spot}
use Rattle.grant_table.specs.Nested.{count_at}
use Rattle.grant_table.specs.GrantTables.{Cell, no_cell, cell_at, rows_of, entries_in, as_known, IsUnit, IsLevel}
use Rattle.grant_table.proofs.NestedLemmas.{count_is, are_counts, limit}
use Rattle.grant_table.proofs.Cells.{count_of_cell}
use Rattle.grant_table.proofs.SetTotals.{within_all}

module _ (c : ClusterRecord) (jobs : List JobRecord) (cells then : List (List Cell)) (loads spent : List (List ℕ)) (l : IsLevel c jobs cells loads spent) (same : (a : ℕ) → get_or then a [] ≡ get_or cells a []) where
  cell_same : (a u : ℕ) → cell_at then a u ≡ cell_at cells a u
  cell_same a u = ap (λ xs. get_or xs u no_cell) (same a)

  counts_same : (a u m : ℕ) → count_at (rows_of then) a u m ≡ count_at (rows_of cells) a u m
  counts_same a u m = count_of_cell then a u m ∙ ap (λ (x : Cell). get_or x.counts m 0) (cell_same a u) ∙ sym (count_of_cell cells a u m)

  within_same : (a u m : ℕ) → count_at (rows_of then) a u m ≤ greatest_count
  within_same a u m = let e = counts_same a u m in let w = within_all c jobs cells loads spent l a u m in omega (arith, e, w)

  pub entries_same : entries_in then ≡ entries_in cells
  entries_same = same_counts spot_total same_spot limit (entries_in then) (entries_in cells) (are_counts (rows_of then) within_same) (are_counts (rows_of cells) (within_all c jobs cells loads spent l))
      (λ q. count_is (rows_of then) q.job q.unit q.machine ∙ counts_same q.job q.unit q.machine ∙ sym (count_is (rows_of cells) q.job q.unit q.machine))

  pub level_same : IsLevel c jobs then loads spent
  level_same = record {
    valid = l.valid;
    in_order = l.in_order;
    units = λ a. ap length (same a) ∙ l.units a;
    unit = λ a u lt. subst (λ es. IsUnit c jobs es a u (cell_at then a u)) (sym entries_same) (subst (IsUnit c jobs (entries_in cells) a u) (sym (cell_same a u)) (l.unit a u lt));
    machines = l.machines;
    totals = λ m i lt. l.totals m i lt ∙ ap (λ es. total_at (as_known jobs) m i es) (sym entries_same);
    fits = λ m i lt. subst (λ es. total_at (as_known jobs) m i es ≤ has_at c m i) (sym entries_same) (l.fits m i lt);
    groups = l.groups;
    usages = λ g i lt. l.usages g i lt ∙ ap (λ es. usage_at (as_known jobs) g i es) (sym entries_same);
  }
