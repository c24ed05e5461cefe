-- What a placer and a table read of a board is what the master reads of its own.
use Rattle.std.proofs.Common.{◌≡◌, ℕ, ◌+◌, ◌-◌, Bool, true, false, cond, not, nat_eq, nat_lt, List, [], ◌∷◌, ◌++◌, map, filter, length, slice_get, refl, sym, ◌∙◌, ap}
use Rattle.std.specs.Prelude.{◌&&◌}
use Rattle.std.specs.Option.{unwrap_or, option_map}
use Rattle.std.specs.List.{flat_map}
use Rattle.fuxi_terms.specs.Cluster.{ClusterRecord, JobRecord}
use Rattle.fuxi_terms.specs.Lists.{below}
use Rattle.fuxi_terms.specs.Numbers.{has_number}
use Rattle.fuxi_terms.specs.Tables.{held, Table}
use Rattle.fuxi_terms.specs.Vectors.{at_place}
use Rattle.fuxi_terms.specs.declared.Key.{Key}
use Rattle.fuxi_terms.specs.Keys.{Pair}
use Rattle.fuxi_terms.specs.Jobs.{KnownJob, job_of, units_of, no_unit, group_of}
use Rattle.fuxi_terms.specs.TallyKeys.{want_key, near_key, rack_key, avoid_key}
use Rattle.fuxi_terms.proofs.Lookups.{by_record}
use Rattle.spec_roles.specs.Masters.{Master, asked}
use Rattle.spec_roles.specs.Placing.{Board, board, line_up, lined, first_in, first_of, candidates_in, places_in, may_grow_in, first_placeable, waiting_pairs, is_usable}
use Rattle.grant_table.specs.GrantTables.{TableRecord, as_known}
use Rattle.place_pass.specs.Placers.{SeenRecord, board_with, waiting_with, is_open_to}
use Rattle.allotment.specs.PlacingReads.{record_of, IsPlacing}

pub and_grouped : (a b d : Bool) → ((a && b) && d) ≡ (a && (b && d))
and_grouped true b d = refl
and_grouped false b d = refl

-- ---- jobs with the same records have the same units, priorities, groups, sizes and greatest numbers per machine
module _ (js ks : List KnownJob) (same : (a : ℕ) → record_of js a ≡ record_of ks a) where
  pub units_same : (a : ℕ) → units_of js a ≡ units_of ks a
  units_same a = by_record (λ (j : JobRecord). j.units) [] (job_of js a) ∙ ap (λ o. unwrap_or (option_map (λ (j : JobRecord). j.units) o) []) (same a) ∙ sym (by_record (λ (j : JobRecord). j.units) [] (job_of ks a))

  pub groups_same : (a : ℕ) → group_of js a ≡ group_of ks a
  groups_same a = by_record (λ (j : JobRecord). j.group) 0 (job_of js a) ∙ ap (λ o. unwrap_or (option_map (λ (j : JobRecord). j.group) o) 0) (same a) ∙ sym (by_record (λ (j : JobRecord). j.group) 0 (job_of ks a))

-- ---- placing reads of what is asked these keys alone
abbrev pub wishes_of : (ℕ → Key → ℕ) → ℕ → Key → ℕ
wishes_of asks a k =
    cond (nat_eq k.what 1) (asks a (want_key k.unit))
    (cond (nat_eq k.what 2) (asks a (near_key k.unit k.number))
    (cond (nat_eq k.what 3) (asks a (rack_key k.unit k.number)) 0))

abbrev pub with_wishes : Board → Board
with_wishes b = record { cluster = b.cluster; priorities = b.priorities; sizes = b.sizes; mosts = b.mosts; groups = b.groups; asks = wishes_of b.asks; may_use = b.may_use; serving = b.serving }

candidates_read : (b : Board) (table : Table) (place : ℕ) (line : List Pair) → candidates_in b table place line ≡ candidates_in (with_wishes b) table place line
candidates_read b table place [] = refl
candidates_read b table place (p ∷ ps) = ap (λ rs. elim (may_grow_in b table p.0 p.1) [ true ↦ places_in b table place p | false ↦ [] ] ++ rs) (candidates_read b table (place + 1) ps)

pub first_reads : (b : Board) (table : Table) (line : List Pair) → first_in b table line ≡ first_in (with_wishes b) table line
first_reads b table line = ap first_of (candidates_read b table 0 line)

-- ---- the placeable pair of first rank is the master's
module _ (t : TableRecord) (s : SeenRecord) (c : ClusterRecord) (M : Master) (is : IsPlacing t s c M) where
  usable_is : (a u m : ℕ) → is_open_to s.cells s.opened a u m ≡ is_usable M a u m
  usable_is a u m = (λ i. is.usable m i && not (nat_lt 0 (is.avoids a u m i))) ∙ and_grouped (has_number m M.reported) (not (has_number m M.bans)) (not (nat_lt 0 (asked M a (avoid_key u m))))

  boards_same : M.serving ≡ true → with_wishes (board_with s t) ≡ with_wishes (board c M)
  boards_same serves = λ i. record {
    cluster = is.cluster i;
    priorities = λ a u. (unwrap_or (slice_get (units_same (as_known t.jobs) M.jobs is.jobs a i) u) no_unit).priority;
    sizes = λ a u n. at_place (unwrap_or (slice_get (units_same (as_known t.jobs) M.jobs is.jobs a i) u) no_unit).size n;
    mosts = λ a u. (unwrap_or (slice_get (units_same (as_known t.jobs) M.jobs is.jobs a i) u) no_unit).most;
    groups = λ a. groups_same (as_known t.jobs) M.jobs is.jobs a i;
    asks = λ a k. cond (nat_eq k.what 1) (is.wants a k.unit i) (cond (nat_eq k.what 2) (is.near a k.unit k.number i) (cond (nat_eq k.what 3) (is.racks a k.unit k.number i) 0));
    may_use = λ a u m. usable_is a u m i;
    serving = sym serves i;
  }

  pub first_same : M.serving ≡ true → first_in (board_with s t) t.entries s.line ≡ first_placeable c M
  first_same serves = first_reads (board_with s t) t.entries s.line ∙ (λ i. first_in (boards_same serves i) (is.entries i) (is.line i)) ∙ sym (first_reads (board c M) M.table M.line)

  -- the pairs with something out are the master's
  waiting_same : waiting_with s t ≡ waiting_pairs M
  waiting_same = λ i. flat_map (λ a. map (λ u. (a, u)) (filter (λ u. nat_lt 0 (is.wants a u i - held (is.entries i) a u)) (below (length (units_same (as_known t.jobs) M.jobs is.jobs a i))))) (is.numbers i)

  -- so where the line is brought up to date it stands for the master whose line is
  pub lined_is : (n : ℕ) → IsPlacing t (record s { line = lined s.line (waiting_with s t); turns = n }) c (line_up M)
  lined_is n = record {
    cluster = is.cluster;
    numbers = is.numbers;
    jobs = is.jobs;
    entries = is.entries;
    wants = is.wants;
    near = is.near;
    racks = is.racks;
    avoids = is.avoids;
    usable = is.usable;
    line = λ i. lined (is.line i) (waiting_same i);
  }
