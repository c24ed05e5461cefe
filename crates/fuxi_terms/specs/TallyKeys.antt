-- The keys of grants and of demands, each with its greatest number.
use Rattle.std.specs.Prelude.{ℕ, Bool, cond, nat_eq, nat_lt, ◌&&◌}
use Rattle.fuxi_terms.specs.declared.Key.{Key}
use Rattle.fuxi_terms.specs.Limits.{most_units, most_machines, most_racks, greatest_count, greatest_back}

abbrev pub key : ℕ → ℕ → ℕ → Key
key what unit number = record { what = what; unit = unit; number = number }

-- the keys of grants: a machine that is reported, a count, and what is credited of numbers given back
abbrev pub reported_key : ℕ → Key
reported_key m = key 1 0 m

abbrev pub count_key : ℕ → ℕ → Key
count_key u m = key 2 u m

abbrev pub credited_what : ℕ
credited_what = 3

abbrev pub credited_key : ℕ → ℕ → Key
credited_key u m = key credited_what u m

-- the keys of a demand: how many are wanted in all, on a machine and in a rack, a machine that is avoided, and how many are given back
abbrev pub want_key : ℕ → Key
want_key u = key 1 u 0

abbrev pub near_key : ℕ → ℕ → Key
near_key u m = key 2 u m

abbrev pub rack_key : ℕ → ℕ → Key
rack_key u r = key 3 u r

abbrev pub avoid_key : ℕ → ℕ → Key
avoid_key u m = key 4 u m

abbrev pub back_what : ℕ
back_what = 5

abbrev pub back_key : ℕ → ℕ → Key
back_key u m = key back_what u m

abbrev pub is_back : Key → Bool
is_back k = nat_eq k.what back_what

-- a unit, and a machine, are named
abbrev pub is_place : Key → Bool
is_place k = nat_lt k.unit most_units && nat_lt k.number most_machines

abbrev pub where_holds : Bool → ℕ → ℕ
where_holds b n = cond b n 0

-- the greatest number at a key; 0 where it is none
abbrev pub greatest_grant : Key → ℕ
greatest_grant k = where_holds (is_place k)
    (cond (nat_eq k.what 1) (where_holds (nat_eq k.unit 0) 1)
    (cond (nat_eq k.what 2) greatest_count
    (where_holds (nat_eq k.what credited_what) greatest_back)))

abbrev pub greatest_demand : Key → ℕ
greatest_demand k = where_holds (is_place k)
    (cond (nat_eq k.what 1) (where_holds (nat_eq k.number 0) greatest_count)
    (cond (nat_eq k.what 2) greatest_count
    (cond (nat_eq k.what 3) (where_holds (nat_lt k.number most_racks) greatest_count)
    (cond (nat_eq k.what 4) 1
    (where_holds (nat_eq k.what back_what) greatest_back)))))
