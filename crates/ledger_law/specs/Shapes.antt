-- The keys that a tally may have, each with its greatest number, and the tallies and changes that have a written form.
use Rattle.std.specs.Prelude.{ℕ, ℤ, ◌<◌, ◌≤◌, ◌^◌, Bool, cond, not, nat_eq, unsigned_abs, List}
use Rattle.std.specs.List.{AllByRecursion}
use Rattle.std.specs.FinMap.Entries.{where_key}
use Rattle.fuxi_terms.specs.declared.Key.{Key}
use Rattle.fuxi_terms.specs.Keys.{key_cmp}
use Rattle.fuxi_terms.specs.Counts.{AreCounts, AreChanges}
use Rattle.fuxi_terms.specs.Tallies.{TallyRecord, ChangeRecord}

-- what and unit take one byte and the number two; the kind 0 is none
pub record IsWritable (key : Key) : Type 0 where
  pub kind : 0 < key.what
  pub what : key.what < 2 ^ 8
  pub unit : key.unit < 2 ^ 8
  pub number : key.number < 2 ^ 16

-- the entries that stay where the head stays, or is a new one
abbrev pub kept_under : Bool → ℕ → List (Key × ℕ) → List (Key × ℕ)
kept_under same dropped es = cond same es (where_key key_cmp (λ k. not (nat_eq k.what dropped)) es)

module _ (greatest : Key → ℕ) where
  pub record IsTally (t : TallyRecord) : Type 0 where
    pub head : t.head < 2 ^ 64
    pub counts : AreCounts key_cmp greatest t.entries

  -- no change is greater than its key's greatest number
  pub record AreChangesWithin (cs : List (Key × ℤ)) : Type 0 where
    pub changes : AreChanges key_cmp cs
    pub within : AllByRecursion (λ e. unsigned_abs e.1 ≤ greatest e.0) cs

  pub record IsChange (c : ChangeRecord) : Type 0 where
    pub head : c.head < 2 ^ 64
    pub entries : AreChangesWithin c.entries
