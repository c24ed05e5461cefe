-- A tally: a head and numbers by key. A change of the head drops the entries of one kind first.
use Rattle.std.specs.Prelude.{ℕ, ℤ, not, cond, nat_eq, List, [], Result, Ok}
use Rattle.std.specs.FinMap.Entries.{where_key}
use Rattle.fuxi_terms.specs.declared.Key.{Key}
use Rattle.fuxi_terms.specs.Keys.{key_cmp}
use Rattle.fuxi_terms.specs.Counts.{change_all, then_do, difference}

pub record TallyRecord : Type 0 where
  pub head : ℕ
  pub entries : List (Key × ℕ)

-- a new head, and changes by key
pub record ChangeRecord : Type 0 where
  pub head : ℕ
  pub entries : List (Key × ℤ)

abbrev pub empty_tally : TallyRecord
empty_tally = record { head = 0; entries = [] }

-- the entries that stay under a head
abbrev pub staying : ℕ → TallyRecord → ℕ → List (Key × ℕ)
staying dropped t head = cond (nat_eq head t.head) t.entries (where_key key_cmp (λ k. not (nat_eq k.what dropped)) t.entries)

module _ {E : Type 0} (low : Key → ℕ → ℤ → E) (high : Key → E) where
  -- the changed tally, or the first refusal
  abbrev pub patched_tally : (Key → ℕ) → ℕ → TallyRecord → ChangeRecord → Result TallyRecord E
  patched_tally greatest dropped t c = then_do (change_all key_cmp low high greatest (staying dropped t c.head) c.entries) (λ es. Ok (record { head = c.head; entries = es }))

abbrev pub tally_difference : ℕ → TallyRecord → TallyRecord → ChangeRecord
tally_difference dropped a b = record { head = b.head; entries = difference key_cmp (staying dropped a b.head) b.entries }
