-- How a demand changes at one key.
use Rattle.std.specs.Prelude.{◌≡◌, ℕ, ◌≤◌, ℤ, unsigned_abs, Some, [], ◌∷◌}
use Rattle.fuxi_terms.specs.declared.Key.{Key}
use Rattle.fuxi_terms.specs.Counts.{moved}
use Rattle.fuxi_terms.specs.Tallies.{ChangeRecord}
use Rattle.fuxi_terms.specs.TallyKeys.{greatest_demand}

-- the change, under an unchanged head, of the number at one key from one to another
pub record IsMove (head : ℕ) (k : Key) (before after : ℕ) (c : ChangeRecord) : Type 0 where
  pub change : ℤ
  pub is : c ≡ record { head = head; entries = (k, change) ∷ [] }
  pub moves : moved before change ≡ Some after
  pub small : unsigned_abs change ≤ greatest_demand k
