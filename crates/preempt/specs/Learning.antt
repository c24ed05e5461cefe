-- What searches found out.
use Rattle.std.specs.Prelude.{◌≡◌, ℕ, Bool, true, List, None}
use Rattle.fuxi_terms.specs.Keys.{Pair}
use Rattle.spec_roles.specs.Placing.{Board}
use Rattle.spec_roles.specs.Preemption.{plan_in}
use Rattle.grant_table.specs.GrantTables.{TableRecord}
use Rattle.preempt.specs.declared.learned.Learned.{Learned}
use Rattle.preempt.specs.Plans.{IsBoardOf}

-- what is learned is true of a table, of where units may be granted, and of a line: where nobody has victims there is no plan
pub record IsTrue (t : TableRecord) (usable : ℕ → ℕ → ℕ → Bool) (line : List Pair) (l : Learned) : Type 0 where
  pub nobody : l.nobody ≡ true → (B : Board) → IsBoardOf B t usable → plan_in B t.entries line ≡ None
