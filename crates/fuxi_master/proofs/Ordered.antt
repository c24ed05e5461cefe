-- The spots that changed, in order.
use Rattle.std.proofs.Common.{◌≡◌, ℕ, List, sym, ◌∙◌}
use Rattle.fuxi_terms.specs.Keys.{Spot}
use Rattle.fuxi_terms.specs.Tables.{Table}
use Rattle.grant_table.specs.GrantTables.{TableRecord}
use Rattle.ledger_updates.specs.declared.grants.StepChanges.{StepChanges}
use Rattle.ledger_updates.specs.AllShown.{Down, has_spot, IsBefore, RowsAreBefore, GrantsAreBefore}

module _ (t : TableRecord) (spots ordered : List Spot) (same : (s : Spot) → has_spot s ordered ≡ has_spot s spots) where
  before_same : (before : Table) → IsBefore t spots before → IsBefore t ordered before
  before_same before b = record { counts = b.counts; admitted = b.admitted; others = λ s e. b.others s (sym (same s) ∙ e) }

  pub rows_same : (sides : List Down) → RowsAreBefore t spots sides → RowsAreBefore t ordered sides
  rows_same sides r = record { before = r.before; is = before_same r.before r.is; rows = r.rows }

  pub grants_same : (news : StepChanges) (now : List ℕ) (apps : List _) → GrantsAreBefore t spots news now apps → GrantsAreBefore t ordered news now apps
  grants_same news now apps g = record {
    before = g.before;
    is = before_same g.before g.is;
    reported = g.reported;
    is_now = g.is_now;
    rising = g.rising;
    below = g.below;
    each = g.each;
    new = g.new;
    machines = g.machines;
    nothing = g.nothing;
    boots = g.boots;
  }
