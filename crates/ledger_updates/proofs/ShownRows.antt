-- Rows that are shown to one agent after another.
use Rattle.std.proofs.Common.{◌≡◌, ℕ, ◌<◌, true, false, nat_eq, List, [], length, Option, Some, None, slice_get, refl, sym, ◌∙◌, ap, subst}
use Rattle.std.specs.Option.{unwrap_or}
use Rattle.std.proofs.lemmas.Option.{slice_get_within}
use Rattle.fuxi_terms.specs.Keys.{RowKey, row_cmp, Spot}
use Rattle.fuxi_terms.specs.Numbers.{has_number}
use Rattle.fuxi_terms.proofs.Booleans.{eq_turned, or_false}
use Rattle.fuxi_terms.specs.Rows.{IsRow, patched_row}
use Rattle.schedule_unit.specs.declared.party.MachineNo.{MachineNo}
use Rattle.spec_net.specs.Ledgers.{row_ledger}
use Rattle.peer_channel.specs.Bodies.{report_of}
use Rattle.grant_table.specs.GrantTables.{TableRecord, as_known, IsSound}
use Rattle.ledger_updates.specs.Projections.{row_of}
use Rattle.fuxi_terms.specs.NumbersSet.{numbers_set}
use Rattle.ledger_updates.specs.Shown.{Shows}
use Rattle.ledger_updates.specs.AllShown.{Down, is_machine, AreInOrder, RowsAreBefore, ShowsRows}
use Rattle.ledger_updates.specs.OfNumbers.{AreReached}
use Rattle.ledger_updates.specs.TouchedNumbers.{touched_on, named_machine, MayBeSet}
use Rattle.ledger_updates.proofs.ShownLemmas.{shown_kept}
use Rattle.ledger_updates.proofs.TouchedRows.{RowsFollow, touched_row, may_be_set}

abbrev pub ShowsRow : TableRecord → Option MachineNo → ℕ → Down → Down → Type 0
ShowsRow t even_if_equal m d e = Shows [] patched_row IsRow row_ledger report_of (is_machine even_if_equal m) (row_of (as_known t.jobs) m t.entries) d e

-- ---- one turn: the side of a machine, as it was at the start, and its numbers
module _ (t : TableRecord) (sound : IsSound t) (ss : List Spot) (order : AreInOrder ss) (old : List Down) (before : RowsAreBefore t ss old) (i : ℕ) (d : Down) (was : slice_get old i ≡ Some d) (ns : List (RowKey × ℕ)) (numbers_are : ns ≡ touched_on t i ss) where
  pub set_at : MayBeSet d.outgoing.present ns
  set_at = subst (λ row. MayBeSet row ns) (sym (before.rows i d was)) (subst (MayBeSet (row_of (as_known t.jobs) i before.before)) (sym numbers_are) (may_be_set t sound i ss order before.before before.is))

  pub row_at : RowsFollow → numbers_set row_cmp d.outgoing.present ns ≡ row_of (as_known t.jobs) i t.entries
  row_at follow = (λ j. numbers_set row_cmp (before.rows i d was j) (numbers_are j)) ∙ touched_row t sound i follow ss order before.before before.is

-- a machine that is not the one that may be named
pub not_forced : (o : Option MachineNo) (m : ℕ) → has_number m (named_machine o) ≡ false → is_machine o m ≡ false
not_forced None m left = refl
not_forced (Some n) m left = eq_turned n.0 m ∙ sym (or_false (nat_eq m n.0)) ∙ left

-- the others have no number, and are not even_if_equal
pub all_shown : (t : TableRecord) → IsSound t → (ss : List Spot) → AreInOrder ss → (even_if_equal : Option MachineNo) (old now : List Down) → RowsAreBefore t ss old → RowsFollow → (due : List ℕ) → ((m : ℕ) → m < length old → has_number m due ≡ false → ([] ≡ touched_on t m ss) × (is_machine even_if_equal m ≡ false)) → AreReached (ShowsRow t even_if_equal) due old now
    → ShowsRows t even_if_equal old now
all_shown t sound ss order even_if_equal old now before follow due quiet h = record {
  wide = h.wide;
  each = λ m d e was there. elim (has_number m due) as (λ b. has_number m due ≡ b → ShowsRow t even_if_equal m d e) [
    | true ↦ λ is. h.each m d e is was there
    | false ↦ λ is.
        let q = quiet m (slice_get_within old m d was) is in
        let same : d ≡ e = ap (λ o. unwrap_or o d) (sym was ∙ sym (h.rest m is) ∙ there) in
        subst (ShowsRow t even_if_equal m d) same (shown_kept [] patched_row IsRow row_ledger report_of (is_machine even_if_equal m) (row_of (as_known t.jobs) m t.entries) d q.1 (row_at t sound ss order old before m d was [] q.0 follow))
  ] refl;
}
