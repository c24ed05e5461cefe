use Rattle.std.proofs.Common.{◌≡◌, subst}
use Rattle.std.specs.Prelude.{T}
use Rattle.std.specs.FinMap.Entries.{is_sorted}
use Rattle.fuxi_terms.specs.Keys.{spot_cmp}
use Rattle.party_ledgers.specs.Entries.{entry_of}
use Rattle.allotment.specs.Allotted.{AllotmentRecord}
use Rattle.allotment.proofs.AddsRowLemmas.{adds_none, unit_there, few_there, room_there, adds_more}
use Rattle.allotment.proofs.allotment_of.Allotment.add_row.Goals as goal

sorted : (r x : AllotmentRecord) → r ≡ x → T (is_sorted spot_cmp r.table.entries) → T (is_sorted spot_cmp x.table.entries)
sorted r x e = subst (λ (y : AllotmentRecord). T (is_sorted spot_cmp y.table.entries)) e

pub loop-index-init : goal.loop-index-init
loop-index-init c = adds_none c.args.machine.0 c.args.self.now (sorted _ c.args.self.now c.self.view_is c.self.invariant.sound.counts.sorted) c.requires.waits c.requires.none

pub add-requires-clause-unit : goal.add-requires-clause-unit
add-requires-clause-unit c = unit_there c.set_numbers.ensures.held c.set_numbers.ensures.total c.args.machine.0 c.args.kept.now c.args.self.now c.loop-index.self (sorted _ c.args.self.now c.self.view_is c.self.invariant.sound.counts.sorted) c.requires.none c.at-entry.ensures.row c.requires.units c.loop-index.index (entry_of c.at-entry.result) c.at-entry.ensures.entry c.loop-index.invariant

pub add-requires-clause-few : goal.add-requires-clause-few
add-requires-clause-few c = few_there c.set_numbers.ensures.held c.set_numbers.ensures.total c.args.machine.0 c.args.kept.now c.args.self.now c.loop-index.self (sorted _ c.args.self.now c.self.view_is c.self.invariant.sound.counts.sorted) c.requires.none c.at-entry.ensures.row c.requires.units c.loop-index.index (entry_of c.at-entry.result) c.at-entry.ensures.entry c.loop-index.invariant

pub add-requires-clause-room : goal.add-requires-clause-room
add-requires-clause-room c = room_there c.set_numbers.ensures.held c.set_numbers.ensures.total c.args.machine.0 c.args.kept.now c.args.self.now c.loop-index.self (sorted _ c.args.self.now c.self.view_is c.self.invariant.sound.counts.sorted) c.requires.none c.at-entry.ensures.row c.requires.units c.loop-index.index (entry_of c.at-entry.result) c.at-entry.ensures.entry c.loop-index.invariant c.requires.fits

pub loop-index-preserved : goal.loop-index-preserved
loop-index-preserved c = adds_more c.set_numbers.ensures.held c.set_numbers.ensures.total c.args.machine.0 c.args.kept.now c.args.self.now c.loop-index.self (sorted _ c.args.self.now c.self.view_is c.self.invariant.sound.counts.sorted) c.requires.none c.at-entry.ensures.row c.requires.units c.loop-index.index (entry_of c.at-entry.result) c.at-entry.ensures.entry c.loop-index.invariant c.add.new.self c.in_ok-add.ensures
