use Rattle.std.proofs.Common.{◌≡◌, ◌<◌, ℕ, length, map, [], ◌∷◌, rules}
use Rattle.std.specs.List.{flat_map}
use Rattle.std.proofs.lemmas.List.Concat.{flat_map_single}
use Rattle.fuxi_terms.specs.Keys.{RowKey}
use Rattle.spec_refinement.specs.States.{row_line}
use Rattle.schedule_text.specs.PrintedLines.{line_text}
use Rattle.spec_refinement.proofs.ShowsLemmas.{shows_same, shows_item, shows_all, begins_shown, begins_then}
use Rattle.party_text.proofs.agent.write_rows.Goals as goal

pub returns-in-Err-clause-begins : goal.returns-in-Err-clause-begins
returns-in-Err-clause-begins c = begins_then c.args.out.now.items c.loop-index.out.items c.write_row.new.out.items (begins_shown line_text (λ x body. []) _ c.args.out.now.items c.loop-index.out.items c.loop-index.invariant) c.write_row.ensures.begins

pub loop-index-preserved : goal.loop-index-preserved
loop-index-preserved c =
    let table = c.args.table.now in
    let within : c.loop-index.index < length table = search rules in
    shows_item line_text (λ (e : RowKey × ℕ). row_line c.args.machine.0 e ∷ []) table c.loop-index.index c.args.out.now.items c.loop-index.out.items c.write_row.new.out.items within c.loop-index.invariant c.in-Ok.ensures.ok

pub returns-clause-ok : goal.returns-clause-ok
returns-clause-ok c =
    let table = c.args.table.now in
    let m = c.args.machine.0 in
    let old = c.args.out.now.items in
    let new = c.loop-index.out.items in
    let all : c.loop-index.index ≡ length table = search rules in
    shows_same line_text (flat_map (λ e. row_line m e ∷ []) table) (map (row_line m) table) old new (flat_map_single (row_line m) table)
    (shows_all line_text (λ (e : RowKey × ℕ). row_line m e ∷ []) table c.loop-index.index old new all c.loop-index.invariant)

pub returns-clause-begins : goal.returns-clause-begins
returns-clause-begins c = begins_shown line_text (λ x body. []) _ c.args.out.now.items c.loop-index.out.items c.loop-index.invariant
