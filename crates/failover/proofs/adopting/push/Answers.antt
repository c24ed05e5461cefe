use Rattle.std.proofs.Common.{to_z, ◌≡◌, ◌≢◌, ◌≤◌, ◌++◌, [], ◌∷◌, ℕ, List, Ok, Result, sym, ap, ◌∙◌, rules, arith}
use Rattle.std.specs.Prelude.{pos}
use Rattle.fuxi_terms.specs.declared.answers.LedgerFault.{LedgerFault}
use Rattle.fuxi_terms.specs.declared.answers.LedgerFault.TheVariants.{OutOfMemory}
use Rattle.std.specs.Int.{w32}
use Rattle.std.proofs.lemmas.Int.{to_z_pos}
use Rattle.fuxi_terms.specs.Keys.{RowKey}
use Rattle.fuxi_terms.specs.Rows.{patched_row}
use Rattle.party_ledgers.specs.Entries.{entry_of}
use Rattle.failover.proofs.OneEntryMore.{pushed, count_small, none_refused}
use Rattle.failover.proofs.adopting.push.Goals as goal

pub returns : goal.returns
returns c =
    let old = c.args.kept.now in
    let e = entry_of c.args.entry.now in
    let small : e.1 ≤ 100000 = count_small old e c.requires.row in
    let change : c.put.new.self ≡ (e.0, pos e.1) ∷ [] =
    c.in_ok-put.ensures.ok ∙ ap (λ l. l ++ (e.0, to_z w32 e.1) ∷ []) c.new-change.ensures ∙ ap (λ z. (e.0, z) ∷ []) (to_z_pos w32 e.1 (omega (arith, small))) in
    let is : ◌≡◌ {A = Result (List (RowKey × ℕ)) LedgerFault} (Ok c.apply.new.self) (Ok (old ++ e ∷ [])) = sym c.in-Ok.ensures ∙ ap (patched_row old) change ∙ pushed old e.0 e.1 c.requires.row in
    cc

pub unreachable-requires : goal.unreachable-requires
unreachable-requires c =
    let old = c.args.kept.now in
    let e = entry_of c.args.entry.now in
    let small : e.1 ≤ 100000 = count_small old e c.requires.row in
    let change : c.put.new.self ≡ (e.0, pos e.1) ∷ [] =
    c.in_ok-put.ensures.ok ∙ ap (λ l. l ++ (e.0, to_z w32 e.1) ∷ []) c.new-change.ensures ∙ ap (λ z. (e.0, z) ∷ []) (to_z_pos w32 e.1 (omega (arith, small))) in
    let is : ◌≡◌ {A = Result (List (RowKey × ℕ)) LedgerFault} (patched_row old c.put.new.self) (Ok (old ++ e ∷ [])) = ap (patched_row old) change ∙ pushed old e.0 e.1 c.requires.row in
    let other : c.in-Err.fault ≢ OutOfMemory = search rules in
    none_refused (patched_row old c.put.new.self) (old ++ e ∷ []) c.in-Err.fault is other c.in-Err.ensures.1
