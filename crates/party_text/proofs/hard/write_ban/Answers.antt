use Rattle.std.proofs.Common.{[], ◌∷◌, cond, sym, ◌∙◌, ap}
use Rattle.spec_world.specs.Outputs.{Banned}
use Rattle.party_text.specs.MasterLines.{ban_lines}
use Rattle.schedule_text.specs.PrintedLines.{line_text}
use Rattle.spec_refinement.proofs.ShowsLemmas.{shows_same, then_ok}
use Rattle.party_text.proofs.hard.write_ban.Goals as goal

pub returns-then-banned-clause-ok : goal.returns-then-banned-clause-ok
returns-then-banned-clause-ok c =
    let m = c.args.machine.0 in
    let bans = c.args.hard.now.value.bans in
    then_ok c.write_line.result c.write_line.ensures.ok (λ s. shows_same line_text _ (ban_lines bans m) c.args.out.now.items c.write_line.new.out.items
    (sym (ap (λ b. cond b (Banned m ∷ []) []) (sym c.banned.ensures ∙ c.if-banned.true))) s)
