use Rattle.std.proofs.Common.{[], ◌≡◌, ◌<◌, map, sym, ap, subst, rules}
use Rattle.std.specs.List.{AllByRecursion, flat_map}
use Rattle.fuxi_terms.specs.Limits.{most_machines}
use Rattle.fuxi_terms.specs.Lists.{below}
use Rattle.spec_world.specs.Orders.{Rise}
use Rattle.spec_world.specs.Outputs.{Banned}
use Rattle.party_text.specs.MasterLines.{ban_lines}
use Rattle.schedule_text.specs.PrintedLines.{line_text}
use Rattle.spec_refinement.proofs.ShowsLemmas.{shows_same, begins_shown, begins_then}
use Rattle.party_text.proofs.Walks.{listed_below}
use Rattle.party_text.proofs.hard.write_bans.Goals as goal

pub returns-in-Err-clause-begins : goal.returns-in-Err-clause-begins
returns-in-Err-clause-begins c = begins_then c.args.out.now.items c.loop-number.out.items c.write_ban.new.out.items (begins_shown line_text (λ x body. []) _ c.args.out.now.items c.loop-number.out.items c.loop-number.invariant) c.write_ban.ensures.begins

pub returns-clause-ok : goal.returns-clause-ok
returns-clause-ok c =
    let bans = c.args.hard.now.value.bans in
    let n = c.loop-number.number in
    let all : n ≡ most_machines = search rules in
    let known = ap (λ k. k.bans) c.known.ensures in
    let rise = subst Rise known c.bans_rise.ensures.rise in
    let low = subst (λ k. AllByRecursion (λ m. m < k) bans) (sym all) (subst (AllByRecursion (λ m. m < most_machines)) known c.bans_rise.ensures.low) in
    shows_same line_text (flat_map (ban_lines bans) (below n)) (map (λ m. Banned m) bans) c.args.out.now.items c.loop-number.out.items (listed_below (λ m. Banned m) n bans rise low) c.loop-number.invariant

pub returns-clause-begins : goal.returns-clause-begins
returns-clause-begins c = begins_shown line_text (λ x body. []) _ c.args.out.now.items c.loop-number.out.items c.loop-number.invariant
