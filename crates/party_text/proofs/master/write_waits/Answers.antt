use Rattle.std.proofs.Common.{◌≡◌, ◌<◌, length, map, [], ◌∷◌, ◌∙◌, ap, subst, rules}
use Rattle.std.specs.List.{flat_map}
use Rattle.std.proofs.lemmas.List.Concat.{flat_map_single}
use Rattle.party_text.specs.MasterLines.{wait_line}
use Rattle.schedule_text.specs.PrintedLines.{line_text}
use Rattle.spec_refinement.proofs.ShowsLemmas.{shows_same, shows_item, shows_all, begins_then}
use Rattle.party_text.proofs.master.write_waits.Goals as goal

pub loop-index-preserved : goal.loop-index-preserved
loop-index-preserved c =
    let within : c.loop-index.index < c.len-index-end.result = search rules in
    record {
      shows = λ r stands. shows_item line_text (λ p. wait_line r.state p ∷ []) r.state.line c.loop-index.index c.args.out.now.items c.loop-index.out.items c.write_wait.new.out.items
          (subst (λ n. c.loop-index.index < n) (c.len-index-end.ensures.number ∙ ap (λ l. length l) (c.waiting.ensures.stands r stands)) within) (c.loop-index.invariant.shows r stands) (λ p is. c.in-Ok.ensures.ok r p stands is);
      begins = begins_then c.args.out.now.items c.loop-index.out.items c.write_wait.new.out.items c.loop-index.invariant.begins c.write_wait.ensures.begins;
    }

pub returns-clause-ok : goal.returns-clause-ok
returns-clause-ok c =
    let old = c.args.out.now.items in
    let new = c.loop-index.out.items in
    let all : c.loop-index.index ≡ c.len-index-end.result = search rules in
    λ r stands. shows_same line_text (flat_map (λ p. wait_line r.state p ∷ []) r.state.line) (map (wait_line r.state) r.state.line) old new (flat_map_single (wait_line r.state) r.state.line)
    (shows_all line_text (λ p. wait_line r.state p ∷ []) r.state.line c.loop-index.index old new (all ∙ c.len-index-end.ensures.number ∙ ap (λ l. length l) (c.waiting.ensures.stands r stands)) (c.loop-index.invariant.shows r stands))
