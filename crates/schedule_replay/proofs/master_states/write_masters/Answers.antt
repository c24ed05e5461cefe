use Rattle.std.proofs.Common.{◌≡◌, length, take, sym, ◌∙◌, ap, refl, subst, arith}
use Rattle.std.specs.List.{flat_map}
use Rattle.std.specs.Map.{keys_of}
use Rattle.std.specs.Ordering.{nat_cmp}
use Rattle.std.specs.FinMap.Entries.{find}
use Rattle.std.proofs.lemmas.List.{take_all}
use Rattle.std.proofs.lemmas.Map.Entries.{length-keys_of}
use Rattle.fuxi_terms.proofs.Lists.{take_last}
use Rattle.spec_world.specs.Show.{show_master}
use Rattle.spec_refinement.specs.SeenWorlds.{master_seen}
use Rattle.running_parties.specs.RunningMasters.{MasterAt}
use Rattle.party_text.specs.Texts.{Shows}
use Rattle.schedule_replay.specs.Parts.{epoch_lines, show_masters}
use Rattle.schedule_text.specs.PrintedLines.{line_text}
use Rattle.spec_refinement.proofs.ShowsLemmas.{shows_same, begins_then}
use Rattle.schedule_replay.proofs.Found.{shows_found, shows_none}
use Rattle.schedule_replay.proofs.Loops.{one_passed}
use Rattle.schedule_replay.proofs.Peers.{master_runs}
use Rattle.schedule_replay.proofs.Walks.{each_key}
use Rattle.schedule_replay.proofs.master_states.write_masters.Goals as goal

pub loop-place-preserved-in_default : goal.loop-place-preserved-in_default
loop-place-preserved-in_default c =
    let old = c.args.out.now.items in
    let before = c.loop-place.out.items in
    let keys = keys_of c.args.masters.now.slots in
    let place = c.loop-place.place in
    let epoch = c.number.result in
    record {
      shows = λ w of. subst (λ ks. Shows (flat_map (epoch_lines w) ks) old before) (sym (take_last keys place epoch c.number.ensures))
          (one_passed (epoch_lines w) (take place keys) epoch old before before (c.loop-place.invariant.shows w of)
          (shows_none show_master (find nat_cmp epoch w.masters) before (subst (MasterAt w epoch) (sym c.in_default.ensures) (c.parties_run.ensures.masters w c.args.masters.now of epoch))));
      begins = c.loop-place.invariant.begins;
    }

pub loop-place-preserved : goal.loop-place-preserved
loop-place-preserved c =
    let old = c.args.out.now.items in
    let before = c.loop-place.out.items in
    let after = c.write_master.new.out.items in
    let keys = keys_of c.args.masters.now.slots in
    let place = c.loop-place.place in
    let epoch = c.number.result in
    record {
      shows = λ w of.
          let runs = master_runs c.parties_run.ensures.masters w c.args.masters.now epoch c.in-Some.master.now of c.in-Some.ensures in
          subst (λ ks. Shows (flat_map (epoch_lines w) ks) old after) (sym (take_last keys place epoch c.number.ensures))
          (one_passed (epoch_lines w) (take place keys) epoch old before after (c.loop-place.invariant.shows w of)
          (shows_found show_master (find nat_cmp epoch w.masters) runs.master (show_master runs.master) before after runs.runs refl (c.in-Ok.ensures.ok (master_seen w runs.master) runs.stands)));
      begins = begins_then old before after c.loop-place.invariant.begins c.write_master.ensures.begins;
    }

pub returns-clause-ok : goal.returns-clause-ok
returns-clause-ok c =
    let old = c.args.out.now.items in
    let new = c.loop-place.out.items in
    let keys = keys_of c.args.masters.now.slots in
    let place = c.loop-place.place in
    let end = c.len-place-end.ensures.count in
    let past = c.loop-place-test.false in
    let wide : length keys ≡ length c.args.masters.now.slots = length-keys_of c.args.masters.now.slots in
    let all : take place keys ≡ keys = take_all place keys (omega (arith, end, past, wide)) in
    λ w of sorted.
    shows_same line_text (flat_map (epoch_lines w) (take place keys)) (show_masters w) old new
    (ap (flat_map (epoch_lines w)) (all ∙ sym (c.epochs_alike.ensures w c.args.masters.now sorted c.len-place-end.ensures.rising of)) ∙ each_key (λ k M. show_master M) w.masters sorted)
    (c.loop-place.invariant.shows w of)
