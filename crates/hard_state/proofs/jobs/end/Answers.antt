use Rattle.std.proofs.Common.{◌-◌, map, true, set, sym, ap, ◌∙◌, subst, List}
use Rattle.fuxi_terms.specs.Jobs.{KnownJob}
use Rattle.hard_state.specs.declared.jobs.Entry.{Entry}
use Rattle.hard_state.specs.HardFiles.{known_job}
use Rattle.hard_state.specs.Index.{IsIndex}
use Rattle.hard_state.proofs.IndexLemmas.{item_there, mapped_there, mapped_set, ended_there, index_ended, place_within}
use Rattle.hard_state.proofs.jobs.end.Goals as goal

pub returns-clause-jobs : goal.returns-clause-jobs
returns-clause-jobs c =
    let jobs = c.args.jobs.now in
    let place = c.place_of-place.result in
    let entry = c.index-jobs-place.result in
    let within = place_within known_job c.args.places.now jobs c.args.number place c.requires.index c.place_of-place.ensures.place c.if-place-eq0.false in
    let at = mapped_there known_job jobs (place - 1) entry (item_there jobs (place - 1) entry within (sym c.index-jobs-place.is)) in
    mapped_set known_job jobs (place - 1) _ ∙ ap (λ (e : Entry). set (map known_job jobs) (place - 1) (record { job = e.job; ended = true })) (sym c.index-jobs-place.is)
    ∙ sym (ended_there c.args.places.now (map known_job jobs) c.args.number place (known_job entry) c.requires.index c.place_of-place.ensures.place c.if-place-eq0.false at)

pub returns-clause-index : goal.returns-clause-index
returns-clause-index c = subst (λ (js : List KnownJob). IsIndex c.args.places.now js) (sym (returns-clause-jobs c)) (index_ended c.args.places.now (map known_job c.args.jobs.now) c.args.number c.requires.index)
