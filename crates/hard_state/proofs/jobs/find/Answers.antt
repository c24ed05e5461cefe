use Rattle.std.proofs.Common.{◌-◌, map, sym}
use Rattle.hard_state.specs.HardFiles.{known_job}
use Rattle.hard_state.proofs.IndexLemmas.{item_there, mapped_there, found_there, place_within}
use Rattle.hard_state.proofs.jobs.find.Goals as goal

pub returns-clause-some : goal.returns-clause-some
returns-clause-some c =
    let jobs = c.args.jobs.now in
    let place = c.place_of-place.result in
    let entry = c.index-jobs-place.result in
    let within = place_within known_job c.args.places.now jobs c.args.number place c.requires.index c.place_of-place.ensures.place c.if-place-eq0.false in
    found_there c.args.places.now (map known_job jobs) c.args.number place (known_job entry) c.requires.index c.place_of-place.ensures.place c.if-place-eq0.false
    (mapped_there known_job jobs (place - 1) entry (item_there jobs (place - 1) entry within (sym c.index-jobs-place.is)))
