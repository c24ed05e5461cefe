use Rattle.std.proofs.Common.{◌≡◌, ◌<◌, length, map, slice_get, refl, sym, ◌∙◌, ap, subst, arith}
use Rattle.std.proofs.lemmas.List.{length-map}
use Rattle.std.proofs.lemmas.Option.{slice_get_read}
use Rattle.fuxi_terms.specs.Jobs.{job_of}
use Rattle.hard_state.specs.HardFiles.{known_job}
use Rattle.hard_state.specs.Index.{job_at}
use Rattle.hard_state.specs.Knowledge.{Knowledge}
use Rattle.hard_state.proofs.IndexLemmas.{mapped_there}
use Rattle.hard_state.proofs.known.Known.at.Goals as goal

pub returns-clause-found : goal.returns-clause-found
returns-clause-found c =
    let items = c.self.inside.jobs.items in
    let jobs = map known_job items in
    let i = c.args.index in
    let entry = c.index.result.now in
    let within : i < length jobs = subst (λ (k : Knowledge). i < length k.jobs) (sym c.self.view_is) c.requires in
    let long = length-map items known_job in
    let at = mapped_there known_job items i entry (slice_get_read items (length items) i entry refl (omega (arith, within, long)) c.index.ensures) in
    let number = entry.job.number in
    subst (λ (k : Knowledge). job_of k.jobs number ≡ slice_get k.jobs i) c.self.view_is (c.self.invariant.0.leads number ∙ ap (job_at jobs) (c.self.invariant.0.only i (known_job entry) at))
