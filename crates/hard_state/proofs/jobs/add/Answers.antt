use Rattle.std.proofs.Common.{◌≡◌, ◌+◌, ◌++◌, [], ◌∷◌, List, ℕ, map, false, length, rules, sym, ap, ◌∙◌, subst, set}
use Rattle.std.proofs.lemmas.List.{length-map, map-append}
use Rattle.fuxi_terms.specs.Jobs.{KnownJob, job_of}
use Rattle.fuxi_terms.proofs.Lookups.{none_is}
use Rattle.hard_state.specs.HardFiles.{known_job}
use Rattle.hard_state.specs.Index.{IsIndex}
use Rattle.hard_state.proofs.IndexLemmas.{room_of, number_below, index_added}
use Rattle.hard_state.proofs.jobs.add.Goals as goal

pub unreachable-requires : goal.unreachable-requires
unreachable-requires c =
    let jobs = c.args.jobs.now.items in
    let few = room_of c.args.places.now.items (map known_job jobs) c.args.job.number c.requires.index (number_below c.args.job c.requires.valid) (none_is (job_of (map known_job jobs) c.args.job.number) c.requires.unknown) in
    let long = length-map jobs known_job in
    search (rules, few, long)

pub overflow_cast-len : goal.overflow_cast-len
overflow_cast-len c =
    let jobs = c.args.jobs.now.items in
    let few = room_of c.args.places.now.items (map known_job jobs) c.args.job.number c.requires.index (number_below c.args.job c.requires.valid) (none_is (job_of (map known_job jobs) c.args.job.number) c.requires.unknown) in
    let long = length-map jobs known_job in
    search (rules, few, long)

pub returns-clause-index : goal.returns-clause-index
returns-clause-index c =
    let jobs = c.args.jobs.now.items in
    let known : KnownJob = record { job = c.args.job; ended = false } in
    let small = number_below c.args.job c.requires.valid in
    let none = none_is (job_of (map known_job jobs) c.args.job.number) c.requires.unknown in
    let added = index_added c.args.places.now.items (map known_job jobs) known c.requires.index small none in
    let place : c.len.result ≡ length (map known_job jobs) + 1 = let pushed = ap length c.in-Ok.ensures.items in let long = length-map jobs known_job in search (rules, pushed, long) in
    let grown : map known_job c.push.new.self.items ≡ map known_job jobs ++ known ∷ [] = ap (map known_job) c.in-Ok.ensures.items ∙ map-append known_job jobs _ in
    subst (λ (p : ℕ × List KnownJob). IsIndex (set c.args.places.now.items p.0 c.len.result) p.1) (λ i. (sym c.app-number.ensures.number i, sym grown i))
    (subst (λ (n : ℕ). IsIndex (set c.args.places.now.items c.args.job.number n) (map known_job jobs ++ known ∷ [])) (sym place) added)
