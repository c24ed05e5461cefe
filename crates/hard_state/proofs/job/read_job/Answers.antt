use Rattle.std.proofs.Common.{◌≢◌, List, rules, ap, ◌∙◌}
use Rattle.std.proofs.lemmas.List.{take_rest}
use Rattle.schedule_unit.specs.declared.asks.Ask.{Ask}
use Rattle.schedule_unit.specs.declared.job.JobFault.TheVariants.{OutOfMemory}
use Rattle.hard_state.specs.RecordBodies.{units_in}
use Rattle.hard_state.proofs.Front.{four_at}
use Rattle.hard_state.proofs.Made.{was_read, job_was_made, job_was_refused}
use Rattle.hard_state.proofs.job.read_job.Goals as goal

pub returns-in-Ok-make-clause-found : goal.returns-in-Ok-make-clause-found
returns-in-Ok-make-clause-found c =
    let l = c.args.bytes.now in
    let asks : List Ask = c.as_slice.result.now in
    let read = was_read c.args.version l _ _ _ asks _ c.if-bytes-unit_size.false c.unit_size.ensures (c.from_be_bytes-number.ensures ∙ four_at l 0) (c.from_be_bytes-group.ensures ∙ four_at l 4) c.as_slice.ensures
    (c.in-Ok.ensures ∙ ap (units_in c.args.version _) (take_rest l 9)) in
    job_was_made c.args.version l _ _ asks read c.in-Ok-make.job c.in-Ok-make.ensures.made c.in-Ok-make.ensures.valid

pub returns-clause-found : goal.returns-clause-found
returns-clause-found c =
    let l = c.args.bytes.now in
    let asks : List Ask = c.as_slice.result.now in
    let read = was_read c.args.version l _ _ _ asks _ c.if-bytes-unit_size.false c.unit_size.ensures (c.from_be_bytes-number.ensures ∙ four_at l 0) (c.from_be_bytes-group.ensures ∙ four_at l 4) c.as_slice.ensures
    (c.in-Ok.ensures ∙ ap (units_in c.args.version _) (take_rest l 9)) in
    let other : c.in-Err-make.fault ≢ OutOfMemory = search rules in
    job_was_refused c.args.version l _ _ asks read c.in-Err-make.fault other c.in-Err-make.ensures.made
