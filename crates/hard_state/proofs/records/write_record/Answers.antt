use Rattle.std.proofs.Common.{◌++◌, [], ◌∷◌, append_assoc, sym, ap, ◌∙◌}
use Rattle.hard_state.specs.RecordBodies.{body_of, job_bytes}
use Rattle.hard_state.proofs.records.write_record.Goals as goal

pub returns-in_ok-write_job-in-Submission : goal.returns-in_ok-write_job-in-Submission
returns-in_ok-write_job-in-Submission c =
    let out = c.args.out.now.items in
    let bytes = job_bytes c.in-Submission.job in
    c.in_ok-write_job-in-Submission.ensures ∙ ap (λ m. m ++ bytes) c.in_ok-extend_from_slice-in-Submission.ensures.items ∙ append_assoc out (2 ∷ 2 ∷ []) bytes
    ∙ ap (λ r. out ++ body_of r) (sym c.in-Submission.is)
