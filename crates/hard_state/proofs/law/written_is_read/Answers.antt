use Rattle.hard_state.proofs.ByKind.{read_back, body_short, job_body_long, read_short}
use Rattle.hard_state.proofs.law.written_is_read.Goals as goal

pub returns-clause-read : goal.returns-clause-read
returns-clause-read c = read_back

pub returns-clause-short : goal.returns-clause-short
returns-clause-short c = body_short

pub returns-clause-only : goal.returns-clause-only
returns-clause-only c = read_short

pub returns-clause-long : goal.returns-clause-long
returns-clause-long c = job_body_long
