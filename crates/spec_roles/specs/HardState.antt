-- Hard state: what is written before it is answered, and survives every master.
use Rattle.std.specs.Prelude.{ℕ, ◌+◌, Bool, true, false, cond, not, nat_eq, nat_lt, List, [], ◌∷◌, ◌++◌, map, Some, None, Result, Ok, Err}
use Rattle.fuxi_terms.specs.Cluster.{JobRecord}
use Rattle.fuxi_terms.specs.Jobs.{KnownJob, is_known, has_ended}
use Rattle.fuxi_terms.specs.Numbers.{has_number, with_number, without_number}
use Rattle.spec_roles.specs.Refusals.{Refusal, NotRising, HardFull, Fenced, Known, NoJob, Ended, AlreadyBanned, NotBanned, first_refusal}
use Rattle.fuxi_terms.specs.Limits.{most_records}

-- jobs in the order of their submission, the machines that are banned, the fence, which is the greatest epoch that ever started, and
-- the number of records written
pub record HardState : Type 0 where
  pub jobs : List KnownJob
  pub bans : List ℕ
  pub fence : ℕ
  pub records : ℕ

abbrev pub empty_hard : HardState
empty_hard = record { jobs = []; bans = []; fence = 0; records = 0 }

abbrev pub is_full : HardState → Bool × Refusal
is_full h = (not (nat_lt h.records most_records), HardFull most_records)

-- an epoch below the fence writes nothing any more
abbrev pub is_fenced : HardState → ℕ → Bool × Refusal
is_fenced h e = (nat_lt e h.fence, Fenced h.fence)

abbrev pub is_not_rising : HardState → ℕ → Bool × Refusal
is_not_rising h e = (not (nat_lt h.fence e), NotRising h.fence)

-- The tests of each writing, in their order
abbrev pub raise_tests : HardState → ℕ → List (Bool × Refusal)
raise_tests h e = is_not_rising h e ∷ is_full h ∷ []

abbrev pub submit_tests : HardState → ℕ → JobRecord → List (Bool × Refusal)
submit_tests h e j = is_fenced h e ∷ (is_known h.jobs j.number, Known) ∷ is_full h ∷ []

abbrev pub finish_tests : HardState → ℕ → ℕ → List (Bool × Refusal)
finish_tests h e a = is_fenced h e ∷ (not (is_known h.jobs a), NoJob) ∷ (has_ended h.jobs a, Ended) ∷ is_full h ∷ []

abbrev pub ban_tests : HardState → ℕ → ℕ → List (Bool × Refusal)
ban_tests h e m = is_fenced h e ∷ (has_number m h.bans, AlreadyBanned) ∷ is_full h ∷ []

abbrev pub unban_tests : HardState → ℕ → ℕ → List (Bool × Refusal)
unban_tests h e m = is_fenced h e ∷ (not (has_number m h.bans), NotBanned) ∷ is_full h ∷ []

-- What each writes
abbrev pub with_job : JobRecord → List KnownJob → List KnownJob
with_job j jobs = jobs ++ record { job = j; ended = false } ∷ []

abbrev pub with_ended : ℕ → List KnownJob → List KnownJob
with_ended a jobs = map (λ j. cond (nat_eq j.job.number a) (record { job = j.job; ended = true }) j) jobs

abbrev pub raised : HardState → ℕ → HardState
raised h e = record h { fence = e; records = h.records + 1 }

abbrev pub submitted : HardState → JobRecord → HardState
submitted h j = record h { jobs = with_job j h.jobs; records = h.records + 1 }

abbrev pub finished : HardState → ℕ → HardState
finished h a = record h { jobs = with_ended a h.jobs; records = h.records + 1 }

abbrev pub banned : HardState → ℕ → HardState
banned h m = record h { bans = with_number m h.bans; records = h.records + 1 }

abbrev pub unbanned : HardState → ℕ → HardState
unbanned h m = record h { bans = without_number m h.bans; records = h.records + 1 }

-- One writing by a master of an epoch
pub data HardEvent : Type 0 where
  Raise : HardEvent
  Submission : (job : JobRecord) → HardEvent
  Finishing : (job : ℕ) → HardEvent
  Banning : (machine : ℕ) → HardEvent
  Unbanning : (machine : ℕ) → HardEvent

abbrev pub hard_tests : HardState → ℕ → HardEvent → List (Bool × Refusal)
hard_tests h e Raise = raise_tests h e
hard_tests h e (Submission j) = submit_tests h e j
hard_tests h e (Finishing a) = finish_tests h e a
hard_tests h e (Banning m) = ban_tests h e m
hard_tests h e (Unbanning m) = unban_tests h e m

abbrev pub hard_after : HardState → ℕ → HardEvent → HardState
hard_after h e Raise = raised h e
hard_after h e (Submission j) = submitted h j
hard_after h e (Finishing a) = finished h a
hard_after h e (Banning m) = banned h m
hard_after h e (Unbanning m) = unbanned h m

-- the new value, or the first refusal
abbrev pub hard_step : HardState → ℕ → HardEvent → Result HardState Refusal
hard_step h e v = elim (first_refusal (hard_tests h e v)) [ None ↦ Ok (hard_after h e v) | Some r ↦ Err r ]
