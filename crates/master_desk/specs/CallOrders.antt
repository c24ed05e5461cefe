-- Sessions, and orders in which their calls are taken.
use Rattle.std.specs.Prelude.{◌≡◌, ◌<◌, ◌≤◌, ℕ, ◌+◌, cond, nat_eq, List, [], ◌∷◌, ◌++◌, length, get_or}
use Rattle.std.specs.List.{sum_by}
use Rattle.master_desk.specs.declared.call.Decoded.{Decoded}
use Rattle.master_desk.specs.CallBytes.{Says}

-- the number of a session is below this; the calls of all sessions together
abbrev pub most_sessions : ℕ
most_sessions = 64

abbrev pub most_calls : ℕ
most_calls = 10000

-- Sessions are lists of byte strings; one that is not there has no call
abbrev pub calls_of : List (List (List ℕ)) → ℕ → List (List ℕ)
calls_of sessions c = get_or sessions c []

abbrev pub total : List (List (List ℕ)) → ℕ
total sessions = sum_by (λ (calls : List (List ℕ)). length calls) sessions

pub record IsSessions (sessions : List (List (List ℕ))) : Type 0 where
  pub wide : length sessions ≡ most_sessions
  pub few : total sessions ≤ most_calls

-- An order is a list of session numbers. How often a number stands in it
abbrev pub times : ℕ → List ℕ → ℕ
times c [] = 0
times c (d ∷ ds) = cond (nat_eq d c) 1 0 + times c ds

-- no session stands more often in it than it has calls
abbrev pub Fits : List (List (List ℕ)) → List ℕ → Type 0
Fits sessions order = (c : ℕ) → times c order ≤ length (calls_of sessions c)

-- each stands just as often in it
abbrev pub IsWhole : List (List (List ℕ)) → List ℕ → Type 0
IsWhole sessions order = (c : ℕ) → times c order ≡ length (calls_of sessions c)

-- behind n calls of a session its next one is this
pub record IsCallOf (sessions : List (List (List ℕ))) (c n : ℕ) (call : Decoded) : Type 0 where
  pub there : n < length (calls_of sessions c)
  pub says : Says (get_or (calls_of sessions c) n []) call

-- The i-th place of a session in an order stands for its i-th call: these are the calls of an order, each with its session, behind an order of calls before
abbrev pub AreCallsOf : List (List (List ℕ)) → List ℕ → List (ℕ × Decoded) → Type 0
AreCallsOf sessions before [] = Unit {0}
AreCallsOf sessions before (x ∷ xs) = IsCallOf sessions x.0 (times x.0 before) x.1 × AreCallsOf sessions (before ++ x.0 ∷ []) xs
