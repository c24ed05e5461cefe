-- What the lines of a desk prepare: a master, with its hard state, and sessions.
use Rattle.std.specs.Prelude.{◌≡◌, ℕ, Bool, false, not, nat_lt, List, [], ◌∷◌, ◌++◌, replicate, set}
use Rattle.fuxi_terms.specs.Cluster.{ClusterRecord}
use Rattle.spec_roles.specs.HardState.{HardState}
use Rattle.spec_roles.specs.MasterRoles.{master_started}
use Rattle.node_core.specs.Roles.{Role, OfMaster}
use Rattle.node_core.specs.PartyEvents.{commanded}
use Rattle.node_core.specs.NodeTexts.{answer_text}
use Rattle.node_parties.specs.MasterParties.{NodeRecord, StandsAs}
use Rattle.master_desk.specs.CallOrders.{calls_of, most_calls, most_sessions, total}
use Rattle.fuxi_desk.specs.DeskLines.{DeskEvent, Submits, Calls}

-- the master as a party that takes commands, and the calls of each session
pub record Prepared : Type 0 where
  pub role : Role
  pub sessions : List (List (List ℕ))

-- an empty hard state, of which the fence was raised to the epoch 1
abbrev pub first_hard : HardState
first_hard = record { jobs = []; bans = []; fence = 1; records = 1 }

abbrev pub no_calls : List (List (List ℕ))
no_calls = replicate most_sessions []

-- the master of epoch 1, and no call
abbrev pub prepared_for : ClusterRecord → Prepared
prepared_for c = record { role = OfMaster first_hard (master_started c first_hard 1); sessions = no_calls }

pub record Step : Type 0 where
  pub text : List ℕ
  pub prepared : Prepared

-- A job is submitted as to the master of a node, and a refusal is printed at once. A call stands behind the others of its session
abbrev pub desk_step : Prepared → DeskEvent → Step
desk_step p (Submits event) = let k = commanded p.role event in record { text = answer_text k.answer; prepared = record { role = k.role; sessions = p.sessions } }
desk_step p (Calls c bytes) = record { text = []; prepared = record { role = p.role; sessions = set p.sessions c (calls_of p.sessions c ++ bytes ∷ []) } }

-- a call past the greatest number of calls
abbrev pub is_past : Prepared → DeskEvent → Bool
is_past p (Submits event) = false
is_past p (Calls c bytes) = not (nat_lt (total p.sessions) most_calls)

-- the same of the code
pub record PreparedRecord : Type 0 where
  pub node : NodeRecord
  pub sessions : List (List (List ℕ))

pub record Stands (x : PreparedRecord) (p : Prepared) : Type 0 where
  pub role : StandsAs x.node p.role
  pub sessions : x.sessions ≡ p.sessions

-- a line was taken: what is prepared then, and what it prints behind the text before
pub record IsStepped (event : DeskEvent) (p : Prepared) (after : PreparedRecord) (old new : List ℕ) : Type 0 where
  pub stands : Stands after (desk_step p event).prepared
  pub text : new ≡ old ++ (desk_step p event).text
