-- An application by itself: what it is, and what it does with what it received.
use Rattle.std.specs.Prelude.{ℕ, ◌+◌, ◌-◌, Bool, false, cond, not, nat_eq, nat_lt, min, List, [], ◌∷◌, length, map, Option, Some, None, Result, Ok}
use Rattle.std.specs.Ordering.{nat_cmp}
use Rattle.std.specs.FinMap.Entries.{put, where_key, find}
use Rattle.fuxi_terms.specs.declared.Key.{Key}
use Rattle.fuxi_terms.specs.declared.answers.What.{What}
use Rattle.fuxi_terms.specs.declared.vectors.Res.{Res}
use Rattle.fuxi_terms.specs.declared.vectors.Sum.{Sum}
use Rattle.fuxi_terms.specs.Limits.{greatest_count, greatest_back}
use Rattle.fuxi_terms.specs.Vectors.{at_place}
use Rattle.fuxi_terms.specs.Cluster.{ClusterRecord, has_machine, has_rack}
use Rattle.fuxi_terms.specs.Keys.{key_cmp}
use Rattle.fuxi_terms.specs.Counts.{set_count}
use Rattle.fuxi_terms.specs.Lists.{below}
use Rattle.fuxi_terms.specs.TallyKeys.{reported_key, count_key, credited_key, want_key, near_key, rack_key, avoid_key, back_key, is_back}
use Rattle.spec_net.specs.Net.{Party, Link}
use Rattle.spec_net.specs.Ledgers.{Ledger, tally_ledger, at_key}
use Rattle.spec_net.specs.Channels.{master_id, app_id, party, is_master}
use Rattle.spec_net.specs.Sides.{Side, new_side, shown, appended, resynced_side, Parcel, turn_parcels, HeardSide, hears_side}
use Rattle.spec_roles.specs.Refusals.{Refusal, NoMachine, NoRack, NoUnit, WantRange, NotUsable, BackRange, unless_fault}

-- what an application carried over from an earlier epoch: the place in its grants where it held it, and a count for each unit
pub record Carried : Type 0 where
  pub inc : ℕ
  pub seq : ℕ
  pub held : List ℕ

-- A ledger names a machine as reported
abbrev pub names : Ledger → ℕ → Bool
names l m = nat_eq (at_key l (reported_key m)) 1

-- what is given back and not yet credited by grants: credited counts as 0 where the grants are those of another boot
abbrev pub uncredited : Ledger → Ledger → ℕ → ℕ → ℕ → ℕ
uncredited grants demand boot u m = at_key demand (back_key u m) - cond (nat_eq grants.head boot) (at_key grants (credited_key u m)) 0

-- what is held on a machine that the grants name; of the grants, the own demand and the boot
abbrev pub usable_of : Ledger → Ledger → ℕ → ℕ → ℕ → ℕ
usable_of got own boot u m = at_key got (count_key u m) - min (at_key got (count_key u m)) (uncredited got own boot u m)

-- what is carried from an earlier epoch
abbrev pub carried_in : List (ℕ × Carried) → ℕ → ℕ → ℕ
carried_in carried u m = elim (find nat_cmp m carried) [ None ↦ 0 | Some r ↦ at_place r.held u ]

-- what an application holds of a unit on a machine
abbrev pub held_of : Ledger → Ledger → ℕ → List (ℕ × Carried) → ℕ → ℕ → ℕ
held_of got own boot carried u m = cond (names got m) (usable_of got own boot u m) (carried_in carried u m)

-- where it joins an epoch, what it held on each machine that its grants name is carried, with the place of those grants
abbrev pub carried_one : Link → Ledger → Ledger → ℕ → ℕ → ℕ → Carried
carried_one l got own boot units m = record { inc = l.known; seq = l.seq; held = map (λ u. usable_of got own boot u m) (below units) }

abbrev pub carry_of : Link → Ledger → Ledger → ℕ → ℕ → List ℕ → List (ℕ × Carried) → List (ℕ × Carried)
carry_of l got own boot units [] carried = carried
carry_of l got own boot units (m ∷ ms) carried = carry_of l got own boot units ms (cond (names got m) (put nat_cmp m (carried_one l got own boot units m) carried) carried)

-- and its demand takes the epoch and loses its numbers given back
abbrev pub joined_demand : ℕ → Ledger → Ledger
joined_demand epoch d = tally_ledger epoch (where_key key_cmp (λ k. not (is_back k)) d.entries)

-- Commands. What an application asks for
abbrev pub changed_demand : Ledger → Key → ℕ → Ledger
changed_demand d k n = record d { entries = set_count key_cmp d.entries k n }

abbrev pub has_no_unit : ℕ → ℕ → Bool × Refusal
has_no_unit units u = (not (nat_lt u units), NoUnit)

abbrev pub has_no_machine : ClusterRecord → ℕ → Bool × Refusal
has_no_machine c m = (not (has_machine c m), NoMachine)

abbrev pub is_out_of_range : ℕ → Bool × Refusal
is_out_of_range n = (nat_lt greatest_count n, WantRange greatest_count)

pub data AppCommand : Type 0 where
  Wants : (unit number : ℕ) → AppCommand
  WantsNear : (unit machine number : ℕ) → AppCommand
  WantsInRack : (unit rack number : ℕ) → AppCommand
  Avoids : (unit machine on : ℕ) → AppCommand
  GivesBack : (unit machine number : ℕ) → AppCommand

-- the tests of each in their order, of an application with so many units; usable and given: of a unit on a machine, what may be given back
-- and what is given back already
abbrev pub command_tests : ClusterRecord → ℕ → (ℕ → ℕ → ℕ) → (ℕ → ℕ → ℕ) → AppCommand → List (Bool × Refusal)
command_tests c units usable given (Wants u n) = has_no_unit units u ∷ is_out_of_range n ∷ []
command_tests c units usable given (WantsNear u m n) = has_no_unit units u ∷ has_no_machine c m ∷ is_out_of_range n ∷ []
command_tests c units usable given (WantsInRack u r n) = has_no_unit units u ∷ (not (has_rack c r), NoRack) ∷ is_out_of_range n ∷ []
command_tests c units usable given (Avoids u m on) = has_no_unit units u ∷ has_no_machine c m ∷ []
command_tests c units usable given (GivesBack u m n) = has_no_unit units u ∷ has_no_machine c m ∷ (nat_lt (usable u m) n, NotUsable (usable u m)) ∷ (nat_lt greatest_back (given u m + n), BackRange) ∷ []

-- the key of the demand that it sets, and to which number. A number given back is added to those of this epoch
abbrev pub command_key : AppCommand → Key
command_key (Wants u n) = want_key u
command_key (WantsNear u m n) = near_key u m
command_key (WantsInRack u r n) = rack_key u r
command_key (Avoids u m on) = avoid_key u m
command_key (GivesBack u m n) = back_key u m

abbrev pub command_number : (ℕ → ℕ → ℕ) → AppCommand → ℕ
command_number given (Wants u n) = n
command_number given (WantsNear u m n) = n
command_number given (WantsInRack u r n) = n
command_number given (Avoids u m on) = min on 1
command_number given (GivesBack u m n) = given u m + n

-- what may be given back: only grants on machines that the received ledger names
abbrev pub usable_at : Ledger → Ledger → ℕ → ℕ → ℕ → ℕ
usable_at got own boot u m = cond (names got m) (usable_of got own boot u m) 0

abbrev pub given_at : Ledger → ℕ → ℕ → ℕ
given_at own u m = at_key own (back_key u m)

-- its job and the number of its units, its cluster, its boot, what it carries by machine, and its side of the channel with its master
pub record AppRole : Type 0 where
  pub job : ℕ
  pub units : ℕ
  pub cluster : ClusterRecord
  pub boot : ℕ
  pub carried : List (ℕ × Carried)
  pub up : Side

abbrev pub new_app : ℕ → ℕ → ClusterRecord → ℕ → AppRole
new_app a units c b = record { job = a; units = units; cluster = c; boot = b; carried = []; up = new_side }

abbrev pub app_party : AppRole → Party
app_party r = party (app_id r.job) r.boot

abbrev pub with_app_up : AppRole → Side → AppRole
with_app_up r e = record { job = r.job; units = r.units; cluster = r.cluster; boot = r.boot; carried = r.carried; up = e }

-- what it holds of a unit on a machine, what of that may be given back, and what is given back
abbrev pub held_by : AppRole → ℕ → ℕ → ℕ
held_by r u m = held_of r.up.got (shown r.up) r.boot r.carried u m

abbrev pub usable_by : AppRole → ℕ → ℕ → ℕ
usable_by r u m = usable_at r.up.got (shown r.up) r.boot u m

abbrev pub given_by : AppRole → ℕ → ℕ → ℕ
given_by r u m = given_at (shown r.up) u m

-- grants are never too much
abbrev pub no_excess : Ledger → Option (Sum × Res)
no_excess l = None

pub record AppHeard : Type 0 where
  pub fresh : Bool
  pub what : What
  pub role : AppRole

-- an application that heard: where it meets a new master, it carries what it held, and answers with its demand
abbrev pub app_told : AppRole → ℕ → HeardSide → AppHeard
app_told r epoch h = record {
  fresh = h.fresh;
  what = h.what;
  role = record {
    job = r.job;
    units = r.units;
    cluster = r.cluster;
    boot = r.boot;
    carried = cond h.fresh (carry_of r.up.link r.up.got (shown r.up) r.boot r.units (below (length r.cluster.machines)) r.carried) r.carried;
    up = cond h.fresh (appended false (joined_demand epoch (shown r.up)) h.side) h.side;
  };
}

abbrev pub app_hears_alone : AppRole → Parcel → AppHeard
app_hears_alone r x = app_told r x.packet.from.inc (hears_side (app_party r) (is_master x.packet.from.id) no_excess r.up x)

-- a command: the first refusal, or a changed demand, which is appended where it is due
abbrev pub demands_alone : AppRole → Key → ℕ → AppRole
demands_alone r k n = with_app_up r (appended false (changed_demand (shown r.up) k n) r.up)

abbrev pub commands_alone : AppRole → AppCommand → Result AppRole Refusal
commands_alone r x = unless_fault (command_tests r.cluster r.units (usable_by r) (given_by r) x) (Ok (demands_alone r (command_key x) (command_number (given_by r) x)))

abbrev pub app_turn : AppRole → List Parcel
app_turn r = cond (nat_eq r.up.link.known 0) [] (turn_parcels (app_party r) master_id r.up)

abbrev pub app_resynced : AppRole → AppRole
app_resynced r = with_app_up r (resynced_side r.up)
