-- What placing reads of a core is what it reads of the master for which the core stands.
use Rattle.std.proofs.Common.{◌≡◌, ℕ, ◌-◌, not, nat_lt, sym, ◌∙◌, ap}
use Rattle.std.specs.Prelude.{◌&&◌}
use Rattle.fuxi_terms.specs.Jobs.{group_of, size_at, most_of}
use Rattle.fuxi_terms.specs.Numbers.{has_number}
use Rattle.fuxi_terms.specs.Tables.{held, held_on}
use Rattle.spec_roles.specs.Masters.{out, out_of}
use Rattle.spec_roles.specs.MasterRoles.{MasterRole}
use Rattle.spec_roles.specs.Placing.{has_pair, placeable, is_allowed_in, has_room_in}
use Rattle.spec_world.specs.World.{World}
use Rattle.spec_world.specs.Good.{Good}
use Rattle.spec_world.specs.Safe.{Safe}
use Rattle.place_pass.specs.Placers.{asks_seen}
use Rattle.fuxi_master.specs.Cores.{CoreRecord, StandsFor as MasterStandsFor}
use Rattle.schedule_replay.specs.Worlds.{WorldRecord, StandsFor}
use Rattle.schedule_replay.specs.CoreReads.{is_placeable}
use Rattle.schedule_replay.specs.Promises.{AllSettled}
use Rattle.schedule_replay.proofs.CoresStandFor.{PartiesRun, master_runs}

placeable_is : (x : CoreRecord) (r : MasterRole) (a u m : ℕ) → MasterStandsFor x r → is_placeable x a u m ≡ placeable r.cluster r.state a u m
placeable_is x r a u m s =
    let t = s.stands in
    let p = t.allots.placing in
    let serves = sym t.serving in
    let jobs = sym t.jobs in
    let bans = sym t.bans in
    let reported = sym t.reported in
    λ i. (serves i && (nat_lt 0 (p.wants a u i - held (p.entries i) a u) && is_allowed_in (p.cluster i) (group_of (jobs i)) (size_at (jobs i)) (p.entries i) a u))
    && (((has_number m (reported i) && (not (has_number m (bans i)) && not (nat_lt 0 (p.avoids a u m i)))) && nat_lt (held_on (p.entries i) a u m) (most_of (jobs i) a u)) && has_room_in (p.cluster i) (size_at (jobs i)) (p.entries i) a u m)

out_is : (x : CoreRecord) (r : MasterRole) (a u : ℕ) → MasterStandsFor x r → out_of (asks_seen x.allotment.placer.seen) x.allotment.table.entries a u ≡ out r.state a u
out_is x r a u s = let p = s.stands.allots.placing in λ i. p.wants a u i - held (p.entries i) a u

pub all_settled : PartiesRun → (r : WorldRecord) (w : World) → StandsFor r w → Good w → Safe w → AllSettled r
all_settled run r w s good safe e M runs =
    let x = master_runs run r w e M s runs in
    record {
      line = λ a u.
          ap (λ l. has_pair (a, u) l) x.stands.stands.allots.placing.line
          ∙ (good.rests e x.master x.runs).line a u
          ∙ ap (nat_lt 0) (sym (out_is M.core _ a u x.stands));
      none = λ a u m. placeable_is M.core _ a u m x.stands ∙ safe.settled e x.master x.runs a u m;
    }
