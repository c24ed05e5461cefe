use Rattle.std.proofs.Common.{◌≡◌, ◌-◌, ◌<◌, length, Some, slice_get, refl, subst, arith}
use Rattle.std.proofs.lemmas.Result.{IfOk-weaker}
use Rattle.schedule_replay.specs.Worlds.{WorldRecord}
use Rattle.schedule_replay.specs.Moves.{IsHeardBy, IsHeardAs}
use Rattle.schedule_replay.proofs.MovesLemmas.{none_once}
use Rattle.schedule_replay.proofs.StoredIsDelivered.{delivers, delivers_left, stored_found}
use Rattle.schedule_replay.proofs.deliveries.hear_stored.Goals as goal

pub unreachable-requires : goal.unreachable-requires
unreachable-requires c =
    let few = subst (λ (r : WorldRecord). length r.pool.frames < c.args.number) c.running.view_is (c.in_default.ensures.none refl) in
    let there = c.requires.there in
    omega (arith, few, there)

pub returns-in-Some-leaves : goal.returns-in-Some-leaves
returns-in-Some-leaves c =
    let now = c.args.running.now in
    let at = subst (λ (r : WorldRecord). slice_get r.pool.frames (c.args.number - 1) ≡ Some c.in-Some.bytes.now) c.running.view_is c.in-Some.ensures.some in
    record {
      does = λ before after text. delivers_left c.stored_is_read.ensures.front c.args.number now c.in-Some.bytes.now c.in-Ok.front c.in-Some-leaves.reply before after at c.in-Ok.ensures.ok c.in-Some-leaves.ensures text;
      once = none_once now now.pool;
      pool = refl;
    }

pub hear-requires-clause-no_end : goal.hear-requires-clause-no_end
hear-requires-clause-no_end c =
    let at = subst (λ (r : WorldRecord). slice_get r.pool.frames (c.args.number - 1) ≡ Some c.in-Some.bytes.now) c.running.view_is c.in-Some.ensures.some in
    (stored_found c.stored_is_read.ensures.place c.requires.can.world c.args.running.now.pool (c.args.number - 1) c.in-Some.bytes.now c.in-Ok-read_behind.packet c.in-Ok-read_behind.field-0-1 c.requires.can.stands.packets at c.in-Ok-read_behind.ensures).sent.no_end

pub returns-in-Ok-read_behind : goal.returns-in-Ok-read_behind
returns-in-Ok-read_behind c =
    let now = c.args.running.now in
    let new = c.hear.new.running in
    let at = subst (λ (r : WorldRecord). slice_get r.pool.frames (c.args.number - 1) ≡ Some c.in-Some.bytes.now) c.running.view_is c.in-Some.ensures.some in
    IfOk-weaker c.hear.result (IsHeardBy c.in-Ok-read_behind.packet now new) (λ heard. IsHeardAs c.args.number heard now new) (λ heard h. record {
      does = λ before after text. delivers c.args.number now new c.in-Ok-read_behind.packet heard before after
          (λ w k. stored_found c.stored_is_read.ensures.place w now.pool (c.args.number - 1) c.in-Some.bytes.now c.in-Ok-read_behind.packet c.in-Ok-read_behind.field-0-1 k at c.in-Ok-read_behind.ensures) h.hears text;
      once = h.once;
      pool = h.pool;
    }) c.hear.ensures
