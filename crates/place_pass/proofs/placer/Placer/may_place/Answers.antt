use Rattle.std.proofs.Common.{◌≡◌, ◌<◌, true, nat_lt, sym, ◌∙◌, subst, arith}
use Rattle.std.proofs.lemmas.Bool.Decides.{nat_tests}
use Rattle.fuxi_terms.proofs.Booleans.{and_true, both_true}
use Rattle.spec_roles.specs.Masters.{out_of}
use Rattle.spec_roles.specs.Placing.{accepts_in, has_room_in, is_allowed_in}
use Rattle.grant_table.specs.GrantTables.{as_known}
use Rattle.fuxi_terms.specs.Jobs.{size_at}
use Rattle.place_pass.specs.Cells.{asks_in}
use Rattle.place_pass.specs.Placers.{PlacerRecord, AreLevel, board_over, job_seen, units_seen}
use Rattle.place_pass.proofs.FirstIsGrantable.{may}
use Rattle.place_pass.proofs.placer.Placer.may_place.Goals as goal

pub returns-clause-grantable : goal.returns-clause-grantable
returns-clause-grantable g c placed =
    let t = c.args.table.now in
    let w = c.self.inside.wishes in
    let a = c.args.pick.app.0 in
    let u = c.args.pick.unit.0 in
    let m = c.args.pick.machine.0 in
    let b = board_over w.cells w.opened t in
    let level = subst (λ (p : PlacerRecord). AreLevel p.seen.cluster (job_seen p.seen) t) (sym c.self.view_is) c.requires.level in
    let here = subst (λ (p : PlacerRecord). u < units_seen p.seen a) (sym c.self.view_is) c.requires.unit in
    let waits : nat_lt 0 (out_of (asks_in w.cells) t.entries a u) ≡ true = grind (arith, nat_tests, c.outstanding.ensures, c.if-outstanding-eq0.false) in
    let grows = and_true (nat_lt 0 (out_of (asks_in w.cells) t.entries a u)) (is_allowed_in b.cluster b.groups b.sizes t.entries a u) waits (sym c.allowed.ensures ∙ placed) in
    let room = (both_true (accepts_in b t.entries a u m) (has_room_in t.cluster (size_at (as_known t.jobs)) t.entries a u m) (sym c.takes.ensures ∙ c.if-not-takes.false)).1 in
    may w.cluster w.cells w.opened t c.are_sound.ensures level c.is_sound.ensures a u m here c.requires.machine grows room
