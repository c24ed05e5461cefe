use Rattle.std.proofs.Common.{◌≡◌, ℕ, ◌+◌, ◌*◌, ◌<◌, List, [], cond, nat_lt, length, set, get_or, sym, ◌∙◌, ap, subst, arith}
use Rattle.std.proofs.lemmas.List.{get_or_default, length-set}
use Rattle.fuxi_terms.specs.Tables.{spot, held}
use Rattle.fuxi_terms.specs.Keys.{Pair}
use Rattle.spec_roles.specs.Masters.{out_of}
use Rattle.spec_roles.specs.Placing.{has_pair}
use Rattle.place_pass.specs.Best.{AreAdmitted}
use Rattle.place_pass.specs.Bounds.{IsRising, mark_at, turn_at, Rises, after_taking, is_nearer_in}
use Rattle.place_pass.specs.Cells.{job_at, asks_in}
use Rattle.place_pass.specs.Placers.{PlacerRecord, IsKept, IsLevelWith, IsUpToDate, units_seen, board_over}
use Rattle.place_pass.proofs.CellsLemmas.{placed}
use Rattle.place_pass.proofs.CellsMatchTable.{group_is}
use Rattle.place_pass.proofs.SearchCountsLemmas.{MarkStays, stays_tight, told_stays}
use Rattle.place_pass.proofs.FirstByTurn.{rising, rising_all}
use Rattle.place_pass.proofs.KeptLemmas.{kept_told, open_there}
use Rattle.place_pass.proofs.LinedLemmas.{told_admitted, told_rises, told_was, told_others}
use Rattle.place_pass.proofs.StillLemmas.{still_told}
use Rattle.place_pass.proofs.PlacersLemmas.{level_set, told_up}
use Rattle.place_pass.proofs.placer.Placer.changed.Goals as goal

pub stir-requires : goal.stir-requires
stir-requires c =
    let w = c.self.inside.wishes in
    let here = subst (λ (p : PlacerRecord). c.args.unit.0 < units_seen p.seen c.args.app.0) (sym c.self.view_is) c.requires.here in
    (placed w.cluster w.cells w.opened c.are_sound.ensures c.args.app.0 c.args.unit.0 here).0

pub invariant_of-self : goal.invariant_of-self
invariant_of-self c =
    let w = c.self.inside.wishes in
    let line = c.self.inside.line.pairs in
    let turns = c.self.inside.turn_of.items in
    let out = nat_lt 0 (out_of (asks_in w.cells) c.args.table.now.entries c.args.app.0 c.args.unit.0) in
    let is = c.leave_unit.ensures.pairs in
    record {
      admitted = subst (AreAdmitted w.cells) (sym is) (told_admitted line out c.args.app.0 c.args.unit.0 w.cells c.self.invariant.admitted);
      places = c.self.invariant.places;
      units = λ a u lt. c.leave_unit.ensures.units (a, u) ∙ c.self.invariant.units a u lt;
      marked = c.tell.ensures.long ∙ c.self.invariant.marked;
      turn_places = c.self.invariant.turn_places;
      held_places = length-set c.self.inside.held.items c.slot-place.result c.held.result ∙ c.self.invariant.held_places;
      rises = subst (λ (l : List Pair). IsRising (λ (p : Pair). turn_at turns p.0 p.1) l) (sym is)
          (rising (λ (p : Pair). turn_at turns p.0 p.1) _ (told_rises line out c.args.app.0 c.args.unit.0 (λ (p : Pair). turn_at turns p.0 p.1) (rising_all (λ (p : Pair). turn_at turns p.0 p.1) line c.self.invariant.rises)));
      holds = c.tell_spot.ensures.holds;
    }

-- a mark changes as after a taking, or not at all
pub returns-clause-tight : goal.returns-clause-tight
returns-clause-tight c h =
    let w = c.self.inside.wishes in
    let n = c.self.invariant.marked in
    let old = c.self.inside.marks in
    stays_tight c.self.view_is (λ _. w.opened) (λ _. c.self.inside.turns) (λ m o t.
    let l = open_there w.opened (length w.cluster.machines) c.are_sound.ensures.opened m o in
    subst (MarkStays c.self.inside.turns (m ≡ c.args.machine.0) (mark_at old m)) (sym (c.tell.ensures.marks m (omega (arith, l, n)))) (told_stays c.self.inside.turns _ c.args.table.now.cluster _ c.args.machine.0 _ m (mark_at old m) t)) h

pub returns-clause-level : goal.returns-clause-level
unfolding IsLevelWith
returns-clause-level c before l is =
    let w = c.self.inside.wishes in
    let line = c.self.inside.line.pairs in
    let t = c.args.table.now in
    let out = nat_lt 0 (out_of (asks_in w.cells) t.entries c.args.app.0 c.args.unit.0) in
    let line_is = c.leave_unit.ensures.pairs in
    let old = subst (λ (p : PlacerRecord). IsLevelWith p before) (sym c.self.view_is) l in
    let here : c.args.unit.0 < length (get_or w.cells c.args.app.0 []) = subst (λ (p : PlacerRecord). c.args.unit.0 < units_seen p.seen c.args.app.0) (sym c.self.view_is) c.requires.here in
    let small = placed w.cluster w.cells w.opened c.are_sound.ensures c.args.app.0 c.args.unit.0 here in
    let sa = small.0 in
    let su = small.1 in
    let long = c.self.invariant.held_places in
    let marked = c.self.invariant.marked in
    let now = level_set w.cluster (job_at w.cells) before t (spot c.args.app.0 c.args.unit.0 c.args.machine.0) is old.level in
    let group = group_is w.cluster w.cells t now w.opened c.are_sound.ensures c.args.app.0 c.args.unit.0 here in
    let within : c.args.app.0 * 8 + c.args.unit.0 < length c.self.inside.held.items = omega (arith, sa, su, long) in
    let was : c.index.result.now ≡ get_or c.self.inside.held.items (c.args.app.0 * 8 + c.args.unit.0) 0 = c.index.ensures ∙ ap (λ i. get_or c.self.inside.held.items i c.index.result.now) c.slot-place.ensures ∙ get_or_default c.self.inside.held.items (c.args.app.0 * 8 + c.args.unit.0) c.index.result.now 0 within in
    record {
      level = now;
      idle = λ e. cc;
      quiet = λ e. cc;
      clear = λ e f. cc;
      still = still_told c.self.inside.calm c.stir.new.self c.args.app.0 c.stir.ensures w.cells line c.leave_unit.new.line.pairs before t c.args.unit.0 c.args.machine.0 is (λ b v f. ap (has_pair (b, v)) line_is ∙ told_others line out c.args.app.0 c.args.unit.0 b v f) old.still;
      stands = c.tell_spot.ensures.stands before is (c.leave_unit.ensures.stands before.entries old.stands);
      kept = subst (λ (hs : List ℕ). IsKept w.cells w.opened c.leave_unit.new.line.pairs c.self.inside.turns (record { marks = c.tell.new.marks; turn_of = c.self.inside.turn_of.items; held = hs }) t) (λ i. set c.self.inside.held.items (sym c.slot-place.ensures i) (sym c.held.ensures i))
          (kept_told w.cells w.opened line c.leave_unit.new.line.pairs c.self.inside.turns (length w.cluster.machines) (record { marks = c.self.inside.marks; turn_of = c.self.inside.turn_of.items; held = c.self.inside.held.items }) c.tell.new.marks
          (λ p has. told_was line out c.args.app.0 c.args.unit.0 p (ap (has_pair p) (sym line_is) ∙ has))
          (subst (Rises (λ (p : Pair). turn_at c.self.inside.turn_of.items p.0 p.1)) (sym line_is) (told_rises line out c.args.app.0 c.args.unit.0 (λ (p : Pair). turn_at c.self.inside.turn_of.items p.0 p.1) (rising_all (λ (p : Pair). turn_at c.self.inside.turn_of.items p.0 p.1) line old.kept.rises)))
          (open_there w.opened (length w.cluster.machines) c.are_sound.ensures.opened) before t c.args.app.0 c.args.unit.0 c.args.machine.0 is
          sa su long (λ j lt. c.tell.ensures.marks j (omega (arith, lt, marked))
          ∙ (λ i. cond (nat_lt (held t.entries c.args.app.0 c.args.unit.0) (was i)) (after_taking t.cluster (group i) c.args.machine.0 (is_nearer_in (board_over w.cells w.opened t) t.entries (spot c.args.app.0 c.args.unit.0 c.args.machine.0)) j (mark_at c.self.inside.marks j)) (mark_at c.self.inside.marks j))) old.kept);
    }

pub returns-clause-up : goal.returns-clause-up
returns-clause-up c before up is more b v =
    let w = c.self.inside.wishes in
    let old = subst (λ (p : PlacerRecord). IsUpToDate p.seen before) (sym c.self.view_is) up in
    ap (has_pair (b, v)) c.leave_unit.ensures.pairs ∙ told_up (asks_in w.cells) before c.args.table.now c.args.app.0 c.args.unit.0 c.args.machine.0 is more c.self.inside.line.pairs old b v
