use Rattle.std.proofs.Common.{◌≡◌, ℕ, ◌<◌, true, false, cond, nat_eq, nat_lt, List, [], length, set, get_or, Some, None, sym, ◌∙◌, ap, subst, arith, length-set}
use Rattle.std.specs.Prelude.{◌&&◌, not}
use Rattle.std.proofs.lemmas.List.{length-map}
use Rattle.grant_table.specs.GrantTables.{with_admitted}
use Rattle.place_pass.specs.Cells.{WishesRecord, job_at, asks_in, fresh_cell, fresh_cells}
use Rattle.place_pass.specs.Best.{AreAdmitted}
use Rattle.place_pass.specs.Bounds.{IsRising, turn_at}
use Rattle.place_pass.specs.PlacerTrees.{HoldsLine, AllStand}
use Rattle.locality_tree.specs.Trees.{TreeRecord, place_count}
use Rattle.fuxi_terms.specs.Cluster.{ClusterRecord}
use Rattle.fuxi_terms.proofs.Lists.{all_at}
use Rattle.place_pass.proofs.KeptLemmas.{open_there}
use Rattle.place_pass.proofs.CandidatesLemmas.{place_of}
use Rattle.place_pass.proofs.StandsAfterChange.{holds_admitted, stands_admitted}
use Rattle.std.proofs.lemmas.Bool.Decides.{nat_tests}
use Rattle.place_pass.specs.Placers.{PlacerRecord, KeptRecord, IsClear, IsKept, IsQuiet, IsStill, AreLevel, IsIdle, IsLevelWith, IsPlacer, job_seen, asks_seen}
use Rattle.fuxi_terms.proofs.ValidJobs.{job_small, units_few, units_some}
use Rattle.fuxi_terms.specs.Keys.{Pair}
use Rattle.place_pass.proofs.IdleKept.{clear_admitted, idle_admitted, kept_admitted, quiet_admitted, still_admitted}
use Rattle.spec_roles.specs.Placing.{has_pair}
use Rattle.place_pass.proofs.PlacersLemmas.{admitted_more, all_may_wait, empty_slot, job_admitted, asks_admitted, unknown_there, level_admitted}
use Rattle.place_pass.proofs.placer.Placer.admit.Goals as goal

pub invariant_of-self-2 : goal.invariant_of-self-2
invariant_of-self-2 c =
    let w = c.self.inside.wishes in
    let j = c.args.job.now in
    let xs = fresh_cells j.group (length w.cluster.machines) j.units in
    let empty = empty_slot w.cells j.number (subst (λ (p : PlacerRecord). job_seen p.seen j.number ≡ None) (sym c.self.view_is) c.requires.new) in
    let none = ap length empty in
    let small = job_small j c.units.ensures.valid in
    let places = c.self.invariant.places in
    let lt : j.number < length w.cells = omega (arith, small, places) in
    let long = length-map j.units (fresh_cell j.group (length w.cluster.machines)) in
    let n = c.units.ensures.number in
    let number = c.app-app.ensures.number in
    let here = λ (u : ℕ) (l : u < length xs). subst (λ a. has_pair (a, u) c.admit_units.new.self.units ≡ true) number (c.in_ok-admit_units.ensures.ok u (omega (arith, l, long, n))) in
    subst (λ (x : WishesRecord). IsPlacer x c.admit_units.new.self (length c.limit_all.new.marks) c.self.inside.turn_of.items (length c.self.inside.held.items) c.admit.new.self) (sym c.add_job.ensures) (record {
      admitted = subst (AreAdmitted (set w.cells j.number xs)) (sym c.in_ok-admit_units.ensures.pairs) (admitted_more w.cells c.self.inside.line.pairs j.number xs lt (omega (arith, none)) c.self.invariant.admitted);
      places = length-set w.cells j.number xs ∙ places;
      units = all_may_wait w.cells j.number xs c.self.inside.line.units c.admit_units.new.self.units lt c.self.invariant.units c.in_ok-admit_units.ensures.kept here;
      marked = c.limit_all.ensures.long ∙ c.self.invariant.marked;
      turn_places = c.self.invariant.turn_places;
      held_places = c.self.invariant.held_places;
      rises = subst (λ (l : List Pair). IsRising (λ (p : Pair). turn_at c.self.inside.turn_of.items p.0 p.1) l) (sym c.in_ok-admit_units.ensures.pairs) c.self.invariant.rises;
      holds = subst (λ (l : List Pair). HoldsLine w.cluster (set w.cells j.number xs) l c.self.inside.turn_of.items c.admit.new.self) (sym c.in_ok-admit_units.ensures.pairs)
          (subst (λ (t : TreeRecord). HoldsLine w.cluster (set w.cells j.number xs) c.self.inside.line.pairs c.self.inside.turn_of.items t) (sym c.in_ok-admit.ensures.ok)
          (holds_admitted w.cluster w.cells xs c.self.inside.line.pairs c.self.inside.turn_of.items c.self.inside.tree j c.self.invariant.holds small places (units_few j c.units.ensures.valid) long empty
          (λ a u has. let place = place_of (a, u) c.self.inside.line.pairs has in all_at (λ (p : Pair). p.1 < length (get_or w.cells p.0 [])) c.self.inside.line.pairs place.place (a, u) c.self.invariant.admitted place.at)));
    })

pub stir-requires : goal.stir-requires
stir-requires c =
    let number = c.app-app.ensures.number in
    let small = job_small c.args.job.now c.units.ensures.valid in
    omega (arith, number, small)

pub admit-requires : goal.admit-requires
admit-requires c u lu =
    let w = c.self.inside.wishes in
    let j = c.args.job.now in
    let empty = empty_slot w.cells j.number (subst (λ (p : PlacerRecord). job_seen p.seen j.number ≡ None) (sym c.self.view_is) c.requires.new) in
    let none : nat_lt u 0 ≡ false = grind (arith, nat_tests) in
    let width = c.self.invariant.holds.places j.number u lu ∙ ap (λ ys. cond (nat_lt u (length ys)) (place_count c.self.inside.tree.racks) 0) empty ∙ ap (λ b. cond b (place_count c.self.inside.tree.racks) 0) none in
    ap (nat_lt 0) width

pub add_job-requires : goal.add_job-requires
add_job-requires c =
    let j = c.args.job.now in
    c.in_ok-fresh.ensures ∙ ap (λ n. fresh_cells j.group n j.units) (c.machines-machines.ensures.number ∙ ap (λ (x : ClusterRecord). length x.machines) c.cluster.ensures.cluster)

pub returns-clause-jobs : goal.returns-clause-jobs
returns-clause-jobs c a =
    let w = c.self.inside.wishes in
    let j = c.args.job.now in
    let small = job_small j c.units.ensures.valid in
    let places = c.self.invariant.places in
    let lt : j.number < length w.cells = omega (arith, small, places) in
    ap (λ (x : WishesRecord). job_at x.cells a) c.add_job.ensures ∙ job_admitted w.cells j (length w.cluster.machines) lt (units_some j c.units.ensures.valid) a
    ∙ ap (λ (p : PlacerRecord). cond (nat_eq j.number a) (Some j) (job_seen p.seen a)) c.self.view_is

pub returns-clause-asks : goal.returns-clause-asks
returns-clause-asks c a k =
    let w = c.self.inside.wishes in
    let j = c.args.job.now in
    let empty = empty_slot w.cells j.number (subst (λ (p : PlacerRecord). job_seen p.seen j.number ≡ None) (sym c.self.view_is) c.requires.new) in
    let small = job_small j c.units.ensures.valid in
    let places = c.self.invariant.places in
    let lt : j.number < length w.cells = omega (arith, small, places) in
    ap (λ (x : WishesRecord). asks_in x.cells a k) c.add_job.ensures ∙ asks_admitted w.cells j.number j.group (length w.cluster.machines) j.units lt empty a k
    ∙ ap (λ (p : PlacerRecord). asks_seen p.seen a k) c.self.view_is

pub returns-clause-level : goal.returns-clause-level
unfolding IsLevelWith
returns-clause-level c t l =
    let w = c.self.inside.wishes in
    let j = c.args.job.now in
    let xs = fresh_cells j.group (length w.cluster.machines) j.units in
    let small = job_small j c.units.ensures.valid in
    let places = c.self.invariant.places in
    let lt : j.number < length w.cells = omega (arith, small, places) in
    let old = subst (λ (p : PlacerRecord). IsLevelWith p t) (sym c.self.view_is) l in
    let new = subst (λ (p : PlacerRecord). job_seen p.seen j.number ≡ None) (sym c.self.view_is) c.requires.new in
    let apart = unknown_there w.cluster (job_at w.cells) t j.number old.level new in
    let found = λ (a : ℕ). c.admitted_jobs.ensures.found j t.jobs a apart in
    let empty = empty_slot w.cells j.number new in
    let was : KeptRecord = record { marks = c.self.inside.marks; turn_of = c.self.inside.turn_of.items; held = c.self.inside.held.items } in
    let limited = λ (m : ℕ) (o : get_or w.opened m false ≡ true). c.limit_all.ensures.marks m (let n = c.self.invariant.marked in let inside = open_there w.opened (length w.cluster.machines) c.are_sound.ensures.opened m o in omega (arith, n, inside)) in
    let marks = c.limit_all.new.marks in
    let kept : KeptRecord = record { marks = marks; turn_of = c.self.inside.turn_of.items; held = c.self.inside.held.items } in
    record {
      level = subst (λ (x : WishesRecord). AreLevel x.cluster (job_at x.cells) (record t { jobs = with_admitted j t.jobs })) (sym c.add_job.ensures)
          (level_admitted w.cluster (job_at w.cells) (job_at (set w.cells j.number xs)) t j old.level (job_admitted w.cells j (length w.cluster.machines) lt (units_some j c.units.ensures.valid)) found);
      idle = λ e. subst (λ (x : WishesRecord). IsIdle x.cells x.opened (record t { jobs = with_admitted j t.jobs })) (sym c.add_job.ensures)
          (idle_admitted j w.cells (set w.cells j.number xs) w.opened t empty (asks_admitted w.cells j.number j.group (length w.cluster.machines) j.units lt empty) apart found (old.idle e));
      kept = subst (λ (l : List Pair). IsKept c.add_job.new.self.cells c.add_job.new.self.opened l c.self.inside.turns kept (record t { jobs = with_admitted j t.jobs })) (sym c.in_ok-admit_units.ensures.pairs)
          (subst (λ (x : WishesRecord). IsKept x.cells x.opened c.self.inside.line.pairs c.self.inside.turns kept (record t { jobs = with_admitted j t.jobs })) (sym c.add_job.ensures)
          (kept_admitted j w.cells (set w.cells j.number xs) w.opened t empty (asks_admitted w.cells j.number j.group (length w.cluster.machines) j.units lt empty) apart found c.self.inside.line.pairs c.self.inside.turns was marks limited c.self.invariant.admitted old.kept));
      clear = λ e f. subst (λ (l : List Pair). IsClear c.add_job.new.self.opened l kept.marks (record t { jobs = with_admitted j t.jobs })) (sym c.in_ok-admit_units.ensures.pairs)
          (subst (λ (x : WishesRecord). IsClear x.opened c.self.inside.line.pairs kept.marks (record t { jobs = with_admitted j t.jobs })) (sym c.add_job.ensures)
          (clear_admitted j w.cells (set w.cells j.number xs) w.opened t empty (asks_admitted w.cells j.number j.group (length w.cluster.machines) j.units lt empty) apart found c.self.inside.line.pairs c.self.inside.turns was.marks marks limited c.self.invariant.admitted (old.clear e f)));
      quiet = λ e. subst (λ (l : List Pair). IsQuiet c.add_job.new.self.cells c.add_job.new.self.opened l c.self.inside.turns kept.marks (record t { jobs = with_admitted j t.jobs })) (sym c.in_ok-admit_units.ensures.pairs)
          (subst (λ (x : WishesRecord). IsQuiet x.cells x.opened c.self.inside.line.pairs c.self.inside.turns kept.marks (record t { jobs = with_admitted j t.jobs })) (sym c.add_job.ensures)
          (quiet_admitted j w.cells (set w.cells j.number xs) w.opened t empty (asks_admitted w.cells j.number j.group (length w.cluster.machines) j.units lt empty) apart found c.self.inside.line.pairs c.self.inside.turns was.marks marks limited (old.quiet e)));
      still = subst (λ (l : List Pair). IsStill c.add_job.new.self.cells l c.stir.new.self (record t { jobs = with_admitted j t.jobs })) (sym c.in_ok-admit_units.ensures.pairs)
          (subst (λ (x : WishesRecord). IsStill x.cells c.self.inside.line.pairs c.stir.new.self (record t { jobs = with_admitted j t.jobs })) (sym c.add_job.ensures)
          (still_admitted j w.cells (set w.cells j.number xs) w.opened t empty (asks_admitted w.cells j.number j.group (length w.cluster.machines) j.units lt empty) apart found c.self.inside.calm c.stir.new.self
          (λ b. c.stir.ensures b ∙ ap (λ n. not (nat_eq n b) && get_or c.self.inside.calm b false) c.app-app.ensures.number) c.self.inside.line.pairs old.still));
      stands = subst (λ (l : List Pair). AllStand c.add_job.new.self.cluster c.add_job.new.self.cells t.entries l c.admit.new.self) (sym c.in_ok-admit_units.ensures.pairs)
          (subst (λ (x : WishesRecord). AllStand x.cluster x.cells t.entries c.self.inside.line.pairs c.admit.new.self) (sym c.add_job.ensures)
          (subst (λ (y : TreeRecord). AllStand w.cluster (set w.cells j.number xs) t.entries c.self.inside.line.pairs y) (sym c.in_ok-admit.ensures.ok)
          (stands_admitted w.cluster w.cells xs c.self.inside.line.pairs c.self.inside.turn_of.items c.self.inside.tree j c.self.invariant.holds small places (units_few j c.units.ensures.valid) (length-map j.units (fresh_cell j.group (length w.cluster.machines))) empty
          (λ a u has. let place = place_of (a, u) c.self.inside.line.pairs has in all_at (λ (p : Pair). p.1 < length (get_or w.cells p.0 [])) c.self.inside.line.pairs place.place (a, u) c.self.invariant.admitted place.at)
          t.entries (asks_admitted w.cells j.number j.group (length w.cluster.machines) j.units lt empty) old.stands)));
    }
