use Rattle.std.proofs.Common.{◌≡◌, ℕ, ◌<◌, true, false, cond, not, nat_eq, [], length, get_or, set, refl, sym, ◌∙◌, ap, subst, arith, length-set}
use Rattle.std.specs.Prelude.{◌&&◌}
use Rattle.std.proofs.Math.Bool.{and-true}
use Rattle.fuxi_terms.specs.Keys.{key_cmp}
use Rattle.fuxi_terms.specs.Counts.{count}
use Rattle.fuxi_terms.proofs.Booleans.{both_true, eq_turned, not_true}
use Rattle.place_pass.specs.Cells.{WishesRecord, Lifts, job_at, asks_in, taken_all, any_more}
use Rattle.place_pass.specs.Placers.{PlacerRecord, AreLevel, AsksNoMore, IsIdle, IsClear, IsKept, IsQuiet, IsStill, is_open_to, IsLevelWith, IsPlacer, job_seen, asks_seen, units_seen, is_there}
use Rattle.place_pass.specs.Bounds.{mark_at}
use Rattle.place_pass.specs.SearchCounts.{IsLifted}
use Rattle.place_pass.specs.Best.{AreAdmitted}
use Rattle.place_pass.specs.PlacerTrees.{HoldsLine, StandsAs}
use Rattle.fuxi_terms.specs.Jobs.{unit_count}
use Rattle.grant_table.specs.GrantTables.{as_known}
use Rattle.spec_roles.specs.Placing.{has_pair}
use Rattle.place_pass.proofs.CellsMatchTable.{count_is}
use Rattle.place_pass.proofs.AskedLemmas.{asked_long, asked_priority, asked_others}
use Rattle.place_pass.specs.DemandScopes.{AsksWithin, StandsWithin}
use Rattle.place_pass.proofs.StandsAtChanges.{within_stands}
use Rattle.place_pass.proofs.StandsAfterChange.{holds_cells, stands_asked}
use Rattle.place_pass.proofs.StillLemmas.{still_asked}
use Rattle.place_pass.specs.Candidates.{IsAsked}
use Rattle.place_pass.proofs.SearchCountsLemmas.{asked_clear, asked_settled, asked_stays, stays_for, stays_tight}
use Rattle.place_pass.proofs.KeptLemmas.{kept_demanded, open_there, told_asked}
use Rattle.place_pass.proofs.CellsLemmas.{length-taken_all}
use Rattle.place_pass.proofs.IdleKept.{idle_asked, lifted_then, more_not, none_lifted, still_open, waiting_asked}
use Rattle.place_pass.proofs.PlacersLemmas.{admitted_more, job_taken, asks_taken, level_same}
use Rattle.place_pass.proofs.placer.Placer.hear.Goals as goal
use Rattle.fuxi_terms.proofs.IndexedLists.{slot_within}

pub stir-requires : goal.stir-requires
stir-requires c =
    let slots = slot_within c.self.inside.wishes.cells c.args.app.0 0 (subst (λ (p : PlacerRecord). 0 < units_seen p.seen c.args.app.0) (sym c.self.view_is) c.requires.here) in
    let places = c.self.invariant.places in
    omega (arith, slots, places)

pub tell_marks-requires-clause-within : goal.tell_marks-requires-clause-within
tell_marks-requires-clause-within c =
    subst (λ (p : PlacerRecord). AsksWithin c.args.scope.now p.seen.cluster c.args.demand.now.entries (get_or p.seen.cells c.args.app.0 [])) (sym c.self.view_is) c.requires.within

pub hear-more-requires-clause-within : goal.hear-more-requires-clause-within
hear-more-requires-clause-within c =
    subst (λ (p : PlacerRecord). AsksWithin c.args.scope.now p.seen.cluster c.args.demand.now.entries (get_or p.seen.cells c.args.app.0 [])) (sym c.self.view_is) c.requires.within

pub hear-more-requires-clause-here : goal.hear-more-requires-clause-here
hear-more-requires-clause-here c = subst (λ (p : PlacerRecord). 0 < units_seen p.seen c.args.app.0) (sym c.self.view_is) c.requires.here

pub invariant_of-self : goal.invariant_of-self
invariant_of-self c =
    let w = c.self.inside.wishes in
    let a = c.args.app.0 in
    let es = c.args.demand.now.entries in
    let xs = taken_all w.cluster es 0 (get_or w.cells a []) in
    let here = subst (λ (p : PlacerRecord). 0 < units_seen p.seen a) (sym c.self.view_is) c.requires.here in
    let lt = slot_within w.cells a 0 here in
    let long = length-taken_all w.cluster es 0 (get_or w.cells a []) in
    subst (λ (x : WishesRecord). IsPlacer x c.self.inside.line (length c.tell_marks.new.marks) c.self.inside.turn_of.items (length c.self.inside.held.items) c.tell_tree.new.tree) (sym c.hear-more.ensures.cells) (record {
      admitted = admitted_more w.cells c.self.inside.line.pairs a xs lt (omega (arith, long)) c.self.invariant.admitted;
      places = length-set w.cells a xs ∙ c.self.invariant.places;
      units = λ b u here. c.self.invariant.units b u (subst (λ n. u < n) (asked_long w.cluster es w.cells a lt b) here);
      marked = c.tell_marks.ensures.long ∙ c.self.invariant.marked;
      turn_places = c.self.invariant.turn_places;
      held_places = c.self.invariant.held_places;
      rises = c.self.invariant.rises;
      holds = subst (λ (x : WishesRecord). HoldsLine x.cluster x.cells c.self.inside.line.pairs c.self.inside.turn_of.items c.tell_tree.new.tree) c.hear-more.ensures.cells c.tell_tree.ensures.holds;
    })

pub tell_tree-requires-clause-cluster : goal.tell_tree-requires-clause-cluster
tell_tree-requires-clause-cluster c = ap (λ (x : WishesRecord). x.cluster) c.hear-more.ensures.cells ∙ subst (λ (p : PlacerRecord). p.seen.cluster ≡ c.args.table.now.cluster) (sym c.self.view_is) c.requires.cluster

pub tell_tree-requires-clause-admitted : goal.tell_tree-requires-clause-admitted
tell_tree-requires-clause-admitted c =
    let w = c.self.inside.wishes in
    let a = c.args.app.0 in
    let es = c.args.demand.now.entries in
    let xs = taken_all w.cluster es 0 (get_or w.cells a []) in
    let here = subst (λ (p : PlacerRecord). 0 < units_seen p.seen a) (sym c.self.view_is) c.requires.here in
    let long = length-taken_all w.cluster es 0 (get_or w.cells a []) in
    subst (λ (x : WishesRecord). AreAdmitted x.cells c.self.inside.line.pairs) (sym c.hear-more.ensures.cells) (admitted_more w.cells c.self.inside.line.pairs a xs (slot_within w.cells a 0 here) (omega (arith, long)) c.self.invariant.admitted)

pub tell_tree-requires-clause-places : goal.tell_tree-requires-clause-places
tell_tree-requires-clause-places c = c.self.invariant.turn_places

pub tell_tree-requires-clause-holds : goal.tell_tree-requires-clause-holds
tell_tree-requires-clause-holds c =
    let w = c.self.inside.wishes in
    let a = c.args.app.0 in
    let es = c.args.demand.now.entries in
    let here = subst (λ (p : PlacerRecord). 0 < units_seen p.seen a) (sym c.self.view_is) c.requires.here in
    let lt = slot_within w.cells a 0 here in
    subst (λ (x : WishesRecord). HoldsLine x.cluster x.cells c.self.inside.line.pairs c.self.inside.turn_of.items c.self.inside.tree) (sym c.hear-more.ensures.cells)
    (holds_cells w.cluster w.cells (set w.cells a (taken_all w.cluster es 0 (get_or w.cells a []))) (λ p. has_pair p c.self.inside.line.pairs) c.self.inside.turn_of.items c.self.inside.tree (asked_long w.cluster es w.cells a lt) (asked_priority w.cluster es w.cells a lt) c.self.invariant.holds)

pub returns-clause-asks : goal.returns-clause-asks
returns-clause-asks c b k =
    let w = c.self.inside.wishes in
    let a = c.args.app.0 in
    let es = c.args.demand.now.entries in
    let here = subst (λ (p : PlacerRecord). 0 < units_seen p.seen a) (sym c.self.view_is) c.requires.here in
    ap (λ (x : WishesRecord). asks_in x.cells b k) c.hear-more.ensures.cells ∙ asks_taken w.cluster es w.cells a c.entries-counts.ensures.counts (slot_within w.cells a 0 here) b k
    ∙ ap (λ (p : PlacerRecord). cond (nat_eq a b) (cond (is_there p.seen.cluster (units_seen p.seen a) k) (count key_cmp es k) 0) (asks_seen p.seen b k)) c.self.view_is

pub returns-clause-jobs : goal.returns-clause-jobs
returns-clause-jobs c b =
    let w = c.self.inside.wishes in
    let a = c.args.app.0 in
    let es = c.args.demand.now.entries in
    let here = subst (λ (p : PlacerRecord). 0 < units_seen p.seen a) (sym c.self.view_is) c.requires.here in
    ap (λ (x : WishesRecord). job_at x.cells b) c.hear-more.ensures.cells ∙ job_taken w.cluster es w.cells a (slot_within w.cells a 0 here) b
    ∙ ap (λ (p : PlacerRecord). job_seen p.seen b) c.self.view_is

-- the mark of an open machine after the demand was told
told_mark : (c : goal.After-tell_tree) (m : ℕ) → get_or c.self.inside.wishes.opened m false ≡ true
    → IsAsked c.args.demand.now.entries (get_or c.self.inside.wishes.cells c.args.app.0 []) m (mark_at c.self.inside.marks m) (mark_at c.tell_marks.new.marks m)
told_mark c m o =
    let l = open_there c.self.inside.wishes.opened (length c.self.inside.wishes.cluster.machines) c.are_sound.ensures.opened m o in
    let n = c.self.invariant.marked in
    c.tell_marks.ensures.marks m (omega (arith, l, n))

pub returns-clause-tight : goal.returns-clause-tight
returns-clause-tight c h =
    let w = c.self.inside.wishes in
    let a = c.args.app.0 in
    let es = c.args.demand.now.entries in
    let xs = get_or w.cells a [] in
    let here = subst (λ (p : PlacerRecord). 0 < units_seen p.seen a) (sym c.self.view_is) c.requires.here in
    stays_tight c.self.view_is (ap (λ (x : WishesRecord). x.opened) c.hear-more.ensures.cells) refl
    (λ m o t. stays_for c.self.inside.turns (Lifts es xs m) (IsLifted (asks_seen c.args.self.now.seen) (asks_in c.hear-more.new.self.cells) a m) (mark_at c.self.inside.marks m) (mark_at c.tell_marks.new.marks m)
    (λ l. subst (λ (p : PlacerRecord). IsLifted (asks_seen p.seen) (asks_in c.hear-more.new.self.cells) a m) c.self.view_is
    (subst (λ (x : WishesRecord). IsLifted (asks_in w.cells) (asks_in x.cells) a m) (sym c.hear-more.ensures.cells) (lifted_then w.cluster es w.cells w.opened a c.are_sound.ensures (slot_within w.cells a 0 here) m l)))
    (asked_stays c.self.inside.turns es xs m (mark_at c.self.inside.marks m) (mark_at c.tell_marks.new.marks m) (told_mark c m o) t)) h

pub returns-clause-level : goal.returns-clause-level
unfolding IsLevelWith
returns-clause-level c l =
    let w = c.self.inside.wishes in
    let a = c.args.app.0 in
    let t = c.args.table.now in
    let es = c.args.demand.now.entries in
    let here = subst (λ (p : PlacerRecord). 0 < units_seen p.seen a) (sym c.self.view_is) c.requires.here in
    let old = subst (λ (p : PlacerRecord). IsLevelWith p t) (sym c.self.view_is) l in
    record {
      level = subst (λ (x : WishesRecord). AreLevel x.cluster (job_at x.cells) t) (sym c.hear-more.ensures.cells)
          (level_same w.cluster (job_at w.cells) (job_at (set w.cells a (taken_all w.cluster es 0 (get_or w.cells a [])))) t (job_taken w.cluster es w.cells a (slot_within w.cells a 0 here)) old.level);
      idle = λ e.
          let b = both_true c.self.inside.idle (not c.hear-more.result) e in
          let none : any_more w.cluster es (get_or w.cells a []) (length (get_or w.cells a [])) ≡ false = sym c.hear-more.ensures.more ∙ not_true c.hear-more.result b.1 in
          subst (λ (x : WishesRecord). IsIdle x.cells x.opened t) (sym c.hear-more.ensures.cells) (idle_asked w.cluster es w.cells w.opened a c.are_sound.ensures (slot_within w.cells a 0 here) t none (old.idle b.0));
      kept = subst (λ (x : WishesRecord). IsKept x.cells x.opened c.self.inside.line.pairs c.self.inside.turns (record { marks = c.tell_marks.new.marks; turn_of = c.self.inside.turn_of.items; held = c.self.inside.held.items }) t) (sym c.hear-more.ensures.cells)
          (kept_demanded w.cells (set w.cells a (taken_all w.cluster es 0 (get_or w.cells a []))) w.opened w.opened c.self.inside.line.pairs c.self.inside.turns (record { marks = c.self.inside.marks; turn_of = c.self.inside.turn_of.items; held = c.self.inside.held.items }) t c.tell_marks.new.marks
          (λ m o. told_asked es (get_or w.cells a []) m (mark_at c.self.inside.marks m) (mark_at c.tell_marks.new.marks m)
          ((b u : ℕ) → is_open_to (set w.cells a (taken_all w.cluster es 0 (get_or w.cells a []))) w.opened b u m ≡ true → is_open_to w.cells w.opened b u m ≡ true) (told_mark c m o)
          (λ still b u. still_open w.cluster es w.cells w.opened a c.are_sound.ensures (slot_within w.cells a 0 here) m still b u)) (λ m o. o) (asked_long w.cluster es w.cells a (slot_within w.cells a 0 here)) old.kept);
      clear = λ e f.
          let b = both_true c.self.inside.idle (not c.hear-more.result) e in
          let none : any_more w.cluster es (get_or w.cells a []) (length (get_or w.cells a [])) ≡ false = sym c.hear-more.ensures.more ∙ not_true c.hear-more.result b.1 in
          subst (λ (x : WishesRecord). IsClear x.opened c.self.inside.line.pairs c.tell_marks.new.marks t) (sym c.hear-more.ensures.cells) (record {
            clear = λ allowed m g o. asked_clear es (get_or w.cells a []) m (mark_at c.self.inside.marks m) (mark_at c.tell_marks.new.marks m) (told_mark c m o)
                (none_lifted w.cluster es w.cells w.opened a c.are_sound.ensures (slot_within w.cells a 0 here) none m) g ((old.clear b.0 f).clear allowed m g o);
          });
      quiet = λ e.
          let b = both_true c.self.inside.idle (not c.hear-more.result) e in
          let none : any_more w.cluster es (get_or w.cells a []) (length (get_or w.cells a [])) ≡ false = sym c.hear-more.ensures.more ∙ not_true c.hear-more.result b.1 in
          let q = old.quiet b.0 in
          subst (λ (x : WishesRecord). IsQuiet x.cells x.opened c.self.inside.line.pairs c.self.inside.turns c.tell_marks.new.marks t) (sym c.hear-more.ensures.cells) (record {
            settled = λ m o. asked_settled c.self.inside.turns es (get_or w.cells a []) m (mark_at c.self.inside.marks m) (mark_at c.tell_marks.new.marks m) (told_mark c m o)
                (none_lifted w.cluster es w.cells w.opened a c.are_sound.ensures (slot_within w.cells a 0 here) none m) (q.settled m o);
            waiting = λ b u lt some. q.waiting b u lt (waiting_asked w.cluster es w.cells w.opened a c.are_sound.ensures (slot_within w.cells a 0 here) t none b u some);
          });
      still = subst (λ (x : WishesRecord). IsStill x.cells c.self.inside.line.pairs c.stir.new.self t) (sym c.hear-more.ensures.cells)
          (still_asked c.self.inside.calm c.stir.new.self a c.stir.ensures w.cells (set w.cells a (taken_all w.cluster es 0 (get_or w.cells a []))) c.self.inside.line.pairs t t
          (λ b k f. asked_others w.cluster es w.cells a (slot_within w.cells a 0 here) b k (eq_turned b a ∙ f)) refl (λ b _. refl) old.still);
      stands = c.tell_tree.ensures.stands
          (subst (λ (x : WishesRecord). length (get_or x.cells a []) ≡ unit_count (as_known t.jobs) a) (sym c.hear-more.ensures.cells) (asked_long w.cluster es w.cells a (slot_within w.cells a 0 here) a ∙ count_is w.cluster w.cells t old.level a))
          (λ b v has d. subst (λ (x : WishesRecord). StandsAs x.cluster x.cells t.entries b v c.self.inside.tree) (sym c.hear-more.ensures.cells)
          (stands_asked w.cluster w.cells (set w.cells a (taken_all w.cluster es 0 (get_or w.cells a []))) t.entries b v c.self.inside.tree (λ k. asked_others w.cluster es w.cells a (slot_within w.cells a 0 here) b k d) (old.stands b v has)))
          (λ v has. subst (λ (x : WishesRecord). StandsWithin c.args.scope.now x.cluster x.cells t.entries a v c.self.inside.tree) (sym c.hear-more.ensures.cells)
          (within_stands c.args.scope.now w.cluster es w.cells c.self.inside.line.pairs a v t.entries c.self.inside.tree (slot_within w.cells a 0 here) c.self.invariant.admitted has
          (subst (λ (p : PlacerRecord). AsksWithin c.args.scope.now p.seen.cluster es (get_or p.seen.cells a [])) (sym c.self.view_is) c.requires.within) (old.stands a v has)));
    }

pub returns-clause-idle : goal.returns-clause-idle
returns-clause-idle c h =
    let w = c.self.inside.wishes in
    let a = c.args.app.0 in
    let es = c.args.demand.now.entries in
    let here = subst (λ (p : PlacerRecord). 0 < units_seen p.seen a) (sym c.self.view_is) c.requires.here in
    let told = subst (λ (p : PlacerRecord). AsksNoMore (asks_seen p.seen) (asks_in c.hear-more.new.self.cells) a) (sym c.self.view_is) h in
    let less = subst (λ (x : WishesRecord). AsksNoMore (asks_in w.cells) (asks_in x.cells) a) c.hear-more.ensures.cells told in
    let none : c.hear-more.result ≡ false = c.hear-more.ensures.more ∙ more_not w.cluster es w.cells w.opened a c.are_sound.ensures (slot_within w.cells a 0 here) less in
    ap (λ b. c.self.inside.idle && not b) none ∙ and-true c.self.inside.idle ∙ ap (λ (p : PlacerRecord). p.idle) c.self.view_is
