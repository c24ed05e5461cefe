use Rattle.std.proofs.Common.{◌≡◌, ℕ, ◌+◌, ◌-◌, Bool, true, not, nat_lt, List, ◌++◌, length, map, filter, refl, sym, ◌∙◌, ap, subst, arith}
use Rattle.std.specs.Prelude.{◌||◌}
use Rattle.std.proofs.lemmas.List.{length-append}
use Rattle.place_pass.specs.Bounds.{key_of, mark_at}
use Rattle.place_pass.proofs.LinedLemmas.{IsLinedUp, lined_is, lined_kept, front_is, front_inside, front_holds}
use Rattle.std.proofs.lemmas.Bool.Decides.{nat_tests}
use Rattle.fuxi_terms.proofs.Booleans.{and_true, both_true}
use Rattle.place_pass.proofs.SearchCountsLemmas.{same_stays, stays_tight}
use Rattle.place_pass.proofs.CandidatesLemmas.{place_of}
use Rattle.place_pass.proofs.NumberedLemmas.{filter_whole, none_joined, unit_small}
use Rattle.fuxi_terms.specs.Cluster.{JobRecord}
use Rattle.fuxi_terms.specs.Jobs.{unit_count, job_numbers}
use Rattle.fuxi_terms.specs.Keys.{Pair}
use Rattle.spec_roles.specs.Masters.{out_of}
use Rattle.spec_roles.specs.Placing.{has_pair, lined, waiting_in}
use Rattle.grant_table.specs.GrantTables.{as_known}
use Rattle.place_pass.specs.Cells.{asks_in}
use Rattle.place_pass.specs.WaitingLines.{same_pair}
use Rattle.place_pass.specs.PlacerTrees.{AllStand}
use Rattle.place_pass.specs.Placers.{PlacerRecord, KeptRecord, IsKept, IsStill, SeenRecord, IsLevelWith, asks_seen, waiting_with}
use Rattle.place_pass.proofs.WaitingLinesLemmas.{any_append}
use Rattle.place_pass.proofs.StillLemmas.{still_left, waiting_waits}
use Rattle.place_pass.proofs.PlacersLemmas.{kept_is, lined_has}
use Rattle.place_pass.proofs.Turns.{few_begin}
use Rattle.place_pass.proofs.placer.Placer.line_up.Goals as goal

pub leave-begins-requires-clause-level : goal.leave-begins-requires-clause-level
unfolding IsLevelWith
leave-begins-requires-clause-level c = (subst (λ (p : PlacerRecord). IsLevelWith p c.args.table.now) (sym c.self.view_is) c.requires.level).level

pub leave-begins-requires-clause-still : goal.leave-begins-requires-clause-still
unfolding IsLevelWith
leave-begins-requires-clause-still c = (subst (λ (p : PlacerRecord). IsLevelWith p c.args.table.now) (sym c.self.view_is) c.requires.level).still

pub join-requires-clause-level : goal.join-requires-clause-level
unfolding IsLevelWith
join-requires-clause-level c = (subst (λ (p : PlacerRecord). IsLevelWith p c.args.table.now) (sym c.self.view_is) c.requires.level).level

pub join-requires-clause-units : goal.join-requires-clause-units
join-requires-clause-units c a u lt = c.leave-begins.ensures.units (a, u) ∙ c.self.invariant.units a u lt

pub join-requires-clause-none : goal.join-requires-clause-none
join-requires-clause-none c = c.leave-begins.ensures.none

pub join-requires-clause-still : goal.join-requires-clause-still
unfolding IsLevelWith
join-requires-clause-still c =
    let w = c.self.inside.wishes in
    let t = c.args.table.now in
    let old = subst (λ (p : PlacerRecord). IsLevelWith p t) (sym c.self.view_is) c.requires.level in
    subst (λ (l : List Pair). IsStill w.cells l c.self.inside.calm t) (sym c.leave-begins.ensures.pairs) (still_left w.cells c.self.inside.line.pairs c.self.inside.calm t old.still)

pub enter_line-requires-clause-level : goal.enter_line-requires-clause-level
unfolding IsLevelWith
enter_line-requires-clause-level c = (subst (λ (p : PlacerRecord). IsLevelWith p c.args.table.now) (sym c.self.view_is) c.requires.level).level

-- the line is brought up to date before the tree is told
lined_up : (c : goal.After-enter_line-arg-4-1) → IsLinedUp c.self.inside.line.pairs c.leave-begins.new.line.pairs (waiting_in (map (λ (j : JobRecord). j.number) c.args.table.now.jobs) (unit_count (as_known c.args.table.now.jobs)) (asks_in c.self.inside.wishes.cells) c.args.table.now.entries) c.join.new.line.pairs c.len-stayed.result
    (λ p. nat_lt 0 (out_of (asks_in c.self.inside.wishes.cells) c.args.table.now.entries p.0 p.1)) (record { marks = c.self.inside.marks; turn_of = c.self.inside.turn_of.items; held = c.self.inside.held.items }) c.number_from.new.turn_of.items
lined_up c = record {
  kept = c.leave-begins.ensures.pairs;
  waits = waiting_waits (map (λ (j : JobRecord). j.number) c.args.table.now.jobs) (unit_count (as_known c.args.table.now.jobs)) (asks_in c.self.inside.wishes.cells) c.args.table.now.entries;
  appended = c.join.ensures.pairs;
  long = c.len-stayed.ensures.number;
  small = λ a u has. let place = place_of (a, u) c.self.inside.line.pairs has in unit_small c.self.inside.wishes.cells c.self.inside.line.pairs place.place (a, u) c.self.invariant.admitted place.at c.are_sound.ensures.few;
  others = λ a u lu out. c.number_from.ensures.others a u lu out;
}

pub enter_line-requires-clause-rises : goal.enter_line-requires-clause-rises
unfolding IsLevelWith
enter_line-requires-clause-rises c =
    let old = subst (λ (p : PlacerRecord). IsLevelWith p c.args.table.now) (sym c.self.view_is) c.requires.level in
    (lined_kept (lined_up c) c.self.inside.wishes.cells c.self.inside.wishes.opened c.self.inside.turns c.args.table.now (λ i p ge e. c.number_from.ensures.numbered i p ge e) c.join.ensures.admitted old.kept).rises

pub enter_line-requires-clause-inside : goal.enter_line-requires-clause-inside
enter_line-requires-clause-inside c = front_inside (lined_up c)

pub enter_line-requires-clause-holds : goal.enter_line-requires-clause-holds
enter_line-requires-clause-holds c = front_holds (lined_up c) c.self.inside.wishes.cluster c.self.inside.wishes.cells c.leave-begins.new.tree c.leave-begins.ensures.holds

pub enter_line-requires-clause-stands : goal.enter_line-requires-clause-stands
unfolding IsLevelWith
enter_line-requires-clause-stands c =
    let old = subst (λ (p : PlacerRecord). IsLevelWith p c.args.table.now) (sym c.self.view_is) c.requires.level in
    let w = c.self.inside.wishes in
    subst (λ (l : List Pair). AllStand w.cluster w.cells c.args.table.now.entries l c.leave-begins.new.tree) (sym (front_is (lined_up c))) (c.leave-begins.ensures.stands old.stands)

-- and when it was told
lined_then : (c : goal.After-self-2-1) → IsLinedUp c.self.inside.line.pairs c.leave-begins.new.line.pairs (waiting_in (map (λ (j : JobRecord). j.number) c.args.table.now.jobs) (unit_count (as_known c.args.table.now.jobs)) (asks_in c.self.inside.wishes.cells) c.args.table.now.entries) c.join.new.line.pairs c.len-stayed.result
    (λ p. nat_lt 0 (out_of (asks_in c.self.inside.wishes.cells) c.args.table.now.entries p.0 p.1)) (record { marks = c.self.inside.marks; turn_of = c.self.inside.turn_of.items; held = c.self.inside.held.items }) c.number_from.new.turn_of.items
lined_then c =
    let waits = waiting_waits (map (λ (j : JobRecord). j.number) c.args.table.now.jobs) (unit_count (as_known c.args.table.now.jobs)) (asks_in c.self.inside.wishes.cells) c.args.table.now.entries in
    let small = λ (a u : ℕ) (has : has_pair (a, u) c.self.inside.line.pairs ≡ true). let place = place_of (a, u) c.self.inside.line.pairs has in unit_small c.self.inside.wishes.cells c.self.inside.line.pairs place.place (a, u) c.self.invariant.admitted place.at c.are_sound.ensures.few in
    record { kept = c.leave-begins.ensures.pairs; waits = waits; appended = c.join.ensures.pairs; long = c.len-stayed.ensures.number; small = small; others = λ a u lu out. c.number_from.ensures.others a u lu out }

pub invariant_of-self : goal.invariant_of-self
unfolding IsLevelWith
invariant_of-self c =
    let old = subst (λ (p : PlacerRecord). IsLevelWith p c.args.table.now) (sym c.self.view_is) c.requires.level in
    record {
      admitted = c.join.ensures.admitted;
      places = c.self.invariant.places;
      units = λ a u lt. c.join.ensures.units (a, u) ∙ c.leave-begins.ensures.units (a, u) ∙ c.self.invariant.units a u lt;
      marked = c.self.invariant.marked;
      turn_places = c.number_from.ensures.places;
      held_places = c.self.invariant.held_places;
      rises = (lined_kept (lined_then c) c.self.inside.wishes.cells c.self.inside.wishes.opened c.self.inside.turns c.args.table.now (λ i p ge e. c.number_from.ensures.numbered i p ge e) c.join.ensures.admitted old.kept).rises;
      holds = c.enter_line.ensures.holds;
    }

-- the line is that of the definition
line_is : (c : goal.After-self-2-1) → c.join.new.line.pairs ≡ lined c.self.inside.line.pairs (waiting_in (job_numbers (as_known c.args.table.now.jobs)) (unit_count (as_known c.args.table.now.jobs)) (asks_in c.self.inside.wishes.cells) c.args.table.now.entries)
unfolding IsLevelWith
line_is c =
    let w = c.self.inside.wishes in
    let t = c.args.table.now in
    let line = c.self.inside.line.pairs in
    let r : Pair → Bool = λ p. not (has_pair p line) in
    let l = (subst (λ (p : PlacerRecord). IsLevelWith p t) (sym c.self.view_is) c.requires.level).level in
    let is = c.admitted_jobs.ensures.numbers t.jobs c.is_sound.ensures.in_order in
    let kept = c.leave-begins.ensures.pairs ∙ kept_is w.cluster w.cells t l (job_numbers (as_known t.jobs)) is line c.self.invariant.admitted in
    let joined = ap (λ ns. filter r (waiting_in ns (unit_count (as_known t.jobs)) (asks_in w.cells) t.entries)) (sym is) in
    lined_is (lined_then c) ∙ (λ i. kept i ++ joined i)

pub returns-clause-seen : goal.returns-clause-seen
returns-clause-seen c =
    let w = c.self.inside.wishes in
    let t = c.args.table.now in
    let line = c.self.inside.line.pairs in
    let r : Pair → Bool = λ p. not (has_pair p line) in
    let is = c.admitted_jobs.ensures.numbers t.jobs c.is_sound.ensures.in_order in
    let all = waiting_in (map (λ (j : JobRecord). j.number) t.jobs) (unit_count (as_known t.jobs)) (asks_in w.cells) t.entries in
    let long = ap length (lined_is (lined_then c)) ∙ length-append c.leave-begins.new.line.pairs (filter r all) in
    let n = c.len.ensures.number in
    let s = c.len-stayed.ensures.number in
    let joined : c.len.result - c.len-stayed.result ≡ length (filter r all) = omega (arith, long, n, s) in
    let turns = joined ∙ ap (λ ns. length (filter r (waiting_in ns (unit_count (as_known t.jobs)) (asks_in w.cells) t.entries))) (sym is) in
    subst (λ (p : PlacerRecord). ◌≡◌ {A = SeenRecord} (record { cluster = w.cluster; cells = w.cells; opened = w.opened; line = c.join.new.line.pairs; turns = c.self.inside.turns + (c.len.result - c.len-stayed.result) }) (record p.seen { line = lined p.seen.line (waiting_with p.seen t); turns = p.seen.turns + length (filter (λ q. not (has_pair q p.seen.line)) (waiting_with p.seen t)) })) c.self.view_is
    (λ i. record { cluster = w.cluster; cells = w.cells; opened = w.opened; line = line_is c i; turns = c.self.inside.turns + turns i })

pub returns-clause-turns : goal.returns-clause-turns
returns-clause-turns c =
    let t = c.args.table.now in
    let s = c.args.self.now.seen in
    let jobs = c.is_sound.ensures.in_order in
    let few = few_begin t.jobs (asks_seen s) t.entries (λ p. not (has_pair p s.line)) jobs (c.admitted_jobs.ensures.numbers t.jobs jobs) in
    let turns = ap (λ (x : SeenRecord). x.turns) (returns-clause-seen c) in
    omega (arith, few, turns)

pub returns-clause-up : goal.returns-clause-up
unfolding IsLevelWith
returns-clause-up c a u =
    let w = c.self.inside.wishes in
    let t = c.args.table.now in
    let l = (subst (λ (p : PlacerRecord). IsLevelWith p t) (sym c.self.view_is) c.requires.level).level in
    let is = c.admitted_jobs.ensures.numbers t.jobs c.is_sound.ensures.in_order in
    ap (has_pair (a, u)) (line_is c) ∙ lined_has w.cluster w.cells t l (job_numbers (as_known t.jobs)) is c.self.inside.line.pairs a u

pub returns-clause-level : goal.returns-clause-level
unfolding IsLevelWith
returns-clause-level c =
    let old = subst (λ (p : PlacerRecord). IsLevelWith p c.args.table.now) (sym c.self.view_is) c.requires.level in
    let w = c.self.inside.wishes in
    let t = c.args.table.now in
    let line = c.self.inside.line.pairs in
    let r : Pair → Bool = λ p. not (has_pair p line) in
    let waits : Pair → Bool = λ p. nat_lt 0 (out_of (asks_in w.cells) t.entries p.0 p.1) in
    let all = waiting_in (map (λ (j : JobRecord). j.number) t.jobs) (unit_count (as_known t.jobs)) (asks_in w.cells) t.entries in
    let joined = filter r all in
    let front = c.leave-begins.new.line.pairs in
    let pairs : c.join.new.line.pairs ≡ front ++ joined = lined_is (lined_then c) in
    let n = c.len.ensures.number in
    let s = c.len-stayed.ensures.number in
    let long = ap length pairs ∙ length-append front joined in
    let more : c.len.result - c.len-stayed.result ≡ length joined = omega (arith, long, n, s) in
    let k : KeptRecord = record { marks = c.self.inside.marks; turn_of = c.self.inside.turn_of.items; held = c.self.inside.held.items } in
    let kept = lined_kept (lined_then c) w.cells w.opened c.self.inside.turns t (λ i p ge e. c.number_from.ensures.numbered i p ge e) c.join.ensures.admitted old.kept in
    let none = λ (e : c.self.inside.idle ≡ true). none_joined line (map (λ (j : JobRecord). j.number) t.jobs) (unit_count (as_known t.jobs)) (asks_in w.cells) t.entries (old.quiet e).waiting in
    record {
      level = old.level;
      idle = old.idle;
      stands = c.enter_line.ensures.stands;
      still = record { still = λ a u _. returns-clause-up c a u };
      clear = λ e f.
          let b = both_true c.self.inside.forgotten _ f in
          let test = b.1 in
          let was = c.len-before.ensures.number in
          let keeps = ap length c.leave-begins.ensures.pairs in
          let all_stay : length (filter waits line) ≡ length line = grind (arith, nat_tests, test, was, s, keeps) in
          let same : front ≡ line = c.leave-begins.ensures.pairs ∙ filter_whole waits line all_stay in
          let still = λ (a u : ℕ) (has : has_pair (a, u) line ≡ true). ap (has_pair (a, u)) pairs ∙ any_append (same_pair (a, u)) front joined ∙ ap (λ x. x || has_pair (a, u) joined) (ap (has_pair (a, u)) same ∙ has) in
          record { clear = λ allowed m g o. (old.clear e b.0).clear (λ a u has. allowed a u (still a u has)) m g o };
      quiet = λ e. record {
        settled = λ m o. let z : c.self.inside.turns + (c.len.result - c.len-stayed.result) ≡ c.self.inside.turns = let y = ap length (none e) in omega (arith, more, y) in ap (key_of (mark_at c.self.inside.marks m)) z ∙ (old.quiet e).settled m o;
        waiting = λ a u lt some. returns-clause-up c a u ∙ and_true (nat_lt u (unit_count (as_known t.jobs) a)) _ (grind (arith, nat_tests, lt)) (grind (arith, nat_tests, some));
      };
      kept = subst (λ n. IsKept w.cells w.opened c.join.new.line.pairs (c.self.inside.turns + n) (record k { turn_of = c.number_from.new.turn_of.items }) t) (sym more) kept;
    }

pub returns-clause-tight : goal.returns-clause-tight
returns-clause-tight c e h = stays_tight c.self.view_is refl (e ∙ sym (ap (λ (p : PlacerRecord). p.seen.turns) c.self.view_is)) (λ m o t. same_stays c.self.inside.turns ⊥ (mark_at c.self.inside.marks m) t) h
