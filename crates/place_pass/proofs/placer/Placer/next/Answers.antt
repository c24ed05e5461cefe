use Rattle.std.proofs.Common.{◌≡◌, ℕ, ◌+◌, ◌<◌, ◌≤◌, Bool, true, false, nat_lt, Option, List, None, length, get_or, sym, ◌∙◌, ap, subst, arith}
use Rattle.std.specs.Prelude.{IfSome}
use Rattle.std.specs.Option.{option_map}
use Rattle.fuxi_terms.specs.Jobs.{unit_count}
use Rattle.fuxi_terms.proofs.Booleans.{and_true}
use Rattle.grant_table.specs.GrantTables.{as_known}
use Rattle.place_pass.specs.SearchCounts.{IsTight, count_below, is_unsettled, unsettled_machines}
use Rattle.place_pass.proofs.SearchCountsLemmas.{is_settled}
use Rattle.place_pass.proofs.KeptLemmas.{forgotten_key, kept_forgotten, open_there}
use Rattle.std.proofs.lemmas.Bool.Decides.{nat_tests}
use Rattle.fuxi_terms.specs.Cluster.{ClusterRecord}
use Rattle.fuxi_terms.proofs.Booleans.{both_true}
use Rattle.spec_roles.specs.Masters.{out_of}
use Rattle.spec_roles.specs.Placing.{first_in}
use Rattle.grant_table.specs.declared.asking.Pick.{Pick}
use Rattle.place_pass.specs.Best.{spot_of}
use Rattle.place_pass.specs.Bounds.{mark_at, Rises}
use Rattle.place_pass.specs.Candidates.{turn_in, AreBounded}
use Rattle.place_pass.specs.Cells.{asks_in}
use Rattle.place_pass.specs.Placers.{AreAllowed, IsGrantable, PlacerRecord, KeptRecord, placer_record, IsLevelWith, IsUpToDate, board_over, board_with}
use Rattle.place_pass.proofs.IdleKept.{idle_first, idle_found}
use Rattle.place_pass.proofs.FirstByTurn.{rising_all}
use Rattle.place_pass.proofs.FirstIsGrantable.{pick_grantable}
use Rattle.place_pass.specs.PlacerTrees.{TreeOf}
use Rattle.place_pass.proofs.placer.Placer.next.Goals as goal

pub first-requires-clause-level : goal.first-requires-clause-level
unfolding IsLevelWith
first-requires-clause-level g c = (subst (λ (p : PlacerRecord). IsLevelWith p c.args.table.now) (sym c.self.view_is) c.requires.level).level

pub first-requires-clause-waits : goal.first-requires-clause-waits
first-requires-clause-waits g c a u has =
    let up = subst (λ (p : PlacerRecord). IsUpToDate p.seen c.args.table.now) (sym c.self.view_is) c.requires.up in
    let out : nat_lt 0 (out_of (asks_in c.self.inside.wishes.cells) c.args.table.now.entries a u) ≡ true = (both_true (nat_lt u (unit_count (as_known c.args.table.now.jobs) a)) (nat_lt 0 (out_of (asks_in c.self.inside.wishes.cells) c.args.table.now.entries a u)) (sym (up a u) ∙ has)).1 in
    grind (arith, nat_tests, out)

pub first-requires-clause-rises : goal.first-requires-clause-rises
unfolding IsLevelWith
first-requires-clause-rises g c = subst (λ (xs : List ℕ). Rises (turn_in xs) c.self.inside.line.pairs) (sym c.deref.ensures.value) (rising_all (turn_in c.self.inside.turn_of.items) c.self.inside.line.pairs (subst (λ (p : PlacerRecord). IsLevelWith p c.args.table.now) (sym c.self.view_is) c.requires.level).kept.rises)

pub first-requires-clause-below : goal.first-requires-clause-below
unfolding IsLevelWith
first-requires-clause-below g c q has = subst (λ (xs : List ℕ). turn_in xs q < c.self.inside.turns) (sym c.deref.ensures.value) ((subst (λ (p : PlacerRecord). IsLevelWith p c.args.table.now) (sym c.self.view_is) c.requires.level).kept.below q.0 q.1 has)

pub first-requires-clause-marked : goal.first-requires-clause-marked
unfolding IsLevelWith
first-requires-clause-marked g c =
    let l = (subst (λ (p : PlacerRecord). IsLevelWith p c.args.table.now) (sym c.self.view_is) c.requires.level).level in
    c.self.invariant.marked ∙ ap (λ (x : ClusterRecord). length x.machines) l.cluster_is

pub first-requires-clause-old : goal.first-requires-clause-old
unfolding IsLevelWith
first-requires-clause-old g c m opened =
    let l = subst (λ (p : PlacerRecord). IsLevelWith p c.args.table.now) (sym c.self.view_is) c.requires.level in
    let w = c.self.inside.wishes in
    subst (λ (xs : List ℕ). AreBounded (board_over w.cells w.opened c.args.table.now) c.args.table.now.entries (turn_in xs) c.self.inside.line.pairs (mark_at c.self.inside.marks m) m) (sym c.deref.ensures.value)
    (record { bounded = λ q has lt. l.kept.bounds m q.0 q.1 opened has lt })

pub first-requires-clause-later : goal.first-requires-clause-later
unfolding IsLevelWith
first-requires-clause-later g c m opened = (subst (λ (p : PlacerRecord). IsLevelWith p c.args.table.now) (sym c.self.view_is) c.requires.level).kept.later m opened

pub first-requires-clause-tree : goal.first-requires-clause-tree
unfolding IsLevelWith
first-requires-clause-tree g c =
    let l = subst (λ (p : PlacerRecord). IsLevelWith p c.args.table.now) (sym c.self.view_is) c.requires.level in
    subst (λ (xs : List ℕ). TreeOf c.self.inside.wishes.cluster c.self.inside.wishes.cells c.self.inside.line.pairs xs c.args.table.now.entries c.self.inside.tree) (sym c.deref.ensures.value)
    (record { waits = c.self.invariant.holds; rises = c.self.invariant.rises; stands = l.stands })

pub returns-clause-grantable : goal.returns-clause-grantable
unfolding IsLevelWith
returns-clause-grantable g c =
    let w = c.self.inside.wishes in
    let l = (subst (λ (p : PlacerRecord). IsLevelWith p c.args.table.now) (sym c.self.view_is) c.requires.level).level in
    subst (λ (o : Option Pick). IfSome o (λ p. IsGrantable c.args.table.now (spot_of p))) c.in-Some.is
    (pick_grantable w.cluster w.cells w.opened c.args.table.now c.are_sound.ensures l c.is_sound.ensures c.self.inside.line.pairs c.first.result c.self.invariant.admitted c.first.ensures.first)

pub forget_groups-requires-clause-level : goal.forget_groups-requires-clause-level
unfolding IsLevelWith
forget_groups-requires-clause-level g c = (subst (λ (p : PlacerRecord). IsLevelWith p c.args.table.now) (sym c.self.view_is) c.requires.level).level

pub forget_groups-requires-in_default-clause-level : goal.forget_groups-requires-in_default-clause-level
unfolding IsLevelWith
forget_groups-requires-in_default-clause-level g c = (subst (λ (p : PlacerRecord). IsLevelWith p c.args.table.now) (sym c.self.view_is) c.requires.level).level

-- nothing is placeable on any machine, so the line has no first pair
pub returns-then-rests-clause-first : goal.returns-then-rests-clause-first
unfolding IsLevelWith
returns-then-rests-clause-first g c =
    let w = c.self.inside.wishes in
    let t = c.args.table.now in
    let l = subst (λ (p : PlacerRecord). IsLevelWith p t) (sym c.self.view_is) c.requires.level in
    let idle = (both_true c.self.inside.idle c.self.inside.forgotten c.if-rests.true).0 in
    subst (λ (p : PlacerRecord). None ≡ first_in (board_with p.seen t) t.entries p.seen.line) c.self.view_is (sym (idle_first w.cluster w.cells w.opened t l.level c.self.inside.line.pairs c.self.invariant.admitted (l.idle idle)))

pub returns-then-rests-clause-rest : goal.returns-then-rests-clause-rest
unfolding IsLevelWith
returns-then-rests-clause-rest g c e allowed =
    let l = subst (λ (p : PlacerRecord). IsLevelWith p c.args.table.now) (sym c.self.view_is) c.requires.level in
    let b = both_true c.self.inside.idle c.self.inside.forgotten c.if-rests.true in
    subst IsTight c.self.view_is (record { clear = λ m n o settled. (l.clear b.0 b.1).clear (subst (λ (p : PlacerRecord). AreAllowed c.args.table.now p.seen.line) (sym c.self.view_is) allowed) m n o })

pub returns-then-rests-clause-settled : goal.returns-then-rests-clause-settled
unfolding IsLevelWith
returns-then-rests-clause-settled g c e m =
    let l = subst (λ (p : PlacerRecord). IsLevelWith p c.args.table.now) (sym c.self.view_is) c.requires.level in
    let idle = (both_true c.self.inside.idle c.self.inside.forgotten c.if-rests.true).0 in
    subst (λ (p : PlacerRecord). is_unsettled p m ≡ false) c.self.view_is (is_settled (get_or c.self.inside.wishes.opened m false) (mark_at c.self.inside.marks m) c.self.inside.turns (λ o. (l.quiet idle).settled m o))

-- nothing is placeable on any machine, so the line has no first pair
pub returns-then-self-clause-first : goal.returns-then-self-clause-first
unfolding IsLevelWith
returns-then-self-clause-first g c =
    let w = c.self.inside.wishes in
    let t = c.args.table.now in
    let l = subst (λ (p : PlacerRecord). IsLevelWith p t) (sym c.self.view_is) c.requires.level in
    subst (λ (p : PlacerRecord). None ≡ first_in (board_with p.seen t) t.entries p.seen.line) c.self.view_is (sym (idle_first w.cluster w.cells w.opened t l.level c.self.inside.line.pairs c.self.invariant.admitted (l.idle c.if-self.true)))

-- a machine of the cluster has its mark
open_marked : (o : List Bool) (n long m : ℕ) → length o ≡ n → long ≡ n → get_or o m false ≡ true → m < long
open_marked o n long m e l opened = let lt = open_there o n e m opened in omega (arith, lt, l)

pub returns-then-self-clause-level : goal.returns-then-self-clause-level
unfolding IsLevelWith
returns-then-self-clause-level g c =
    let w = c.self.inside.wishes in
    let t = c.args.table.now in
    let l = subst (λ (p : PlacerRecord). IsLevelWith p t) (sym c.self.view_is) c.requires.level in
    let k : KeptRecord = record { marks = c.self.inside.marks; turn_of = c.self.inside.turn_of.items; held = c.self.inside.held.items } in
    let marks = c.forget_groups.new.marks in
    let forgotten = λ (m : ℕ) (o : get_or w.opened m false ≡ true). c.forget_groups.ensures.marks m (open_marked w.opened (length w.cluster.machines) (length c.self.inside.marks) m c.are_sound.ensures.opened c.self.invariant.marked o) in
    record {
      level = l.level;
      idle = l.idle;
      stands = l.stands;
      still = l.still;
      kept = kept_forgotten w.cells w.opened c.self.inside.line.pairs c.self.inside.turns k t marks forgotten l.kept;
      quiet = λ e. record {
        settled = λ m o. forgotten_key c.self.inside.turns t c.self.inside.line.pairs (mark_at k.marks m) (mark_at marks m) (forgotten m o) ∙ (l.quiet e).settled m o;
        waiting = (l.quiet e).waiting;
      };
      clear = λ e f. record { clear = λ allowed m g o. c.forget_groups.ensures.clear allowed m g (open_marked w.opened (length w.cluster.machines) (length c.self.inside.marks) m c.are_sound.ensures.opened c.self.invariant.marked o) };
    }

pub returns-then-self-clause-rest : goal.returns-then-self-clause-rest
returns-then-self-clause-rest g c e allowed =
    let w = c.self.inside.wishes in
    record {
      clear = λ m n o settled. c.forget_groups.ensures.clear (subst (λ (p : PlacerRecord). AreAllowed c.args.table.now p.seen.line) (sym c.self.view_is) allowed) m n
          (open_marked w.opened (length w.cluster.machines) (length c.self.inside.marks) m c.are_sound.ensures.opened c.self.invariant.marked o);
    }

pub returns-then-self-clause-settled : goal.returns-then-self-clause-settled
unfolding IsLevelWith
returns-then-self-clause-settled g c e m =
    let w = c.self.inside.wishes in
    let t = c.args.table.now in
    let l = subst (λ (p : PlacerRecord). IsLevelWith p t) (sym c.self.view_is) c.requires.level in
    let marks = c.forget_groups.new.marks in
    is_settled (get_or w.opened m false) (mark_at marks m) c.self.inside.turns (λ o.
    forgotten_key c.self.inside.turns t c.self.inside.line.pairs (mark_at c.self.inside.marks m) (mark_at marks m)
    (c.forget_groups.ensures.marks m (open_marked w.opened (length w.cluster.machines) (length c.self.inside.marks) m c.are_sound.ensures.opened c.self.invariant.marked o))
    ∙ (l.quiet c.if-self.true).settled m o)

pub returns-clause-level : goal.returns-clause-level
unfolding IsLevelWith
returns-clause-level g c =
    let w = c.self.inside.wishes in
    let t = c.args.table.now in
    let l = subst (λ (p : PlacerRecord). IsLevelWith p t) (sym c.self.view_is) c.requires.level in
    record {
      level = l.level;
      idle = λ e. let f : false ≡ true = sym c.if-self.false ∙ e in cc;
      stands = l.stands;
      still = l.still;
      kept = record {
        bounds = λ m a u opened has lt. (subst (λ (xs : List ℕ). AreBounded (board_over w.cells w.opened t) t.entries (turn_in xs) c.self.inside.line.pairs (mark_at c.first.new.marks m) m) c.deref.ensures.value (c.first.ensures.bounded m opened)).bounded (a, u) has lt;
        later = c.first.ensures.later;
        rises = l.kept.rises;
        below = l.kept.below;
        held = l.kept.held;
      };
      quiet = λ e. let f : false ≡ true = sym c.if-self.false ∙ e in cc;
      clear = λ e _. let f : false ≡ true = sym c.if-self.false ∙ e in cc;
    }

-- no search looks at a machine twice
pub returns-clause-count : goal.returns-clause-count
unfolding IsLevelWith
returns-clause-count g c =
    let l = subst (λ (p : PlacerRecord). IsLevelWith p c.args.table.now) (sym c.self.view_is) c.requires.level in
    let inside = placer_record c.self.inside.wishes c.self.inside.line c.self.inside.turns c.self.inside.idle c.self.inside.marks c.self.inside.turn_of.items c.self.inside.held.items c.self.inside.tree c.self.inside.forgotten c.self.inside.calm in
    subst (λ (p : PlacerRecord). c.first.new.steps ≤ c.args.steps.now + unsettled_machines p) c.self.view_is
    (subst (λ (x : ClusterRecord). c.first.new.steps ≤ c.args.steps.now + count_below (is_unsettled inside) (length x.machines)) (sym l.level.cluster_is) c.first.ensures.count)

pub returns-in_default-clause-count : goal.returns-in_default-clause-count
unfolding IsLevelWith
returns-in_default-clause-count g c =
    let l = subst (λ (p : PlacerRecord). IsLevelWith p c.args.table.now) (sym c.self.view_is) c.requires.level in
    let inside = placer_record c.self.inside.wishes c.self.inside.line c.self.inside.turns c.self.inside.idle c.self.inside.marks c.self.inside.turn_of.items c.self.inside.held.items c.self.inside.tree c.self.inside.forgotten c.self.inside.calm in
    subst (λ (p : PlacerRecord). c.first.new.steps ≤ c.args.steps.now + unsettled_machines p) c.self.view_is
    (subst (λ (x : ClusterRecord). c.first.new.steps ≤ c.args.steps.now + count_below (is_unsettled inside) (length x.machines)) (sym l.level.cluster_is) c.first.ensures.count)

-- where no pair was found, no mark of an open machine has a bound
pub returns-in_default-clause-level : goal.returns-in_default-clause-level
unfolding IsLevelWith
returns-in_default-clause-level g c =
    let w = c.self.inside.wishes in
    let t = c.args.table.now in
    let l = subst (λ (p : PlacerRecord). IsLevelWith p t) (sym c.self.view_is) c.requires.level in
    let up = subst (λ (p : PlacerRecord). IsUpToDate p.seen t) (sym c.self.view_is) c.requires.up in
    let k : KeptRecord = record { marks = c.first.new.marks; turn_of = c.self.inside.turn_of.items; held = c.self.inside.held.items } in
    let marks = c.forget_groups-in_default.new.marks in
    let forgotten = λ (m : ℕ) (o : get_or w.opened m false ≡ true). c.forget_groups-in_default.ensures.marks m (open_marked w.opened (length w.cluster.machines) (length c.first.new.marks) m c.are_sound.ensures.opened (c.first.ensures.marked ∙ c.self.invariant.marked) o) in
    record {
      level = l.level;
      idle = λ e. idle_found w.cells w.opened t c.self.inside.line.pairs up (sym c.first.ensures.first ∙ ap (option_map spot_of) c.in_default.is);
      stands = l.stands;
      still = l.still;
      kept = kept_forgotten w.cells w.opened c.self.inside.line.pairs c.self.inside.turns k t marks forgotten (record {
        bounds = λ m a u opened has lt. (subst (λ (xs : List ℕ). AreBounded (board_over w.cells w.opened t) t.entries (turn_in xs) c.self.inside.line.pairs (mark_at c.first.new.marks m) m) c.deref.ensures.value (c.first.ensures.bounded m opened)).bounded (a, u) has lt;
        later = c.first.ensures.later;
        rises = l.kept.rises;
        below = l.kept.below;
        held = l.kept.held;
      });
      quiet = λ e. record {
        settled = λ m o. forgotten_key c.self.inside.turns t c.self.inside.line.pairs (mark_at k.marks m) (mark_at marks m) (forgotten m o) ∙ c.first.ensures.settled c.in_default.is m (subst (λ (x : ClusterRecord). m < length x.machines) l.level.cluster_is (open_there w.opened (length w.cluster.machines) c.are_sound.ensures.opened m o)) o;
        waiting = λ a u lt some. up a u ∙ and_true (nat_lt u (unit_count (as_known t.jobs) a)) _ (grind (arith, nat_tests, lt)) (grind (arith, nat_tests, some));
      };
      clear = λ e f. record { clear = λ allowed m g o. c.forget_groups-in_default.ensures.clear allowed m g (open_marked w.opened (length w.cluster.machines) (length c.first.new.marks) m c.are_sound.ensures.opened (c.first.ensures.marked ∙ c.self.invariant.marked) o) };
    }

pub returns-in_default-clause-first : goal.returns-in_default-clause-first
returns-in_default-clause-first g c = subst (λ (p : PlacerRecord). None ≡ first_in (board_with p.seen c.args.table.now) c.args.table.now.entries p.seen.line) c.self.view_is (sym (sym c.first.ensures.first ∙ ap (option_map spot_of) c.in_default.is))

pub returns-in_default-clause-rest : goal.returns-in_default-clause-rest
returns-in_default-clause-rest g c e allowed =
    let w = c.self.inside.wishes in
    record { clear = λ m n o settled. c.forget_groups-in_default.ensures.clear (subst (λ (p : PlacerRecord). AreAllowed c.args.table.now p.seen.line) (sym c.self.view_is) allowed) m n (open_marked w.opened (length w.cluster.machines) (length c.first.new.marks) m c.are_sound.ensures.opened (c.first.ensures.marked ∙ c.self.invariant.marked) o) }

pub returns-in_default-clause-settled : goal.returns-in_default-clause-settled
unfolding IsLevelWith
returns-in_default-clause-settled g c e m =
    let w = c.self.inside.wishes in
    let l = subst (λ (p : PlacerRecord). IsLevelWith p c.args.table.now) (sym c.self.view_is) c.requires.level in
    is_settled (get_or c.self.inside.wishes.opened m false) (mark_at c.forget_groups-in_default.new.marks m) c.self.inside.turns (λ o.
    forgotten_key c.self.inside.turns c.args.table.now c.self.inside.line.pairs (mark_at c.first.new.marks m) (mark_at c.forget_groups-in_default.new.marks m)
    (c.forget_groups-in_default.ensures.marks m (open_marked w.opened (length w.cluster.machines) (length c.first.new.marks) m c.are_sound.ensures.opened (c.first.ensures.marked ∙ c.self.invariant.marked) o)) ∙ c.first.ensures.settled c.in_default.is m (subst (λ (x : ClusterRecord). m < length x.machines) l.level.cluster_is (open_there w.opened (length w.cluster.machines) c.are_sound.ensures.opened m o)) o)
