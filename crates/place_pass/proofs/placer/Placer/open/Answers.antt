use Rattle.std.proofs.Common.{◌≡◌, ◌≢◌, ℕ, ◌<◌, ◌⊎◌, inl, inr, Bool, true, false, cond, nat_eq, length, set, get_or, refl, sym, ◌∙◌, ap, subst, arith}
use Rattle.std.proofs.lemmas.Bool.Decides.{nat_tests}
use Rattle.std.proofs.lemmas.List.{get_or-set_other}
use Rattle.place_pass.specs.Bounds.{mark_at, reset_mark}
use Rattle.place_pass.proofs.KeptLemmas.{kept_opened}
use Rattle.std.specs.Prelude.{◌||◌, not}
use Rattle.fuxi_terms.proofs.Booleans.{both_true}
use Rattle.place_pass.specs.Cells.{WishesRecord, job_at}
use Rattle.place_pass.specs.PlacerTrees.{AllStand}
use Rattle.place_pass.specs.Placers.{PlacerRecord, AreLevel, KeptRecord, IsIdle, IsClear, IsKept, IsQuiet, IsStill, IsLevelWith, is_open}
use Rattle.place_pass.proofs.IdleKept.{idle_opened, opens_none, quiet_opened}
use Rattle.place_pass.proofs.placer.Placer.open.Goals as goal
use Rattle.fuxi_terms.proofs.IndexedLists.{one_set}

pub returns-then-stays-clause-opened : goal.returns-then-stays-clause-opened
returns-then-stays-clause-opened c m =
    let w = c.self.inside.wishes in
    let r = subst (λ (p : PlacerRecord). c.args.machine.0 < length p.seen.cluster.machines) (sym c.self.view_is) c.requires in
    let n = c.are_sound.ensures.opened in
    ap (λ (x : WishesRecord). get_or x.opened m false) c.open.ensures ∙ one_set w.opened c.args.machine.0 m c.args.usable false (omega (arith, r, n))
    ∙ ap (λ (p : PlacerRecord). cond (nat_eq c.args.machine.0 m) c.args.usable (is_open p.seen m)) c.self.view_is

pub returns-clause-opened : goal.returns-clause-opened
returns-clause-opened c m =
    let w = c.self.inside.wishes in
    let r = subst (λ (p : PlacerRecord). c.args.machine.0 < length p.seen.cluster.machines) (sym c.self.view_is) c.requires in
    let n = c.are_sound.ensures.opened in
    ap (λ (x : WishesRecord). get_or x.opened m false) c.open.ensures ∙ one_set w.opened c.args.machine.0 m c.args.usable false (omega (arith, r, n))
    ∙ ap (λ (p : PlacerRecord). cond (nat_eq c.args.machine.0 m) c.args.usable (is_open p.seen m)) c.self.view_is

-- no machine is opened that was closed
pub returns-then-stays-clause-level : goal.returns-then-stays-clause-level
unfolding IsLevelWith
returns-then-stays-clause-level c t l =
    let w = c.self.inside.wishes in
    let old = subst (λ (p : PlacerRecord). IsLevelWith p t) (sym c.self.view_is) l in
    let r = subst (λ (p : PlacerRecord). c.args.machine.0 < length p.seen.cluster.machines) (sym c.self.view_is) c.requires in
    let n = c.are_sound.ensures.opened in
    let none = opens_none w.opened c.args.machine.0 c.args.usable c.is_open-opened.result (omega (arith, r, n)) c.is_open-opened.ensures c.if-stays.true in
    let kept : KeptRecord = record { marks = c.self.inside.marks; turn_of = c.self.inside.turn_of.items; held = c.self.inside.held.items } in
    record {
      level = subst (λ (x : WishesRecord). AreLevel x.cluster (job_at x.cells) t) (sym c.open.ensures) old.level;
      idle = λ e.
          let b = both_true c.self.inside.idle (not c.args.usable || c.is_open-opened.result) e in
          subst (λ (x : WishesRecord). IsIdle x.cells x.opened t) (sym c.open.ensures) (idle_opened w.cells w.opened t c.args.machine.0 c.args.usable c.is_open-opened.result (omega (arith, r, n)) c.is_open-opened.ensures b.1 (old.idle b.0));
      kept = subst (λ (x : WishesRecord). IsKept x.cells x.opened c.self.inside.line.pairs c.self.inside.turns kept t) (sym c.open.ensures)
          (kept_opened w.cells w.opened (set w.opened c.args.machine.0 c.args.usable) c.self.inside.line.pairs c.self.inside.turns kept t kept.marks (λ m o. inr (none m o, refl)) old.kept);
      still = subst (λ (x : WishesRecord). IsStill x.cells c.self.inside.line.pairs c.self.inside.calm t) (sym c.open.ensures) old.still;
      stands = subst (λ (x : WishesRecord). AllStand x.cluster x.cells t.entries c.self.inside.line.pairs c.self.inside.tree) (sym c.open.ensures) old.stands;
      clear = λ e f. subst (λ (x : WishesRecord). IsClear x.opened c.self.inside.line.pairs kept.marks t) (sym c.open.ensures)
          (record { clear = λ allowed m g o. (old.clear (both_true c.self.inside.idle (not c.args.usable || c.is_open-opened.result) e).0 f).clear allowed m g (none m o) });
      quiet = λ e. subst (λ (x : WishesRecord). IsQuiet x.cells x.opened c.self.inside.line.pairs c.self.inside.turns kept.marks t) (sym c.open.ensures)
          (quiet_opened w.cells w.opened (set w.opened c.args.machine.0 c.args.usable) c.self.inside.line.pairs c.self.inside.turns kept.marks t none (old.quiet (both_true c.self.inside.idle (not c.args.usable || c.is_open-opened.result) e).0));
    }

pub returns-clause-level : goal.returns-clause-level
unfolding IsLevelWith
returns-clause-level c t l =
    let w = c.self.inside.wishes in
    let old = subst (λ (p : PlacerRecord). IsLevelWith p t) (sym c.self.view_is) l in
    record {
      level = subst (λ (x : WishesRecord). AreLevel x.cluster (job_at x.cells) t) (sym c.open.ensures) old.level;
      idle = λ e. let f : false ≡ true = sym c.if-stays.false ∙ (both_true c.self.inside.idle (not c.args.usable || c.is_open-opened.result) e).1 in cc;
      kept = subst (λ (x : WishesRecord). IsKept x.cells x.opened c.self.inside.line.pairs c.self.inside.turns (record { marks = c.reset_one.new.marks; turn_of = c.self.inside.turn_of.items; held = c.self.inside.held.items }) t) (sym c.open.ensures)
          (kept_opened w.cells w.opened (set w.opened c.args.machine.0 c.args.usable) c.self.inside.line.pairs c.self.inside.turns (record { marks = c.self.inside.marks; turn_of = c.self.inside.turn_of.items; held = c.self.inside.held.items }) t c.reset_one.new.marks
          (λ m o. by m o (nat_eq c.args.machine.0 m) refl) old.kept);
      still = subst (λ (x : WishesRecord). IsStill x.cells c.self.inside.line.pairs c.self.inside.calm t) (sym c.open.ensures) old.still;
      stands = subst (λ (x : WishesRecord). AllStand x.cluster x.cells t.entries c.self.inside.line.pairs c.self.inside.tree) (sym c.open.ensures) old.stands;
      clear = λ e _. let f : false ≡ true = sym c.if-stays.false ∙ (both_true c.self.inside.idle (not c.args.usable || c.is_open-opened.result) e).1 in cc;
      quiet = λ e. let f : false ≡ true = sym c.if-stays.false ∙ (both_true c.self.inside.idle (not c.args.usable || c.is_open-opened.result) e).1 in cc;
    }
  where
    by : (m : ℕ) → get_or (set c.self.inside.wishes.opened c.args.machine.0 c.args.usable) m false ≡ true → (b : Bool) → nat_eq c.args.machine.0 m ≡ b
        → (mark_at c.reset_one.new.marks m ≡ reset_mark 0) ⊎ ((get_or c.self.inside.wishes.opened m false ≡ true) × (mark_at c.reset_one.new.marks m ≡ mark_at c.self.inside.marks m))
    by m o true t = inl (c.reset_one.ensures.marks m ∙ ap (λ b. cond b (reset_mark 0) (mark_at c.self.inside.marks m)) t)
    by m o false f = inr (
      sym (get_or-set_other c.self.inside.wishes.opened c.args.machine.0 m c.args.usable false (let d : m ≢ c.args.machine.0 = grind (arith, nat_tests, f) in d)) ∙ o,
      c.reset_one.ensures.marks m ∙ ap (λ b. cond b (reset_mark 0) (mark_at c.self.inside.marks m)) f,
    )
