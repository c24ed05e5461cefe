use Rattle.std.proofs.Common.{◌≡◌, ℕ, zero, suc, ◌+◌, ◌*◌, Bool, true, false, List, [], length, get_or, nat_lt, refl, sym, ◌∙◌, ap, subst, arith, rules}
use Rattle.spec_roles.specs.Placing.{has_pair}
use Rattle.place_pass.specs.Bounds.{MarkRecord, reset_mark, Rises, turn_at}
use Rattle.place_pass.proofs.FirstByTurn.{rising}
use Rattle.place_pass.proofs.CellsMatchTable.{few_machines}
use Rattle.std.specs.Prelude.{◌&&◌, replicate}
use Rattle.std.proofs.lemmas.Bool.Decides.{nat_tests}
use Rattle.std.proofs.lemmas.List.{length-replicate}
use Rattle.fuxi_terms.specs.Keys.{Pair}
use Rattle.place_pass.specs.Best.{AreAdmitted}
use Rattle.grant_table.specs.GrantTables.{TableRecord}
use Rattle.place_pass.specs.Cells.{Cell, WishesRecord, job_in, job_at}
use Rattle.place_pass.specs.Placers.{AreLevel, IsLevelWith}
use Rattle.place_pass.specs.PlacerTrees.{HoldsLine}
use Rattle.place_pass.proofs.StandsAfterChange.{holds_started}
use Rattle.locality_tree.specs.Trees.{TreeRecord}
use Rattle.fuxi_terms.proofs.IndexedLists.{repeated_at}
use Rattle.place_pass.proofs.placer.Placer.start.Goals as goal

none_in : (n a : ℕ) → get_or {A = List Cell} (replicate n []) a [] ≡ []
none_in zero a = refl
none_in (suc n) zero = refl
none_in (suc n) (suc a) = none_in n a

none_below : (u : ℕ) (some : Bool) → false ≡ (nat_lt u 0 && some)
none_below u some = ap (λ b. b && some) (let f : false ≡ nat_lt u 0 = grind (arith, nat_tests) in f)

zero_at : (xs : List ℕ) (n : ℕ) → xs ≡ replicate n 0 → (i : ℕ) → get_or xs i 0 ≡ 0
zero_at xs n e i = ap (λ ys. get_or ys i 0) e ∙ repeated_at {A = ℕ} 0 n i

pub new-requires : goal.new-requires
new-requires c = let few = few_machines c.args.cluster.now c.machines.ensures.valid in let number = c.machines.ensures.number in omega (arith, few, number)

pub returns-clause-level : goal.returns-clause-level
unfolding IsLevelWith
returns-clause-level c =
    let none : TableRecord = record { cluster = c.args.cluster.now; jobs = []; entries = [] } in
    record {
      level = subst (λ (w : WishesRecord). AreLevel w.cluster (job_at w.cells) none) (sym c.in_ok-wishes.ensures) (record { cluster_is = refl; jobs_are = λ a. ap (job_in a) (none_in 256 a) });
      idle = λ e. cc;
      quiet = λ e. cc;
      clear = λ e f. cc;
      still = record { still = λ a u _. ap (λ (ps : List Pair). has_pair (a, u) ps) c.in_ok-line.ensures ∙ none_below u _ };
      stands = λ a u has. let f : false ≡ true = sym (ap (λ (ps : List Pair). has_pair (a, u) ps) c.in_ok-line.ensures) ∙ has in cc;
      kept = record {
        bounds = λ m a u opened has lt. let f : false ≡ true = sym (ap (λ (ps : List Pair). has_pair (a, u) ps) c.in_ok-line.ensures) ∙ has in cc;
        later = λ m opened a u turn here ge lt. let f : true ≡ false = sym opened ∙ ap (λ (w : WishesRecord). get_or w.opened m false) c.in_ok-wishes.ensures ∙ repeated_at false (length c.args.cluster.now.machines) m in cc;
        rises = rising (λ (p : Pair). turn_at c.in_ok-turn_of.turn_of.items p.0 p.1) c.in_ok-line.line.pairs (subst (Rises (λ (p : Pair). turn_at c.in_ok-turn_of.turn_of.items p.0 p.1)) (sym c.in_ok-line.ensures) tt);
        below = λ a u has. let f : false ≡ true = sym (ap (λ (ps : List Pair). has_pair (a, u) ps) c.in_ok-line.ensures) ∙ has in cc;
        held = λ a u la lu. zero_at c.in_ok-held.held.items 2048 (c.in_ok-held.ensures.items_if_clones_equal (λ y e. search rules)) (a * 8 + u);
      };
    }

pub invariant_of-result : goal.invariant_of-result
invariant_of-result c =
    record {
      admitted = subst (AreAdmitted c.in_ok-wishes.wishes.cells) (sym c.in_ok-line.ensures) tt;
      places = ap (λ (w : WishesRecord). length w.cells) c.in_ok-wishes.ensures ∙ length-replicate {A = List Cell} 256 [];
      units = λ a u lt. let few : length (get_or c.in_ok-wishes.wishes.cells a []) ≡ 0 = ap (λ (w : WishesRecord). length (get_or w.cells a [])) c.in_ok-wishes.ensures ∙ ap length (none_in 256 a) in absurd (omega (arith, lt, few));
      marked = ap length c.in_ok-marks.ensures ∙ length-replicate {A = MarkRecord} c.machines.result (reset_mark 0) ∙ c.machines.ensures.number ∙ ap (λ (w : WishesRecord). length w.cluster.machines) (sym c.in_ok-wishes.ensures);
      turn_places = ap length (c.in_ok-turn_of.ensures.items_if_clones_equal (λ y e. search rules)) ∙ length-replicate {A = ℕ} 2048 0;
      held_places = ap length (c.in_ok-held.ensures.items_if_clones_equal (λ y e. search rules)) ∙ length-replicate {A = ℕ} 2048 0;
      rises = rising (λ (p : Pair). turn_at c.in_ok-turn_of.turn_of.items p.0 p.1) c.in_ok-line.line.pairs (subst (Rises (λ (p : Pair). turn_at c.in_ok-turn_of.turn_of.items p.0 p.1)) (sym c.in_ok-line.ensures) tt);
      holds = subst (λ (w : WishesRecord). HoldsLine w.cluster w.cells c.in_ok-line.line.pairs c.in_ok-turn_of.turn_of.items c.in_ok-tree.tree) (sym c.in_ok-wishes.ensures)
          (subst (λ (l : List Pair). HoldsLine c.args.cluster.now (replicate 256 []) l c.in_ok-turn_of.turn_of.items c.in_ok-tree.tree) (sym c.in_ok-line.ensures)
          (subst (λ (t : TreeRecord). HoldsLine c.args.cluster.now (replicate 256 []) [] c.in_ok-turn_of.turn_of.items t) (sym c.in_ok-tree.ensures) (holds_started c.args.cluster.now (replicate 256 []) c.in_ok-turn_of.turn_of.items (λ a. ap length (none_in 256 a)))));
    }

pub returns-clause-seen : goal.returns-clause-seen
returns-clause-seen c = λ i. record { cluster = (c.in_ok-wishes.ensures i).cluster; cells = (c.in_ok-wishes.ensures i).cells; opened = (c.in_ok-wishes.ensures i).opened; line = c.in_ok-line.ensures i; turns = 0 }
