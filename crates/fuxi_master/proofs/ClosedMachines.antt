-- A machine takes grants no more, or takes them again.
use Rattle.std.proofs.Common.{◌≡◌, ℕ, ◌<◌, ◌≤◌, Bool, true, false, cond, not, nat_eq, List, [], ◌∷◌, length, refl, sym, ◌∙◌, ap, subst, arith}
use Rattle.std.specs.Prelude.{◌&&◌, ◌||◌}
use Rattle.std.specs.List.{AllByRecursion}
use Rattle.std.specs.FinMap.Entries.{where_key}
use Rattle.std.proofs.lemmas.Bool.Decides.{nat_tests}
use Rattle.fuxi_terms.specs.Cluster.{ClusterRecord}
use Rattle.fuxi_terms.specs.Jobs.{unit_count}
use Rattle.fuxi_terms.specs.Keys.{Spot, spot_cmp}
use Rattle.fuxi_terms.specs.Numbers.{has_number, without_number}
use Rattle.fuxi_terms.proofs.Alls.{all_more}
use Rattle.fuxi_terms.proofs.Booleans.{number_is, eq_turned, and_false, or_false, and_with_true}
use Rattle.fuxi_terms.specs.Tables.{Table}
use Rattle.spec_roles.specs.Masters.{Master}
use Rattle.grant_table.specs.GrantTables.{TableRecord, as_known, IsSound}
use Rattle.allotment.specs.SettlingRuns.{AreTouched}
use Rattle.allotment.specs.Allotted.{AllotmentRecord, Allots, Touches}
use Rattle.fuxi_master.specs.Commands.{IsClosed, IsOpened}
use Rattle.fuxi_master.proofs.AllotsAlike.{allots_alike}

-- which numbers there are once one is taken away
pub without_is : (n m : ℕ) (ms : List ℕ) → has_number n (without_number m ms) ≡ (not (nat_eq n m) && has_number n ms)
without_is n m [] = sym (and_false (not (nat_eq n m)))
without_is n m (k ∷ ks) = by (without_is n m ks) (nat_eq k m) refl
  where
    here : (a r : Bool) → (not a && r) ≡ (not a && (a || r))
    here true r = refl
    here false r = refl

    other : (a b r : Bool) → (a ≡ true → b ≡ false) → (b || (not a && r)) ≡ (not a && (b || r))
    other true b r f = or_false b ∙ f refl
    other false b r f = refl

    by : has_number n (without_number m ks) ≡ (not (nat_eq n m) && has_number n ks) → (t : Bool) → nat_eq k m ≡ t → has_number n (cond (not t) (k ∷ without_number m ks) (without_number m ks)) ≡ (not (nat_eq n m) && (nat_eq n k || has_number n ks))
    by rest true e = rest ∙ here (nat_eq n m) (has_number n ks) ∙ ap (λ j. not (nat_eq n m) && (nat_eq n j || has_number n ks)) (sym (number_is k m e))
    by rest false e = ap (λ b. nat_eq n k || b) rest ∙ other (nat_eq n m) (nat_eq n k) (has_number n ks) (λ t. ap (λ j. nat_eq j k) (number_is n m t) ∙ eq_turned m k ∙ e)

-- which machines take grants
closed_now : (m : ℕ) (reported old bans : List ℕ) → ((n : ℕ) → has_number n bans ≡ (nat_eq n m || has_number n old)) → (k : ℕ) → (has_number k reported && not (has_number k bans)) ≡ cond (nat_eq m k) false (has_number k reported && not (has_number k old))
closed_now m reported old bans h k = ap (λ b. has_number k reported && not b) (h k ∙ ap (λ b. b || has_number k old) (eq_turned k m)) ∙ by (nat_eq m k) (has_number k reported)
  where
    by : (t r : Bool) → (r && not (t || has_number k old)) ≡ cond t false (r && not (has_number k old))
    by true r = and_false r
    by false r = refl

opened_again : (m : ℕ) (reported old bans : List ℕ) → ((n : ℕ) → has_number n bans ≡ (not (nat_eq n m) && has_number n old)) → (k : ℕ) → (has_number k reported && not (has_number k bans)) ≡ cond (nat_eq m k) (has_number m reported) (has_number k reported && not (has_number k old))
opened_again m reported old bans h k = ap (λ b. has_number k reported && not b) (h k ∙ ap (λ b. not b && has_number k old) (eq_turned k m)) ∙ elim (nat_eq m k) as (λ t. nat_eq m k ≡ t → (has_number k reported && not (not t && has_number k old)) ≡ cond t (has_number m reported) (has_number k reported && not (has_number k old))) [
  | true ↦ λ e. and_with_true (has_number k reported) ∙ ap (λ j. has_number j reported) (sym (number_is m k e))
  | false ↦ λ _. refl
] refl

-- of a machine that is not reported it does not matter
same_open : (m : ℕ) (reported old bans : List ℕ) → has_number m reported ≡ false → ((n : ℕ) → nat_eq n m ≡ false → has_number n bans ≡ has_number n old) → (k : ℕ) → (has_number k reported && not (has_number k bans)) ≡ (has_number k reported && not (has_number k old))
same_open m reported old bans none h k = elim (nat_eq k m) as (λ t. nat_eq k m ≡ t → (has_number k reported && not (has_number k bans)) ≡ (has_number k reported && not (has_number k old))) [
  | true ↦ λ e. let off : has_number k reported ≡ false = ap (λ j. has_number j reported) (number_is k m e) ∙ none in ap (λ b. b && not (has_number k bans)) off ∙ ap (λ b. b && not (has_number k old)) (sym off)
  | false ↦ λ e. ap (λ b. has_number k reported && not b) (h k e)
] refl

unreported : (m n : ℕ) (reported : List ℕ) → n ≤ m → (has_number m reported ≡ true → m < n) → has_number m reported ≡ false
unreported m n reported ge f = by (has_number m reported) refl
  where
    by : (t : Bool) → has_number m reported ≡ t → t ≡ false
    by true e = absurd (let lt = f e in omega (arith, ge, lt))
    by false e = refl

-- nothing is taken from a table that has nothing there
where_all : (p : Spot → Bool) (es : Table) → AllByRecursion (λ e. p e.0 ≡ true) es → where_key spot_cmp p es ≡ es
where_all p [] h = refl
where_all p (e ∷ es) h = ap (λ b. cond b (e ∷ where_key spot_cmp p es) (where_key spot_cmp p es)) h.0 ∙ ap (λ l. e ∷ l) (where_all p es h.1)

pub untouched : (x : AllotmentRecord) → Touches x x
untouched x = record { spots = record { kept = λ s e. e; others = λ s off. refl }; turns = refl }

-- a change that leaves the table, the spots that changed and the turns as they are
pub still_touches : (x y z : AllotmentRecord) → Touches x y → z.table ≡ y.table → z.touched ≡ y.touched → z.placer.seen.turns ≡ y.placer.seen.turns → Touches x z
still_touches x y z touches table touched turns = record {
  spots = subst (λ ss. AreTouched x.table.entries z.table.entries x.touched ss) (sym touched) (subst (λ (t : TableRecord). AreTouched x.table.entries t.entries x.touched y.touched) (sym table) touches.spots);
  turns = turns ∙ touches.turns;
}

-- a machine that the cluster does not have
module _ (m : ℕ) (x : AllotmentRecord) (beyond : length x.table.cluster.machines ≤ m) where
  beyond_it : (c : ClusterRecord) (M : Master) → Allots x c M → (has_number m M.reported ≡ true → m < length c.machines) → has_number m M.reported ≡ false
  beyond_it c M h there = unreported m (length c.machines) M.reported (let n : length x.table.cluster.machines ≡ length c.machines = ap (λ (k : ClusterRecord). length k.machines) h.placing.cluster in omega (arith, n, beyond)) there

  pub closed_beyond : IsSound x.table → IsClosed m x x
  closed_beyond sound =
      let kept : where_key spot_cmp (λ s. not (nat_eq s.machine m)) x.table.entries ≡ x.table.entries =
      where_all (λ s. not (nat_eq s.machine m)) x.table.entries (all_more (λ (e : Spot × ℕ). (e.0.unit < unit_count (as_known x.table.jobs) e.0.job) × (e.0.machine < length x.table.cluster.machines)) (λ (e : Spot × ℕ). not (nat_eq e.0.machine m) ≡ true)
      (λ e h. let lt = h.1 in let off : nat_eq e.0.machine m ≡ false = grind (arith, nat_tests, lt, beyond) in ap (λ b. not b) off) x.table.entries sound.admitted) in
      record {
        stands = λ c M bans h there same. allots_alike x c M (record M { bans = bans; table = where_key spot_cmp (λ s. not (nat_eq s.machine m)) M.table }) h (record {
          numbers = refl;
          jobs = λ a. refl;
          table = ap (where_key spot_cmp (λ s. not (nat_eq s.machine m))) (sym h.placing.entries) ∙ kept ∙ h.placing.entries;
          demands = λ a. refl;
          usable = same_open m M.reported M.bans bans (beyond_it c M h there) (λ n e. same n ∙ ap (λ b. b || has_number n M.bans) e);
          line = refl;
        });
        touches = untouched x;
        table = ap (λ es. record x.table { entries = es }) (sym kept);
      }

  pub opened_beyond : (reported : List ℕ) → IsOpened m reported x x
  opened_beyond reported = record {
    stands = λ c M bans h is there same. allots_alike x c M (record M { bans = bans }) h (record {
      numbers = refl;
      jobs = λ a. refl;
      table = refl;
      demands = λ a. refl;
      usable = same_open m M.reported M.bans bans (beyond_it c M h there) (λ n e. same n ∙ ap (λ b. not b && has_number n M.bans) e);
      line = refl;
    });
    touches = untouched x;
    table = refl;
  }

-- what it means that a machine takes grants or none
abbrev pub Opens : ℕ → Bool → AllotmentRecord → AllotmentRecord → Type 0
Opens m usable x y = (c : ClusterRecord) (M : Master) (reported bans : List ℕ) → Allots x c M
    → ((k : ℕ) → (has_number k reported && not (has_number k bans)) ≡ cond (nat_eq m k) usable (has_number k M.reported && not (has_number k M.bans)))
    → Allots y c (record M { reported = reported; bans = bans })

pub closed_there : (m : ℕ) (x y z : AllotmentRecord) → ((c : ClusterRecord) (M : Master) → Allots x c M → Allots y c (record M { table = where_key spot_cmp (λ s. not (nat_eq s.machine m)) M.table })) → Touches x y
    → y.table ≡ record x.table { entries = where_key spot_cmp (λ s. not (nat_eq s.machine m)) x.table.entries } → Opens m false y z → z.table ≡ y.table → z.touched ≡ y.touched → z.placer.seen.turns ≡ y.placer.seen.turns → IsClosed m x z
closed_there m x y z cleared touches table opens same_table same_touched same_turns = record {
  stands = λ c M bans h there same. opens c (record M { table = where_key spot_cmp (λ s. not (nat_eq s.machine m)) M.table }) M.reported bans (cleared c M h) (closed_now m M.reported M.bans bans same);
  touches = still_touches x y z touches same_table same_touched same_turns;
  table = same_table ∙ table;
}

pub opened_there : (m : ℕ) (reported : List ℕ) (x z : AllotmentRecord) → Opens m (has_number m reported) x z → z.table ≡ x.table → z.touched ≡ x.touched → z.placer.seen.turns ≡ x.placer.seen.turns → IsOpened m reported x z
opened_there m reported x z opens same_table same_touched same_turns = record {
  stands = λ c M bans h is there same. opens c M M.reported bans h (λ k. opened_again m M.reported M.bans bans same k ∙ ap (λ ms. cond (nat_eq m k) (has_number m ms) (has_number k M.reported && not (has_number k M.bans))) is);
  touches = still_touches x x z (untouched x) same_table same_touched same_turns;
  table = same_table;
}
