-- The applications of all slots, one after another.
use Rattle.std.proofs.Common.{◌≡◌, ℕ, zero, suc, ◌<◌, ◌≤◌, Bool, true, false, cond, nat_eq, nat_lt, List, [], ◌∷◌, ◌++◌, length, map, filter, get_or, Option, Some, None, slice_get, refl, sym, ◌∙◌, ap, subst, arith, append-nil, inl, inr}
use Rattle.std.specs.Prelude.{T, ◌||◌}
use Rattle.std.specs.Option.{is_some, unwrap_or}
use Rattle.std.specs.Ordering.{eq_by_cmp, is_lt, nat_cmp, ordering_then}
use Rattle.std.specs.Cmp.{nat_cmp_is}
use Rattle.std.specs.declared.cmp.Ordering.TheVariants.{Greater}
use Rattle.std.specs.List.{AllByRecursion}
use Rattle.std.specs.List.Sorted.{IsNonDecreasingBy}
use Rattle.std.specs.FinMap.Entries.{below_all, is_sorted, find, where_key}
use Rattle.std.proofs.lemmas.Bool.{cases_lt}
use Rattle.std.proofs.lemmas.Bool.Decides.{nat_tests}
use Rattle.std.proofs.lemmas.Option.{slice_get-get_or, slice_get_within}
use Rattle.fuxi_terms.specs.Counts.{count}
use Rattle.fuxi_terms.specs.Keys.{Spot, spot_cmp, key_cmp}
use Rattle.fuxi_terms.specs.Limits.{greatest_count}
use Rattle.fuxi_terms.specs.Numbers.{has_number}
use Rattle.fuxi_terms.specs.NumbersSet.{numbers_set}
use Rattle.fuxi_terms.specs.Tables.{Table}
use Rattle.fuxi_terms.specs.Tallies.{empty_tally, patched_tally}
use Rattle.fuxi_terms.specs.TallyKeys.{reported_key, count_key, greatest_grant, credited_what}
use Rattle.fuxi_terms.specs.declared.Key.{Key}
use Rattle.fuxi_terms.specs.declared.answers.LedgerFault.TheVariants.{Below, TooGreat}
use Rattle.fuxi_terms.proofs.Booleans.{eq_turned, nat_itself, or_false}
use Rattle.fuxi_terms.proofs.CountsLemmas.{both_true, tied, same_counts, counts-where_key, count_where}
use Rattle.fuxi_terms.proofs.KeyOrders.{spot_total, same_spot}
use Rattle.fuxi_terms.proofs.NumbersLemmas.{among, with_is}
use Rattle.ledger_law.specs.Shapes.{IsTally}
use Rattle.peer_channel.specs.Bodies.{tally_of}
use Rattle.spec_roles.specs.MasterSteps.{count_entries}
use Rattle.ledger_updates.specs.Projections.{grant_entries}
use Rattle.schedule_unit.specs.declared.party.AppNo.{AppNo}
use Rattle.schedule_unit.specs.declared.party.MachineNo.{MachineNo}
use Rattle.grant_table.specs.GrantTables.{TableRecord, IsSound}
use Rattle.ledger_updates.specs.AllShown.{App, is_job, credited_in, credited_after, grants_after, with_reported, GrantsAreBefore, ShowsGrants, IsShownAnew, ShowsAllGrants}
use Rattle.ledger_updates.specs.OfNumbers.{of_number, AreReached}
use Rattle.ledger_updates.specs.OneJob.{counts_at, under_job, reported_now, machines_of, named_job, JobIsBefore, IsSlotShown, IsNotOf}
use Rattle.ledger_updates.specs.declared.grants.StepChanges.{StepChanges}
use Rattle.ledger_updates.proofs.OfNumbersLemmas.{of_mapped}
use Rattle.ledger_updates.proofs.ShownLemmas.{shown_kept}
use Rattle.ledger_updates.proofs.Touched.{touched_follow}

-- the counts of a job among those of all
pub counts_of : (a : ℕ) (touched : Table) → of_number a (map under_job touched) ≡ count_entries a touched
counts_of a touched = of_mapped a (λ (e : Spot × ℕ). e.0.job) (λ (e : Spot × ℕ). (count_key e.0.unit e.0.machine, e.1)) touched

-- which stand in the order of jobs
job_le : (s x : Spot) → T (is_lt (spot_cmp s x)) → s.job ≤ x.job
job_le s x lt = elim (cases_lt x.job s.job) [
  | inl more ↦ absurd (subst (λ r. T (is_lt (ordering_then r (ordering_then (nat_cmp s.unit x.unit) (nat_cmp s.machine x.machine))))) (sym (nat_cmp_is s.job x.job Greater more)) lt)
  | inr le ↦ le
]

pub jobs_rise : (es : Table) → T (is_sorted spot_cmp es) → IsNonDecreasingBy (λ e. e.0) (map under_job es)
jobs_rise [] h i j d le lt = absurd (omega (arith, lt))
jobs_rise (e ∷ es) h zero zero d le lt = omega arith
jobs_rise (e ∷ es) h zero (suc j) d le lt = above es j (both_true (below_all spot_cmp e.0 es) (is_sorted spot_cmp es) h).0 (omega (arith, lt))
  where
    above : (es : Table) (j : ℕ) → T (below_all spot_cmp e.0 es) → j < length (map under_job es) → e.0.job ≤ (get_or (map under_job es) j d).0
    above [] j h lt = absurd (omega (arith, lt))
    above (x ∷ es) zero h lt = job_le e.0 x.0 (both_true (is_lt (spot_cmp e.0 x.0)) (below_all spot_cmp e.0 es) h).0
    above (x ∷ es) (suc j) h lt = above es j (both_true (is_lt (spot_cmp e.0 x.0)) (below_all spot_cmp e.0 es) h).1 (omega (arith, lt))
jobs_rise (e ∷ es) h (suc i) zero d le lt = absurd (omega (arith, le))
jobs_rise (e ∷ es) h (suc i) (suc j) d le lt = jobs_rise es (both_true (below_all spot_cmp e.0 es) (is_sorted spot_cmp es) h).1 i j d (omega (arith, le)) (omega (arith, lt))

-- what is not among the counts of its job is not there
none_found : (a : ℕ) (q : Spot) (es : Table) → nat_eq q.job a ≡ true → count_entries a es ≡ [] → find spot_cmp q es ≡ None
none_found a q [] is h = refl
none_found a q (e ∷ es) is h = by (nat_eq e.0.job a) (eq_by_cmp spot_cmp q e.0) refl refl (none_found a q es is) h
  where
    by : (b c : Bool) → nat_eq e.0.job a ≡ b → eq_by_cmp spot_cmp q e.0 ≡ c → (count_entries a es ≡ [] → find spot_cmp q es ≡ None) → map {B = Key × ℕ} (λ (e : Spot × ℕ). (count_key e.0.unit e.0.machine, e.1)) (cond b (e ∷ filter (λ e. nat_eq e.0.job a) es) (filter (λ e. nat_eq e.0.job a) es)) ≡ [] → cond c (Some e.1) (find spot_cmp q es) ≡ None
    by true c job same rest h = cc
    by false true job same rest h = let f : true ≡ false = sym is ∙ ap (λ (s : Spot). nat_eq s.job a) (same_spot q e.0 (tied _ same)) ∙ job in cc
    by false false job same rest h = rest h

-- the machines that are reported now, after one more
reported_more : (r : Option MachineNo) (rs now : List ℕ) → now ≡ with_reported r rs → AllByRecursion (λ m. m < 256) now → (m : ℕ) → has_number m now ≡ (has_number m (reported_now r) || has_number m rs)
reported_more None rs now is below m = ap (has_number m) is
reported_more (Some n) rs now is below m =
    let in_now : has_number n.0 now ≡ true = ap (has_number n.0) is ∙ with_is n.0 n.0 rs ∙ ap (λ b. b || has_number n.0 rs) (nat_itself n.0) in
    let small : n.0 < 256 = among (λ m. m < 256) n.0 now below in_now in
    let test : nat_lt n.0 256 ≡ true = grind (arith, nat_tests, small) in
    ap (has_number m) is ∙ with_is m n.0 rs ∙ ap (λ b. b || has_number m rs) (sym (or_false (nat_eq m n.0))) ∙ ap (λ b. has_number m (cond b (n.0 ∷ []) []) || has_number m rs) (sym test)

-- what is known of all applications before, for one of them
module _ (t : TableRecord) (sound : IsSound t) (ss : List Spot) (news : StepChanges) (now : List ℕ) (apps : List (Option App)) (g : GrantsAreBefore t ss news now apps) (a : ℕ) (d : App) (there : slice_get apps a ≡ Some (Some d)) where
  job_is_before : JobIsBefore t news now a (count_entries a (counts_at t ss)) d
  job_is_before = by (is_job news.admitted a) refl
    where
      by : (b : Bool) → is_job news.admitted a ≡ b → JobIsBefore t news now a (count_entries a (counts_at t ss)) d
      by true is =
          let machines : machines_of news a ≡ now = ap (λ b. cond b (map (λ (m : MachineNo). m.0) news.machines.items) (reported_now news.reported)) is ∙ g.machines a is in
          let empty = g.new a d there is in
          record {
            sound = sound;
            touched = counts_at t ss;
            is = refl;
            before = g.before;
            follows = touched_follow t ss g.before sound g.is;
            reported = [];
            is_now = λ m. sym (or_false (has_number m now)) ∙ ap (λ ms. has_number m ms || false) (sym machines);
            rising = g.rising;
            below = g.below;
            shown = empty ∙ sym (ap (λ es. grant_entries a [] g.before (credited_in es)) empty ∙ append-nil (count_entries a g.before) ∙ g.nothing a is);
          }
      by false is =
          let machines : machines_of news a ≡ reported_now news.reported = ap (λ b. cond b (map (λ (m : MachineNo). m.0) news.machines.items) (reported_now news.reported)) is in
          record {
            sound = sound;
            touched = counts_at t ss;
            is = refl;
            before = g.before;
            follows = touched_follow t ss g.before sound g.is;
            reported = g.reported;
            is_now = λ m. reported_more news.reported g.reported now g.is_now g.below m ∙ ap (λ ms. has_number m ms || has_number m g.reported) (sym machines);
            rising = g.rising;
            below = g.below;
            shown = g.each a d there is;
          }

  -- where nothing is of the job, its application has what it is to have
  quiet : count_entries a (counts_at t ss) ≡ [] → IsNotOf news a → ShowsGrants t news now a d d
  quiet untouched n = record {
    shows = shown_kept empty_tally (patched_tally Below TooGreat greatest_grant credited_what) (IsTally greatest_grant) tally_of tally_of (is_job news.admitted a) (grants_after t news now a d) d n.admitted stays;
    credited = credited;
  }
    where
      boot : d.outgoing.present.head ≡ d.incoming.place.inc
      boot = g.boots a d there n.admitted n.job

      credited : credited_in d.outgoing.present.entries ≡ credited_after news a d
      credited =
          let same : nat_eq d.incoming.place.inc d.outgoing.present.head ≡ true = ap (λ n. nat_eq n d.outgoing.present.head) (sym boot) ∙ nat_itself d.outgoing.present.head in
          sym (λ i. numbers_set key_cmp (cond (same i) (credited_in d.outgoing.present.entries) []) (cond (n.job i) news.credited.items []))

      counts : count_entries a g.before ≡ count_entries a t.entries
      counts = ap (map {B = Key × ℕ} (λ (e : Spot × ℕ). (count_key e.0.unit e.0.machine, e.1))) (same_counts spot_total same_spot (λ _. greatest_count) (where_key spot_cmp (λ s. nat_eq s.job a) g.before) (where_key spot_cmp (λ s. nat_eq s.job a) t.entries)
          (counts-where_key spot_total (λ _. greatest_count) (λ s. nat_eq s.job a) g.before g.is.counts) (counts-where_key spot_total (λ _. greatest_count) (λ s. nat_eq s.job a) t.entries sound.counts)
          (λ q. count_where spot_cmp same_spot (λ s. nat_eq s.job a) g.before q ∙ at (nat_eq q.job a) q refl ∙ sym (count_where spot_cmp same_spot (λ s. nat_eq s.job a) t.entries q)))
        where
          at : (b : Bool) (q : Spot) → nat_eq q.job a ≡ b → cond b (count spot_cmp g.before q) 0 ≡ cond b (count spot_cmp t.entries q) 0
          at true q is = sym (touched_follow t ss g.before sound g.is q ∙ ap (λ (r : Option ℕ). cond (is_some r) (unwrap_or r 0) (count spot_cmp g.before q)) (none_found a q (counts_at t ss) is untouched))
          at false q is = refl

      stays : d.outgoing.present ≡ grants_after t news now a d
      stays =
          let machines : g.reported ≡ now = sym (g.is_now ∙ ap (λ r. with_reported r g.reported) n.reported) in
          let entries = g.each a d there n.admitted in
          λ i. record { head = boot i; entries = (entries ∙ (λ j. grant_entries a (machines j) (g.before) (credited j)) ∙ ap (λ es. map (λ m. (reported_key m, 1)) now ++ (es ++ credited_after news a d)) counts) i }

-- a job that is not the one that may be named
pub not_named : (o : Option AppNo) (a : ℕ) → has_number a (named_job o) ≡ false → is_job o a ≡ false
not_named None a left = refl
not_named (Some n) a left = eq_turned n.0 a ∙ sym (or_false (nat_eq a n.0)) ∙ left

-- all are shown: those that were not looked at have what they are to have
pub all_shown : (t : TableRecord) (ss : List Spot) (news : StepChanges) (due : List ℕ) (old new : List (Option App)) → IsSound t → AreReached (IsSlotShown (map under_job (counts_at t ss)) news) due old new
    → ((a : ℕ) (d : App) → slice_get old a ≡ Some (Some d) → has_number a due ≡ false → (count_entries a (counts_at t ss) ≡ []) × IsNotOf news a) → (now : List ℕ) → GrantsAreBefore t ss news now old → ShowsAllGrants t news now old new
all_shown t ss news due old new sound h rest now g = record {
  wide = h.wide;
  none = λ a e. elim (has_number a due) as (λ b. has_number a due ≡ b → slice_get new a ≡ Some None) [
    | true ↦ λ is. there a None e ∙ ap (λ o. Some o) ((h.each a None (get_or new a None) is e (there a None e)).none refl)
    | false ↦ λ is. h.rest a is ∙ e
  ] refl;
  some = λ a d e. elim (has_number a due) as (λ b. has_number a due ≡ b → IsShownAnew t news now a d new) [
    | true ↦ λ is.
        let s = (h.each a (Some d) (get_or new a None) is e (there a (Some d) e)).some d refl in
        record { new = s.new; there = there a (Some d) e ∙ ap (λ o. Some o) s.there; shows = s.shows t now (subst (λ cs. JobIsBefore t news now a cs d) (sym (counts_of a (counts_at t ss))) (job_is_before t sound ss news now old g a d e)) }
    | false ↦ λ is.
        let q = rest a d e is in
        record { new = d; there = h.rest a is ∙ e; shows = quiet t sound ss news now old g a d e q.0 q.1 }
  ] refl;
}
  where
    there : (a : ℕ) (o : Option App) → slice_get old a ≡ Some o → slice_get new a ≡ Some (get_or new a None)
    there a o e = slice_get-get_or new a None (let wide = h.wide in let lt = slice_get_within old a o e in omega (arith, wide, lt))

-- where no grant changed, and all that the news bring is of one job, that one alone is looked at
pub quietly_shown : (t : TableRecord) (news : StepChanges) (old new : List (Option App)) → IsSound t → news.reported ≡ None → news.admitted ≡ None → AreReached (IsSlotShown [] news) (named_job news.job) old new
    → (now : List ℕ) → GrantsAreBefore t [] news now old → ShowsAllGrants t news now old new
quietly_shown t news old new sound reported admitted h = all_shown t [] news (named_job news.job) old new sound h
    (λ a d there left. (refl, record { reported = reported; admitted = ap (λ o. is_job o a) admitted; job = not_named news.job a left }))
