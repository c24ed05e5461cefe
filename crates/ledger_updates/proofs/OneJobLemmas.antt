-- The grants of one job, with all its numbers set, are those of the table.
use Rattle.std.proofs.Common.{◌≡◌, ℕ, ◌<◌, Bool, true, false, cond, not, nat_eq, List, [], ◌∷◌, ◌++◌, map, filter, Option, Some, None, refl, sym, ◌∙◌, ap, subst, arith}
use Rattle.std.specs.Prelude.{T, ◌||◌}
use Rattle.std.specs.Option.{is_some, unwrap_or}
use Rattle.std.specs.Ordering.{eq_by_cmp, nat_cmp}
use Rattle.std.specs.List.{AllByRecursion}
use Rattle.std.specs.declared.cmp.Ordering.TheVariants.{Less, Equal, Greater}
use Rattle.std.specs.FinMap.Entries.{by_order, put, where_key, find, is_sorted}
use Rattle.std.proofs.lemmas.List.Elements.{filter-append}
use Rattle.fuxi_terms.specs.declared.Key.{Key}
use Rattle.fuxi_terms.specs.Counts.{count, set_count, AreCounts}
use Rattle.fuxi_terms.specs.Keys.{spot_cmp, key_cmp}
use Rattle.fuxi_terms.specs.Limits.{most_machines}
use Rattle.fuxi_terms.specs.Numbers.{has_number}
use Rattle.fuxi_terms.specs.Tables.{spot, Table}
use Rattle.fuxi_terms.specs.Tallies.{TallyRecord, empty_tally, patched_tally, staying}
use Rattle.fuxi_terms.specs.declared.answers.LedgerFault.TheVariants.{Below, TooGreat}
use Rattle.fuxi_terms.specs.TallyKeys.{reported_key, count_key, credited_key, credited_what, greatest_grant}
use Rattle.fuxi_terms.proofs.Alls.{all_append, all_mapped, all_filter, all_passed}
use Rattle.fuxi_terms.proofs.Booleans.{number_is}
use Rattle.fuxi_terms.proofs.CountsLemmas.{counts-where_key, count_where}
use Rattle.fuxi_terms.proofs.KeyOrders.{key_total, same_key}
use Rattle.spec_roles.specs.MasterSteps.{count_entries}
use Rattle.fuxi_terms.specs.NumbersSet.{numbers_set, AreNumbers}
use Rattle.ledger_updates.specs.Projections.{grant_entries, HasNumbers, after_setting, GrantsFollow}
use Rattle.ledger_updates.specs.Shown.{grants_set, Shows}
use Rattle.grant_table.specs.GrantTables.{TableRecord, IsSound}
use Rattle.ledger_law.specs.Shapes.{IsTally}
use Rattle.peer_channel.specs.Bodies.{tally_of}
use Rattle.ledger_updates.specs.AllShown.{App, is_job, credited_in, credited_after, grants_after, ShowsGrants}
use Rattle.ledger_updates.specs.OneJob.{AreOf, AreNumbersOf, AreStepChanges, machines_of, reported_numbers, credited_to, numbers_of, JobIsBefore}
use Rattle.ledger_updates.specs.declared.grants.StepChanges.{StepChanges}
use Rattle.ledger_updates.proofs.InOrder.{three_kinds, machines_in_order, counts_in_order, credits_in_order, numbers_in_order}
use Rattle.ledger_updates.proofs.Touched.{table_small}

-- what the laws say of entries of grants and of numbers that are set
pub record Laws : Type 0 where
  pub found : (a : ℕ) (reported : List ℕ) (table : Table) (credited : List (Key × ℕ)) → AreOf credited_what credited → HasNumbers a reported table credited
  pub set : (es ns : List (Key × ℕ)) → T (is_sorted key_cmp ns) → (q : Key) → count key_cmp (numbers_set key_cmp es ns) q ≡ after_setting es ns q
  pub counts : (es ns : List (Key × ℕ)) → AreCounts key_cmp greatest_grant es → AreNumbers key_cmp greatest_grant ns → AreCounts key_cmp greatest_grant (numbers_set key_cmp es ns)
  pub follow : (a : ℕ) (es ns : List (Key × ℕ)) (reported : List ℕ) (table : Table) (credited : List (Key × ℕ)) → AreCounts key_cmp greatest_grant es → AreCounts key_cmp greatest_grant (grant_entries a reported table credited) → AreNumbers key_cmp greatest_grant ns
      → GrantsFollow a es ns reported table credited → numbers_set key_cmp es ns ≡ grant_entries a reported table credited

-- grants are shown
abbrev pub ShowsNumbers : Bool → TallyRecord → App → App → Type 0
ShowsNumbers even_if_equal ledger old new = Shows empty_tally (patched_tally Below TooGreat greatest_grant credited_what) (IsTally greatest_grant) tally_of tally_of even_if_equal ledger old new

-- Kinds of numbers
kind_put : (w : ℕ) (k : Key) (n : ℕ) (es : List (Key × ℕ)) → nat_eq k.what w ≡ true → AreOf w es → AreOf w (put key_cmp k n es)
kind_put w k n [] is h = (is, tt)
kind_put w k n (e ∷ es) is h = elim (key_cmp k e.0) as (λ r. AreOf w (by_order r ((k, n) ∷ e ∷ es) ((e.0, n) ∷ es) (e ∷ put key_cmp k n es))) [
  | Less ↦ (is, (h.0, h.1))
  | Equal ↦ (h.0, h.1)
  | Greater ↦ (h.0, kind_put w k n es is h.1)
]

kind_set : (w : ℕ) (es ns : List (Key × ℕ)) → AreOf w es → AreOf w ns → AreOf w (numbers_set key_cmp es ns)
kind_set w es [] h g = h
kind_set w es (n ∷ ns) h g = kind_set w (set_count key_cmp es n.0 n.1) ns
    (elim (nat_eq n.1 0) as (λ b. AreOf w (cond b (where_key key_cmp (λ x. not (eq_by_cmp key_cmp n.0 x)) es) (put key_cmp n.0 n.1 es))) [
      | true ↦ all_filter (λ e. nat_eq e.0.what w ≡ true) (λ e. not (eq_by_cmp key_cmp n.0 e.0)) es h
      | false ↦ kind_put w n.0 n.1 es g.0 h
    ])
    g.1

-- what is credited in entries of its kind, and in those of another
all_credited : (es : List (Key × ℕ)) → AreOf credited_what es → credited_in es ≡ es
all_credited [] h = refl
all_credited (e ∷ es) h = ap (λ b. cond b (e ∷ credited_in es) (credited_in es)) h.0 ∙ ap (λ xs. e ∷ xs) (all_credited es h.1)

none_credited : (w : ℕ) (es : List (Key × ℕ)) → nat_eq w credited_what ≡ false → AreOf w es → credited_in es ≡ []
none_credited w [] other h = refl
none_credited w (e ∷ es) other h = ap (λ b. cond b (e ∷ credited_in es) (credited_in es)) (ap (λ v. nat_eq v credited_what) (number_is e.0.what w h.0) ∙ other) ∙ none_credited w es other h.1

-- what stays under a boot
module _ (present : TallyRecord) (boot : ℕ) where
  -- of another kind
  other_stays : (q : Key) → nat_eq q.what credited_what ≡ false → count key_cmp (staying credited_what present boot) q ≡ count key_cmp present.entries q
  other_stays q is = by (nat_eq boot present.head)
    where
      by : (b : Bool) → count key_cmp (cond b present.entries (where_key key_cmp (λ k. not (nat_eq k.what credited_what)) present.entries)) q ≡ count key_cmp present.entries q
      by true = refl
      by false = count_where key_cmp same_key (λ k. not (nat_eq k.what credited_what)) present.entries q ∙ ap (λ b. cond (not b) (count key_cmp present.entries q) 0) is

  -- of what is credited
  credited_stays : (u m : ℕ) → count key_cmp (cond (nat_eq boot present.head) (credited_in present.entries) []) (credited_key u m) ≡ count key_cmp (staying credited_what present boot) (credited_key u m)
  credited_stays u m = by (nat_eq boot present.head)
    where
      by : (b : Bool) → count key_cmp (cond b (credited_in present.entries) []) (credited_key u m) ≡ count key_cmp (cond b present.entries (where_key key_cmp (λ k. not (nat_eq k.what credited_what)) present.entries)) (credited_key u m)
      by true = count_where key_cmp same_key (λ k. nat_eq k.what credited_what) present.entries (credited_key u m)
      by false = sym (count_where key_cmp same_key (λ k. not (nat_eq k.what credited_what)) present.entries (credited_key u m))

  stays_counts : AreCounts key_cmp greatest_grant present.entries → AreCounts key_cmp greatest_grant (staying credited_what present boot)
  stays_counts h = by (nat_eq boot present.head)
    where
      by : (b : Bool) → AreCounts key_cmp greatest_grant (cond b present.entries (where_key key_cmp (λ k. not (nat_eq k.what credited_what)) present.entries))
      by true = h
      by false = counts-where_key key_total greatest_grant (λ k. not (nat_eq k.what credited_what)) present.entries h

-- The entries of grants of a sound table are counts
module _ (t : TableRecord) (sound : IsSound t) (a : ℕ) (now : List ℕ) (cs : List (Key × ℕ)) (rising : T (is_sorted {X = ℕ} nat_cmp (map (λ m. (m, 0)) now))) (below : AllByRecursion (λ m. m < most_machines) now) (counts : AreCounts key_cmp greatest_grant cs) (kinds : AreOf credited_what cs) where
  entries_are_counts : AreCounts key_cmp greatest_grant (grant_entries a now t.entries cs)
  entries_are_counts =
      let all = three_kinds (reported_numbers now) (count_entries a t.entries) cs (machines_in_order now rising below) (counts_in_order a t.entries sound.counts.sorted (table_small t sound)) (record { numbers = record { sorted = counts.sorted; within = counts.within }; kinds = kinds }) in
      record {
        sorted = all.sorted;
        positive = all_append (λ e. 0 < e.1) (reported_numbers now) (count_entries a t.entries ++ cs) (ones now)
            (all_append (λ e. 0 < e.1) (count_entries a t.entries) cs
            (all_mapped (λ e. 0 < e.1) (λ e. (count_key e.0.unit e.0.machine, e.1)) (filter (λ e. nat_eq e.0.job a) t.entries) (all_filter (λ e. 0 < e.1) (λ e. nat_eq e.0.job a) t.entries sound.counts.positive))
            counts.positive);
        within = all.within;
      }
    where
      ones : (ms : List ℕ) → AllByRecursion (λ e. 0 < e.1) (reported_numbers ms)
      ones [] = tt
      ones (m ∷ ms) = (omega arith, ones ms)

module _ (laws : Laws) (t : TableRecord) (news : StepChanges) (now : List ℕ) (a : ℕ) (counts : List (Key × ℕ)) (d : App) (h : JobIsBefore t news now a counts d) (n : AreStepChanges news) (of : AreNumbersOf 2 counts) (present_is : AreCounts key_cmp greatest_grant d.outgoing.present.entries) where
  abbrev present : TallyRecord
  present = d.outgoing.present

  abbrev boot : ℕ
  boot = d.incoming.place.inc

  abbrev es : List (Key × ℕ)
  es = staying credited_what present boot

  abbrev ns : List (Key × ℕ)
  ns = numbers_of news a counts

  abbrev kept : List (Key × ℕ)
  kept = cond (nat_eq boot present.head) (credited_in present.entries) []

  abbrev cs : List (Key × ℕ)
  cs = credited_after news a d

  credited_kinds : AreOf credited_what (credited_in present.entries)
  credited_kinds = all_passed (λ e. nat_eq e.0.what credited_what ≡ true) (λ e. nat_eq e.0.what credited_what) present.entries (λ e is. is)

  kinds : AreOf credited_what cs
  kinds = kind_set credited_what kept (credited_to news a) (elim (nat_eq boot present.head) as (λ b. AreOf credited_what (cond b (credited_in present.entries) [])) [ true ↦ credited_kinds | false ↦ tt ]) (credits_in_order news a n).kinds

  kept_counts : AreCounts key_cmp greatest_grant kept
  kept_counts = elim (nat_eq boot present.head) as (λ b. AreCounts key_cmp greatest_grant (cond b (credited_in present.entries) [])) [
    | true ↦ counts-where_key key_total greatest_grant (λ k. nat_eq k.what credited_what) present.entries present_is
    | false ↦ record { sorted = tt; positive = tt; within = tt }
  ]

  -- what is found among the numbers, and in the grants that were shown
  numbers_have : HasNumbers a (machines_of news a) h.touched (credited_to news a)
  numbers_have = laws.found a (machines_of news a) h.touched (credited_to news a) (credits_in_order news a n).kinds

  abbrev as_entries : List (Key × ℕ)
  as_entries = grant_entries a (machines_of news a) h.touched (credited_to news a)

  numbers_are : ns ≡ as_entries
  numbers_are = ap (λ xs. reported_numbers (machines_of news a) ++ (xs ++ credited_to news a)) h.is

  shown_have : HasNumbers a h.reported h.before (credited_in present.entries)
  shown_have = laws.found a h.reported h.before (credited_in present.entries) credited_kinds

  -- after numbers are set
  abbrev after : Option ℕ → ℕ → ℕ
  after found was = cond (is_some found) (unwrap_or found 0) was

  set_at : (q : Key) (found : Option ℕ) (was : ℕ) → find key_cmp q as_entries ≡ found → count key_cmp es q ≡ was → after_setting es ns q ≡ after found was
  set_at q found was f w = (λ i. after (find key_cmp q (numbers_are i)) (count key_cmp es q)) ∙ (λ i. after (f i) (w i))

  follows : GrantsFollow a es ns now t.entries cs
  follows = record {
    machines = λ m.
        let was : count key_cmp es (reported_key m) ≡ unwrap_or (cond (has_number m h.reported) (Some 1) None) 0 =
        other_stays present boot (reported_key m) refl ∙ ap (λ xs. count key_cmp xs (reported_key m)) h.shown ∙ ap (λ r. unwrap_or r 0) (shown_have.machines m) in
        ap (λ b. cond b 1 0) (h.is_now m) ∙ joined (has_number m (machines_of news a)) (has_number m h.reported) ∙ sym (set_at (reported_key m) (cond (has_number m (machines_of news a)) (Some 1) None) (unwrap_or (cond (has_number m h.reported) (Some 1) None) 0) (numbers_have.machines m) was);
    counts = λ u m.
        let was : count key_cmp es (count_key u m) ≡ count spot_cmp h.before (spot a u m) =
        other_stays present boot (count_key u m) refl ∙ ap (λ xs. count key_cmp xs (count_key u m)) h.shown ∙ ap (λ r. unwrap_or r 0) (shown_have.counts u m) in
        h.follows (spot a u m) ∙ sym (set_at (count_key u m) (find spot_cmp (spot a u m) h.touched) (count spot_cmp h.before (spot a u m)) (numbers_have.counts u m) was);
    given = λ u m.
        laws.set kept (credited_to news a) (credits_in_order news a n).numbers.sorted (credited_key u m)
        ∙ sym (set_at (credited_key u m) (find key_cmp (credited_key u m) (credited_to news a)) (count key_cmp kept (credited_key u m)) (numbers_have.given u m) (sym (credited_stays present boot u m)));
    kinds = kinds;
  }
    where
      joined : (b c : Bool) → cond (b || c) 1 0 ≡ after (cond b (Some 1) None) (unwrap_or (cond c (Some 1) None) 0)
      joined true c = refl
      joined false true = refl
      joined false false = refl

  credits : AreCounts key_cmp greatest_grant cs
  credits = laws.counts kept (credited_to news a) kept_counts (credits_in_order news a n).numbers

  grants_are : grants_set present boot ns ≡ grants_after t news now a d
  grants_are = ap {A = List (Key × ℕ)} (λ es. record { head = boot; entries = es }) (laws.follow a es ns now t.entries cs (stays_counts present boot present_is) (entries_are_counts t h.sound a now cs h.rising h.below credits kinds) (numbers_in_order news a counts n of) follows)

  credited_is : credited_in (grants_after t news now a d).entries ≡ cs
  credited_is =
      filter-append (λ (e : Key × ℕ). nat_eq e.0.what credited_what) (reported_numbers now) (count_entries a t.entries ++ cs)
      ∙ (λ i. none_credited 1 (reported_numbers now) refl (machines_in_order now h.rising h.below).kinds i ++ filter-append (λ (e : Key × ℕ). nat_eq e.0.what credited_what) (count_entries a t.entries) cs i)
      ∙ (λ i. none_credited 2 (count_entries a t.entries) refl (counts_in_order a t.entries h.sound.counts.sorted (table_small t h.sound)).kinds i ++ all_credited cs kinds i)

  -- the grants with the numbers set are shown, so those of the table are
  pub grants_are_shown : (new : App) → ShowsNumbers (is_job news.admitted a) (grants_set present boot ns) d new → ShowsGrants t news now a d new
  grants_are_shown new s = record {
    shows = subst (λ ledger. ShowsNumbers (is_job news.admitted a) ledger d new) grants_are s;
    credited = ap (λ (g : TallyRecord). credited_in g.entries) (s.present ∙ grants_are) ∙ credited_is;
  }
