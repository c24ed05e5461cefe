-- One grant after another of the pair of first rank, of which the placer is told at the end.
use Rattle.std.proofs.Common.{◌≡◌, ℕ, ◌+◌, ◌-◌, ◌<◌, ◌≤◌, Bool, true, false, cond, not, nat_eq, nat_lt, List, Some, filter, T, refl, sym, ◌∙◌, ap, subst, arith}
use Rattle.std.specs.Prelude.{◌&&◌}
use Rattle.std.specs.Cmp.{tied_itself}
use Rattle.std.specs.FinMap.Entries.{is_sorted}
use Rattle.std.specs.Ordering.{is_eq}
use Rattle.std.proofs.lemmas.Bool.Decides.{nat_tests}
use Rattle.fuxi_terms.specs.Cluster.{ClusterRecord}
use Rattle.fuxi_terms.specs.Counts.{count, set_count}
use Rattle.fuxi_terms.specs.Jobs.{unit_count}
use Rattle.fuxi_terms.specs.Keys.{Spot, spot_cmp, Pair}
use Rattle.fuxi_terms.specs.Limits.{greatest_count}
use Rattle.fuxi_terms.specs.TallyKeys.{want_key}
use Rattle.fuxi_terms.specs.Tables.{held, with_grant, Table}
use Rattle.fuxi_terms.proofs.Booleans.{both_true, number_is}
use Rattle.fuxi_terms.proofs.CountsLemmas.{count-set_count, set_twice}
use Rattle.fuxi_terms.proofs.KeyOrders.{spot_total, same_spot}
use Rattle.spec_roles.specs.Masters.{Master, level_of, out_of}
use Rattle.spec_roles.specs.Placing.{Board, accepts_in, first_in, has_room_in, is_allowed_in, may_grow_in, placeable_in}
use Rattle.grant_table.specs.GrantTables.{TableRecord, IsSound, as_known}
use Rattle.place_pass.specs.Placers.{SeenRecord, asks_seen, board_with, IsUpToDate}
use Rattle.allotment.specs.SettlingRuns.{IsSettling, Repeats, all_out, told_grant}
use Rattle.allotment.proofs.LineGranted.{first_waits, pair_flipped}
use Rattle.allotment.proofs.SettlingRunsLemmas.{SetsHeld, fewer_is, granted_is, settles_on}

-- the pair of first rank stays it
abbrev pub StaysFirst : Type 0
StaysFirst = (b : Board) (es : Table) (line : List Pair) (x : Spot) (n : ℕ) → T (is_sorted spot_cmp es) → count spot_cmp es x ≤ n → first_in b es line ≡ Some x
    → placeable_in b (set_count spot_cmp es x n) x.job x.unit x.machine ≡ true → level_of b.cluster b.asks (set_count spot_cmp es x n) x.job x.unit x.machine ≡ level_of b.cluster b.asks es x.job x.unit x.machine
    → first_in b (set_count spot_cmp es x n) line ≡ Some x

pub count_here : (es : Table) (x : Spot) (n : ℕ) → count spot_cmp (set_count spot_cmp es x n) x ≡ n
count_here es x n = count-set_count spot_total es x n x ∙ ap (λ b. cond b n (count spot_cmp es x)) (ap is_eq (tied_itself spot_total x))

module _ (law : SetsHeld) (t : TableRecord) (s : SeenRecord) (x : Spot) (sound : IsSound t) (up : IsUpToDate s t) (first : first_in (board_with s t) t.entries s.line ≡ Some x) where
  abbrev at : ℕ → TableRecord
  at n = record t { entries = set_count spot_cmp t.entries x n }

  abbrev more : ℕ → TableRecord
  more n = record t { entries = with_grant (set_count spot_cmp t.entries x n) x }

  pub first_grant : Repeats t s x (record t { entries = with_grant t.entries x })
  first_grant = record {
    number = count spot_cmp t.entries x + 1;
    is = refl;
    rises = omega arith;
    settles = λ c M k. settles_on t (record t { entries = with_grant t.entries x }) s (told_grant s (record t { entries = with_grant t.entries x }) x) c M x first (λ N p. granted_is law t s x sound.counts.sorted c N up p) k;
    fewer = fewer_is law t s x sound.counts.sorted up (first_waits (board_with s t) t.entries s.line x first);
  }

  -- what is out of another pair stays
  others : (n b v : ℕ) → (nat_eq b x.job && nat_eq v x.unit) ≡ false → out_of (asks_seen s) (at n).entries b v ≡ out_of (asks_seen s) t.entries b v
  others n b v f = ap (λ h. asks_seen s b (want_key v) - h) (by (nat_eq x.job b && nat_eq x.unit v) (held (at n).entries b v) (held t.entries b v) (pair_flipped x.job x.unit b v ∙ f) (law t.entries x n b v sound.counts.sorted))
    where
      by : (z : Bool) (m k : ℕ) → z ≡ false → m + cond z (count spot_cmp t.entries x) 0 ≡ k + cond z n 0 → m ≡ k
      by true m k g e = cc
      by false m k g e = omega (arith, e)

  -- while something is out of it the line stays up to date
  stays_up : (n : ℕ) → nat_lt 0 (out_of (asks_seen s) (at n).entries x.job x.unit) ≡ true → IsUpToDate s (at n)
  stays_up n waits b v = up b v ∙ ap (λ o. nat_lt v (unit_count (as_known t.jobs) b) && o) (by (nat_eq b x.job && nat_eq v x.unit) refl)
    where
      by : (z : Bool) → (nat_eq b x.job && nat_eq v x.unit) ≡ z → nat_lt 0 (out_of (asks_seen s) t.entries b v) ≡ nat_lt 0 (out_of (asks_seen s) (at n).entries b v)
      by true e =
          let both = both_true (nat_eq b x.job) (nat_eq v x.unit) e in
          let some = (first_waits (board_with s t) t.entries s.line x first).out in
          let before : nat_lt 0 (out_of (asks_seen s) t.entries x.job x.unit) ≡ true = grind (arith, nat_tests, some) in
          (λ i. nat_lt 0 (out_of (asks_seen s) t.entries (number_is b x.job both.0 i) (number_is v x.unit both.1 i))) ∙ before ∙ sym waits
          ∙ (λ i. nat_lt 0 (out_of (asks_seen s) (at n).entries (sym (number_is b x.job both.0) i) (sym (number_is v x.unit both.1) i)))
      by false e = ap (nat_lt 0) (sym (others n b v e))

  waits_still : (n : ℕ) → placeable_in (board_with s t) (at n).entries x.job x.unit x.machine ≡ true → nat_lt 0 (out_of (asks_seen s) (at n).entries x.job x.unit) ≡ true
  waits_still n may =
      let b = board_with s t in
      let grows = (both_true (may_grow_in b (at n).entries x.job x.unit) (accepts_in b (at n).entries x.job x.unit x.machine && has_room_in b.cluster b.sizes (at n).entries x.job x.unit x.machine) may).0 in
      (both_true (nat_lt 0 (out_of b.asks (at n).entries x.job x.unit)) (is_allowed_in b.cluster b.groups b.sizes (at n).entries x.job x.unit) grows).0

  pub one_more : StaysFirst → (n : ℕ) → count spot_cmp t.entries x < n → n < greatest_count → IsSound (at n) → placeable_in (board_with s t) (at n).entries x.job x.unit x.machine ≡ true
      → level_of t.cluster (asks_seen s) (at n).entries x.job x.unit x.machine ≡ level_of t.cluster (asks_seen s) t.entries x.job x.unit x.machine
      → ((c : ClusterRecord) (M : Master) → IsSettling t s c M → IsSettling (at n) (told_grant s (at n) x) c M) → all_out (at n) (told_grant s (at n) x) < all_out t s
      → Repeats t s x (more n)
  one_more stays n rises few sound_n may same settles fewer =
      let waits = waits_still n may in
      let le : count spot_cmp t.entries x ≤ n = omega (arith, rises) in
      let first_n = stays (board_with s t) t.entries s.line x n sound.counts.sorted le first may same in
      let up_n = stays_up n waits in
      let line_same : told_grant s (at n) x ≡ s = ap (λ b. record s { line = cond b s.line (filter (λ (p : Pair). not (nat_eq p.0 x.job && nat_eq p.1 x.unit)) s.line) }) waits in
      let next = fewer_is law (at n) s x sound_n.counts.sorted up_n (first_waits (board_with s t) (at n).entries s.line x first_n) in
      let now = subst (λ z. all_out (at n) z < all_out t s) line_same fewer in
      record {
        number = n + 1;
        is = ap (λ es. record t { entries = es }) (ap (λ k. set_count spot_cmp (set_count spot_cmp t.entries x n) x (k + 1)) (count_here t.entries x n) ∙ set_twice spot_total same_spot (λ s. greatest_count) t.entries x n (n + 1) sound.counts (omega (arith, few)) (omega (arith, few)));
        rises = omega (arith, rises);
        settles = λ c M k. settles_on (at n) (more n) s (told_grant s (more n) x) c M x first_n (λ N p. granted_is law (at n) s x sound_n.counts.sorted c N up_n p) (subst (λ z. IsSettling (at n) z c M) line_same (settles c M k));
        fewer = omega (arith, next, now);
      }
