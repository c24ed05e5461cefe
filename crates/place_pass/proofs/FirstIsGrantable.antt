-- What may be said of the pair of first rank: it may be granted.
use Rattle.std.proofs.Common.{◌≡◌, ℕ, zero, suc, ◌+◌, ◌<◌, ◌≤◌, Bool, true, false, cond, not, nat_eq, nat_lt, List, [], ◌∷◌, length, map, filter, get_or, refl, sym, ◌∙◌, ap, subst, arith, inl, inr, Option, Some, None}
use Rattle.std.specs.Prelude.{◌&&◌, IfSome}
use Rattle.std.specs.Option.{option_map}
use Rattle.std.specs.List.{AllByRecursion}
use Rattle.std.specs.Ordering.{nat_cmp, is_lt}
use Rattle.std.specs.Cmp.Lexicographic.{slice_cmp}
use Rattle.std.proofs.lemmas.Bool.{cases_lt}
use Rattle.std.proofs.lemmas.Bool.Decides.{nat_tests}
use Rattle.std.proofs.lemmas.List.{map-append}
use Rattle.fuxi_terms.specs.Cluster.{ClusterRecord, UnitRecord, has_at, is_narrow, in_each}
use Rattle.fuxi_terms.specs.Jobs.{size_at}
use Rattle.fuxi_terms.specs.Keys.{Spot, spot_cmp, Pair}
use Rattle.fuxi_terms.specs.Counts.{set_count}
use Rattle.fuxi_terms.specs.Lists.{below}
use Rattle.fuxi_terms.specs.Tables.{spot, held, held_on, total_at, Table}
use Rattle.fuxi_terms.proofs.Alls.{all_append}
use Rattle.fuxi_terms.proofs.Booleans.{both_true, either, nat_itself, zero_either}
use Rattle.fuxi_terms.proofs.Members.{each_place}
use Rattle.fuxi_terms.proofs.Sums.{sum_set}
use Rattle.spec_roles.specs.Masters.{out_of}
use Rattle.spec_roles.specs.Placing.{Board, Ranked, ranked_in, places_in, candidates_in, may_grow_in, accepts_in, has_room_in, least, first_of, first_in}
use Rattle.grant_table.specs.GrantTables.{TableRecord, IsSound, as_known}
use Rattle.grant_table.specs.declared.asking.Pick.{Pick}
use Rattle.place_pass.specs.Cells.{Cell, cell_at, asks_in, job_at, AreWishes}
use Rattle.place_pass.specs.Placers.{AreLevel, IsGrantable, board_over}
use Rattle.place_pass.specs.Best.{AreAdmitted, spot_of}
use Rattle.place_pass.proofs.CellsMatchTable.{count_is, unit_is}
use Rattle.place_pass.proofs.WaitingLinesLemmas.{filter_append}
use Rattle.place_pass.proofs.Rooms.{narrow_past}

-- ---- of many the first has what all have
least_has : (P : Ranked → Type 0) (r : Ranked) (rs : List Ranked) → P r → AllByRecursion P rs → P (least r rs)
least_has P r [] h k = h
least_has P r (s ∷ ss) h k = least_has P (cond (is_lt (slice_cmp nat_cmp s.rank r.rank)) s r) ss (either P (is_lt (slice_cmp nat_cmp s.rank r.rank)) s r (λ _. k.0) (λ _. h)) k.1

pub all_below : (P : Ranked → Type 0) (f : ℕ → Ranked) (q : ℕ → Bool) (n : ℕ) → ((m : ℕ) → m < n → q m ≡ true → P (f m)) → AllByRecursion P (map f (filter q (below n)))
all_below P f q zero h = tt
all_below P f q (suc n) h = subst (AllByRecursion P) (sym (ap (map f) (filter_append q (below n) (n ∷ [])) ∙ map-append f (filter q (below n)) (filter q (n ∷ []))))
    (all_append P (map f (filter q (below n))) (map f (filter q (n ∷ []))) (all_below P f q n (λ m lt e. h m (omega (arith, lt)) e)) (last (q n) refl))
  where
    last : (b : Bool) → q n ≡ b → AllByRecursion P (map f (cond b (n ∷ []) []))
    last true e = (h n (omega arith) e, tt)
    last false e = tt

pub all_candidates : (P : Ranked → Type 0) (b : Board) (es : Table) (admitted : Pair → Type 0) (place : ℕ) (ps : List Pair) → AllByRecursion admitted ps
    → ((p : Pair) (place m : ℕ) → admitted p → m < length b.cluster.machines → may_grow_in b es p.0 p.1 ≡ true → accepts_in b es p.0 p.1 m ≡ true → has_room_in b.cluster b.sizes es p.0 p.1 m ≡ true → P (ranked_in b es place p m)) → AllByRecursion P (candidates_in b es place ps)
all_candidates P b es admitted place [] a h = tt
all_candidates P b es admitted place (p ∷ ps) a h = all_append P (elim (may_grow_in b es p.0 p.1) as (λ _. List Ranked) [ true ↦ places_in b es place p | false ↦ [] ]) (candidates_in b es (place + 1) ps)
    (elim (may_grow_in b es p.0 p.1) as (λ t. may_grow_in b es p.0 p.1 ≡ t → AllByRecursion P (elim t as (λ _. List Ranked) [ true ↦ places_in b es place p | false ↦ [] ])) [
      | true ↦ λ g. all_below P (ranked_in b es place p) (λ m. accepts_in b es p.0 p.1 m && has_room_in b.cluster b.sizes es p.0 p.1 m) (length b.cluster.machines) (λ m lt e. let x = both_true (accepts_in b es p.0 p.1 m) _ e in h p place m a.0 lt g x.0 x.1)
      | false ↦ λ _. tt
    ] refl)
    (all_candidates P b es admitted (place + 1) ps a.1 h)

record IsGrantableRank (t : TableRecord) (r : Ranked) : Type 0 where
  grantable : IsGrantable t r.spot

-- ---- a placeable pair may be granted
module _ (c : ClusterRecord) (cells : List (List Cell)) (o : List Bool) (t : TableRecord) (w : AreWishes c cells o) (l : AreLevel c (job_at cells) t) (s : IsSound t) where
  held_part : (a u m : ℕ) → held_on t.entries a u m ≤ held t.entries a u
  held_part a u m =
      let e = sum_set (λ s n. cond (nat_eq s.job a && nat_eq s.unit u) n 0) (λ s. zero_either (nat_eq s.job a && nat_eq s.unit u)) (spot a u m) 0 t.entries s.counts.sorted in
      part (nat_eq a a && nat_eq u u) (held (set_count spot_cmp t.entries (spot a u m) 0) a u) (held_on t.entries a u m) (held t.entries a u) (ap (λ b. b && nat_eq u u) (nat_itself a) ∙ nat_itself u) e
    where
      part : (b : Bool) (x y z : ℕ) → b ≡ true → x + cond b y 0 ≡ z + cond b 0 0 → y ≤ z
      part true x y z e h = omega (arith, h)
      part false x y z e h = cc

  pub may : (a u m : ℕ) → u < length (get_or cells a []) → m < length t.cluster.machines → may_grow_in (board_over cells o t) t.entries a u ≡ true → has_room_in t.cluster (size_at (as_known t.jobs)) t.entries a u m ≡ true → IsGrantable t (spot a u m)
  may a u m unit machine grows room =
      let n = count_is c cells t l a in
      let out : nat_lt 0 (out_of (asks_in cells) t.entries a u) ≡ true = (both_true (nat_lt 0 (out_of (asks_in cells) t.entries a u)) _ grows).0 in
      let some : 0 < out_of (asks_in cells) t.entries a u = grind (arith, nat_tests, out) in
      let want = (w.unit a u unit).want in
      let part = held_part a u m in
      let test : ℕ → Bool = λ i. not (nat_lt (has_at t.cluster m i) (total_at (as_known t.jobs) m i t.entries + size_at (as_known t.jobs) a u i)) in
      let both = both_true (is_narrow t.cluster (size_at (as_known t.jobs) a u)) (in_each t.cluster test) room in
      let eight = (w.unit a u unit).size in
      let is = unit_is c cells t l a u unit in
      record {
        unit = omega (arith, n, unit);
        machine = machine;
        few = omega (arith, some, want, part);
        room = λ i. elim (cases_lt i t.cluster.resources) [
          | inl lt ↦ let p : not (nat_lt (has_at t.cluster m i) (total_at (as_known t.jobs) m i t.entries + size_at (as_known t.jobs) a u i)) ≡ true = each_place t.cluster.resources test i both.1 lt in grind (arith, nat_tests, p)
          | inr ge ↦
              let z = narrow_past t a u (cell_at cells a u).unit.size (ap (λ (x : UnitRecord). x.size) is) (omega (arith, eight)) both.0 i ge in
              let f = s.fits m i machine in
              omega (arith, z, f)
        ];
      }

  first_grantable : (line : List Pair) (x : Spot) → AreAdmitted cells line → first_in (board_over cells o t) t.entries line ≡ Some x → IsGrantable t x
  first_grantable line x h e = by (candidates_in (board_over cells o t) t.entries 0 line) (all_candidates (IsGrantableRank t) (board_over cells o t) t.entries (λ (p : Pair). p.1 < length (get_or cells p.0 [])) 0 line h (λ p place m a lt g _ r. record { grantable = may p.0 p.1 m a lt g r })) e
    where
      by : (rs : List Ranked) → AllByRecursion (IsGrantableRank t) rs → first_of rs ≡ Some x → IsGrantable t x
      by [] a e = cc
      by (r ∷ rs) a e = let same : (least r rs).spot ≡ x = cc in subst (IsGrantable t) same (least_has (IsGrantableRank t) r rs a.0 a.1).grantable

  pub pick_grantable : (line : List Pair) (p : Option Pick) → AreAdmitted cells line → option_map spot_of p ≡ first_in (board_over cells o t) t.entries line → IfSome p (λ p. IsGrantable t (spot_of p))
  pick_grantable line None h e = tt
  pick_grantable line (Some p) h e = first_grantable line (spot_of p) h (sym e)
