-- What a search knows of the machines that it passes.
use Rattle.std.proofs.Common.{◌≡◌, ℕ, ◌<◌, ◌≤◌, Bool, true, false, cond, not, nat_eq, nat_lt, List, [], Option, None, Some, get_or, refl, sym, ◌∙◌, ap, subst, inl, inr, ◌⊎◌, arith}
use Rattle.std.specs.Prelude.{◌&&◌, is_some, IfSome, IsSomeAnd}
use Rattle.std.specs.Option.{option_map}
use Rattle.std.proofs.lemmas.Bool.{cases_lt}
use Rattle.std.proofs.lemmas.Bool.Decides.{nat_tests}
use Rattle.fuxi_terms.proofs.Booleans.{both_true, number_is}
use Rattle.place_pass.specs.Bounds.{MarkRecord, rank_of, mark_at, key_of, zero_rank, bounded_mark}
use Rattle.place_pass.specs.PackedRanks.{packed, no_rank, IsSmall, IsAbove}
use Rattle.place_pass.specs.SearchCounts.{is_unsettled_by}
use Rattle.place_pass.specs.Scenes.{board_in, CanSearch, IsMarked, AreMarked, IsLeastOn, IsSettledBy, IsEarliest}
use Rattle.place_pass.specs.Candidates.{IsBehind, AreBehind, ArePassed, IsRaised, limit_in, found_rank, turn_in}
use Rattle.place_pass.specs.declared.marks.mark.Rank.{Rank}
use Rattle.place_pass.specs.declared.search.BestFound.{BestFound}
use Rattle.place_pass.specs.declared.search.Least.{Least}
use Rattle.place_pass.specs.declared.search.SearchInput.{SearchInput}
use Rattle.place_pass.proofs.PackedRanksLemmas.{not_first, never_above, none_above, above_less}
use Rattle.place_pass.proofs.ScenesLemmas.{key_seen}
use Rattle.place_pass.proofs.CandidatesLemmas.{bounded_by, least_passed, least_settled, settled_key}

abbrev pub is_other : SearchInput → ℕ → List MarkRecord → ℕ → Bool
is_other s start marks m = not (nat_eq m start) && is_unsettled_by s.wishes.now.opened (mark_at marks m) s.turns m

-- ---- a machine whose bound has a number that is not below that of the best
module _ (s : SearchInput) (marks : List MarkRecord) (best : Option BestFound) (m : ℕ) (are : AreMarked s marks) (few : m ≤ 256)
    (above : is_unsettled_by s.wishes.now.opened (mark_at marks m) s.turns m ≡ true → IsAbove (mark_at marks m) s.turns m (limit_in best)) where
  least_by_number : CanSearch s → IsLeastOn s best m
  least_by_number ready = elim (is_unsettled_by s.wishes.now.opened (mark_at marks m) s.turns m) as (λ b. is_unsettled_by s.wishes.now.opened (mark_at marks m) s.turns m ≡ b → IsLeastOn s best m) [
    | true ↦ λ u.
        let h = above u in
        let opened = (both_true (get_or s.wishes.now.opened m false) (is_some (key_of (mark_at marks m) s.turns)) u).0 in
        least_passed (board_in s) s.table.now.entries (turn_in s.turn_of.now) s.line.now.pairs m best (rank_of h.key) (mark_at marks m).groups refl (not_first best (mark_at marks m) s.turns m few h)
        (key_seen s ready m (mark_at marks m) (are m) opened (Some (rank_of h.key)) h.is)
    | false ↦ λ u. least_settled s.wishes.now.cells s.wishes.now.opened s.table.now (turn_in s.turn_of.now) s.line.now.pairs (mark_at marks m) m s.turns (found_rank best) u ready.below (are m).bounded
  ] refl

  settled_by_number : best ≡ None → IsSettledBy s m (mark_at marks m)
  settled_by_number none = settled_key (get_or s.wishes.now.opened m false) (key_of (mark_at marks m) s.turns) (elim (is_unsettled_by s.wishes.now.opened (mark_at marks m) s.turns m) as (λ b. is_unsettled_by s.wishes.now.opened (mark_at marks m) s.turns m ≡ b → b ≡ false) [
    | true ↦ λ u. absurd (never_above (mark_at marks m) s.turns m few (subst (IsAbove (mark_at marks m) s.turns m) (ap limit_in none) (above u)))
    | false ↦ λ _. refl
  ] refl)

-- ---- machines from one on, each of whose marks is raised to a rank
pub at_one : (n m : ℕ) (P : ℕ → Type 0) → P n → (nat_eq n m ≡ false → P m) → P m
at_one n m P here other = elim (nat_eq n m) as (λ b. nat_eq n m ≡ b → P m) [
  | true ↦ λ e. subst P (number_is n m e) here
  | false ↦ other
] refl

raised_then : (limit turns m : ℕ) (bound : Option (List ℕ)) (before after : MarkRecord) (P : Type 0) → IsRaised limit bound turns m before after
    → (after ≡ bounded_mark bound turns before → P) → (after ≡ before → (is_some (key_of before turns) ≡ true → IsAbove before turns m limit) → P) → P
raised_then limit turns m bound before after P h raised same = elim h.is as (λ _. P) [
  | inl e ↦ raised e
  | inr e ↦ same e.0 e.1
]

pub raised_or_same : (limit turns m : ℕ) (bound : Option (List ℕ)) (before after : MarkRecord) → IsRaised limit bound turns m before after → (after ≡ before) ⊎ (after ≡ bounded_mark bound turns before)
raised_or_same limit turns m bound before after h = raised_then limit turns m bound before after ((after ≡ before) ⊎ (after ≡ bounded_mark bound turns before)) h (λ e. inr e) (λ e _. inl e)

bounded_key : (bound : Option (List ℕ)) (turns : ℕ) (k : MarkRecord) → key_of (bounded_mark bound turns k) turns ≡ bound
bounded_key bound turns k = let t : nat_lt turns turns ≡ false = grind (arith, nat_tests) in ap (λ b. cond b (Some zero_rank) bound) t

-- with no rank a machine is settled then
pub raised_settled : (limit turns m : ℕ) (before after : MarkRecord) → limit ≡ no_rank → m ≤ 256 → IsRaised limit None turns m before after → key_of after turns ≡ None
raised_settled limit turns m before after all few h = raised_then limit turns m None before after (key_of after turns ≡ None) h
    (λ e. ap (λ (k : MarkRecord). key_of k turns) e ∙ bounded_key None turns before)
    (λ e above. ap (λ (k : MarkRecord). key_of k turns) e ∙ none_above before turns m limit all few above)

-- with a rank that does not come before the limit its bound does not
rank_above : (x : Rank) (k : MarkRecord) (turns from m limit : ℕ) → from ≤ m → IsSmall x → limit ≤ packed x from → IsAbove (bounded_mark (Some (rank_of x)) turns k) turns m limit
rank_above x k turns from m limit le small later = record { key = x; is = bounded_key (Some (rank_of x)) turns k; small = small; above = omega (arith, le, later) }

pub earliest_above : (earliest : Option Rank) (k : MarkRecord) (turns from m limit : ℕ) → from ≤ m → IfSome earliest (λ x. IsSmall x) → IsSomeAnd earliest (λ x. limit ≤ packed x from) → IsAbove (bounded_mark (option_map rank_of earliest) turns k) turns m limit
earliest_above None k turns from m limit le small later = absurd later
earliest_above (Some x) k turns from m limit le small later = rank_above x k turns from m limit le small later

pub raised_above : (earliest : Option Rank) (limit turns from m : ℕ) (before after : MarkRecord) → from ≤ m → IfSome earliest (λ x. IsSmall x) → IsSomeAnd earliest (λ x. limit ≤ packed x from) → IsRaised limit (option_map rank_of earliest) turns m before after
    → is_some (key_of after turns) ≡ true → IsAbove after turns m limit
raised_above earliest limit turns from m before after le small later h some = raised_then limit turns m (option_map rank_of earliest) before after (IsAbove after turns m limit) h
    (λ e. subst (λ (k : MarkRecord). IsAbove k turns m limit) (sym e) (earliest_above earliest before turns from m limit le small later))
    (λ e above. subst (λ (k : MarkRecord). IsAbove k turns m limit) (sym e) (above (ap (λ (k : MarkRecord). is_some (key_of k turns)) (sym e) ∙ some)))

-- there is a best then
pub later_some : (earliest : Option Rank) (best : Option BestFound) (from : ℕ) → from ≤ 256 → IfSome earliest (λ x. IsSmall x) → IsSomeAnd earliest (λ x. limit_in best ≤ packed x from) → best ≡ None → ⊥
later_some earliest best from few small later none =
    let k : MarkRecord = record { bound = None; until = 0; groups = [] } in
    never_above (bounded_mark (option_map rank_of earliest) 0 k) 0 from few
    (subst (IsAbove (bounded_mark (option_map rank_of earliest) 0 k) 0 from) (ap limit_in none) (earliest_above earliest k 0 from from (limit_in best) (omega arith) small later))

-- ---- machines that it passes: the one that it considered first, and those whose bound does not come before the best
passed_one : (start m : ℕ) (P : ℕ → Type 0) → P start → (nat_eq m start ≡ false → P m) → P m
passed_one start m P first other = elim (nat_eq m start) as (λ b. nat_eq m start ≡ b → P m) [
  | true ↦ λ e. subst P (sym (number_is m start e)) first
  | false ↦ other
] refl

module _ (s : SearchInput) (start from to : ℕ) (marks : List MarkRecord) (best : Option BestFound) (are : AreMarked s marks) (few : to ≤ 256) (passed : ArePassed marks s.turns start from to best) where
  above_at : (m : ℕ) → from ≤ m → m < to → nat_eq m start ≡ false → is_unsettled_by s.wishes.now.opened (mark_at marks m) s.turns m ≡ true → IsAbove (mark_at marks m) s.turns m (limit_in best)
  above_at m ge lt other u = passed m ge lt other (both_true (get_or s.wishes.now.opened m false) (is_some (key_of (mark_at marks m) s.turns)) u).1

  pub passed_least : CanSearch s → IsLeastOn s best start → ((m : ℕ) → m < from → IsLeastOn s best m) → (m : ℕ) → m < to → IsLeastOn s best m
  passed_least ready seen least m lt = elim (cases_lt m from) as (λ _. IsLeastOn s best m) [
    | inl less ↦ least m less
    | inr ge ↦ passed_one start m (IsLeastOn s best) seen (λ other. least_by_number s marks best m are (omega (arith, lt, few)) (above_at m ge lt other) ready)
  ]

  pub passed_settled : best ≡ None → IsSettledBy s start (mark_at marks start) → ((m : ℕ) → m < from → IsSettledBy s m (mark_at marks m)) → (m : ℕ) → m < to → IsSettledBy s m (mark_at marks m)
  passed_settled none first settled m lt = elim (cases_lt m from) as (λ _. IsSettledBy s m (mark_at marks m)) [
    | inl less ↦ settled m less
    | inr ge ↦ passed_one start m (λ z. IsSettledBy s z (mark_at marks z)) first (λ other. settled_by_number s marks best m are (omega (arith, lt, few)) (above_at m ge lt other) none)
  ]

-- ---- the machine of least bound
some_is : (x y : Least) → Some x ≡ Some y → x ≡ y
some_is x y e = cc

limit_less : (best : Option BestFound) (number : ℕ) → IsSomeAnd best (λ x. packed x.rank x.pick.machine.0 ≤ number) → limit_in best ≤ number
limit_less None number h = absurd h
limit_less (Some x) number h = h

-- where what was found has a number that is not above the least, no machine comes before it
pub decided : (s : SearchInput) (marks : List MarkRecord) (least : Least) (best : Option BestFound) (m : ℕ) → CanSearch s → AreMarked s marks → m ≤ 256 → IsSomeAnd best (λ x. packed x.rank x.pick.machine.0 ≤ least.key)
    → (is_unsettled_by s.wishes.now.opened (mark_at marks m) s.turns m ≡ true → IsBehind (mark_at marks m) s.turns m (Some least)) → IsLeastOn s best m
decided s marks least best m ready are few no_less behind = least_by_number s marks best m are few
    (λ u. let h = behind u in
    let one = subst (λ (x : Least). IsAbove (mark_at marks m) s.turns m x.key) (sym (some_is least h.one h.some)) h.above in
    above_less (mark_at marks m) s.turns m least.key (limit_in best) (limit_less best least.key no_less) one) ready

-- where there is no machine of least bound each is settled
pub none_unsettled : (o : List Bool) (marks : List MarkRecord) (t n m : ℕ) → AreBehind o marks t n None → m < n → is_unsettled_by o (mark_at marks m) t m ≡ false
none_unsettled o marks t n m behind lt = elim (is_unsettled_by o (mark_at marks m) t m) as (λ b. is_unsettled_by o (mark_at marks m) t m ≡ b → b ≡ false) [
  | true ↦ λ u. let h = behind m lt u in let f = h.some in cc
  | false ↦ λ _. refl
] refl

-- ---- a machine of which the mark says that a rank bounds the line everywhere
marked_raised : (s : SearchInput) (m : ℕ) (x : Rank) (k : MarkRecord) → IsEarliest s x → IsMarked s m (bounded_mark (Some (rank_of x)) s.turns k)
marked_raised s m x k earliest = record {
  bounded = λ opened. record { bounded = λ q has lt. bounded_by (board_in s) s.table.now.entries (Some (rank_of x)) k.groups (turn_in s.turn_of.now q) q m (earliest.bounded q m has) };
  later = λ opened a u turn here ge lt. absurd (omega (arith, ge, lt));
}

pub earliest_marked : (s : SearchInput) (m limit from : ℕ) (earliest : Option Rank) (k : MarkRecord) → IfSome earliest (λ x. IsEarliest s x) → IsSomeAnd earliest (λ x. limit ≤ packed x from) → IsMarked s m (bounded_mark (option_map rank_of earliest) s.turns k)
earliest_marked s m limit from None k h later = absurd later
earliest_marked s m limit from (Some x) k h later = marked_raised s m x k h
