-- What a walk along a demand finds next of a kind and a unit.
use Rattle.std.proofs.Common.{◌≡◌, ℕ, ◌-◌, ◌<◌, ◌≤◌, Bool, true, false, nat_eq, List, length, get_or, refl, sym, ◌∙◌, ap, subst, arith, true≢false, inl, inr}
use Rattle.std.specs.Prelude.{◌&&◌, T}
use Rattle.std.specs.Ordering.{nat_cmp, is_lt, is_eq, ordering_then}
use Rattle.std.specs.FinMap.Entries.{is_sorted}
use Rattle.std.specs.declared.cmp.Ordering.{Ordering}
use Rattle.std.specs.declared.cmp.Ordering.TheVariants.{Less, Equal, Greater}
use Rattle.std.proofs.lemmas.Bool.{cases_lt}
use Rattle.std.proofs.lemmas.Bool.Decides.{nat_tests}
use Rattle.std.proofs.lemmas.List.{drop_all}
use Rattle.fuxi_terms.specs.Counts.{count}
use Rattle.fuxi_terms.specs.Keys.{key_cmp}
use Rattle.fuxi_terms.specs.TallyKeys.{key}
use Rattle.fuxi_terms.specs.declared.Key.{Key}
use Rattle.fuxi_terms.proofs.Booleans.{both_true, number_is}
use Rattle.place_pass.specs.DemandWalks.{IsPast, IsNextAsked}
use Rattle.place_pass.proofs.DemandWalksLemmas.{found_here, found_later, itself, later_past, stands_nowhere}
use Rattle.fuxi_terms.proofs.NumberOrders.{compared_greater, compared_less, compared_itself}

-- a key is of the kind and unit of another
abbrev pub is_kind : Key → Key → Bool
is_kind e k = nat_eq e.what k.what && nat_eq e.unit k.unit

same_number : (x y : ℕ) → nat_cmp x y ≡ Equal → nat_eq x y ≡ true
same_number x y e = elim (nat_eq x y) as (λ b. nat_eq x y ≡ b → b ≡ true) [
  | true ↦ λ _. refl
  | false ↦ λ f. elim (cases_lt x y) [
    | inl lt ↦ let g : Less ≡ Equal = sym (compared_less x y lt) ∙ e in cc
    | inr ge ↦ let lt : y < x = grind (arith, nat_tests, f, ge) in let g : Greater ≡ Equal = sym (compared_greater x y lt) ∙ e in cc
  ]
] refl

-- a key of another kind or unit that is not below one comes behind all of its kind and unit
other_kind : (e k : Key) (n : ℕ) → is_kind e k ≡ false → is_lt (key_cmp e k) ≡ false → key_cmp e (key k.what k.unit n) ≡ Greater
other_kind e k n other above = by (nat_cmp e.what k.what) (nat_cmp e.unit k.unit) refl refl above
  where
    by : (o p : Ordering) → nat_cmp e.what k.what ≡ o → nat_cmp e.unit k.unit ≡ p → is_lt (ordering_then o (ordering_then p (nat_cmp e.number k.number))) ≡ false → ordering_then o (ordering_then p (nat_cmp e.number n)) ≡ Greater
    by Less p a b h = cc
    by Greater p a b h = refl
    by Equal Less a b h = cc
    by Equal Greater a b h = refl
    by Equal Equal a b h =
        let w : nat_eq e.what k.what ≡ true = same_number e.what k.what a in
        let u : nat_eq e.unit k.unit ≡ true = same_number e.unit k.unit b in
        let f : true ≡ false = sym (ap (λ x. x && nat_eq e.unit k.unit) w ∙ u) ∙ other in cc

-- keys of one kind and unit stand by their numbers
same_kind : (e k : Key) (n : ℕ) → is_kind e k ≡ true → key_cmp e (key k.what k.unit n) ≡ nat_cmp e.number n
same_kind e k n same =
    let both = both_true (nat_eq e.what k.what) (nat_eq e.unit k.unit) same in
    let w : e.what ≡ k.what = number_is e.what k.what both.0 in
    let u : e.unit ≡ k.unit = number_is e.unit k.unit both.1 in
    ap (λ x. ordering_then (nat_cmp x k.what) (ordering_then (nat_cmp e.unit k.unit) (nat_cmp e.number n))) w
    ∙ ap (λ o. ordering_then o (ordering_then (nat_cmp e.unit k.unit) (nat_cmp e.number n))) (compared_itself k.what)
    ∙ ap (λ x. ordering_then (nat_cmp x k.unit) (nat_cmp e.number n)) u
    ∙ ap (λ o. ordering_then o (nat_cmp e.number n)) (compared_itself k.unit)

past_on : (es : List (Key × ℕ)) (at : ℕ) (k : Key) (n : ℕ) → k.number ≤ n → IsPast es at k → IsPast es at (key k.what k.unit n)
past_on es at k n le past = elim (cases_lt k.number n) as (λ _. IsPast es at (key k.what k.unit n)) [
  | inl lt ↦ later_past es at k.what k.unit k.number n lt past
  | inr ge ↦ subst (λ m. IsPast es at (key k.what k.unit m)) (let e : k.number ≡ n = omega (arith, le, ge) in e) past
]

-- ---- nothing is asked, since no entry is left, or what stands next comes later
none_left : (es : List (Key × ℕ)) (k : Key) (at n : ℕ) → length es ≤ at → IsPast es at k → k.number ≤ n → count key_cmp es (key k.what k.unit n) ≡ 0
none_left es k at n end past ge = stands_nowhere es at (key k.what k.unit n) (drop_all at es end) (itself (key k.what k.unit n)) (past_on es at k n ge past)

none_later : (es : List (Key × ℕ)) (k : Key) (at n : ℕ) (d : Key × ℕ) → T (is_sorted key_cmp es) → at < length es → key_cmp (get_or es at d).0 (key k.what k.unit n) ≡ Greater → IsPast es at k → k.number ≤ n
    → count key_cmp es (key k.what k.unit n) ≡ 0
none_later es k at n d sorted lt greater past ge = found_later es at (key k.what k.unit n) d sorted lt (ap is_eq greater) (ap is_lt greater) (past_on es at k n ge past)

-- ---- what is asked next
nothing_next : (es : List (Key × ℕ)) (k : Key) (end at : ℕ) → k.number < end → IsPast es at k → ((n : ℕ) → k.number ≤ n → n < end → count key_cmp es (key k.what k.unit n) ≡ 0) → IsNextAsked es k end (end - 1) 0 at
nothing_next es k end at lt past none =
    let least : k.number ≤ end - 1 = omega (arith, lt) in
    let inside : end - 1 < end = omega (arith, lt) in
    record {
      least = least;
      inside = inside;
      asked = sym (none (end - 1) least inside);
      between = λ n ge l. none n ge (omega (arith, l));
      past = past_on es at k (end - 1) least past;
    }

pub next_past_end : (es : List (Key × ℕ)) (k : Key) (end at : ℕ) → k.number < end → IsPast es at k → length es ≤ at → IsNextAsked es k end (end - 1) 0 at
next_past_end es k end at lt past le = nothing_next es k end at lt past (λ n ge l. none_left es k at n le past ge)

module _ (es : List (Key × ℕ)) (k : Key) (end at : ℕ) (d : Key × ℕ) (inside : k.number < end) (past : IsPast es at k) (sorted : T (is_sorted key_cmp es)) (lt : at < length es) where
  pub next_other : is_kind (get_or es at d).0 k ≡ false → is_lt (key_cmp (get_or es at d).0 k) ≡ false → IsNextAsked es k end (end - 1) 0 at
  next_other other above = nothing_next es k end at inside past (λ n ge l. none_later es k at n d sorted lt (other_kind (get_or es at d).0 k n other above) past ge)

  pub next_beyond : is_kind (get_or es at d).0 k ≡ true → end ≤ (get_or es at d).0.number → IsNextAsked es k end (end - 1) 0 at
  next_beyond same le = nothing_next es k end at inside past (λ n ge l.
      none_later es k at n d sorted lt (same_kind (get_or es at d).0 k n same ∙ compared_greater (get_or es at d).0.number n (omega (arith, l, le))) past ge)

  pub next_here : is_kind (get_or es at d).0 k ≡ true → is_lt (key_cmp (get_or es at d).0 k) ≡ false → (get_or es at d).0.number < end → IsNextAsked es k end (get_or es at d).0.number (get_or es at d).1 at
  next_here same above below =
      let e : Key = (get_or es at d).0 in
      let least : k.number ≤ e.number = elim (cases_lt e.number k.number) [
        | inl l ↦ absurd (true≢false (sym (ap is_lt (same_kind e k k.number same ∙ compared_less e.number k.number l)) ∙ above))
        | inr ge ↦ ge
      ] in
      record {
        least = least;
        inside = below;
        asked = sym (found_here es at (key k.what k.unit e.number) d lt (ap is_eq (same_kind e k e.number same ∙ compared_itself e.number)) (past_on es at k e.number least past));
        between = λ n ge l. none_later es k at n d sorted lt (same_kind e k n same ∙ compared_greater e.number n l) past ge;
        past = past_on es at k e.number least past;
      }
