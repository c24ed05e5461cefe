-- The first of many is the one whose rank is below that of every other, in whatever order they stand.
use Rattle.std.proofs.Common.{◌≡◌, Bool, true, false, cond, List, [], ◌∷◌, Some, refl, sym, ◌∙◌, ap, subst, ◌⊎◌, inl, inr}
use Rattle.std.specs.Ordering.{nat_cmp, is_lt, ordering_reverse}
use Rattle.std.specs.Cmp.{IsTotalOrder, nat_cmp_total}
use Rattle.std.specs.Cmp.Lexicographic.{slice_cmp, lists_total}
use Rattle.std.specs.declared.cmp.Ordering.{Ordering}
use Rattle.std.specs.declared.cmp.Ordering.TheVariants.{Less, Equal, Greater}
use Rattle.spec_roles.specs.Placing.{Ranked, least, first_of}
use Rattle.fuxi_terms.proofs.Members.{In}

abbrev before : Ranked → Ranked → Bool
before r s = is_lt (slice_cmp nat_cmp r.rank s.rank)

-- r comes before all others of the list
abbrev pub ComesFirst : Ranked → List Ranked → Type 0
ComesFirst r rs = (x : Ranked) → In x rs → (x ≡ r) ⊎ (is_lt (slice_cmp nat_cmp r.rank x.rank) ≡ true)

order : IsTotalOrder (slice_cmp nat_cmp)
order = lists_total nat_cmp_total

turned : (o : Ordering) → is_lt o ≡ true → is_lt (ordering_reverse o) ≡ false
turned Less e = refl
turned Equal e = cc
turned Greater e = cc

not_after : (r s : Ranked) → before r s ≡ true → before s r ≡ false
not_after r s e = ap is_lt (order.antisymm s.rank r.rank) ∙ turned (slice_cmp nat_cmp r.rank s.rank) e

-- once it is held, it is kept
kept : (r : Ranked) (ss : List Ranked) → ComesFirst r ss → least r ss ≡ r
kept r [] h = refl
kept r (s ∷ ss) h =
    let same : cond (before s r) s r ≡ r = elim (h s (inl refl)) [
      | inl e ↦ elim (before s r) as (λ b. cond b s r ≡ r) [ true ↦ e | false ↦ refl ]
      | inr lt ↦ ap (λ b. cond b s r) (not_after r s lt)
    ] in
    ap (λ x. least x ss) same ∙ kept r ss (λ x i. h x (inr i))

found : (r q : Ranked) (ss : List Ranked) → In r (q ∷ ss) → ComesFirst r (q ∷ ss) → least q ss ≡ r
found r q ss (inl e) h = subst (λ x. least x ss ≡ r) e (kept r ss (λ x i. h x (inr i)))
found r q [] (inr i) h = absurd i
found r q (s ∷ ss) (inr i) h =
    -- of q and s the one that goes on is r, or r stands later
    elim (h q (inl refl)) [
      | inl e ↦ subst (λ x. least x (s ∷ ss) ≡ r) (sym e) (kept r (s ∷ ss) (λ x j. h x (inr j)))
      | inr lt ↦ elim i [
        | inl e ↦
            let goes : cond (before s q) s q ≡ r = subst (λ x. cond (before x q) x q ≡ r) e (ap (λ b. cond b r q) lt) in
            ap (λ x. least x ss) goes ∙ kept r ss (λ x j. h x (inr (inr j)))
        | inr later ↦ elim (before s q) as (λ b. least (cond b s q) ss ≡ r) [
          | true ↦ found r s ss (inr later) (λ x j. h x (inr j))
          | false ↦ found r q ss (inr later) (λ x j. elim j [ inl e ↦ h x (inl e) | inr k ↦ h x (inr (inr k)) ])
        ]
      ]
    ]

pub first_is : (r : Ranked) (rs : List Ranked) → In r rs → ComesFirst r rs → first_of rs ≡ Some r.spot
first_is r [] i h = absurd i
first_is r (q ∷ qs) i h = ap (λ (x : Ranked). Some x.spot) (found r q qs i h)
