-- The order of ranks: it is strict, and of pairs put into it the first is the one that ranks before all others.
use Rattle.std.proofs.Common.{◌≡◌, ◌⊎◌, ℕ, ◌<◌, ◌≤◌, Bool, true, false, cond, nat_eq, nat_lt, List, [], ◌∷◌, ◌++◌, refl, sym, ap, subst, inl, inr, arith}
use Rattle.std.proofs.lemmas.Bool.Decides.{nat_tests}
use Rattle.std.specs.List.{AllByRecursion}
use Rattle.fuxi_terms.proofs.Members.{In}
use Rattle.wait_queue.specs.declared.node.Entry.{Entry}
use Rattle.wait_queue.specs.Queues.{Item, is_before, AreBehind, IsInOrder}
use Rattle.locality_tree.specs.Trees.{RankedEntry, ranks_before, IsRanked}
use Rattle.locality_tree.specs.Paths.{IsRanking}
use Rattle.locality_tree.proofs.MembersLemmas.{in_middle, in_wider, in_here, all_in, all_from}

pub not_itself : (p : RankedEntry) → ranks_before p p ≡ true → ⊥
not_itself p h = grind (arith, nat_tests)

pub not_both : (p q : RankedEntry) → ranks_before p q ≡ true → ranks_before q p ≡ true → ⊥
not_both p q h g = grind (arith, nat_tests)

pub ranks_on : (p q r : RankedEntry) → ranks_before p q ≡ true → ranks_before q r ≡ true → ranks_before p r ≡ true
ranks_on p q r h g = grind (arith, nat_tests)

-- of two levels, where the priority does not rise; of two priorities; of one level, by the order of a queue
pub by_level : (p q : RankedEntry) (l k : ℕ) → p.1 ≡ l → q.1 ≡ k → l < k → q.0.priority ≤ p.0.priority → ranks_before p q ≡ true
by_level p q l k e f less h = grind (arith, nat_tests)

pub by_priority : (p q : RankedEntry) → q.0.priority < p.0.priority → ranks_before p q ≡ true
by_priority p q h = grind (arith, nat_tests)

pub by_order : (l : ℕ) (a b : Entry) → is_before true a b ≡ true → ranks_before (a, l) (b, l) ≡ true
by_order l a b h = grind (arith, nat_tests)

falls : (p q : RankedEntry) → ranks_before p q ≡ true → q.0.priority ≤ p.0.priority
falls p q h = grind (arith, nat_tests)

-- no pair in order has a greater priority than the head
pub head_most : (p : RankedEntry) (ps : List RankedEntry) (q : RankedEntry) → IsRanked (p ∷ ps) → In q (p ∷ ps) → q.0.priority ≤ p.0.priority
head_most p ps q h (inl e) = subst (λ (r : RankedEntry). r.0.priority ≤ p.0.priority) (sym e) (omega arith)
head_most p ps q h (inr g) = falls p q (all_in (λ r. ranks_before p r ≡ true) ps q h.0 g)

least_first : (pairs : List RankedEntry) (b : RankedEntry) → IsRanked pairs → In b pairs → ((q : RankedEntry) → In q pairs → (q ≡ b) ⊎ (ranks_before b q ≡ true)) → (rest : List RankedEntry) × (pairs ≡ b ∷ rest)
least_first [] b r g least = absurd g
least_first (p ∷ ps) b r (inl e) least = (ps, ap (λ (x : RankedEntry). x ∷ ps) (sym e))
least_first (p ∷ ps) b r (inr g) least = elim (least p (inl refl)) as (λ _. (rest : List RankedEntry) × (p ∷ ps ≡ b ∷ rest)) [
  | inl e ↦ (ps, ap (λ (x : RankedEntry). x ∷ ps) e)
  | inr h ↦ absurd (not_both p b (all_in (λ q. ranks_before p q ≡ true) ps b r.0 g) h)
]

-- What one step leaves: the best pair is the first, and the rest are the others, in order.
pub record FirstLeft (pairs : List RankedEntry) (b : RankedEntry) (others : List RankedEntry) : Type 0 where
  pub rest : List RankedEntry
  pub is : pairs ≡ b ∷ rest
  pub ranking : IsRanking rest others

pub first_left : (pairs xs : List RankedEntry) (b : RankedEntry) (ys : List RankedEntry) → IsRanking pairs (xs ++ b ∷ ys) → ((q : RankedEntry) → In q (xs ++ ys) → ranks_before b q ≡ true) → FirstLeft pairs b (xs ++ ys)
first_left pairs xs b ys r best =
    let least : (q : RankedEntry) → In q pairs → (q ≡ b) ⊎ (ranks_before b q ≡ true) = λ q g. elim (in_middle q xs b ys (r.sound q g)) as (λ _. (q ≡ b) ⊎ (ranks_before b q ≡ true)) [ inl e ↦ inl e | inr h ↦ inr (best q h) ] in
    let f = least_first pairs b r.ranked (r.complete b (in_here xs b ys)) least in
    let ranked : IsRanked (b ∷ f.0) = subst (λ (l : List RankedEntry). IsRanked l) f.1 r.ranked in
    record {
      rest = f.0;
      is = f.1;
      ranking = record {
        ranked = ranked.1;
        sound = λ p g. elim (in_middle p xs b ys (r.sound p (subst (λ (l : List RankedEntry). In p l) (sym f.1) (inr g)))) as (λ _. In p (xs ++ ys)) [
          | inl e ↦ absurd (not_itself b (subst (λ (x : RankedEntry). ranks_before b x ≡ true) e (all_in (λ q. ranks_before b q ≡ true) f.0 p ranked.0 g)))
          | inr h ↦ h
        ];
        complete = λ p g. elim (subst (λ (l : List RankedEntry). In p l) f.1 (r.complete p (in_wider p xs b ys g))) as (λ _. In p f.0) [
          | inl e ↦ absurd (not_itself b (subst (λ (x : RankedEntry). ranks_before b x ≡ true) e (best p g)))
          | inr h ↦ h
        ];
      };
    }

pub none_left : (pairs : List RankedEntry) → IsRanking pairs [] → pairs ≡ []
none_left [] r = refl
none_left (p ∷ ps) r = absurd (r.sound p (inl refl))

-- Whatever pairs are comparable with one another can be put into order.
put : RankedEntry → List RankedEntry → List RankedEntry
put p [] = p ∷ []
put p (q ∷ qs) = cond (ranks_before p q) (p ∷ q ∷ qs) (q ∷ put p qs)

put_in : (p : RankedEntry) (qs : List RankedEntry) (x : RankedEntry) → In x (p ∷ qs) → In x (put p qs)
unfolding put
put_in p [] x h = h
put_in p (q ∷ qs) x h = elim (ranks_before p q) as (λ b. In x (cond b (p ∷ q ∷ qs) (q ∷ put p qs))) [
  | true ↦ h
  | false ↦ elim h as (λ _. In x (q ∷ put p qs)) [
    | inl e ↦ inr (put_in p qs x (inl e))
    | inr g ↦ elim g as (λ _. In x (q ∷ put p qs)) [ inl e ↦ inl e | inr i ↦ inr (put_in p qs x (inr i)) ]
  ]
]

put_out : (p : RankedEntry) (qs : List RankedEntry) (x : RankedEntry) → In x (put p qs) → In x (p ∷ qs)
unfolding put
put_out p [] x h = h
put_out p (q ∷ qs) x h = (elim (ranks_before p q) as (λ b. In x (cond b (p ∷ q ∷ qs) (q ∷ put p qs)) → In x (p ∷ q ∷ qs)) [
  | true ↦ λ g. g
  | false ↦ λ g. elim g as (λ _. In x (p ∷ q ∷ qs)) [
    | inl e ↦ inr (inl e)
    | inr i ↦ elim (put_out p qs x i) as (λ _. In x (p ∷ q ∷ qs)) [ inl e ↦ inl e | inr j ↦ inr (inr j) ]
  ]
]) h

abbrev pub AreComparable : RankedEntry → RankedEntry → Type 0
AreComparable p q = (ranks_before p q ≡ true) ⊎ (ranks_before q p ≡ true)

put_ranked : (p : RankedEntry) (qs : List RankedEntry) → IsRanked qs → AllByRecursion (AreComparable p) qs → IsRanked (put p qs)
unfolding put
put_ranked p [] r d = (tt, tt)
put_ranked p (q ∷ qs) r d = on (ranks_before p q) refl (put_ranked p qs r.1 d.1)
  where
    on : (b : Bool) → ranks_before p q ≡ b → IsRanked (put p qs) → IsRanked (cond b (p ∷ q ∷ qs) (q ∷ put p qs))
    on true e rest = ((e, all_from (λ x. ranks_before p x ≡ true) qs (λ x g. ranks_on p q x e (all_in (λ y. ranks_before q y ≡ true) qs x r.0 g))), r)
    on false e rest =
        let before : ranks_before q p ≡ true = elim d.0 as (λ _. ranks_before q p ≡ true) [ inl f ↦ absurd (cc) | inr f ↦ f ] in (
          all_from (λ x. ranks_before q x ≡ true) (put p qs) (λ x g. elim (put_out p qs x g) as (λ _. ranks_before q x ≡ true) [
            | inl f ↦ subst (λ (y : RankedEntry). ranks_before q y ≡ true) (sym f) before
            | inr f ↦ all_in (λ y. ranks_before q y ≡ true) qs x r.0 f
          ]),
          rest,
        )

-- every entry of a queue, each with its level
abbrev pub with_levels : (Entry → ℕ) → List Item → List RankedEntry
with_levels level [] = []
with_levels level (i ∷ is) = (i.1, level i.1) ∷ with_levels level is

one_ranks : (a b : Entry) (l k : ℕ) → is_before true a b ≡ true → AreComparable (a, l) (b, k)
one_ranks a b l k h = by (nat_eq a.priority b.priority) refl (nat_lt k l) refl
  where
    by : (x : Bool) → nat_eq a.priority b.priority ≡ x → (y : Bool) → nat_lt k l ≡ y → AreComparable (a, l) (b, k)
    by true e true f = inr (grind (arith, nat_tests))
    by true e false f = inl (grind (arith, nat_tests))
    by false e y f = inl (grind (arith, nat_tests))

pub record Sorted (level : Entry → ℕ) (items : List Item) : Type 0 where
  pub pairs : List RankedEntry
  pub ranking : IsRanking pairs (with_levels level items)

pub sorted : (level : Entry → ℕ) (items : List Item) → IsInOrder true items → Sorted level items
sorted level [] o = record { pairs = []; ranking = record { ranked = tt; sound = λ p g. g; complete = λ p g. g } }
sorted level (i ∷ is) o =
    let s = sorted level is o.1 in
    let r = s.ranking in
    let p : RankedEntry = (i.1, level i.1) in
    record {
      pairs = put p s.pairs;
      ranking = record {
        ranked = put_ranked p s.pairs r.ranked (all_from (AreComparable p) s.pairs (λ q g. all_in (AreComparable p) (with_levels level is) q (all_rank is o.0) (r.sound q g)));
        sound = λ q g. elim (put_out p s.pairs q g) as (λ _. In q (p ∷ with_levels level is)) [ inl e ↦ inl e | inr h ↦ inr (r.sound q h) ];
        complete = λ q g. put_in p s.pairs q (elim g as (λ _. In q (p ∷ s.pairs)) [ inl e ↦ inl e | inr h ↦ inr (r.complete q h) ]);
      };
    }
  where
    all_rank : (is : List Item) → AreBehind true i.1 is → AllByRecursion (AreComparable (i.1, level i.1)) (with_levels level is)
    all_rank [] h = tt
    all_rank (j ∷ js) h = (one_ranks i.1 j.1 (level i.1) (level j.1) h.0, all_rank js h.1)
