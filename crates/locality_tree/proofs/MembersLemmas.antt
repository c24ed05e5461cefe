-- Members of lists that are put together.
use Rattle.std.proofs.Common.{◌≡◌, ◌⊎◌, ℕ, zero, suc, ◌<◌, List, [], ◌∷◌, ◌++◌, length, get_or, refl, sym, ap, subst, inl, inr, arith}
use Rattle.std.specs.List.{AllByRecursion}
use Rattle.fuxi_terms.proofs.Members.{In}

pub in_append : {A : Type 0} (x : A) (xs ys : List A) → In x (xs ++ ys) → In x xs ⊎ In x ys
in_append x [] ys h = inr h
in_append x (z ∷ zs) ys (inl e) = inl (inl e)
in_append x (z ∷ zs) ys (inr h) = elim (in_append x zs ys h) as (λ _. In x (z ∷ zs) ⊎ In x ys) [ inl g ↦ inl (inr g) | inr g ↦ inr g ]

-- one more in the middle
pub in_here : {A : Type 0} (front : List A) (y : A) (back : List A) → In y (front ++ y ∷ back)
in_here [] y back = inl refl
in_here (z ∷ zs) y back = inr (in_here zs y back)

pub in_wider : {A : Type 0} (x : A) (front : List A) (y : A) (back : List A) → In x (front ++ back) → In x (front ++ y ∷ back)
in_wider x [] y back h = inr h
in_wider x (z ∷ zs) y back (inl e) = inl e
in_wider x (z ∷ zs) y back (inr h) = inr (in_wider x zs y back h)

pub in_middle : {A : Type 0} (x : A) (front : List A) (y : A) (back : List A) → In x (front ++ y ∷ back) → (x ≡ y) ⊎ In x (front ++ back)
in_middle x [] y back h = h
in_middle x (z ∷ zs) y back (inl e) = inr (inl e)
in_middle x (z ∷ zs) y back (inr h) = elim (in_middle x zs y back h) as (λ _. (x ≡ y) ⊎ In x (z ∷ (zs ++ back))) [ inl e ↦ inl e | inr g ↦ inr (inr g) ]

-- where a member stands
pub record Parted {A : Type 0} (x : A) (xs : List A) : Type 0 where
  pub front : List A
  pub back : List A
  pub is : xs ≡ front ++ x ∷ back

pub parted : {A : Type 0} (x : A) (xs : List A) → In x xs → Parted x xs
parted x [] h = absurd h
parted {A} x (y ∷ ys) (inl e) = record { front = []; back = ys; is = ap (λ (z : A). z ∷ ys) (sym e) }
parted {A} x (y ∷ ys) (inr h) = let p = parted x ys h in record { front = y ∷ p.front; back = p.back; is = ap (λ (zs : List A). y ∷ zs) p.is }

-- what holds of all holds of each member, and the other way round
pub all_in : {A : Type 0} (P : A → Type 0) (xs : List A) (x : A) → AllByRecursion P xs → In x xs → P x
all_in P [] x h g = absurd g
all_in P (y ∷ ys) x h (inl e) = subst P (sym e) h.0
all_in P (y ∷ ys) x h (inr g) = all_in P ys x h.1 g

pub all_from : {A : Type 0} (P : A → Type 0) (xs : List A) → ((x : A) → In x xs → P x) → AllByRecursion P xs
all_from P [] h = tt
all_from P (y ∷ ys) h = (h y (inl refl), all_from P ys (λ x g. h x (inr g)))

pub all_get : {A : Type 0} (P : A → Type 0) (xs : List A) (i : ℕ) (d : A) → AllByRecursion P xs → i < length xs → P (get_or xs i d)
all_get P [] i d h l = absurd (omega arith)
all_get P (y ∷ ys) zero d h l = h.0
all_get P (y ∷ ys) (suc i) d h l = all_get P ys i d h.1 (omega (arith, l))
