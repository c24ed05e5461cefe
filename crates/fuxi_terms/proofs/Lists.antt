-- Lists that grow at their end, and loops that write the items of a list.
use Rattle.std.proofs.Common.{◌≡◌, ℕ, zero, suc, ◌+◌, ◌<◌, List, [], ◌∷◌, ◌++◌, length, get_or, drop, append_assoc, take, drop-cons, refl, sym, ◌∙◌, ap, subst, arith, add-one, Some, slice_get}
use Rattle.std.specs.List.{AllByRecursion, flat_map}
use Rattle.std.proofs.lemmas.List.{length-append}
use Rattle.fuxi_terms.specs.Lists.{numbers_from, below}

pub one_more : (first n : ℕ) → numbers_from first (n + 1) ≡ numbers_from first n ++ (first + n) ∷ []
one_more first zero = ap (λ k. k ∷ []) (omega arith)
one_more first (suc n) = ap (λ k. numbers_from first k) (add-one (suc n)) ∙ ap (λ ks. first ∷ ks) (ap (λ k. numbers_from (first + 1) k) (sym (add-one n)) ∙ one_more (first + 1) n ∙ ap (λ k. numbers_from (first + 1) n ++ k ∷ []) (omega arith))

pub length-below : (n : ℕ) → length (below n) ≡ n
length-below zero = refl
length-below (suc n) = let r = length-below n in let a = length-append (below n) (n ∷ []) in omega (arith, r, a)

pub all_push : {A : Type 0} (P : A → Type 0) (xs : List A) (x : A) → AllByRecursion P xs → P x → AllByRecursion P (xs ++ x ∷ [])
all_push P [] x all here = (here, tt)
all_push P (y ∷ ys) x all here = (all.0, all_push P ys x all.1 here)

pub all_at : {A : Type 0} (P : A → Type 0) (xs : List A) (i : ℕ) (x : A) → AllByRecursion P xs → slice_get xs i ≡ Some x → P x
all_at P [] i x all is = cc
all_at P (y ∷ ys) zero x all is = let e : y ≡ x = cc in subst P e all.0
all_at P (y ∷ ys) (suc i) x all is = all_at P ys i x all.1 is

-- what stands in a list stands there still when it has grown, and nothing else does
pub got_grown : {A : Type 0} (xs ys : List A) (i : ℕ) → i < length xs → slice_get (xs ++ ys) i ≡ slice_get xs i
got_grown [] ys i lt = absurd (omega (arith, lt))
got_grown (x ∷ xs) ys zero lt = refl
got_grown (x ∷ xs) ys (suc i) lt = got_grown xs ys i (omega (arith, lt))

-- the first items with one more are those with the next behind them
pub take_last : {A : Type 0} (xs : List A) (i : ℕ) (x : A) → slice_get xs i ≡ Some x → take (i + 1) xs ≡ take i xs ++ x ∷ []
take_last [] i x e = cc
take_last (y ∷ ys) zero x e = let same : y ≡ x = cc in ap (λ z. z ∷ []) same
take_last (y ∷ ys) (suc i) x e = rw add-one (ap (λ zs. y ∷ zs) (sym (ap (λ k. take k ys) (add-one i)) ∙ take_last ys i x e))

-- from what is written and what is left to what is written with one more and the rest
pub written_more : {A B : Type 0} (f : A → List B) (es : List A) (i : ℕ) (d : A) (front new all : List B) → i < length es → new ≡ front ++ f (get_or es i d) → front ++ flat_map f (drop i es) ≡ all → new ++ flat_map f (drop (i + 1) es) ≡ all
written_more f es i d front new all lt is h =
    rw (is, append_assoc) (subst (λ xs. front ++ flat_map f xs ≡ all) (drop-cons es i d lt ∙ ap (λ n. get_or es i d ∷ drop n es) (sym (add-one i))) h)
