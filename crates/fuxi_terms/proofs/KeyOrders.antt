-- The orders of keys are total, and two keys that tie are one.
use Rattle.std.proofs.Common.{◌≡◌, ℕ, List, [], ◌∷◌, ap, refl}
use Rattle.std.specs.Cmp.{IsTotalOrder, nat_cmp_total}
use Rattle.std.specs.Ordering.{nat_cmp, ordering_then}
use Rattle.std.specs.Cmp.Lexicographic.{slice_cmp, lists_total}
use Rattle.std.specs.declared.cmp.Ordering.{Ordering}
use Rattle.std.specs.declared.cmp.Ordering.TheVariants.{Less, Equal, Greater}
use Rattle.std.proofs.lemmas.Cmp.{on_total, then_total}
use Rattle.std.proofs.lemmas.Map.Lookups.{exact_pairs, exact_unsigned}
use Rattle.fuxi_terms.specs.declared.Key.{Key}
use Rattle.fuxi_terms.specs.Keys.{key_cmp, RowKey, row_cmp, Spot, spot_cmp}

pub key_total : IsTotalOrder key_cmp
key_total = then_total (on_total (λ k. k.what) nat_cmp_total) (then_total (on_total (λ k. k.unit) nat_cmp_total) (on_total (λ k. k.number) nat_cmp_total))

pub spot_total : IsTotalOrder spot_cmp
spot_total = then_total (on_total (λ k. k.job) nat_cmp_total) (then_total (on_total (λ k. k.unit) nat_cmp_total) (on_total (λ k. k.machine) nat_cmp_total))

pub row_key_total : IsTotalOrder row_cmp
row_key_total = then_total (on_total (λ k. k.job) nat_cmp_total) (then_total (on_total (λ k. k.unit) nat_cmp_total) (on_total (λ k. k.size) (lists_total nat_cmp_total)))

exact_three : (p q : ℕ × (ℕ × ℕ)) → ordering_then (nat_cmp p.0 q.0) (ordering_then (nat_cmp p.1.0 q.1.0) (nat_cmp p.1.1 q.1.1)) ≡ Equal → p ≡ q
exact_three p q h = exact_pairs nat_cmp (λ p q. ordering_then (nat_cmp p.0 q.0) (nat_cmp p.1 q.1)) exact_unsigned (exact_pairs nat_cmp nat_cmp exact_unsigned exact_unsigned) p q h

pub same_key : (a b : Key) → key_cmp a b ≡ Equal → a ≡ b
same_key a b h = ap (λ (p : ℕ × (ℕ × ℕ)). record { what = p.0; unit = p.1.0; number = p.1.1 }) (exact_three (a.what, (a.unit, a.number)) (b.what, (b.unit, b.number)) h)

pub same_spot : (a b : Spot) → spot_cmp a b ≡ Equal → a ≡ b
same_spot a b h = ap (λ (p : ℕ × (ℕ × ℕ)). record { job = p.0; unit = p.1.0; machine = p.1.1 }) (exact_three (a.job, (a.unit, a.machine)) (b.job, (b.unit, b.machine)) h)

parts : (r s : Ordering) → ordering_then r s ≡ Equal → (r ≡ Equal) × (s ≡ Equal)
parts Less s e = cc
parts Equal s e = (refl, e)
parts Greater s e = cc

exact_lists : (xs ys : List ℕ) → slice_cmp nat_cmp xs ys ≡ Equal → xs ≡ ys
exact_lists [] [] e = refl
exact_lists [] (y ∷ ys) e = cc
exact_lists (x ∷ xs) [] e = cc
exact_lists (x ∷ xs) (y ∷ ys) e = let p = parts (nat_cmp x y) _ e in
    let head = exact_unsigned x y p.0 in let tail = exact_lists xs ys p.1 in λ i. head i ∷ tail i

pub same_row_key : (a b : RowKey) → row_cmp a b ≡ Equal → a ≡ b
same_row_key a b h = ap (λ (p : ℕ × (ℕ × List ℕ)). record { job = p.0; unit = p.1.0; size = p.1.1 })
    (exact_pairs nat_cmp (λ (p : ℕ × List ℕ) (q : ℕ × List ℕ). ordering_then (nat_cmp p.0 q.0) (slice_cmp nat_cmp p.1 q.1)) exact_unsigned (exact_pairs nat_cmp (slice_cmp nat_cmp) exact_unsigned exact_lists) (a.job, (a.unit, a.size)) (b.job, (b.unit, b.size)) h)
