-- What a sink took, with what waits behind it.
use Rattle.std.proofs.Common.{◌⊎◌, inl, inr, ◌≡◌, ℕ, zero, suc, ◌<◌, List, [], ◌∷◌, ◌++◌, length, take, Option, None, Some, refl, sym, ◌∙◌, ap, subst, arith, append_assoc}
use Rattle.std.specs.Io.KnownBytes.{Appends}
use Rattle.fuxi_io.specs.Causes.{TakesPart}
use Rattle.fuxi_io.specs.WriteBuffers.{with_waiting, TakesWaiting}

-- a front of two lists is one of the first, or all of it and a front of the second
cut_within : (waiting bytes : List ℕ) (n : ℕ) → n < length (waiting ++ bytes) → ((n < length waiting) × (take n (waiting ++ bytes) ≡ take n waiting)) ⊎ ((m : ℕ) × (m < length bytes) × (take n (waiting ++ bytes) ≡ waiting ++ take m bytes))
cut_within [] bytes n within = inr (n, within, refl)
cut_within (x ∷ waiting) bytes zero within = inl (omega arith, refl)
cut_within (x ∷ waiting) bytes (suc n) within = elim (cut_within waiting bytes n (omega (arith, within))) [
  | inl h ↦ inl (omega (arith, h.0), ap (λ l. x ∷ l) h.1)
  | inr h ↦ inr (h.0, h.1, ap (λ l. x ∷ l) h.2)
]

appends_behind : (took after : Option (List ℕ)) (waiting bytes : List ℕ) → Appends took after (waiting ++ bytes) → Appends (with_waiting took waiting) after bytes
appends_behind None after waiting bytes h = tt
appends_behind (Some p) None waiting bytes h = absurd h
appends_behind (Some p) (Some q) waiting bytes h = h ∙ sym (append_assoc p waiting bytes)

-- a part of what waits, once these bytes were put behind it
pub part_of_both : (took after : Option (List ℕ)) (waiting bytes : List ℕ) → TakesPart took after (waiting ++ bytes) → TakesWaiting took waiting bytes after
part_of_both took after waiting bytes h = elim (cut_within waiting bytes h.0 h.1) [
  | inl k ↦ inl (h.0, k.0, subst (Appends took after) k.1 h.2)
  | inr k ↦ inr (k.0, k.1, appends_behind took after waiting (take k.0 bytes) (subst (Appends took after) k.2 h.2))
]
