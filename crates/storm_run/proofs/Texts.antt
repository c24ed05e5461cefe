-- Texts that are appended one behind the other.
use Rattle.std.proofs.Common.{◌≡◌, ℕ, List, [], ◌++◌, ◌∙◌, ap, append_assoc}

pub all_parts : (o0 o1 o2 o3 o4 o5 A B C D E F G H : List ℕ) → o0 ≡ [] → o1 ≡ o0 ++ (A ++ (B ++ (C ++ D))) → o2 ≡ o1 ++ E → o3 ≡ o2 ++ F → o4 ≡ o3 ++ G → o5 ≡ o4 ++ H
    → o5 ≡ A ++ (B ++ (C ++ (D ++ (E ++ (F ++ (G ++ H))))))
all_parts o0 o1 o2 o3 o4 o5 A B C D E F G H e0 e1 e2 e3 e4 e5 =
    e5 ∙ ap (λ l. l ++ H) (e4 ∙ ap (λ l. l ++ G) (e3 ∙ ap (λ l. l ++ F) (e2 ∙ ap (λ l. l ++ E) (e1 ∙ ap (λ l. l ++ (A ++ (B ++ (C ++ D)))) e0)))) ∙ simp append_assoc
