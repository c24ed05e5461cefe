-- One place of a table of parties and peers is changed.
use Rattle.std.proofs.Common.{◌≡◌, true, nat_eq, subst}
use Rattle.std.specs.Prelude.{◌&&◌}
use Rattle.spec_net.specs.Net.{Party, Id, same_id, same_party, set_at}
use Rattle.fuxi_terms.proofs.Booleans.{both_true, either_case, number_is}

-- identities that a test finds the same are the same
pub id_is : (a b : Id) → same_id a b ≡ true → a ≡ b
id_is a b e =
    let h = both_true (nat_eq a.role b.role) _ e in
    let r = number_is _ _ h.0 in
    let n = number_is _ _ h.1 in
    λ i. record { role = r i; number = n i }

-- and parties
pub party_is : (a b : Party) → same_party a b ≡ true → a ≡ b
party_is a b e =
    let h = both_true (same_id a.id b.id) _ e in
    let d = id_is a.id b.id h.0 in
    let n = number_is _ _ h.1 in
    λ i. record { id = d i; inc = n i }

-- what holds of the new value at its place and of each old one holds everywhere
pub set_at_all : {A : Type 0} (P : Party → Id → A → Type 0) (f : Party → Id → A) (p : Party) (q : Id) (a : A) → P p q a → ((p' : Party) (q' : Id) → P p' q' (f p' q')) → (p' : Party) (q' : Id) → P p' q' (set_at f p q a p' q')
set_at_all P f p q a here other p' q' = either_case (P p' q') (same_party p p' && same_id q q') a (f p' q')
    (λ e. let h = both_true (same_party p p') _ e in subst (λ x. P x q' a) (party_is p p' h.0) (subst (λ y. P p y a) (id_is q q' h.1) here))
    (λ _. other p' q')
