-- The sides of a master with its peers, after some were set.
use Rattle.std.proofs.Common.{◌≡◌, Bool, true, false, cond, List, [], ◌∷◌, ◌++◌, refl, ◌∙◌, ap, nat_eq}
use Rattle.std.specs.Prelude.{◌||◌}
use Rattle.fuxi_terms.proofs.Booleans.{both_true, number_is}
use Rattle.spec_net.specs.Net.{Id, same_id}
use Rattle.spec_net.specs.Ledgers.{Ledger}
use Rattle.spec_net.specs.Channels.{Offer, is_due}
use Rattle.spec_net.specs.Sides.{Side, appended, resynced_side, shown}
use Rattle.spec_roles.specs.MasterSteps.{is_one_of}
use Rattle.spec_roles.specs.MasterRoles.{set_side, publish_alone, resync_alone}

-- A peer's side is resynced once
pub same_peer : (a q : Id) → same_id a q ≡ true → a ≡ q
same_peer a q e =
    let b = both_true (nat_eq a.role q.role) (nat_eq a.number q.number) e in
    λ i. record { role = number_is a.role q.role b.0 i; number = number_is a.number q.number b.1 i }

pub resynced_at : (qs : List Id) (sides : Id → Side) (q : Id) → resync_alone sides qs q ≡ cond (is_one_of q qs) (resynced_side (sides q)) (sides q)
resynced_at [] sides q = refl
resynced_at (a ∷ qs) sides q =
    resynced_at qs (set_side sides a (resynced_side (sides a))) q
    ∙ elim (same_id a q) as (λ b. same_id a q ≡ b → cond (is_one_of q qs) (resynced_side (elim b as (λ _. Side) [ true ↦ resynced_side (sides a) | false ↦ sides q ])) (elim b as (λ _. Side) [ true ↦ resynced_side (sides a) | false ↦ sides q ])
    ≡ cond (b || is_one_of q qs) (resynced_side (sides q)) (sides q)) [
      | true ↦ λ e. twice (is_one_of q qs) (resynced_side (sides a)) ∙ ap (λ p. resynced_side (sides p)) (same_peer a q e)
      | false ↦ λ _. refl
    ] refl
  where
    twice : (b : Bool) (e : Side) → cond b (resynced_side (resynced_side (sides a))) (resynced_side (sides a)) ≡ resynced_side (sides a)
    twice true e = refl
    twice false e = refl

-- what is published changes nothing that was received
appended_got : (even_if_equal : Bool) (l : Ledger) (e : Side) → (appended even_if_equal l e).got ≡ e.got
appended_got even_if_equal l e = elim (is_due even_if_equal (shown e) l) as (λ b. (cond b (record { link = e.link; got = e.got; sent = e.sent ++ l ∷ [] }) e).got ≡ e.got) [ true ↦ refl | false ↦ refl ]

set_got : (sides : Id → Side) (p : Id) (e : Side) (q : Id) → e.got ≡ (sides p).got → (set_side sides p e q).got ≡ (sides q).got
set_got sides p e q same = elim (same_id p q) as (λ b. same_id p q ≡ b → (elim b as (λ _. Side) [ true ↦ e | false ↦ sides q ]).got ≡ (sides q).got) [
  | true ↦ λ t. same ∙ ap (λ (d : Id). (sides d).got) (same_peer p q t)
  | false ↦ λ _. refl
] refl

pub published_got : (os : List Offer) (sides : Id → Side) (q : Id) → (publish_alone sides os q).got ≡ (sides q).got
published_got [] sides q = refl
published_got (o ∷ os) sides q =
    let e = appended o.even_if_equal o.ledger (sides o.to) in
    published_got os (set_side sides o.to e) q ∙ set_got sides o.to e q (appended_got o.even_if_equal o.ledger (sides o.to))
