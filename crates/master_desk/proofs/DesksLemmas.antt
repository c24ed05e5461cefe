-- The run over one call more, and that an order has one run.
use Rattle.std.proofs.Common.{◌≡◌, ℕ, true, false, List, [], ◌∷◌, map, get_or, drop, refl, sym, ◌∙◌, ap, subst}
use Rattle.std.specs.Prelude.{◌++◌}
use Rattle.std.proofs.lemmas.List.{map_push}
use Rattle.spec_roles.specs.MasterRoles.{MasterRole}
use Rattle.peer_channel.specs.Parcels.{content_of}
use Rattle.wire_frames.specs.Frames.{body_length as body_length_here}
use Rattle.party_ledgers.specs.declared.packets.Body.{Body}
use Rattle.party_ledgers.specs.declared.packets.Body.TheVariants as body
use Rattle.spec_net.specs.Ledgers.{body_length}
use Rattle.master_desk.specs.declared.call.Decoded.{Decoded}
use Rattle.master_desk.specs.CallBytes.{Says}
use Rattle.master_desk.specs.CallOrders.{AreCallsOf, IsCallOf, calls_of, times}
use Rattle.spec_net.specs.Net.{Id}
use Rattle.spec_net.specs.Sides.{turn_parcels}
use Rattle.spec_roles.specs.MasterSteps.{master_party, talks}
use Rattle.master_desk.specs.Desks.{Desk, IsDeskRun, Sending, desk_from, desk_takes, opened, sent_as, turn_sent}
use Rattle.master_desk.proofs.CallOrdersLemmas.{calls_more}

-- bodies are as long as their contents
pub same_length : (b : Body) → body_length_here b ≡ body_length (content_of b)
same_length body.Nothing = refl
same_length (body.Row row) = refl
same_length (body.RowDelta change) = refl
same_length (body.Join join) = refl
same_length (body.Grants tally) = refl
same_length (body.GrantsDelta change) = refl
same_length (body.Demand tally) = refl
same_length (body.DemandDelta change) = refl

desk_more : (d : Desk) (xs : List (ℕ × Decoded)) (x : ℕ × Decoded) → desk_from d (xs ++ x ∷ []) ≡ desk_takes (desk_from d xs) x
desk_more d [] x = refl
desk_more d (y ∷ ys) x = desk_more (desk_takes d y) ys x

-- one call more of a session
pub run_more : (r : MasterRole) (sessions : List (List (List ℕ))) (order : List ℕ) (d : Desk) (c : ℕ) (call : Decoded) → IsDeskRun r sessions order d → IsCallOf sessions c (times c order) call
    → IsDeskRun r sessions (order ++ c ∷ []) (desk_takes d (c, call))
run_more r sessions order d c call run is = record {
  calls = run.calls ++ (c, call) ∷ [];
  order_is = map_push (λ (x : ℕ × Decoded). x.0) run.calls (c, call) ∙ ap (λ o. o ++ c ∷ []) run.order_is;
  are = calls_more sessions [] run.calls (c, call) run.are (subst (λ o. IsCallOf sessions c (times c o) call) (sym run.order_is) is);
  run = desk_more (opened r) run.calls (c, call) ∙ ap (λ e. desk_takes e (c, call)) run.run;
}

abbrev pub SaysOnce : Type 0
SaysOnce = (bytes : List ℕ) (x y : Decoded) → Says bytes x → Says bytes y → x ≡ y

same_calls : SaysOnce → (sessions : List (List (List ℕ))) (before : List ℕ) (xs ys : List (ℕ × Decoded)) → map (λ (x : ℕ × Decoded). x.0) xs ≡ map (λ (x : ℕ × Decoded). x.0) ys
    → AreCallsOf sessions before xs → AreCallsOf sessions before ys → xs ≡ ys
same_calls one s before [] [] e a b = refl
same_calls one s before [] (y ∷ ys) e a b = cc
same_calls one s before (x ∷ xs) [] e a b = cc
same_calls one s before (x ∷ xs) (y ∷ ys) e a b =
    let first : x.0 ≡ y.0 = ap (λ (l : List ℕ). get_or l 0 0) e in
    let behind : map (λ (z : ℕ × Decoded). z.0) xs ≡ map (λ (z : ℕ × Decoded). z.0) ys = ap (λ (l : List ℕ). drop 1 l) e in
    let other : IsCallOf s x.0 (times x.0 before) y.1 = subst (λ c. IsCallOf s c (times c before) y.1) (sym first) b.0 in
    let call : x.1 ≡ y.1 = one (get_or (calls_of s x.0) (times x.0 before) []) x.1 y.1 a.0.says other.says in
    let both : x ≡ y = ap (λ c. (c, x.1)) first ∙ ap (λ d. (y.0, d)) call in
    let rest : xs ≡ ys = same_calls one s (before ++ x.0 ∷ []) xs ys behind a.1 (subst (λ c. AreCallsOf s (before ++ c ∷ []) ys) (sym first) b.1) in
    ap (λ z. z ∷ xs) both ∙ ap (λ zs. y ∷ zs) rest

pub one_history : SaysOnce → (r : MasterRole) (sessions : List (List (List ℕ))) (order : List ℕ) (x y : Desk) → IsDeskRun r sessions order x → IsDeskRun r sessions order y → x ≡ y
one_history one r s order x y a b = sym a.run ∙ ap (desk_from (opened r)) (same_calls one s [] a.calls b.calls (a.order_is ∙ sym b.order_is) a.are b.are) ∙ b.run

-- a master that does not talk to a party sends nothing to it
pub none_sent : (r : MasterRole) (q : Id) → talks r.cluster r.state q ≡ false → turn_sent r q ≡ []
none_sent r q off = ap (λ b. elim b as (λ _. List Sending) [ true ↦ map sent_as (turn_parcels (master_party r.state) q (r.sides q)) | false ↦ [] ]) off

pub some_sent : (r : MasterRole) (q : Id) → talks r.cluster r.state q ≡ true → turn_sent r q ≡ map sent_as (turn_parcels (master_party r.state) q (r.sides q))
some_sent r q on = ap (λ b. elim b as (λ _. List Sending) [ true ↦ map sent_as (turn_parcels (master_party r.state) q (r.sides q)) | false ↦ [] ]) on
