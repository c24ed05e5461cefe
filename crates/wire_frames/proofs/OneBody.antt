-- A channel and a kind have bodies of one variant, so bytes are those of one body.
use Rattle.std.specs.Prelude.{◌≡◌, ℤ, ℕ, true, cond, ◌||◌, List, [], ◌++◌}
use Rattle.std.proofs.Common.{refl, sym, ◌∙◌, ap, subst}
use Rattle.fuxi_terms.proofs.Booleans.{both_true}
use Rattle.fuxi_terms.specs.Keys.{RowKey}
use Rattle.fuxi_terms.specs.Tallies.{TallyRecord, ChangeRecord}
use Rattle.fuxi_terms.specs.TallyKeys.{greatest_grant, greatest_demand}
use Rattle.ledger_law.specs.OneForm.{tally_one, change_form_one}
use Rattle.schedule_unit.specs.declared.party.Role.{Role}
use Rattle.schedule_unit.specs.declared.party.Role.TheVariants.{Master, Agent, App}
use Rattle.party_ledgers.specs.Joins.{JoinRecord, join_form_one}
use Rattle.party_ledgers.specs.RowOneForm.{row_form_one, row_change_form_one}
use Rattle.party_ledgers.specs.PartyShapes.{grant_bounded, grant_writable, demand_bounded, demand_writable}
use Rattle.party_ledgers.specs.declared.packets.Kind.{Kind}
use Rattle.party_ledgers.specs.declared.packets.Kind.TheVariants.{Ack, Delta, Full, End}
use Rattle.party_ledgers.specs.declared.packets.Body.{Body}
use Rattle.party_ledgers.specs.declared.packets.Body.TheVariants.{Nothing, Row, RowDelta, Join, Grants, GrantsDelta, Demand, DemandDelta}
use Rattle.party_ledgers.specs.Packets.{is_bare, is_full, is_delta, is_master, is_agent, is_app, to_agent, to_app, IsBodyOf}
use Rattle.wire_frames.specs.Frames.{body_bytes, HasForm}

-- the variants, without what they hold
data Variant : Type 0 where
  TNothing : Variant
  TRow : Variant
  TRowDelta : Variant
  TJoin : Variant
  TGrants : Variant
  TGrantsDelta : Variant
  TDemand : Variant
  TDemandDelta : Variant

tag : Body → Variant
tag Nothing = TNothing
tag (Row row) = TRow
tag (RowDelta change) = TRowDelta
tag (Join join) = TJoin
tag (Grants tally) = TGrants
tag (GrantsDelta change) = TGrantsDelta
tag (Demand tally) = TDemand
tag (DemandDelta change) = TDemandDelta

abbrev tag_of : Kind → Role → Role → Variant
tag_of k from to =
    cond (is_bare k) TNothing
    (cond (to_agent from to) (cond (is_full k) TRow TRowDelta)
    (cond (to_agent to from) TJoin
    (cond (to_app from to) (cond (is_full k) TGrants TGrantsDelta) (cond (is_full k) TDemand TDemandDelta))))

full : (k : Kind) → is_full k ≡ true → k ≡ Full
full Ack e = cc
full Delta e = cc
full Full e = refl
full End e = cc

delta : (k : Kind) → is_delta k ≡ true → k ≡ Delta
delta Ack e = cc
delta Delta e = refl
delta Full e = cc
delta End e = cc

master : (r : Role) → is_master r ≡ true → r ≡ Master
master Master e = refl
master Agent e = cc
master App e = cc

agent : (r : Role) → is_agent r ≡ true → r ≡ Agent
agent Master e = cc
agent Agent e = refl
agent App e = cc

app : (r : Role) → is_app r ≡ true → r ≡ App
app Master e = cc
app Agent e = cc
app App e = refl

bare_tag : (k : Kind) (from to : Role) → is_bare k ≡ true → TNothing ≡ tag_of k from to
bare_tag Ack from to e = refl
bare_tag Delta from to e = cc
bare_tag Full from to e = cc
bare_tag End from to e = refl

report_tag : (k : Kind) → (is_full k || is_delta k) ≡ true → TJoin ≡ tag_of k Agent Master
report_tag Ack e = cc
report_tag Delta e = refl
report_tag Full e = refl
report_tag End e = cc

tag_at : (k l : Kind) (from to s r : Role) → k ≡ l → from ≡ s → to ≡ r → tag_of l s r ≡ tag_of k from to
tag_at k l from to s r p q o = sym (λ i. tag_of (p i) (q i) (o i))

tag_is : (b : Body) (k : Kind) (from to : Role) → IsBodyOf b k from to → tag b ≡ tag_of k from to
unfolding tag
tag_is Nothing k from to h = bare_tag k from to h
tag_is (Row row) k from to h =
    let a = both_true (is_full k) (to_agent from to) h in
    let c = both_true (is_master from) (is_agent to) a.1 in
    tag_at k Full from to Master Agent (full k a.0) (master from c.0) (agent to c.1)
tag_is (RowDelta change) k from to h =
    let a = both_true (is_delta k) (to_agent from to) h.0 in
    let c = both_true (is_master from) (is_agent to) a.1 in
    tag_at k Delta from to Master Agent (delta k a.0) (master from c.0) (agent to c.1)
tag_is (Join join) k from to h =
    let a = both_true (is_full k || is_delta k) (to_agent to from) h in
    let c = both_true (is_master to) (is_agent from) a.1 in
    report_tag k a.0 ∙ tag_at k k from to Agent Master refl (agent from c.1) (master to c.0)
tag_is (Grants tally) k from to h =
    let a = both_true (is_full k) (to_app from to) h in
    let c = both_true (is_master from) (is_app to) a.1 in
    tag_at k Full from to Master App (full k a.0) (master from c.0) (app to c.1)
tag_is (GrantsDelta change) k from to h =
    let a = both_true (is_delta k) (to_app from to) h.0 in
    let c = both_true (is_master from) (is_app to) a.1 in
    tag_at k Delta from to Master App (delta k a.0) (master from c.0) (app to c.1)
tag_is (Demand tally) k from to h =
    let a = both_true (is_full k) (to_app to from) h in
    let c = both_true (is_master to) (is_app from) a.1 in
    tag_at k Full from to App Master (full k a.0) (app from c.1) (master to c.0)
tag_is (DemandDelta change) k from to h =
    let a = both_true (is_delta k) (to_app to from) h.0 in
    let c = both_true (is_master to) (is_app from) a.1 in
    tag_at k Delta from to App Master (delta k a.0) (app from c.1) (master to c.0)

-- what a body of a variant is
IsOf : Variant → Body → Type 0
IsOf TNothing b = b ≡ Nothing
IsOf TRow b = (row : List (RowKey × ℕ)) × (b ≡ Row row)
IsOf TRowDelta b = (change : List (RowKey × ℤ)) × (b ≡ RowDelta change)
IsOf TJoin b = (join : JoinRecord) × (b ≡ Join join)
IsOf TGrants b = (tally : TallyRecord) × (b ≡ Grants tally)
IsOf TGrantsDelta b = (change : ChangeRecord) × (b ≡ GrantsDelta change)
IsOf TDemand b = (tally : TallyRecord) × (b ≡ Demand tally)
IsOf TDemandDelta b = (change : ChangeRecord) × (b ≡ DemandDelta change)

is_of : (b : Body) → IsOf (tag b) b
unfolding tag IsOf
is_of Nothing = refl
is_of (Row row) = (row, refl)
is_of (RowDelta change) = (change, refl)
is_of (Join join) = (join, refl)
is_of (Grants tally) = (tally, refl)
is_of (GrantsDelta change) = (change, refl)
is_of (Demand tally) = (tally, refl)
is_of (DemandDelta change) = (change, refl)

end_on : {a b : List ℕ} → a ≡ b → a ++ [] ≡ b ++ []
end_on e = ap (λ l. l ++ []) e

same_tag : (a b : Body) → tag b ≡ tag a → HasForm a → HasForm b → body_bytes a ≡ body_bytes b → a ≡ b
unfolding tag IsOf
same_tag Nothing b t h g e = sym (subst (λ n. IsOf n b) t (is_of b))
same_tag (Row row) b t h g e =
    let n = subst (λ n. IsOf n b) t (is_of b) in
    let same : row ≡ n.0 = row_form_one row n.0 [] [] h (subst HasForm n.1 g) (end_on (e ∙ ap body_bytes n.1)) in
    ap Row same ∙ sym n.1
same_tag (RowDelta change) b t h g e =
    let n = subst (λ n. IsOf n b) t (is_of b) in
    let same : change ≡ n.0 = row_change_form_one change n.0 [] [] h (subst HasForm n.1 g) (end_on (e ∙ ap body_bytes n.1)) in
    ap RowDelta same ∙ sym n.1
same_tag (Join join) b t h g e =
    let n = subst (λ n. IsOf n b) t (is_of b) in
    let same : join ≡ n.0 = join_form_one join n.0 [] [] h (subst HasForm n.1 g) (end_on (e ∙ ap body_bytes n.1)) in
    ap Join same ∙ sym n.1
same_tag (Grants tally) b t h g e =
    let n = subst (λ n. IsOf n b) t (is_of b) in
    let same : tally ≡ n.0 = tally_one greatest_grant grant_bounded grant_writable tally n.0 [] [] h (subst HasForm n.1 g) (end_on (e ∙ ap body_bytes n.1)) in
    ap Grants same ∙ sym n.1
same_tag (GrantsDelta change) b t h g e =
    let n = subst (λ n. IsOf n b) t (is_of b) in
    let same : change ≡ n.0 = change_form_one greatest_grant grant_bounded grant_writable change n.0 [] [] h (subst HasForm n.1 g) (end_on (e ∙ ap body_bytes n.1)) in
    ap GrantsDelta same ∙ sym n.1
same_tag (Demand tally) b t h g e =
    let n = subst (λ n. IsOf n b) t (is_of b) in
    let same : tally ≡ n.0 = tally_one greatest_demand demand_bounded demand_writable tally n.0 [] [] h (subst HasForm n.1 g) (end_on (e ∙ ap body_bytes n.1)) in
    ap Demand same ∙ sym n.1
same_tag (DemandDelta change) b t h g e =
    let n = subst (λ n. IsOf n b) t (is_of b) in
    let same : change ≡ n.0 = change_form_one greatest_demand demand_bounded demand_writable change n.0 [] [] h (subst HasForm n.1 g) (end_on (e ∙ ap body_bytes n.1)) in
    ap DemandDelta same ∙ sym n.1

pub one_body : (a b : Body) (k : Kind) (from to : Role) → IsBodyOf a k from to → IsBodyOf b k from to → HasForm a → HasForm b → body_bytes a ≡ body_bytes b → a ≡ b
one_body a b k from to ha hb fa fb e = same_tag a b (tag_is b k from to hb ∙ sym (tag_is a k from to ha)) fa fb e
