use Rattle.std.proofs.Common.{◌≡◌, None, Some, [], ◌∷◌, ◌++◌, List, map, sym, ◌∙◌, ap, subst}
use Rattle.std.proofs.lemmas.List.{map-append}
use Rattle.fuxi_terms.specs.Counts.{set_count}
use Rattle.fuxi_terms.specs.Keys.{Spot, spot_cmp}
use Rattle.spec_roles.specs.Placing.{first_in, settled}
use Rattle.grant_table.specs.GrantTables.{TableRecord}
use Rattle.grant_table.specs.declared.asking.Pick.{Pick}
use Rattle.place_pass.specs.Best.{spot_of}
use Rattle.place_pass.specs.Placers.{SeenRecord, ToldRecord, board_with}
use Rattle.allotment.specs.PlacingReads.{IsPlacing}
use Rattle.allotment.specs.SettlingRuns.{AreTouched, IsSettling}
use Rattle.allotment.proofs.SettlingRunsLemmas.{has_settled, touches_more}
use Rattle.allotment.proofs.settle_run.settle.Goals as goal

-- an idle placer finds no pair
never : (p : Pick) → Some p ≡ None → ⊥
never p e = cc

pub loop-pick-preserved : goal.loop-pick-preserved
loop-pick-preserved g c =
    let t = c.loop-pick.table in
    let s = c.loop-pick.placer.seen in
    let x = spot_of c.in-Some.pick in
    let old = c.args.table.now.entries in
    let before = map spot_of c.args.picks.now.items in
    let set = c.grant.ensures.set in
    let more = touches_more old t.entries before (map spot_of c.loop-pick.picks.items) x set.number c.loop-pick.invariant.touched in
    let picks : map spot_of c.push.new.self.items ≡ map spot_of c.loop-pick.picks.items ++ x ∷ [] = ap (map spot_of) c.in_ok-push.ensures.items ∙ map-append spot_of c.loop-pick.picks.items (c.in-Some.pick ∷ []) in
    record {
      level = c.grant.ensures.level;
      sound = c.grant.ensures.sound;
      up = c.grant.ensures.up;
      settling = λ k M is serves. c.grant.ensures.settles k M (subst (λ z. IsSettling t z k M) (sym c.in-Some.ensures.seen) (c.loop-pick.invariant.settling k M is serves));
      turns = c.grant.ensures.turns ∙ ap (λ (z : SeenRecord). z.turns) c.in-Some.ensures.seen ∙ c.loop-pick.invariant.turns;
      table = set.is ∙ ap {A = TableRecord} (λ u. record u { entries = set_count spot_cmp t.entries x set.number }) c.loop-pick.invariant.table ∙ ap (λ es. record c.args.table.now { entries = es }) (sym (ap (λ (u : TableRecord). u.entries) set.is));
      idle = λ h. absurd (never c.in-Some.pick (c.in-Some.ensures.none (ap (λ (p : ToldRecord). p.idle) (c.loop-pick.invariant.same_placer h) ∙ h)));
      none = λ h. absurd (never c.in-Some.pick (c.in-Some.ensures.none (ap (λ (p : ToldRecord). p.idle) (c.loop-pick.invariant.same_placer h) ∙ h)));
      same_table = λ h. absurd (never c.in-Some.pick (c.in-Some.ensures.none (ap (λ (p : ToldRecord). p.idle) (c.loop-pick.invariant.same_placer h) ∙ h)));
      same_placer = λ h. absurd (never c.in-Some.pick (c.in-Some.ensures.none (ap (λ (p : ToldRecord). p.idle) (c.loop-pick.invariant.same_placer h) ∙ h)));
      touched = subst (λ (q : List (Spot × _) × List Spot). AreTouched old q.0 before q.1) (λ i. (sym (ap (λ (u : TableRecord). u.entries) set.is) i, sym picks i)) more;
    }

pub returns-clause-settles : goal.returns-clause-settles
returns-clause-settles g c = λ k M is serves.
    let t = c.loop-pick.table in
    let s = c.loop-pick.placer.seen in
    let none : first_in (board_with s t) t.entries s.line ≡ None = sym c.in_default.ensures.first in
    subst (λ z. IsPlacing t z k (settled k M)) (sym c.in_default.ensures.seen) (has_settled t s k M none (c.loop-pick.invariant.settling k M is serves))

pub returns-in_err-push-clause-idle : goal.returns-in_err-push-clause-idle
returns-in_err-push-clause-idle g c h = absurd (never c.in-Some.pick (c.in-Some.ensures.none (ap (λ (p : ToldRecord). p.idle) (c.loop-pick.invariant.same_placer h) ∙ h)))

pub returns-in_err-push-clause-none : goal.returns-in_err-push-clause-none
returns-in_err-push-clause-none g c h = absurd (never c.in-Some.pick (c.in-Some.ensures.none (ap (λ (p : ToldRecord). p.idle) (c.loop-pick.invariant.same_placer h) ∙ h)))

pub returns-in_err-push-clause-same_table : goal.returns-in_err-push-clause-same_table
returns-in_err-push-clause-same_table g c h = absurd (never c.in-Some.pick (c.in-Some.ensures.none (ap (λ (p : ToldRecord). p.idle) (c.loop-pick.invariant.same_placer h) ∙ h)))

pub returns-in_err-push-clause-same_placer : goal.returns-in_err-push-clause-same_placer
returns-in_err-push-clause-same_placer g c h = absurd (never c.in-Some.pick (c.in-Some.ensures.none (ap (λ (p : ToldRecord). p.idle) (c.loop-pick.invariant.same_placer h) ∙ h)))

pub returns-clause-idle : goal.returns-clause-idle
returns-clause-idle g c h = c.in_default.ensures.idle (ap (λ (p : ToldRecord). p.idle) (c.loop-pick.invariant.same_placer h) ∙ h) ∙ c.loop-pick.invariant.idle h

pub returns-clause-same_placer : goal.returns-clause-same_placer
returns-clause-same_placer g c h =
    let was = ap (λ (p : ToldRecord). p.idle) (c.loop-pick.invariant.same_placer h) ∙ h in
    (λ i. record { seen = c.in_default.ensures.seen i; idle = (c.in_default.ensures.found ∙ sym was) i }) ∙ c.loop-pick.invariant.same_placer h
