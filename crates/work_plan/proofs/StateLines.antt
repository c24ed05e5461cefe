-- The lines of the state.
use Rattle.std.proofs.Common.{◌≡◌, ℕ, ◌+◌, Bool, true, false, nat_eq, List, [], ◌∷◌, ◌++◌, map, Option, Some, None, IsSome, get_or, refl, sym, ◌∙◌, ap, subst, arith, append-nil, append_assoc}
use Rattle.std.specs.List.{flat_map}
use Rattle.std.proofs.lemmas.Bool.Decides.{nat_tests}
use Rattle.fuxi_terms.specs.declared.Key.{Key}
use Rattle.fuxi_terms.specs.Limits.{most_jobs}
use Rattle.fuxi_terms.specs.Lists.{below}
use Rattle.fuxi_terms.specs.Tallies.{TallyRecord, ChangeRecord}
use Rattle.full_sync.specs.Turns.{Endpoint}
use Rattle.work_plan.specs.Crews.{runs_at}
use Rattle.work_plan.specs.WorkEvents.{agent_app_lines, agent_lines, app_lines}
use Rattle.work_plan.specs.WorkLines.{AgentIs, AppIs, Line, PlanAt, Seen, Works, line_text, lines_text}
use Rattle.work_plan.specs.AgentWithApps.{World, agent_id, agent_link, all_apps, all_units, app_link, app_party, seen_running}
use Rattle.work_plan.specs.WorkWorlds.{AppOf, AppsAt, IsAgent, IsAppOf, IsNoPeer, IsPeer, PeerAt}
use Rattle.work_plan.specs.declared.parts.Agent.{Agent}
use Rattle.work_plan.specs.declared.parts.Peer.{Peer}
use Rattle.work_plan.proofs.HistoriesGrow.{received_is}
use Rattle.work_plan.proofs.Texts.{flat_more, text_then}

abbrev Ends : Type 0
Ends = Endpoint TallyRecord ChangeRecord TallyRecord

-- a line, and more lines
pub line_then : (x : Line) (xs : List Line) (out mid out' : List ℕ) → mid ≡ out ++ line_text x → out' ≡ mid ++ lines_text xs → out' ≡ out ++ lines_text (x ∷ xs)
line_then x xs out mid out' e f = f ∙ ap (λ o. o ++ lines_text xs) e ∙ append_assoc out (line_text x) (lines_text xs)

-- where a number prints nothing
pub text_none : (f : ℕ → List Line) (n : ℕ) (init out : List ℕ) → f n ≡ [] → out ≡ init ++ lines_text (flat_map f (below n)) → out ≡ init ++ lines_text (flat_map f (below (n + 1)))
text_none f n init out none e = e ∙ ap (λ xs. init ++ lines_text xs) (sym (flat_more f n ∙ ap (λ xs. flat_map f (below n) ++ xs) none ∙ append-nil (flat_map f (below n))))

pub app_shown : (d : Ends) (w : World) (a : ℕ) (out mid out' : List ℕ) → IsAppOf d w a → mid ≡ out ++ line_text (AppIs a d.outgoing.own d.incoming.place.inc d.incoming.place.seq) → out' ≡ mid ++ lines_text (map (λ (e : Key × ℕ). Seen a e.0.unit e.0.number) d.incoming.received.entries)
    → out' ≡ out ++ lines_text (app_lines w a)
app_shown d w a out mid out' h e f =
    line_then (AppIs a d.outgoing.own d.incoming.place.inc d.incoming.place.seq) (map (λ (e : Key × ℕ). Seen a e.0.unit e.0.number) d.incoming.received.entries) out mid out' e f
    ∙ (λ i. out ++ lines_text (AppIs a (h.ends.own i) (h.ends.place i).inc (h.ends.place i).seq ∷ map (λ (e : Key × ℕ). Seen a e.0.unit e.0.number) (sym (received_is d (app_party w a) agent_id (app_link w a) w.net.histories h.ends) i).entries))
    ∙ ap (λ b. out ++ lines_text (elim b as (λ _. List Line) [ true ↦ [] | false ↦ app_lines_of ])) (sym h.runs)
  where
    app_lines_of : List Line
    app_lines_of = AppIs a (w.apps a) (app_link w a).known (app_link w a).seq ∷ map (λ (e : Key × ℕ). Seen a e.0.unit e.0.number) (seen_running w a).entries

pub no_app : (apps : List (Option Ends)) (w : World) (a : ℕ) → get_or apps a None ≡ None → AppsAt apps w → nat_eq (w.apps a) 0 ≡ true
no_app apps w a none h = let zero_is : w.apps a ≡ 0 = subst (λ o. AppOf o w a) none (h a) in grind (arith, nat_tests, zero_is)

pub some_app : (apps : List (Option Ends)) (w : World) (a : ℕ) (d : Ends) → get_or apps a None ≡ Some d → AppsAt apps w → nat_eq (w.apps a) 0 ≡ false
some_app apps w a d is h = (subst (λ o. AppOf o w a) is (h a)).runs

pub no_app_lines : (w : World) (a : ℕ) → nat_eq (w.apps a) 0 ≡ true → app_lines w a ≡ []
no_app_lines w a t = ap (λ b. elim b as (λ _. List Line) [ true ↦ [] | false ↦ AppIs a (w.apps a) (app_link w a).known (app_link w a).seq ∷ map (λ (e : Key × ℕ). Seen a e.0.unit e.0.number) (seen_running w a).entries ]) t

pub no_peer_lines : (w : World) (a : ℕ) → nat_eq (w.apps a) 0 ≡ true → agent_app_lines w a ≡ []
no_peer_lines w a t = ap (λ b. elim b as (λ _. List Line) [ true ↦ [] | false ↦ PlanAt a (agent_link w a).known (agent_link w a).seq ∷ flat_map (λ u. map (λ n. Works a u n) (w.work a u)) all_units ]) t

peer_lines : (w : World) (a : ℕ) → nat_eq (w.apps a) 0 ≡ false → agent_app_lines w a ≡ PlanAt a (agent_link w a).known (agent_link w a).seq ∷ flat_map (λ u. map (λ n. Works a u n) (w.work a u)) all_units
peer_lines w a t = ap (λ b. elim b as (λ _. List Line) [ true ↦ [] | false ↦ PlanAt a (agent_link w a).known (agent_link w a).seq ∷ flat_map (λ u. map (λ n. Works a u n) (w.work a u)) all_units ]) t

nobody_works : (a : ℕ) (us : List ℕ) → flat_map (λ u. map (λ n. Works a u n) []) us ≡ []
nobody_works a [] = refl
nobody_works a (u ∷ us) = nobody_works a us

pub peer_shown : (g : Agent) (w : World) (a : ℕ) (p : Peer) (out mid out' : List ℕ) → IsAgent g w → get_or g.peers.items a None ≡ Some p → nat_eq (w.apps a) 0 ≡ false → mid ≡ out ++ line_text (PlanAt a p.ends.incoming.place.inc p.ends.incoming.place.seq)
    → out' ≡ mid ++ lines_text (flat_map (λ u. map (λ n. Works a u n) (runs_at g.workers a u)) all_units) → out' ≡ out ++ lines_text (agent_app_lines w a)
peer_shown g w a p out mid out' h is some e f =
    let k : IsPeer p (get_or g.workers a None) w.agent a (agent_link w a) w.net.histories (w.plans a) (w.counts a) (w.work a) =
    subst (λ (o : Option Peer). PeerAt o (get_or g.workers a None) w.agent a (agent_link w a) w.net.histories (w.plans a) (w.counts a) (w.work a)) is (h.peers a) in
    line_then (PlanAt a p.ends.incoming.place.inc p.ends.incoming.place.seq) (flat_map (λ u. map (λ n. Works a u n) (runs_at g.workers a u)) all_units) out mid out' e f
    ∙ (λ i. out ++ lines_text (PlanAt a (k.has.ends.place i).inc (k.has.ends.place i).seq ∷ flat_map (λ u. map (λ n. Works a u n) (k.has.runs u i)) all_units))
    ∙ ap (λ xs. out ++ lines_text xs) (sym (peer_lines w a some))

pub no_peer_shown : (g : Agent) (w : World) (a : ℕ) (out out' : List ℕ) → IsAgent g w → get_or g.peers.items a None ≡ None → nat_eq (w.apps a) 0 ≡ false → out' ≡ out ++ line_text (PlanAt a 0 0) → out' ≡ out ++ lines_text (agent_app_lines w a)
no_peer_shown g w a out out' h none some e =
    let k : IsNoPeer (get_or g.workers a None) w.agent a (agent_link w a) w.net.histories (w.plans a) (w.counts a) (w.work a) =
    subst (λ (o : Option Peer). PeerAt o (get_or g.workers a None) w.agent a (agent_link w a) w.net.histories (w.plans a) (w.counts a) (w.work a)) none (h.peers a) in
    line_then (PlanAt a 0 0) [] out out' out' e (sym (append-nil out'))
    ∙ (λ i. out ++ lines_text (PlanAt a 0 0 ∷ sym (nobody_works a all_units) i))
    ∙ (λ i. out ++ lines_text (PlanAt a (sym k.link i).known (sym k.link i).seq ∷ flat_map (λ u. map (λ n. Works a u n) (sym (k.no_work u) i)) all_units))
    ∙ ap (λ xs. out ++ lines_text xs) (sym (peer_lines w a some))

-- the same behind the line of the agent
pub agent_none : (w : World) (f : ℕ → List Line) (n : ℕ) (init out : List ℕ) → f n ≡ [] → out ≡ init ++ lines_text (AgentIs w.agent ∷ flat_map f (below n)) → out ≡ init ++ lines_text (AgentIs w.agent ∷ flat_map f (below (n + 1)))
agent_none w f n init out none e = e ∙ ap (λ xs. init ++ lines_text (AgentIs w.agent ∷ xs)) (sym (flat_more f n ∙ ap (λ xs. flat_map f (below n) ++ xs) none ∙ append-nil (flat_map f (below n))))

pub agent_more : (w : World) (f : ℕ → List Line) (n : ℕ) (init out out' : List ℕ) → out ≡ init ++ lines_text (AgentIs w.agent ∷ flat_map f (below n)) → out' ≡ out ++ lines_text (f n) → out' ≡ init ++ lines_text (AgentIs w.agent ∷ flat_map f (below (n + 1)))
agent_more w f n init out out' e g = text_then (AgentIs w.agent ∷ flat_map f (below n)) (f n) init out out' e g ∙ ap (λ xs. init ++ lines_text (AgentIs w.agent ∷ xs)) (sym (flat_more f n))

pub there_app : (apps : List (Option Ends)) (w : World) (a : ℕ) → IsSome (get_or apps a None) → AppsAt apps w → nat_eq (w.apps a) 0 ≡ false
there_app apps w a there h = by (get_or apps a None) there (h a)
  where
    by : (o : Option Ends) → IsSome o → AppOf o w a → nat_eq (w.apps a) 0 ≡ false
    by (Some d) t k = k.runs
    by None t k = let bad : ◌≡◌ {A = Bool} false true = t in absurd (let no : ⊥ = cc in no)

apps_are : all_apps ≡ below most_jobs
unfolding all_apps
apps_are = refl

pub agent_whole : (w : World) (n : ℕ) → n ≡ most_jobs → nat_eq w.agent 0 ≡ false → AgentIs w.agent ∷ flat_map (agent_app_lines w) (below n) ≡ agent_lines w
agent_whole w n e runs =
    ap (λ k. AgentIs w.agent ∷ flat_map (agent_app_lines w) (below k)) e ∙ ap (λ xs. AgentIs w.agent ∷ flat_map (agent_app_lines w) xs) (sym apps_are)
    ∙ ap (λ b. elim b as (λ _. List Line) [ true ↦ [] | false ↦ AgentIs w.agent ∷ flat_map (agent_app_lines w) all_apps ]) (sym runs)
