-- A master serves once every machine is reported, or when it is told to begin.
use Rattle.std.proofs.Common.{◌≡◌, ◌⊎◌, inl, inr, ℕ, Bool, true, false, nat_eq, List, [], ◌∷◌, Ok, refl, sym, ◌∙◌, ap, subst}
use Rattle.std.specs.Prelude.{◌&&◌, ◌||◌, length}
use Rattle.std.specs.List.{list_all}
use Rattle.std.specs.Ordering.{nat_cmp}
use Rattle.std.specs.FinMap.Entries.{put}
use Rattle.fuxi_terms.specs.Jobs.{is_live}
use Rattle.fuxi_terms.specs.Cluster.{ClusterRecord, has_machine}
use Rattle.fuxi_terms.specs.Lists.{below}
use Rattle.fuxi_terms.specs.Numbers.{has_number}
use Rattle.fuxi_terms.proofs.Booleans.{both_true, either}
use Rattle.fuxi_terms.proofs.Members.{In, in_below}
use Rattle.spec_net.specs.Net.{Id}
use Rattle.spec_net.specs.Ledgers.{Ledger, nothing}
use Rattle.spec_roles.specs.Masters.{Master, credited_of}
use Rattle.spec_roles.specs.MasterSteps.{ready, is_all_reported, credit, raise_credited, take_demand, meet_app, told_of, MasterChange, Begins, Changed, change_of}
use Rattle.spec_roles.specs.Transitions.{HasAllReports}
use Rattle.spec_roles.proofs.MapLemmas.{with_keeps}
use Rattle.spec_roles.proofs.TransitionsLemmas.{EachChange, changed_has, EachHeard, heard_has, ready_besides}

all_in : (p : ℕ → Bool) (xs : List ℕ) (m : ℕ) → list_all p xs ≡ true → In m xs → p m ≡ true
all_in p [] m e i = absurd i
all_in p (x ∷ xs) m e (inl same) = ap p same ∙ (both_true (p x) (list_all p xs) e).0
all_in p (x ∷ xs) m e (inr i) = all_in p xs m (both_true (p x) (list_all p xs) e).1 i

all_reported : (c : ClusterRecord) (M : Master) → is_all_reported c M ≡ true → (m : ℕ) → has_machine c m ≡ true → has_number m M.reported ≡ true
all_reported c M e m there = all_in (λ m. has_number m M.reported) (below (length c.machines)) m e (in_below (length c.machines) m there)

second : (a b : Bool) → a ≡ false → (a || b) ≡ true → b ≡ true
second true b f e = cc
second false b f e = e

-- a master that does not serve before the end of a step, and does behind it
pub ready_serves : (c : ClusterRecord) (M : Master) → M.serving ≡ false → (ready c M).serving ≡ true → HasAllReports c (ready c M)
ready_serves c M before behind =
    let s = ready_besides c M in
    let told : is_all_reported c M ≡ true = second M.serving (is_all_reported c M) before (sym s.serving ∙ behind) in
    record { reported = λ m there. subst (λ ms. has_number m ms ≡ true) (sym s.reported) (all_reported c M told m there) }

-- a change leaves the phase as it is, but for a begin, and reports as they are
record KeepsPhase (M : Master) (x : MasterChange) (N : Master) : Type 0 where
  phase : (N.serving ≡ M.serving) ⊎ (x ≡ Begins)
  reported : N.reported ≡ M.reported

each_change : (c : ClusterRecord) (M : Master) → EachChange c M (KeepsPhase M)
each_change c M = record {
  admits = λ j. record { phase = inl refl; reported = refl };
  ends = λ a. record { phase = inl refl; reported = refl };
  bans = λ m. record { phase = inl refl; reported = refl };
  unbans = λ m. record { phase = inl refl; reported = refl };
  begins = record { phase = inr refl; reported = refl };
  preempts = λ p _ _. record { phase = inl refl; reported = refl };
}

pub changes_serve : (c : ClusterRecord) (M : Master) (x : MasterChange) (d : Changed) → change_of c M x ≡ Ok d → M.serving ≡ false → (ready c d.state).serving ≡ true → HasAllReports c (ready c d.state) ⊎ (x ≡ Begins)
changes_serve c M x d e before behind = by (changed_has c M (KeepsPhase M) (each_change c M) x d e).phase
  where
    by : (d.state.serving ≡ M.serving) ⊎ (x ≡ Begins) → HasAllReports c (ready c d.state) ⊎ (x ≡ Begins)
    by (inl same) = inl (ready_serves c d.state (same ∙ before) behind)
    by (inr is) = inr is

pub changes_report : (c : ClusterRecord) (M : Master) (x : MasterChange) (d : Changed) → change_of c M x ≡ Ok d → (ready c d.state).reported ≡ M.reported
changes_report c M x d e = (ready_besides c d.state).reported ∙ (changed_has c M (KeepsPhase M) (each_change c M) x d e).reported

-- what is heard leaves the phase as it is, and each report that is adopted
record KeepsReports (M N : Master) : Type 0 where
  phase : N.serving ≡ M.serving
  reported : (m : ℕ) → has_number m M.reported ≡ true → has_number m N.reported ≡ true

met_reports : (M : Master) (fresh : Bool) (a : ℕ) → KeepsReports M (meet_app fresh M a)
met_reports M true a = record { phase = refl; reported = λ m h. h }
met_reports M false a = record { phase = refl; reported = λ m h. h }

each_heard : (M : Master) (fresh : Bool) (from : Id) (l : Ledger) → EachHeard M fresh from l (KeepsReports M)
each_heard M fresh from l = record {
  same = λ _. record { phase = refl; reported = λ m h. h };
  reports = λ _ _. record { phase = refl; reported = λ m h. with_keeps m from.number M.reported h };
  meets = λ _. met_reports M fresh from.number;
  demands = λ _. demanded (meet_app fresh M from.number) (met_reports M fresh from.number);
}
  where
    demanded : (N : Master) → KeepsReports M N → KeepsReports M (take_demand N from.number l)
    demanded N k = either (KeepsReports M) (nat_eq l.head N.epoch && is_live N.jobs from.number)
        (record N { demands = put nat_cmp from.number l N.demands; table = credit from.number (credited_of N from.number) l.entries N.table; credited = put nat_cmp from.number (raise_credited (credited_of N from.number) l.entries) N.credited })
        (record N { demands = put nat_cmp from.number nothing N.demands })
        (λ _. record { phase = k.phase; reported = k.reported }) (λ _. record { phase = k.phase; reported = k.reported })

pub hearing_serves : (c : ClusterRecord) (M : Master) (fresh taken : Bool) (from : Id) (l : Ledger) → M.serving ≡ false → (ready c (told_of M fresh taken from l)).serving ≡ true → HasAllReports c (ready c (told_of M fresh taken from l))
hearing_serves c M fresh taken from l before behind = ready_serves c (told_of M fresh taken from l) ((heard_has M fresh taken from l (KeepsReports M) (each_heard M fresh from l)).phase ∙ before) behind

pub hearing_reports : (c : ClusterRecord) (M : Master) (fresh taken : Bool) (from : Id) (l : Ledger) (m : ℕ) → has_number m M.reported ≡ true → has_number m (ready c (told_of M fresh taken from l)).reported ≡ true
hearing_reports c M fresh taken from l m h = subst (λ ms. has_number m ms ≡ true) (sym (ready_besides c (told_of M fresh taken from l)).reported) ((heard_has M fresh taken from l (KeepsReports M) (each_heard M fresh from l)).reported m h)
