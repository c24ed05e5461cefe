-- What an allotment stands for depends on some parts of a master alone.
use Rattle.std.proofs.Common.{◌≡◌, ℕ, sym, ◌∙◌, ap}
use Rattle.std.specs.Prelude.{◌&&◌, not}
use Rattle.fuxi_terms.specs.Cluster.{ClusterRecord}
use Rattle.fuxi_terms.specs.Jobs.{job_numbers}
use Rattle.fuxi_terms.specs.Numbers.{has_number}
use Rattle.fuxi_terms.specs.TallyKeys.{want_key, near_key, rack_key, avoid_key}
use Rattle.spec_net.specs.Ledgers.{at_key}
use Rattle.spec_roles.specs.Masters.{Master, demand_of}
use Rattle.allotment.specs.PlacingReads.{record_of}
use Rattle.allotment.specs.Allotted.{AllotmentRecord, Allots}

-- two masters that placing cannot tell apart
pub record PlacesAlike (M N : Master) : Type 0 where
  pub numbers : job_numbers N.jobs ≡ job_numbers M.jobs
  pub jobs : (a : ℕ) → record_of N.jobs a ≡ record_of M.jobs a
  pub table : N.table ≡ M.table
  pub demands : (a : ℕ) → demand_of N a ≡ demand_of M a
  pub usable : (m : ℕ) → (has_number m N.reported && not (has_number m N.bans)) ≡ (has_number m M.reported && not (has_number m M.bans))
  pub line : N.line ≡ M.line

pub allots_alike : (x : AllotmentRecord) (c : ClusterRecord) (M N : Master) → Allots x c M → PlacesAlike M N → Allots x c N
allots_alike x c M N h p = record {
  placing = record {
    cluster = h.placing.cluster;
    numbers = h.placing.numbers ∙ sym p.numbers;
    jobs = λ a. h.placing.jobs a ∙ sym (p.jobs a);
    entries = h.placing.entries ∙ sym p.table;
    wants = λ a u. h.placing.wants a u ∙ sym (ap (λ l. at_key l (want_key u)) (p.demands a));
    near = λ a u m. h.placing.near a u m ∙ sym (ap (λ l. at_key l (near_key u m)) (p.demands a));
    racks = λ a u r. h.placing.racks a u r ∙ sym (ap (λ l. at_key l (rack_key u r)) (p.demands a));
    avoids = λ a u m. h.placing.avoids a u m ∙ sym (ap (λ l. at_key l (avoid_key u m)) (p.demands a));
    usable = λ m. h.placing.usable m ∙ sym (p.usable m);
    line = h.placing.line ∙ sym p.line;
  };
}
