-- Nothing is granted, asked or open at first.
use Rattle.std.proofs.Common.{◌≡◌, ℕ, false, not, List, [], length, get_or, refl, sym, ◌∙◌, ap}
use Rattle.std.specs.Prelude.{◌&&◌, replicate}
use Rattle.fuxi_terms.specs.Cluster.{ClusterRecord}
use Rattle.fuxi_terms.specs.declared.Key.{Key}
use Rattle.fuxi_terms.specs.Jobs.{job_numbers}
use Rattle.fuxi_terms.specs.Numbers.{has_number}
use Rattle.fuxi_terms.specs.TallyKeys.{want_key, near_key, rack_key, avoid_key}
use Rattle.spec_roles.specs.Masters.{Master, asked}
use Rattle.grant_table.specs.GrantTables.{TableRecord}
use Rattle.place_pass.specs.Cells.{Cell, no_cell, asks_at, asks_in}
use Rattle.place_pass.specs.Placers.{SeenRecord}
use Rattle.allotment.specs.PlacingReads.{IsPlacing, record_of}
use Rattle.fuxi_terms.proofs.IndexedLists.{repeated_at}

no_asks : (n a : ℕ) (k : Key) → asks_in (replicate n []) a k ≡ asks_at no_cell k
no_asks n a k = ap (λ (xs : List Cell). asks_at (get_or xs k.unit no_cell) k) (repeated_at [] n a)

abbrev pub first_table : ClusterRecord → TableRecord
first_table c = record { cluster = c; jobs = []; entries = [] }

abbrev pub first_seen : ClusterRecord → ℕ → SeenRecord
first_seen c n = record { cluster = c; cells = replicate n []; opened = replicate (length c.machines) false; line = []; turns = 0 }

pub starts : (c : ClusterRecord) (n : ℕ) (M : Master) → M.jobs ≡ [] → M.table ≡ [] → M.demands ≡ [] → M.line ≡ [] → M.reported ≡ [] → IsPlacing (first_table c) (first_seen c n) c M
starts c n M jobs table demands line reported = record {
  cluster = refl;
  numbers = sym (ap job_numbers jobs);
  jobs = λ a. sym (ap (λ js. record_of js a) jobs);
  entries = sym table;
  wants = λ a u. no_asks n a (want_key u) ∙ sym (nothing a (want_key u));
  near = λ a u m. no_asks n a (near_key u m) ∙ sym (nothing a (near_key u m));
  racks = λ a u r. no_asks n a (rack_key u r) ∙ sym (nothing a (rack_key u r));
  avoids = λ a u m. no_asks n a (avoid_key u m) ∙ sym (nothing a (avoid_key u m));
  usable = λ m. repeated_at false (length c.machines) m ∙ sym (ap (λ rs. has_number m rs && not (has_number m M.bans)) reported);
  line = sym line;
}
  where
    nothing : (a : ℕ) (k : Key) → asked M a k ≡ 0
    nothing a k = ap (λ ds. asked (record M { demands = ds }) a k) demands
