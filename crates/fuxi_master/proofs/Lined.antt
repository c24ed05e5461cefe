-- The line is brought up to date, and a master that serves settles.
use Rattle.std.proofs.Common.{◌≡◌, ◌+◌, ◌≤◌, Bool, true, false, sym, ◌∙◌, ap, subst, arith}
use Rattle.fuxi_terms.specs.Cluster.{ClusterRecord}
use Rattle.fuxi_terms.specs.Counts.{count}
use Rattle.fuxi_terms.specs.Keys.{spot_cmp}
use Rattle.fuxi_terms.specs.Tables.{Table}
use Rattle.spec_roles.specs.Masters.{Master}
use Rattle.spec_roles.specs.Placing.{line_up, settled}
use Rattle.grant_table.specs.GrantTables.{TableRecord}
use Rattle.place_pass.specs.Placers.{IsUpToDate}
use Rattle.allotment.specs.PlacingReads.{has_spot}
use Rattle.allotment.specs.SettlingRuns.{AreTouched}
use Rattle.allotment.specs.Allotted.{AllotmentRecord, Allots, AllWait, Touches}
use Rattle.fuxi_master.specs.StepEnds.{IsReadied}

-- nothing is granted
pub still : (x y : AllotmentRecord) → y.table ≡ x.table → y.touched ≡ x.touched → AreTouched x.table.entries y.table.entries x.touched y.touched
still x y table touched = record {
  kept = λ s e. ap (has_spot s) touched ∙ e;
  others = λ s e. ap (λ t. count spot_cmp t.entries s) table;
}

pub lined_readied : (serving : Bool) (x y : AllotmentRecord) → serving ≡ false → ((c : ClusterRecord) (M : Master) → Allots x c M → Allots y c (line_up M)) → AllWait y → IsUpToDate y.placer.seen y.table → y.table ≡ x.table → y.touched ≡ x.touched
    → y.placer.seen.turns ≤ x.placer.seen.turns + 2048 → IsReadied serving x y
lined_readied serving x y off stands waits up table touched turns = record {
  stands = λ c M a e. subst (Allots y c) (sym (ap (λ b. elim b as (λ _. Master) [ true ↦ settled c (line_up M) | false ↦ line_up M ]) (e ∙ off))) (stands c M a);
  waits = waits;
  up = up;
  spots = still x y table touched;
  table = table ∙ ap {A = Table} (λ es. record x.table { entries = es }) (sym (ap (λ t. t.entries) table));
  turns = turns;
}

pub settled_readied : (serving : Bool) (x y z : AllotmentRecord) → serving ≡ true → ((c : ClusterRecord) (M : Master) → Allots x c M → Allots y c (line_up M)) → y.table ≡ x.table → y.touched ≡ x.touched → y.placer.seen.turns ≤ x.placer.seen.turns + 2048
    → ((c : ClusterRecord) (M : Master) → Allots y c M → M.serving ≡ true → Allots z c (settled c M)) → AllWait z → IsUpToDate z.placer.seen z.table → Touches y z → z.table ≡ record y.table { entries = z.table.entries } → IsReadied serving x z
settled_readied serving x y z on lines table touched turns settles waits up touches made = record {
  stands = λ c M a e. subst (Allots z c) (sym (ap (λ b. elim b as (λ _. Master) [ true ↦ settled c (line_up M) | false ↦ line_up M ]) (e ∙ on))) (settles c (line_up M) (lines c M a) (e ∙ on));
  waits = waits;
  up = up;
  spots = record {
    kept = λ s e. touches.spots.kept s (ap (has_spot s) touched ∙ e);
    others = λ s e. touches.spots.others s e ∙ ap (λ t. count spot_cmp t.entries s) table;
  };
  table = made ∙ ap (λ (t : TableRecord). record t { entries = z.table.entries }) table;
  turns = let t = touches.turns in omega (arith, turns, t);
}
