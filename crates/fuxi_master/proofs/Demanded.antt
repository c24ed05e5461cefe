-- What the demand of an application makes of the allotment.
use Rattle.std.proofs.Common.{◌≡◌, ℕ, Bool, true, false, cond, nat_eq, List, [], sym, ◌∙◌, ap, subst}
use Rattle.std.specs.List.{AllByRecursion}
use Rattle.std.specs.Ordering.{nat_cmp}
use Rattle.std.specs.FinMap.Entries.{put}
use Rattle.fuxi_terms.specs.Cluster.{ClusterRecord}
use Rattle.fuxi_terms.specs.Counts.{count, AreCounts}
use Rattle.fuxi_terms.specs.Jobs.{unit_count}
use Rattle.fuxi_terms.specs.Keys.{key_cmp, spot_cmp}
use Rattle.fuxi_terms.specs.TallyKeys.{credited_what, greatest_demand, greatest_grant}
use Rattle.fuxi_terms.specs.declared.Key.{Key}
use Rattle.grant_table.specs.GrantTables.{TableRecord, as_known}
use Rattle.fuxi_terms.specs.NumbersSet.{AreNumbers}
use Rattle.fuxi_terms.specs.Tables.{Table}
use Rattle.allotment.specs.PlacingReads.{has_spot}
use Rattle.spec_net.specs.Ledgers.{tally_ledger}
use Rattle.spec_roles.specs.Masters.{Master}
use Rattle.spec_roles.specs.MasterSteps.{counted, credit}
use Rattle.allotment.specs.Allotted.{AllotmentRecord, Allots, Touches, CreditsBack, newly_credited}
use Rattle.ledger_updates.specs.AllShown.{App}
use Rattle.fuxi_master.specs.Heard.{IsCredited, IsDemanded}
use Rattle.fuxi_master.proofs.NewlyCredited.{are_numbers, are_credited}

abbrev pub AsksAlike : ℕ → List (Key × ℕ) → AllotmentRecord → AllotmentRecord → Type 0
AsksAlike a es y z = (c : ClusterRecord) (M : Master) (head : ℕ) → Allots y c M → Allots z c (record M { demands = put nat_cmp a (counted c M.jobs a (tally_ledger head es)) M.demands })

-- nothing changed but what is asked
asked_touches : (x y z : AllotmentRecord) → Touches x y → z.table ≡ y.table → z.touched ≡ y.touched → z.placer.seen.turns ≡ y.placer.seen.turns → Touches x z
asked_touches x y z t table touched turns = record {
  spots = record {
    kept = λ s e. ap (has_spot s) touched ∙ t.spots.kept s e;
    others = λ s e. ap (λ (u : TableRecord). count spot_cmp u.entries s) table ∙ t.spots.others s (sym (ap (has_spot s) touched) ∙ e);
  };
  turns = turns ∙ t.turns;
}

pub credited_done : (a : ℕ) (es given : List (Key × ℕ)) (x y z : AllotmentRecord) → CreditsBack a es given x y → AsksAlike a es y z → z.table ≡ y.table → z.touched ≡ y.touched → z.placer.seen.turns ≡ y.placer.seen.turns → IsCredited a es given x z
credited_done a es given x y z back asks table touched turns = record {
  stands = λ c M head credited allots agree. asks c (record M { table = credit a credited (counted c M.jobs a (tally_ledger 0 es)).entries M.table }) head (back.stands c M credited allots agree);
  touches = asked_touches x y z back.touches table touched turns;
  table = table ∙ back.table ∙ ap {A = Table} (λ es. record x.table { entries = es }) (sym (ap (λ (u : TableRecord). u.entries) table));
}

pub dead_demanded : (a : ℕ) (fresh live : Bool) (d : App) (es : List (Key × ℕ)) (x z : AllotmentRecord) → live ≡ false → es ≡ [] → AsksAlike a es x z → z.table ≡ x.table → z.touched ≡ x.touched → z.placer.seen.turns ≡ x.placer.seen.turns
    → AreCounts key_cmp greatest_demand d.incoming.received.entries → (numbers : List (Key × ℕ)) → numbers ≡ [] → IsDemanded a fresh live d x z numbers
dead_demanded a fresh live d es x z dead none asks table touched turns counts numbers nothing_new = record {
  dead = λ _ c M allots. subst (λ es. Allots z c (record M { demands = put nat_cmp a (counted c M.jobs a (tally_ledger 0 es)) M.demands })) none (asks c M 0 allots);
  dead_table = λ _. table;
  dead_numbers = λ _. nothing_new;
  alive = λ on. absurd (let f : true ≡ false = sym on ∙ dead in cc);
  alive_numbers = λ on. absurd (let f : true ≡ false = sym on ∙ dead in cc);
  touches = record { spots = record { kept = λ s e. ap (has_spot s) touched ∙ e; others = λ s e. ap (λ (u : TableRecord). count spot_cmp u.entries s) table }; turns = turns };
  table = table ∙ ap {A = Table} (λ es. record x.table { entries = es }) (sym (ap (λ (u : TableRecord). u.entries) table));
  sorted = counts.sorted;
  numbers_are = subst (AreNumbers key_cmp greatest_grant) (sym nothing_new) (record { sorted = tt; within = tt });
  kinds = subst (AllByRecursion (λ (e : Key × ℕ). nat_eq e.0.what credited_what ≡ true)) (sym nothing_new) tt;
}

pub alive_demanded : (a : ℕ) (fresh live : Bool) (d : App) (given : List (Key × ℕ)) (x z : AllotmentRecord) (numbers : List (Key × ℕ)) → live ≡ true → given ≡ cond fresh [] d.outgoing.present.entries → IsCredited a d.incoming.received.entries given x z
    → AreCounts key_cmp greatest_demand d.incoming.received.entries → numbers ≡ newly_credited x.table.cluster (unit_count (as_known x.table.jobs) a) given d.incoming.received.entries → IsDemanded a fresh live d x z numbers
alive_demanded a fresh live d given x z numbers alive is done counts made =
    let cluster = x.table.cluster in
    let units = unit_count (as_known x.table.jobs) a in
    record {
      dead = λ off. absurd (let f : true ≡ false = sym alive ∙ off in cc);
      dead_table = λ off. absurd (let f : true ≡ false = sym alive ∙ off in cc);
      dead_numbers = λ off. absurd (let f : true ≡ false = sym alive ∙ off in cc);
      alive = λ _. subst (λ g. IsCredited a d.incoming.received.entries g x z) is done;
      alive_numbers = λ _. made ∙ ap (λ g. newly_credited cluster units g d.incoming.received.entries) is;
      touches = done.touches;
      table = done.table;
      sorted = counts.sorted;
      numbers_are = subst (AreNumbers key_cmp greatest_grant) (sym made) (are_numbers cluster units given d.incoming.received.entries counts);
      kinds = subst (AllByRecursion (λ (e : Key × ℕ). nat_eq e.0.what credited_what ≡ true)) (sym made) (are_credited cluster units given d.incoming.received.entries);
    }
