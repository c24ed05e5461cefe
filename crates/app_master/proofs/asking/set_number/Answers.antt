use Rattle.std.proofs.Common.{◌≡◌, ◌≤◌, false, Ok, ap, sym, ◌∙◌, subst}
use Rattle.fuxi_terms.specs.Keys.{key_cmp}
use Rattle.fuxi_terms.specs.Counts.{AreCounts, count, set_count}
use Rattle.fuxi_terms.specs.Tallies.{TallyRecord}
use Rattle.fuxi_terms.specs.TallyKeys.{greatest_demand}
use Rattle.fuxi_terms.proofs.CountsLemmas.{count_le}
use Rattle.fuxi_terms.proofs.KeyOrders.{key_total, same_key}
use Rattle.spec_net.specs.Ledgers.{tally_ledger, at_key}
use Rattle.spec_net.specs.Sides.{shown, appended}
use Rattle.spec_roles.specs.Apps.{changed_demand}
use Rattle.peer_channel.specs.Bodies.{tally_of}
use Rattle.app_master.specs.AppCores.{patched_demand, IsUp}
use Rattle.app_master.specs.Asking.{IsMove}
use Rattle.app_master.proofs.DemandChanges.{set_itself, set_here, move_made, changed_is}
use Rattle.app_master.proofs.asking.set_number.Goals as goal

pub returns-then-kept-number-clause-sets : goal.returns-then-kept-number-clause-sets
returns-then-kept-number-clause-sets c = λ boot e s.
    let t = c.args.up.now.outgoing.present in
    let same : c.args.number ≡ count key_cmp t.entries c.args.key = sym c.if-kept-number.true ∙ c.get-kept.ensures ∙ ap (λ (x : TallyRecord). count key_cmp x.entries c.args.key) c.sent-2.ensures in
    let counts : AreCounts key_cmp greatest_demand t.entries = subst (λ (x : TallyRecord). AreCounts key_cmp greatest_demand x.entries) c.sent.ensures c.entries-entries.ensures.counts in
    let is : changed_demand (shown e) c.args.key c.args.number ≡ tally_of t = ap (λ l. changed_demand l c.args.key c.args.number) s.shown ∙ ap (tally_ledger t.head) (set_itself t.entries c.args.key c.args.number counts same) in
    subst (IsUp c.args.up.now boot) (sym (ap (λ l. appended false l e) is ∙ c.is_shown.ensures boot e s)) s

pub one_change-requires-clause-before : goal.one_change-requires-clause-before
one_change-requires-clause-before c =
    let t = c.args.up.now.outgoing.present in
    let counts : AreCounts key_cmp greatest_demand t.entries = subst (λ (x : TallyRecord). AreCounts key_cmp greatest_demand x.entries) c.sent.ensures c.entries-entries.ensures.counts in
    let is : c.get-kept.result ≡ count key_cmp t.entries c.args.key = c.get-kept.ensures ∙ ap (λ (x : TallyRecord). count key_cmp x.entries c.args.key) c.sent-2.ensures in
    subst (λ n. n ≤ greatest_demand c.args.key) (sym is) (count_le key_total same_key greatest_demand t.entries c.args.key counts.within)

pub returns-in-Ok-clause-sets : goal.returns-in-Ok-clause-sets
returns-in-Ok-clause-sets c = λ boot e s.
    let t = c.args.up.now.outgoing.present in
    let u = c.post.new.self.outgoing.present in
    let k = c.args.key in
    let n = c.args.number in
    let change = c.in_ok-change.change in
    let kept : c.get-kept.result ≡ count key_cmp t.entries k = c.get-kept.ensures ∙ ap (λ (x : TallyRecord). count key_cmp x.entries k) c.sent-2.ensures in
    let head : c.head.result ≡ t.head = c.head.ensures ∙ ap (λ (x : TallyRecord). x.head) c.sent-3.ensures in
    let move : IsMove t.head k (count key_cmp t.entries k) n change = subst (λ h. IsMove h k (count key_cmp t.entries k) n change) head (subst (λ m. IsMove c.head.result k m n change) kept c.in_ok-change.ensures) in
    let made : patched_demand t change ≡ Ok u = c.in-Ok.ensures.made in
    let is : u ≡ record { head = t.head; entries = set_count key_cmp t.entries k n } = let there = sym made ∙ move_made t k n change c.requires.within move in cc in
    let present : tally_of u ≡ changed_demand (shown e) k n = ap tally_of is ∙ changed_is t k n (shown e) s.shown in
    let here : count key_cmp u.entries k ≡ n = ap (λ (x : TallyRecord). count key_cmp x.entries k) is ∙ set_here t.entries k n in
    let differs : tally_of t ≡ tally_of u → ⊥ = λ same. c.if-kept-number.false (kept ∙ ap (λ l. at_key l k) same ∙ here) in
    subst (λ l. IsUp c.post.new.self boot (appended false l e)) present ((c.in-Ok.ensures.posts boot e s).differing differs)
