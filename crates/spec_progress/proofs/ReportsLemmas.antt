-- A master has as reported each machine of whose agent it took a report.
use Rattle.std.proofs.Common.{◌≡◌, ℕ, ◌≤◌, Bool, true, false, cond, not, nat_eq, nat_lt, Some, refl, sym, ◌∙◌, ap, subst, arith}
use Rattle.std.specs.Prelude.{◌&&◌}
use Rattle.fuxi_terms.specs.declared.answers.What.{What}
use Rattle.fuxi_terms.specs.declared.answers.What.TheVariants.{Taken, Ack as Acked, Stranger, Stale, NotMine, Old, Gap, Ledger as SaysLedger, Exceeds as SaysExceeds}
use Rattle.fuxi_terms.specs.Cluster.{ClusterRecord}
use Rattle.fuxi_terms.specs.Jobs.{is_live}
use Rattle.fuxi_terms.specs.Numbers.{has_number}
use Rattle.fuxi_terms.proofs.Booleans.{and_true, both_true, either, nat_itself, not_false, or_left, or_right}
use Rattle.spec_net.specs.Net.{Net, Id, Link, Packet, Heard, met, hear_peer, heard_of, word_of, link_after, unmoved, is_taken, comes, same_id, last}
use Rattle.spec_net.specs.Ledgers.{Ledger}
use Rattle.spec_net.specs.Channels.{master_id, agent_id, is_agent, content, shape, has_heads}
use Rattle.spec_net.specs.Sound.{Sound, PacketNames}
use Rattle.spec_net.proofs.NetLemmas.{id_is}
use Rattle.spec_net.proofs.SoundLemmas.{taken_names}
use Rattle.spec_net.proofs.PublishLemmas.{set_here, set_beside}
use Rattle.spec_roles.specs.Masters.{Master}
use Rattle.spec_roles.specs.MasterSteps.{master_party, talks, counted, adopts, take_report, take_demand, meet_app}
use Rattle.spec_roles.proofs.TransitionsLemmas.{heard_has, reported_in}
use Rattle.spec_world.specs.Parties.{told, received}
use Rattle.spec_world.proofs.CreditsLemmas.{stayed, taken_places}
use Rattle.spec_world.proofs.RowsShown.{with_is}

-- machines that are reported stay so
record Has (m : ℕ) (M : Master) : Type 0 where
  it : has_number m M.reported ≡ true

met_has : (m : ℕ) (fresh : Bool) (M : Master) (a : ℕ) → Has m M → Has m (meet_app fresh M a)
met_has m true M a h = record { it = h.it }
met_has m false M a h = h

told_has : (m : ℕ) (M : Master) (h : Heard) (from : Id) (l : Ledger) → Has m M → Has m (told M h from l)
told_has m M h from l k = heard_has M h.fresh (is_taken h.what) from l (Has m) (record {
  same = λ _. k;
  reports = λ _ _. record { it = with_is m from.number M.reported ∙ or_right (nat_eq m from.number) (has_number m M.reported) k.it };
  meets = λ _. met_has m h.fresh M from.number k;
  demands = λ _. demanded (meet_app h.fresh M from.number) (met_has m h.fresh M from.number k);
})
  where
    demanded : (N : Master) → Has m N → Has m (take_demand N from.number l)
    demanded N n = either (Has m) (nat_eq l.head N.epoch && is_live N.jobs from.number) _ _ (λ _. record { it = n.it }) (λ _. record { it = n.it })

-- a report of this epoch that is taken
taken_has : (M : Master) (m : ℕ) (l : Ledger) → l.head ≡ M.epoch → Has m (take_report M m l)
taken_has M m l head = by (has_number m M.reported) refl
  where
    own : nat_eq l.head M.epoch ≡ true
    own = ap (λ n. nat_eq n M.epoch) head ∙ nat_itself M.epoch

    by : (b : Bool) → has_number m M.reported ≡ b → Has m (take_report M m l)
    by true e = either (Has m) (adopts M m l) (reported_in M m l) M (λ _. record { it = with_is m m M.reported ∙ or_left (nat_eq m m) (has_number m M.reported) (nat_itself m) }) (λ _. record { it = e })
    by false e = subst (λ b. Has m (cond b (reported_in M m l) M)) (sym (and_true (nat_eq l.head M.epoch) (not (has_number m M.reported)) own (ap not e)))
        (record { it = with_is m m M.reported ∙ or_left (nat_eq m m) (has_number m M.reported) (nat_itself m) })

-- what is heard of an agent: where the place is behind an entry, the machine is reported
record HeardHas (M : Master) (m : ℕ) (l : Ledger) (h : Heard) : Type 0 where
  it : 1 ≤ h.link.seq → Has m (cond (is_taken h.what) (take_report M m l) M)

module _ (c : ClusterRecord) (net : Net Ledger) (M : Master) (x : Packet) (s : Sound shape net) (n : PacketNames shape net.histories x.kind x) (m : ℕ) (before : 1 ≤ (net.links (master_party M) (agent_id m)).seq → has_number m M.reported ≡ true) where
  module _ (from : x.from.id ≡ agent_id m) where
    abbrev l : Link
    l = net.links (master_party M) x.from.id

    abbrev k : Link
    k = met l x.from.inc

    seq_before : 1 ≤ l.seq → has_number m M.reported ≡ true
    seq_before some = before (subst (λ d. 1 ≤ (net.links (master_party M) d).seq) from some)

    met_before : 1 ≤ k.seq → has_number m M.reported ≡ true
    met_before some = by (nat_lt (net.links (master_party M) x.from.id).known x.from.inc) some
      where
        by : (b : Bool) → 1 ≤ (cond b (record { known = x.from.inc; seq = 0; acked = 0 }) (net.links (master_party M) x.from.id)).seq → has_number m M.reported ≡ true
        by true z = absurd (omega (arith, z))
        by false z = seq_before z

    for_epoch : x.to.id ≡ master_id → word_of x.kind M.epoch k x ≡ Taken → (content net x).head ≡ M.epoch
    for_epoch to e = (taken_names shape net.histories x.kind M.epoch (met (net.links (master_party M) x.from.id) x.from.inc) x e n).head (ap (λ i. has_heads i x.to.id) from ∙ ap (λ i. has_heads (agent_id m) i) to) (taken_places x.kind M.epoch (met (net.links (master_party M) x.from.id) x.from.inc) x e).0

    by_word : x.to.id ≡ master_id → (top : ℕ) (w : What) → word_of x.kind M.epoch k x ≡ w → 1 ≤ (link_after w M.epoch top k x).seq → Has m (cond (is_taken w) (take_report M m (content net x)) M)
    by_word to top Taken e some = taken_has M m (content net x) (for_epoch to e)
    by_word to top Acked e some = record { it = met_before (let z = (stayed M.epoch top x Acked k refl).1 in omega (arith, z, some)) }
    by_word to top Stranger e some = record { it = met_before some }
    by_word to top Stale e some = record { it = met_before some }
    by_word to top NotMine e some = record { it = met_before some }
    by_word to top Old e some = record { it = met_before some }
    by_word to top Gap e some = record { it = met_before some }
    by_word to top (SaysLedger fault) e some = record { it = met_before some }
    by_word to top (SaysExceeds total has) e some = record { it = met_before some }

    heard : HeardHas M m (content net x) (heard_of net (master_party M) (talks c M) x)
    heard =
        let l = net.links (master_party M) x.from.id in
        let top = last net (master_party M) x.from.id in
        let talk = talks c M x.from.id in
        let peer = hear_peer M.epoch top l x in
        either (HeardHas M m (content net x)) (not (same_id x.to.id master_id && talk)) (unmoved Stranger l) (cond (nat_lt x.from.inc l.known) (unmoved Stale l) peer)
        (λ _. record { it = λ some. record { it = seq_before some } })
        (λ ours. either (HeardHas M m (content net x)) (nat_lt x.from.inc l.known) (unmoved Stale l) peer
        (λ _. record { it = λ some. record { it = seq_before some } })
        (λ _. record { it = λ some. by_word (id_is x.to.id master_id (both_true (same_id x.to.id master_id) talk (not_false (same_id x.to.id master_id && talk) ours)).0) top (word_of x.kind M.epoch (met l x.from.inc) x) refl some }))

  -- whoever is heard
  pub told_reports : 1 ≤ ((comes net (master_party M) (talks c M) (Some x)).links (master_party M) (agent_id m)).seq → has_number m (told M (heard_of net (master_party M) (talks c M) x) x.from.id (received c M net x)).reported ≡ true
  told_reports some = by (same_id x.from.id (agent_id m)) refl
    where
      by : (b : Bool) → same_id x.from.id (agent_id m) ≡ b → has_number m (told M (heard_of net (master_party M) (talks c M) x) x.from.id (received c M net x)).reported ≡ true
      by false e = (told_has m M (heard_of net (master_party M) (talks c M) x) x.from.id (received c M net x) (record { it = before (subst (λ (k : Link). 1 ≤ k.seq) (set_beside net.links (master_party M) x.from.id (heard_of net (master_party M) (talks c M) x).link (agent_id m) e) some) })).it
      by true e =
          let from = id_is x.from.id (agent_id m) e in
          let agent : is_agent x.from.id ≡ true = ap is_agent from in
          let number : x.from.id.number ≡ m = ap (λ (d : Id). d.number) from in
          let d = heard_of net (master_party M) (talks c M) x in
          let at : 1 ≤ d.link.seq = subst (λ (k : Link). 1 ≤ k.seq) (set_here net.links (master_party M) x.from.id d.link) (subst (λ q. 1 ≤ ((comes net (master_party M) (talks c M) (Some x)).links (master_party M) q).seq) (sym from) some) in
          let is : told M d x.from.id (received c M net x) ≡ cond (is_taken d.what) (take_report M m (content net x)) M =
          ap (λ b. cond b (cond (is_taken d.what) (take_report M x.from.id.number (received c M net x)) M) (cond (is_taken d.what) (take_demand (meet_app d.fresh M x.from.id.number) x.from.id.number (received c M net x)) (meet_app d.fresh M x.from.id.number))) agent
          ∙ ap (λ b. cond (is_taken d.what) (take_report M x.from.id.number (cond b (content net x) (counted c M.jobs x.from.id.number (content net x)))) M) agent
          ∙ ap (λ k. cond (is_taken d.what) (take_report M k (content net x)) M) number in
          subst (λ (N : Master). has_number m N.reported ≡ true) (sym is) ((heard from).it at).it
