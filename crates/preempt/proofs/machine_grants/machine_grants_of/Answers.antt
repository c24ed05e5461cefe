use Rattle.std.proofs.Common.{◌≡◌, ℕ, ◌<◌, length, get_or, ◌∙◌, ap, arith}
use Rattle.std.proofs.lemmas.Option.{slice_get-get_or}
use Rattle.fuxi_terms.specs.Cluster.{ClusterRecord, has_at}
use Rattle.preempt.proofs.ShelvesLemmas.{has_is}
use Rattle.preempt.proofs.machine_grants.machine_grants_of.Goals as goal

pub returns-clause-shelf : goal.returns-clause-shelf
returns-clause-shelf c =
    let t = c.args.table.now in
    let m = c.args.machine.0 in
    let free = c.args.stock.now.free.now in
    let same = c.cluster-cluster.ensures.cluster in
    let has : (i : ℕ) → get_or c.machine.result.now.has.q i 0 ≡ has_at t.cluster m i = λ i. has_is c.cluster-cluster.result.now.machines m c.machine.result.now c.machine.ensures i ∙ ap (λ (x : ClusterRecord). has_at x m i) same in
    let there : m < length free = let a = c.requires.machine in let b = c.requires.stock.free.long in omega (arith, a, b) in
    record {
      walk = c.requires.entries.walk;
      each = c.requires.entries.each;
      few = c.requires.entries.few;
      has = λ i lt. has i;
      free = λ i lt. (c.requires.stock.free.each m _ (slice_get-get_or free m _ there)).is i lt;
    }
