use Rattle.std.proofs.Common.{◌≡◌, ℕ, zero, suc, ◌≤◌, replicate, List, [], ◌∷◌, length, get_or, slice_get, Option, Some, None, refl, sym, ◌∙◌, ap, subst, arith}
use Rattle.std.specs.Option.{option_map, unwrap_or}
use Rattle.fuxi_terms.specs.Cluster.{ClusterRecord, GroupRecord, no_group, quota_at, limit_at}
use Rattle.fuxi_terms.specs.Vectors.{at_place}
use Rattle.fuxi_terms.proofs.ByPlace.{at_place-get_or}
use Rattle.fuxi_terms.proofs.IndexedLists.{repeated_at}
use Rattle.fuxi_terms.proofs.VectorLaws.{get_or-padded}
use Rattle.cluster_desc.specs.Records.{group_of}
use Rattle.cluster_desc.specs.declared.cluster.Group.{Group}
use Rattle.preempt.proofs.ShelvesLemmas.{quota_past}
use Rattle.preempt.proofs.machine_grants.group_use.Goals as goal

-- what a group that is there is promised and may use
quota_is : (gs : List GroupRecord) (g : ℕ) (x : Group) → option_map group_of (slice_get gs g) ≡ Some x → (i : ℕ) → get_or x.quota.q i 0 ≡ at_place (unwrap_or (slice_get gs g) no_group).quota i
quota_is gs g x e i = by (slice_get gs g) e
  where
    by : (o : Option GroupRecord) → option_map group_of o ≡ Some x → get_or x.quota.q i 0 ≡ at_place (unwrap_or o no_group).quota i
    by None e = cc
    by (Some r) e = let same : group_of r ≡ x = cc in subst (λ (y : Group). get_or y.quota.q i 0 ≡ at_place r.quota i) same (get_or-padded r.quota i ∙ sym (at_place-get_or r.quota i))

limit_is : (gs : List GroupRecord) (g : ℕ) (x : Group) → option_map group_of (slice_get gs g) ≡ Some x → (i : ℕ) → get_or x.limit.q i 0 ≡ at_place (unwrap_or (slice_get gs g) no_group).limit i
limit_is gs g x e i = by (slice_get gs g) e
  where
    by : (o : Option GroupRecord) → option_map group_of o ≡ Some x → get_or x.limit.q i 0 ≡ at_place (unwrap_or o no_group).limit i
    by None e = cc
    by (Some r) e = let same : group_of r ≡ x = cc in subst (λ (y : Group). get_or y.limit.q i 0 ≡ at_place r.limit i) same (get_or-padded r.limit i ∙ sym (at_place-get_or r.limit i))

not_there : (gs : List GroupRecord) (g : ℕ) → length gs ≤ g → slice_get gs g ≡ None
not_there [] g le = refl
not_there (x ∷ gs) zero le = absurd (omega (arith, le))
not_there (x ∷ gs) (suc g) le = not_there gs g (omega (arith, le))

pub returns-then-number-groups : goal.returns-then-number-groups
returns-then-number-groups c =
    let g = c.args.number.0 in
    let same = c.cluster-cluster.ensures.cluster in
    let groups = c.cluster-cluster.result.now.groups in
    record {
      quota = λ i. quota_is groups g c.group-bounds.result.now c.group-bounds.ensures i ∙ ap (λ (x : ClusterRecord). quota_at x g i) same;
      limit = λ i. limit_is groups g c.group-bounds.result.now c.group-bounds.ensures i ∙ ap (λ (x : ClusterRecord). limit_at x g i) same;
      used = λ i. sym (at_place-get_or c.used_by-used.result.q i) ∙ c.used_by-used.ensures.used i;
      beyond = λ i le. (quota_past c.args.table.now.cluster c.cluster-cluster.ensures.sound.valid g i le, c.used_by-used.ensures.beyond i le);
    }

pub returns-else-number-groups : goal.returns-else-number-groups
returns-else-number-groups c =
    let g = c.args.number.0 in
    let same = c.cluster-cluster.ensures.cluster in
    let none = not_there c.cluster-cluster.result.now.groups g (let a = c.groups.ensures.number in let b = c.if-number-groups.false in omega (arith, a, b)) in
    let zero_at : (qs : List ℕ) → qs ≡ replicate 8 0 → (i : ℕ) → get_or qs i 0 ≡ 0 = λ qs is i. ap (λ xs. get_or xs i 0) is ∙ repeated_at 0 8 i in
    record {
      quota = λ i. zero_at c.args.nothing.now.quota.q c.requires.quota i ∙ ap (λ (o : Option GroupRecord). at_place (unwrap_or o no_group).quota i) (sym none) ∙ ap (λ (x : ClusterRecord). quota_at x g i) same;
      limit = λ i. zero_at c.args.nothing.now.limit.q c.requires.limit i ∙ ap (λ (o : Option GroupRecord). at_place (unwrap_or o no_group).limit i) (sym none) ∙ ap (λ (x : ClusterRecord). limit_at x g i) same;
      used = λ i. sym (at_place-get_or c.used_by-used.result.q i) ∙ c.used_by-used.ensures.used i;
      beyond = λ i le. (quota_past c.args.table.now.cluster c.cluster-cluster.ensures.sound.valid g i le, c.used_by-used.ensures.beyond i le);
    }
