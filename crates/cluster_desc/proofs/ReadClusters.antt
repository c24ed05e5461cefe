-- What is read of a line is within the limits.
use Rattle.std.proofs.Common.{◌≡◌, ℕ, ◌+◌, Bool, true, false, not, nat_eq, nat_lt, ◌&&◌, List, [], ◌∷◌, length, Result, Ok, Err, refl, ap, subst, ◌∙◌, arith}
use Rattle.std.specs.List.{list_all}
use Rattle.std.proofs.lemmas.Bool.{and_from, and_parts, not-true, ltb-false, lt-ltb}
use Rattle.serde_json.specs.Data.{Data, Items, no_items, item}
use Rattle.serde_json.specs.Find.{as_array}
use Rattle.fuxi_terms.specs.Vectors.{fits}
use Rattle.fuxi_terms.specs.Cluster.{MachineRecord, GroupRecord, ClusterRecord, are_quantities, is_between, is_valid_cluster, is_valid_group, is_valid_machine, is_vector_of}
use Rattle.fuxi_terms.specs.declared.cluster_key.ClusterKey.{ClusterKey}
use Rattle.fuxi_terms.specs.declared.cluster_key.ClusterKey.TheVariants.{Cluster, Resources, Machines, Groups, Rack, Has, Quota, Limit}
use Rattle.cluster_desc.specs.declared.fault.ClusterFault.{ClusterFault}
use Rattle.cluster_desc.specs.declared.fault.ClusterFault.TheVariants.{WrongKind, Count, LengthDiffers, QuantityRange, QuotaOverLimit}
use Rattle.cluster_desc.specs.Faults.{◌>>=◌, holds, given}
use Rattle.cluster_desc.specs.ClusterLine.{whole_number, each, number_between, numbers_of, quantities, count_of, array_between, object_of, value_at, machine_at, group_no, group_at, cluster_at}

-- where tests one after another give a value, each of them did
pub bind_ok : {A B : Type 0} (r : Result A ClusterFault) (f : A → Result B ClusterFault) (b : B) → (r >>= f) ≡ Ok b → (a : A) × (r ≡ Ok a) × (f a ≡ Ok b)
bind_ok (Ok a) f b h = (a, refl, h)
bind_ok (Err e) f b h = absurd (let g : ⊥ = cc in g)

ok_same : {A : Type 0} (a b : A) → ◌≡◌ {A = Result A ClusterFault} (Ok a) (Ok b) → a ≡ b
ok_same a b h = cc

holds_ok : (b : Bool) (e : ClusterFault) (u : Unit {0}) → holds b e ≡ Ok u → b ≡ true
holds_ok true e u h = refl
holds_ok false e u h = absurd (let g : ⊥ = cc in g)

number_valid : (key : ClusterKey) (least most : ℕ) (d : Data) (n : ℕ) → number_between key least most d ≡ Ok n → is_between least most n ≡ true
unfolding number_between
number_valid key least most d n h =
    let a = bind_ok (whole_number key d) (λ m. holds (is_between least most m) (Count key) >>= λ _. Ok m) n h in
    let b = bind_ok (holds (is_between least most a.0) (Count key)) (λ _. Ok a.0) n a.2 in
    let e = ok_same a.0 n b.2 in
    subst (λ (m : ℕ). is_between least most m ≡ true) e (holds_ok (is_between least most a.0) (Count key) b.0 b.1)

quantities_valid : (key : ClusterKey) (resources : ℕ) (d : Data) (ns : List ℕ) → quantities key resources d ≡ Ok ns → is_vector_of resources ns ≡ true
unfolding quantities
quantities_valid key resources d ns h =
    let a = bind_ok (numbers_of key d) (λ ms. holds (nat_eq (length ms) resources) LengthDiffers >>= λ _. holds (are_quantities ms) QuantityRange >>= λ _. Ok ms) ns h in
    let b = bind_ok (holds (nat_eq (length a.0) resources) LengthDiffers) (λ _. holds (are_quantities a.0) QuantityRange >>= λ _. Ok a.0) ns a.2 in
    let g = bind_ok (holds (are_quantities a.0) QuantityRange) (λ _. Ok a.0) ns b.2 in
    let e = ok_same a.0 ns g.2 in
    subst (λ (ms : List ℕ). is_vector_of resources ms ≡ true) e
    (and_from (nat_eq (length a.0) resources) (are_quantities a.0) (holds_ok (nat_eq (length a.0) resources) LengthDiffers b.0 b.1) (holds_ok (are_quantities a.0) QuantityRange g.0 g.1))

below_most : (n : ℕ) → is_between 0 63 n ≡ true → nat_lt n 64 ≡ true
below_most n h =
    let a = ltb-false 63 n (not-true (nat_lt 63 n) (and_parts (not (nat_lt n 0)) (not (nat_lt 63 n)) h).1) in
    lt-ltb n 64 (omega arith)

machine_valid : (resources : ℕ) (d : Data) (m : MachineRecord) → machine_at resources d ≡ Ok m → is_valid_machine resources m ≡ true
unfolding machine_at
machine_valid resources d m h =
    let a = bind_ok (object_of Machines (Rack ∷ Has ∷ []) d) _ m h in
    let b = bind_ok (value_at Rack d) _ m a.2 in
    let g = bind_ok (value_at Has d) _ m b.2 in
    let i = bind_ok (number_between Rack 0 63 b.0) _ m g.2 in
    let j = bind_ok (quantities Has resources g.0) _ m i.2 in
    let e = ok_same (record { rack = i.0; has = j.0 }) m j.2 in
    subst (λ (x : MachineRecord). is_valid_machine resources x ≡ true) e
    (and_from (nat_lt i.0 64) (is_vector_of resources j.0) (below_most i.0 (number_valid Rack 0 63 b.0 i.0 i.1)) (quantities_valid Has resources g.0 j.0 j.1))

group_valid : (resources number : ℕ) (d : Data) (x : GroupRecord) → group_at resources number d ≡ Ok x → is_valid_group resources x ≡ true
unfolding group_at
group_valid resources number d x h =
    let a = bind_ok (object_of Groups (Quota ∷ Limit ∷ []) d) _ x h in
    let b = bind_ok (value_at Quota d) _ x a.2 in
    let g = bind_ok (value_at Limit d) _ x b.2 in
    let i = bind_ok (quantities Quota resources b.0) _ x g.2 in
    let j = bind_ok (quantities Limit resources g.0) _ x i.2 in
    let k = bind_ok (holds (fits i.0 j.0) (QuotaOverLimit (group_no number))) _ x j.2 in
    let e = ok_same (record { quota = i.0; limit = j.0 }) x k.2 in
    subst (λ (y : GroupRecord). is_valid_group resources y ≡ true) e
    (and_from (is_vector_of resources i.0) (is_vector_of resources j.0 && fits i.0 j.0) (quantities_valid Quota resources b.0 i.0 i.1)
    (and_from (is_vector_of resources j.0) (fits i.0 j.0) (quantities_valid Limit resources g.0 j.0 j.1) (holds_ok (fits i.0 j.0) (QuotaOverLimit (group_no number)) k.0 k.1)))

each_valid : {A : Type 0} (f : ℕ → Data → Result A ClusterFault) (p : A → Bool) → ((i : ℕ) (d : Data) (a : A) → f i d ≡ Ok a → p a ≡ true) → (i : ℕ) (ds : Items) (as_ : List A) → each f i ds ≡ Ok as_ → (list_all p as_ ≡ true) × (length as_ ≡ count_of ds)
each_valid {A} f p v i no_items as_ h = let e : [] ≡ as_ = cc in subst (λ (xs : List A). (list_all p xs ≡ true) × (length xs ≡ 0)) e (refl, refl)
each_valid {A} f p v i (item d ds) as_ h =
    let a = bind_ok (f i d) (λ x. each f (i + 1) ds >>= λ xs. Ok (x ∷ xs)) as_ h in
    let b = bind_ok (each f (i + 1) ds) (λ xs. Ok (a.0 ∷ xs)) as_ a.2 in
    let r = each_valid f p v (i + 1) ds b.0 b.1 in
    let e = ok_same (a.0 ∷ b.0) as_ b.2 in
    subst (λ (xs : List A). (list_all p xs ≡ true) × (length xs ≡ count_of ds + 1)) e
    (and_from (p a.0) (list_all p b.0) (v i d a.0 a.1) r.0, omega (arith, r.1))

array_valid : (key : ClusterKey) (least most : ℕ) (d : Data) (ds : Items) → array_between key least most d ≡ Ok ds → is_between least most (count_of ds) ≡ true
unfolding array_between
array_valid key least most d ds h =
    let a = bind_ok (given (as_array d) (WrongKind key)) (λ xs. holds (is_between least most (count_of xs)) (Count key) >>= λ _. Ok xs) ds h in
    let b = bind_ok (holds (is_between least most (count_of a.0)) (Count key)) (λ _. Ok a.0) ds a.2 in
    let e = ok_same a.0 ds b.2 in
    subst (λ (xs : Items). is_between least most (count_of xs) ≡ true) e (holds_ok (is_between least most (count_of a.0)) (Count key) b.0 b.1)

-- a cluster that is read is within the limits
pub cluster_valid : (d : Data) (c : ClusterRecord) → cluster_at d ≡ Ok c → is_valid_cluster c ≡ true
unfolding cluster_at
cluster_valid d c h =
    let a = bind_ok (object_of Cluster (Resources ∷ Machines ∷ Groups ∷ []) d) _ c h in
    let r = bind_ok (value_at Resources d) _ c a.2 in
    let m = bind_ok (value_at Machines d) _ c r.2 in
    let g = bind_ok (value_at Groups d) _ c m.2 in
    let n = bind_ok (number_between Resources 1 8 r.0) _ c g.2 in
    let ms = bind_ok (array_between Machines 1 256 m.0) _ c n.2 in
    let mr = bind_ok (each (λ i. machine_at n.0) 0 ms.0) _ c ms.2 in
    let gs = bind_ok (array_between Groups 1 32 g.0) _ c mr.2 in
    let gr = bind_ok (each (group_at n.0) 0 gs.0) _ c gs.2 in
    let e = ok_same (record { resources = n.0; machines = mr.0; groups = gr.0 }) c gr.2 in
    let v = each_valid (λ i. machine_at n.0) (is_valid_machine n.0) (λ i x y. machine_valid n.0 x y) 0 ms.0 mr.0 mr.1 in
    let w = each_valid (group_at n.0) (is_valid_group n.0) (group_valid n.0) 0 gs.0 gr.0 gr.1 in
    subst (λ (x : ClusterRecord). is_valid_cluster x ≡ true) e
    (and_from (is_between 1 8 n.0) (is_between 1 256 (length mr.0) && (list_all (is_valid_machine n.0) mr.0 && (is_between 1 32 (length gr.0) && list_all (is_valid_group n.0) gr.0))) (number_valid Resources 1 8 r.0 n.0 n.1)
    (and_from (is_between 1 256 (length mr.0)) (list_all (is_valid_machine n.0) mr.0 && (is_between 1 32 (length gr.0) && list_all (is_valid_group n.0) gr.0)) (ap (λ k. is_between 1 256 k) v.1 ∙ array_valid Machines 1 256 m.0 ms.0 ms.1)
    (and_from (list_all (is_valid_machine n.0) mr.0) (is_between 1 32 (length gr.0) && list_all (is_valid_group n.0) gr.0) v.0
    (and_from (is_between 1 32 (length gr.0)) (list_all (is_valid_group n.0) gr.0) (ap (λ k. is_between 1 32 k) w.1 ∙ array_valid Groups 1 32 g.0 gs.0 gs.1) w.0))))
