-- The racks of a valid cluster: their numbers are below 64, and one machine after another names them.
use Rattle.std.proofs.Common.{◌≡◌, ℕ, zero, suc, ◌+◌, ◌<◌, Bool, true, false, nat_eq, nat_lt, List, [], ◌∷◌, length, take, set, get_or, slice_get, Some, option_map, IsTrue, refl, sym, ◌∙◌, ap, subst, arith}
use Rattle.std.specs.Prelude.{◌||◌}
use Rattle.std.specs.List.{list_any, list_all}
use Rattle.std.specs.Option.{unwrap_or}
use Rattle.std.proofs.lemmas.Bool.Decides.{nat_tests}
use Rattle.std.proofs.lemmas.List.{get_or-set_same, get_or-set_other}
use Rattle.std.proofs.lemmas.List.Folds.{list_any_more}
use Rattle.fuxi_terms.specs.Cluster.{ClusterRecord, MachineRecord, no_machine, is_valid_cluster, is_valid_machine, is_between, is_vector_of}
use Rattle.fuxi_terms.proofs.Booleans.{both_true, number_is, or_false, or_right}
use Rattle.cluster_desc.specs.Records.{machine_of}
use Rattle.cluster_desc.specs.declared.cluster.Machine.{Machine}

machines_valid : (c : ClusterRecord) → IsTrue (is_valid_cluster c) → list_all (is_valid_machine c.resources) c.machines ≡ true
machines_valid c valid =
    let first = both_true (is_between 1 8 c.resources) _ valid in
    let second = both_true (is_between 1 256 (length c.machines)) _ first.1 in
    (both_true (list_all (is_valid_machine c.resources) c.machines) _ second.1).0

rack_low : (resources : ℕ) (m : MachineRecord) → is_valid_machine resources m ≡ true → nat_lt m.rack 64 ≡ true
rack_low resources m h = (both_true (nat_lt m.rack 64) (is_vector_of resources m.has) h).0

-- the rack of a machine
pub rack_small : (c : ClusterRecord) (i : ℕ) (x : Machine) → IsTrue (is_valid_cluster c) → option_map machine_of (slice_get c.machines i) ≡ Some x → x.rack.0 < 64
rack_small c i x valid at = each c.machines i (machines_valid c valid) at
  where
    each : (ms : List MachineRecord) (i : ℕ) → list_all (is_valid_machine c.resources) ms ≡ true → option_map machine_of (slice_get ms i) ≡ Some x → x.rack.0 < 64
    each [] i h at = absurd (let no : ⊥ = cc in no)
    each (m ∷ ms) zero h at =
        let low = rack_low c.resources m (both_true (is_valid_machine c.resources m) _ h).0 in
        let same = ap (λ o. (unwrap_or o x).rack.0) at in
        grind (arith, nat_tests, low, same)
    each (m ∷ ms) (suc i) h at = each ms i (both_true (is_valid_machine c.resources m) _ h).1 at

rack_is : (ms : List MachineRecord) (i : ℕ) (x : Machine) → option_map machine_of (slice_get ms i) ≡ Some x → (get_or ms i no_machine).rack ≡ x.rack.0
rack_is [] i x at = absurd (let no : ⊥ = cc in no)
rack_is (m ∷ ms) zero x at = ap (λ o. (unwrap_or o x).rack.0) at
rack_is (m ∷ ms) (suc i) x at = rack_is ms i x at

-- one machine more
pub racks_more : (racks : List Bool) (ms : List MachineRecord) (i : ℕ) (x : Machine) → x.rack.0 < length racks → i < length ms → option_map machine_of (slice_get ms i) ≡ Some x
    → ((n : ℕ) → get_or racks n false ≡ list_any (λ (m : MachineRecord). nat_eq m.rack n) (take i ms))
    → (n : ℕ) → get_or (set racks x.rack.0 true) n false ≡ list_any (λ (m : MachineRecord). nat_eq m.rack n) (take (i + 1) ms)
racks_more racks ms i x there lt at done n = by (nat_eq x.rack.0 n) refl
  where
    more : list_any (λ (m : MachineRecord). nat_eq m.rack n) (take (i + 1) ms) ≡ (list_any (λ (m : MachineRecord). nat_eq m.rack n) (take i ms) || nat_eq x.rack.0 n)
    more = list_any_more (λ (m : MachineRecord). nat_eq m.rack n) ms i no_machine lt ∙ ap (λ r. list_any (λ (m : MachineRecord). nat_eq m.rack n) (take i ms) || nat_eq r n) (rack_is ms i x at)

    by : (b : Bool) → nat_eq x.rack.0 n ≡ b → get_or (set racks x.rack.0 true) n false ≡ list_any (λ (m : MachineRecord). nat_eq m.rack n) (take (i + 1) ms)
    by true same =
        subst (λ k. get_or (set racks x.rack.0 true) k false ≡ true) (number_is x.rack.0 n same) (get_or-set_same racks x.rack.0 true false there)
        ∙ sym (more ∙ or_right (list_any (λ (m : MachineRecord). nat_eq m.rack n) (take i ms)) (nat_eq x.rack.0 n) same)
    by false differs =
        get_or-set_other racks x.rack.0 n true false (λ e. let no : ⊥ = grind (arith, nat_tests, differs, e) in no) ∙ done n
        ∙ sym (more ∙ ap (λ b. list_any (λ (m : MachineRecord). nat_eq m.rack n) (take i ms) || b) differs ∙ or_false (list_any (λ (m : MachineRecord). nat_eq m.rack n) (take i ms)))
