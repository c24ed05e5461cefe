-- Each call of a case keeps what is known of its tree.
use Rattle.std.proofs.Common.{◌≡◌, ℕ, ◌+◌, ◌*◌, ◌<◌, Bool, true, false, nat_lt, List, [], ◌∷◌, ◌++◌, Option, Some, None, length, get_or, set, replicate, refl, sym, ap, subst, ◌∙◌, inl, inr, arith}
use Rattle.std.specs.Prelude.{IsTrue}
use Rattle.std.proofs.lemmas.Bool.{cases_eq}
use Rattle.std.proofs.lemmas.Bool.Decides.{nat_tests}
use Rattle.std.proofs.lemmas.List.{length-map, length-set, length-replicate, length_push, get_or-set_same, get_or-set_other, get_or_append_left}
use Rattle.fuxi_terms.specs.Cluster.{ClusterRecord, JobRecord}
use Rattle.wait_queue.specs.declared.node.Entry.{Entry}
use Rattle.locality_tree.specs.Trees.{UnitState, TreeRecord, all_units, no_unit, idle, with_idle, unit_at, place_count, cluster_place, started, with_job, refreshed, with_stand, MayWait}
use Rattle.core_golden.specs.Cases.{entry_of, IsCase}
use Rattle.fuxi_terms.proofs.IndexedLists.{repeated_at}

none_some : (o : Option Entry) (e : Entry) → o ≡ None → o ≡ Some e → ⊥
none_some o e h g = cc

all_are : all_units ≡ 2048
unfolding all_units
all_are = refl

pub case_started : (c : ClusterRecord) (machines : ℕ) → machines ≡ length c.machines → IsCase (started c) machines []
case_started c machines is = record {
  machines_are = is ∙ sym (length-map c.machines (λ m. m.rack));
  few = omega arith;
  units = length-replicate all_units no_unit;
  admitted = λ i h. absurd (omega arith);
  fresh = λ a u h g. ap (λ (s : UnitState). nat_lt 0 (length s.stands)) (repeated_at no_unit all_units (8 * a + u));
  entries = λ n f h. absurd (none_some (get_or (replicate all_units no_unit) n no_unit).entry f (ap (λ (s : UnitState). s.entry) (repeated_at no_unit all_units n)) h);
}

-- the condition of a refresh
pub may_wait : (t : TreeRecord) (machines : ℕ) (ps : List ℕ) (i : ℕ) → IsCase t machines ps → i < length ps → MayWait t (entry_of ps i)
may_wait t machines ps i k h =
    let few = k.few in
    record {
      app = omega (arith, few, h);
      unit = omega arith;
      same = λ f g. let e = k.entries (8 * i + 0) f g in let turn : f.turn ≡ i = omega (arith, e.1) in e.2 ∙ ap (entry_of ps) turn;
      alone = λ n f g q. let e = k.entries n f g in e.1 ∙ (let turn : f.turn ≡ i = q in omega (arith, turn));
    }

-- one unit's state is another
case_changed : (t : TreeRecord) (machines : ℕ) (ps : List ℕ) (i : ℕ) (s : UnitState) → IsCase t machines ps → i < length ps → 0 < length s.stands → ((f : Entry) → s.entry ≡ Some f → f ≡ entry_of ps i) → IsCase (record t { units = set t.units (8 * i + 0) s }) machines ps
case_changed t machines ps i s k h stands own =
    let few = k.few in
    let units = k.units ∙ all_are in
    let inside : 8 * i + 0 < length t.units = omega (arith, few, h, units) in
    let n : ℕ = 8 * i + 0 in
    let here : get_or (set t.units n s) n no_unit ≡ s = get_or-set_same t.units n s no_unit inside in
    record {
      machines_are = k.machines_are;
      few = k.few;
      units = length-set t.units n s ∙ k.units;
      admitted = λ j g. elim (cases_eq j i) as (λ _. IsTrue (nat_lt 0 (length (get_or (set t.units n s) (8 * j + 0) no_unit).stands))) [
        | inl e ↦ subst (λ (a : ℕ). IsTrue (nat_lt 0 (length (get_or (set t.units n s) (8 * a + 0) no_unit).stands))) (sym e) (subst (λ (u : UnitState). IsTrue (nat_lt 0 (length u.stands))) (sym here) (grind (arith, nat_tests, stands)))
        | inr d ↦ subst (λ (u : UnitState). IsTrue (nat_lt 0 (length u.stands))) (sym (get_or-set_other t.units n (8 * j + 0) s no_unit (λ e. d (omega (arith, e))))) (k.admitted j g)
      ];
      fresh = λ a u g l. ap (λ (x : UnitState). nat_lt 0 (length x.stands)) (get_or-set_other t.units n (8 * a + u) s no_unit (λ e. omega (arith, e, g, l, h))) ∙ k.fresh a u g l;
      entries = λ m f g. elim (cases_eq m n) as (λ _. (f.turn < length ps) × (m ≡ 8 * f.turn) × (f ≡ entry_of ps f.turn)) [
        | inl e ↦
            let is : f ≡ entry_of ps i = own f (ap (λ (u : UnitState). u.entry) (sym here) ∙ ap (λ (a : ℕ). (get_or (set t.units n s) a no_unit).entry) (sym e) ∙ g) in
            let turn : f.turn ≡ i = ap (λ (x : Entry). x.turn) is in
            (omega (arith, turn, h), omega (arith, e, turn), is ∙ ap (entry_of ps) (sym turn))
        | inr d ↦ k.entries m f (ap (λ (u : UnitState). u.entry) (sym (get_or-set_other t.units n m s no_unit d)) ∙ g)
      ];
    }

some_same : (a b : Entry) → Some a ≡ Some b → b ≡ a
some_same a b h = cc

stands_there : (t : TreeRecord) (machines : ℕ) (ps : List ℕ) (i : ℕ) → IsCase t machines ps → i < length ps → 0 < length (unit_at t i 0).stands
stands_there t machines ps i k h = let a = k.admitted i h in grind (arith, nat_tests, a)

pub case_refreshed : (t : TreeRecord) (machines : ℕ) (ps : List ℕ) (i : ℕ) (waits : Bool) → IsCase t machines ps → i < length ps → IsCase (refreshed t (entry_of ps i) waits) machines ps
case_refreshed t machines ps i true k h = case_changed t machines ps i (record { entry = Some (entry_of ps i); stands = set (unit_at t i 0).stands (cluster_place t.racks) true }) k h (let a = stands_there t machines ps i k h in let l = length-set (unit_at t i 0).stands (cluster_place t.racks) true in omega (arith, a, l)) (λ f g. some_same (entry_of ps i) f g)
case_refreshed t machines ps i false k h = case_changed t machines ps i (idle (place_count t.racks)) k h (let l = length-replicate (place_count t.racks) false in omega (arith, l)) (λ f g. absurd (none_some None f refl g))

pub case_marked : (t : TreeRecord) (machines : ℕ) (ps : List ℕ) (i place : ℕ) (unmet : Bool) → IsCase t machines ps → i < length ps → IsCase (with_stand t (entry_of ps i) place unmet) machines ps
case_marked t machines ps i place unmet k h =
    case_changed t machines ps i (record { entry = (unit_at t i 0).entry; stands = set (unit_at t i 0).stands place unmet }) k h (let a = stands_there t machines ps i k h in let l = length-set (unit_at t i 0).stands place unmet in omega (arith, a, l))
    (λ f g. (may_wait t machines ps i k h).same f g)

-- a unit that is refreshed to wait does
pub waits_now : (t : TreeRecord) (machines : ℕ) (ps : List ℕ) (i : ℕ) → IsCase t machines ps → i < length ps → (unit_at (refreshed t (entry_of ps i) true) i 0).entry ≡ Some (entry_of ps i)
waits_now t machines ps i k h =
    let few = k.few in
    let units = k.units ∙ all_are in
    ap (λ (u : UnitState). u.entry) (get_or-set_same t.units (8 * i + 0) (record { entry = Some (entry_of ps i); stands = set (unit_at t i 0).stands (cluster_place t.racks) true }) no_unit (omega (arith, few, h, units)))

pub case_admitted : (t : TreeRecord) (machines : ℕ) (ps : List ℕ) (p : ℕ) (j : JobRecord) → IsCase t machines ps → length ps < 256 → j.number ≡ length ps → length j.units ≡ 1 → IsCase (with_job t j) machines (ps ++ p ∷ [])
case_admitted t machines ps p j k less number one = subst (λ (x : TreeRecord). IsCase x machines (ps ++ p ∷ [])) (sym is) (record {
  machines_are = k.machines_are;
  few = omega (arith, less, longer);
  units = length-set t.units n s ∙ k.units;
  admitted = λ i h. elim (cases_eq i (length ps)) as (λ _. IsTrue (nat_lt 0 (length (get_or (set t.units n s) (8 * i + 0) no_unit).stands))) [
    | inl e ↦ subst (λ (a : ℕ). IsTrue (nat_lt 0 (length (get_or (set t.units n s) (8 * a + 0) no_unit).stands))) (sym e) (subst (λ (u : UnitState). IsTrue (nat_lt 0 (length u.stands))) (sym here) (let l : length s.stands ≡ place_count t.racks = length-replicate (place_count t.racks) false in let z : 0 < length s.stands = omega (arith, l) in grind (arith, nat_tests, z)))
    | inr d ↦ subst (λ (u : UnitState). IsTrue (nat_lt 0 (length u.stands))) (sym (get_or-set_other t.units n (8 * i + 0) s no_unit (λ e. d (omega (arith, e))))) (k.admitted i (omega (arith, longer, h, d)))
  ];
  fresh = λ a u h g. ap (λ (x : UnitState). nat_lt 0 (length x.stands)) (get_or-set_other t.units n (8 * a + u) s no_unit (λ e. omega (arith, e, h, g, longer))) ∙ k.fresh a u (omega (arith, h, longer)) g;
  entries = λ m f g. elim (cases_eq m n) as (λ _. (f.turn < length (ps ++ p ∷ [])) × (m ≡ 8 * f.turn) × (f ≡ entry_of (ps ++ p ∷ []) f.turn)) [
    | inl e ↦ absurd (none_some (get_or (set t.units n s) m no_unit).entry f (ap (λ (a : ℕ). (get_or (set t.units n s) a no_unit).entry) e ∙ ap (λ (u : UnitState). u.entry) here) g)
    | inr d ↦
        let old = k.entries m f (ap (λ (u : UnitState). u.entry) (sym (get_or-set_other t.units n m s no_unit d)) ∙ g) in
        let with_priority : ℕ → Entry = λ q. record { app = record { 0 = f.turn }; unit = record { 0 = 0 }; priority = q; turn = f.turn } in
        (omega (arith, old.0, longer), old.1, old.2 ∙ ap with_priority (sym (get_or_append_left ps (p ∷ []) 0 f.turn old.0)))
  ];
})
  where
    n : ℕ
    n = 8 * length ps + 0

    s : UnitState
    s = idle (place_count t.racks)

    longer : length (ps ++ p ∷ []) ≡ length ps + 1
    longer = length_push ps p

    here : get_or (set t.units (8 * length ps + 0) (idle (place_count t.racks))) (8 * length ps + 0) no_unit ≡ idle (place_count t.racks)
    here = let units = k.units ∙ all_are in get_or-set_same t.units (8 * length ps + 0) (idle (place_count t.racks)) no_unit (omega (arith, less, units))

    by_count : ℕ → ℕ → TreeRecord
    by_count a c = record t { units = with_idle t.units (8 * a) (place_count t.racks) c }

    is : with_job t j ≡ record t { units = set t.units (8 * length ps + 0) (idle (place_count t.racks)) }
    is = ap (λ (a : ℕ). by_count a (length j.units)) number ∙ ap (by_count (length ps)) one

-- the same of an entry that is the unit's
pub may_wait_as : (t : TreeRecord) (machines : ℕ) (ps : List ℕ) (i : ℕ) (e : Entry) → IsCase t machines ps → i < length ps → e ≡ entry_of ps i → MayWait t e
may_wait_as t machines ps i e k h is = subst (λ (x : Entry). MayWait t x) (sym is) (may_wait t machines ps i k h)

pub refreshed_as : (t new : TreeRecord) (machines : ℕ) (ps : List ℕ) (i : ℕ) (e : Entry) (waits : Bool) → IsCase t machines ps → i < length ps → e ≡ entry_of ps i → new ≡ refreshed t e waits → IsCase new machines ps
refreshed_as t new machines ps i e waits k h is made = subst (λ (x : TreeRecord). IsCase x machines ps) (sym (made ∙ ap (λ (x : Entry). refreshed t x waits) is)) (case_refreshed t machines ps i waits k h)

pub marked_as : (t new : TreeRecord) (machines : ℕ) (ps : List ℕ) (i : ℕ) (e : Entry) (place : ℕ) (unmet : Bool) → IsCase t machines ps → i < length ps → e ≡ entry_of ps i → new ≡ with_stand t e place unmet → IsCase new machines ps
marked_as t new machines ps i e place unmet k h is made = subst (λ (x : TreeRecord). IsCase x machines ps) (sym (made ∙ ap (λ (x : Entry). with_stand t x place unmet) is)) (case_marked t machines ps i place unmet k h)

-- a unit waits, and is marked at a place
pub waits_marked : (t mid new : TreeRecord) (machines : ℕ) (ps : List ℕ) (i : ℕ) (e : Entry) (place : ℕ) (unmet : Bool) → IsCase t machines ps → i < length ps → e ≡ entry_of ps i → mid ≡ refreshed t e true → new ≡ with_stand mid e place unmet → IsCase new machines ps
waits_marked t mid new machines ps i e place unmet k h is made marked = marked_as mid new machines ps i e place unmet (refreshed_as t mid machines ps i e true k h is made) h is marked
