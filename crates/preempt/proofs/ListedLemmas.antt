-- What is listed of a machine, one unit more.
use Rattle.std.proofs.Common.{◌≡◌, inl, inr, ℕ, ◌+◌, ◌<◌, true, false, cond, nat_lt, List, [], ◌∷◌, ◌++◌, length, map, get_or, take, sym, ◌∙◌, ap, subst, arith, length-append}
use Rattle.std.specs.Borrow.{Bor}
use Rattle.std.specs.List.{flat_map}
use Rattle.std.proofs.Math.ListN.{get_or-append}
use Rattle.std.proofs.Math.Seq.{get_or-append_seam}
use Rattle.std.proofs.lemmas.Bool.{cases_lt}
use Rattle.std.proofs.lemmas.Bool.Decides.{nat_tests}
use Rattle.std.proofs.lemmas.Grind.{flat_map-append}
use Rattle.std.proofs.lemmas.Option.{slice_get-get_or}
use Rattle.std.proofs.lemmas.List.{append-nil, map-append, length-take-le}
use Rattle.fuxi_terms.specs.Tables.{spot, held_on, Table}
use Rattle.fuxi_terms.proofs.Alls.{all_append}
use Rattle.fuxi_terms.proofs.Lists.{take_last}
use Rattle.grant_table.specs.GrantTables.{TableRecord}
use Rattle.preempt.specs.declared.entry.Entry.{Entry}
use Rattle.preempt.specs.Given.{IsEntry, pair_of, recounted, written}
use Rattle.preempt.specs.Shelves.{AreHolders, AreRead, HoldsSome, IsListed, IsRow, IsWalked}
use Rattle.preempt.specs.Walks.{entry_on}
use Rattle.preempt.proofs.UnitSteps.{held_least}

module _ (t : TableRecord) (units : List Entry) (e : Entry) where
  -- what the unit has on a machine
  abbrev held_at : ℕ → ℕ
  held_at m = held_on t.entries e.app.0 e.unit.0 m

  abbrev listed : ℕ → List Entry → Table
  listed m es = flat_map (entry_on t.entries m) (map pair_of es)

  listed_more : (m : ℕ) → listed m (units ++ e ∷ []) ≡ listed m units ++ entry_on t.entries m (pair_of e)
  listed_more m = ap (flat_map (entry_on t.entries m)) (map-append pair_of units (e ∷ [])) ∙ flat_map-append (entry_on t.entries m) (map pair_of units) (pair_of e ∷ [])
      ∙ ap (λ xs. listed m units ++ xs) (append-nil (entry_on t.entries m (pair_of e)))

  pub none_listed : (m : ℕ) (es : List Entry) → held_at m ≡ 0 → IsListed t units m es → IsListed t (units ++ e ∷ []) m es
  none_listed m es none is = record {
    walk =
        let f : nat_lt 0 (held_at m) ≡ false = grind (arith, nat_tests, none) in
        is.walk ∙ sym (append-nil (listed m units)) ∙ ap (λ b. listed m units ++ cond b ((spot e.app.0 e.unit.0 m, held_at m) ∷ []) []) (sym f) ∙ sym (listed_more m);
    each = is.each;
    some = is.some;
    few = let l = is.few in let a = length-append units (e ∷ []) in omega (arith, l, a);
  }

  pub some_listed : IsEntry t e → (m n : ℕ) (es : List Entry) → n ≡ held_at m → 0 < n → IsListed t units m es → IsListed t (units ++ e ∷ []) m (es ++ recounted e n ∷ [])
  some_listed h m n es same some is = record {
    walk =
        let w = is.walk in
        let b : nat_lt 0 (held_at m) ≡ true = grind (arith, nat_tests, same, some) in
        map-append (written m) es (recounted e n ∷ []) ∙ (λ i. w i ++ (spot e.app.0 e.unit.0 m, same i) ∷ [])
        ∙ ap (λ b. listed m units ++ cond b ((spot e.app.0 e.unit.0 m, held_at m) ∷ []) []) (sym b) ∙ sym (listed_more m);
    each = all_append (IsEntry t) es (recounted e n ∷ []) is.each (record { unit = h.unit; group = h.group; small = h.small; priority = h.priority; size = h.size }, tt);
    some =
        let least = held_least t.entries e.app.0 e.unit.0 m in
        let held_some : HoldsSome t (recounted e n) = grind (arith, nat_tests, same, some, least) in
        all_append (HoldsSome t) es (recounted e n ∷ []) is.some (held_some, tt);
    few = let l = is.few in let a = length-append units (e ∷ []) in let b = length-append es (recounted e n ∷ []) in omega (arith, l, a, b);
  }

-- what is listed of holders is the walk
pub walked_is : (t : TableRecord) (holders : List Entry) (m : ℕ) (entries : List Entry) → AreHolders t holders → IsListed t holders m entries → IsWalked t m entries
walked_is t holders m entries are is = record {
  walk = is.walk ∙ are.lists m;
  each = is.each;
  some = is.some;
  few = let a = is.few in let b = are.few in omega (arith, a, b);
}

-- ---- what units have by machine, one unit more
pub read_more : (t : TableRecord) (units : List Entry) (counts : List (Bor (List ℕ))) (k : ℕ) (d : Entry) (row : Bor (List ℕ)) → k < length units → IsRow t (get_or units k d) row.now → AreRead t (take k units) counts → AreRead t (take (k + 1) units) (counts ++ row ∷ [])
read_more t units counts k d row lt here read =
    let long = read.long in
    let short : length (take k units) ≡ k = length-take-le k units (omega (arith, lt)) in
    let more = length-take-le (k + 1) units (omega (arith, lt)) in
    let one : take (k + 1) units ≡ take k units ++ get_or units k d ∷ [] = take_last units k (get_or units k d) (slice_get-get_or units k d lt) in
    record {
      long = let a = length-append counts (row ∷ []) in omega (arith, a, long, short, more);
      each = λ j e b inside. elim (cases_lt j k) [
        | inl less ↦ subst (λ x. IsRow t x (get_or (counts ++ row ∷ []) j b).now) (sym (ap (λ us. get_or us j e) one ∙ get_or-append (take k units) (get_or units k d ∷ []) e j (omega (arith, less, short))))
            (subst (λ (x : Bor (List ℕ)). IsRow t (get_or (take k units) j e) x.now) (sym (get_or-append counts (row ∷ []) b j (omega (arith, less, long, short)))) (read.each j e b (omega (arith, less, short))))
        | inr ge ↦
            let same : length (take k units) ≡ j = omega (arith, ge, inside, more, short) in
            let place : length counts ≡ j = omega (arith, same, long) in
            let unit : get_or (take (k + 1) units) j e ≡ get_or units k d = ap (λ us. get_or us j e) one ∙ ap (λ i. get_or (take k units ++ get_or units k d ∷ []) i e) (sym same) ∙ get_or-append_seam (take k units) (get_or units k d) [] e in
            let read_row : get_or (counts ++ row ∷ []) j b ≡ row = ap (λ i. get_or (counts ++ row ∷ []) i b) (sym place) ∙ get_or-append_seam counts row [] b in
            subst (λ x. IsRow t x (get_or (counts ++ row ∷ []) j b).now) (sym unit) (subst (λ (x : Bor (List ℕ)). IsRow t (get_or units k d) x.now) (sym read_row) here)
      ];
    }
