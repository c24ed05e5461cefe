-- Of which units grants may be taken, one unit more.
use Rattle.std.proofs.Common.{◌≡◌, ℕ, ◌+◌, ◌<◌, false, List, [], ◌∷◌, ◌++◌, length, get_or, take, sym, ◌∙◌, arith}
use Rattle.std.specs.Borrow.{Bor}
use Rattle.fuxi_terms.proofs.Alls.{all_front, all_back}
use Rattle.fuxi_terms.proofs.Lists.{all_push}
use Rattle.grant_table.specs.GrantTables.{TableRecord}
use Rattle.preempt.specs.declared.entry.Entry.{Entry}
use Rattle.preempt.specs.declared.entry.Need.{Need}
use Rattle.preempt.specs.declared.entry.GroupUse.{GroupUse}
use Rattle.preempt.specs.Given.{AreGroups, IsEntry}
use Rattle.preempt.specs.Shelves.{AreOpen, HasNothingOn, HoldsSome, IsRow, IsShut, may_take}
use Rattle.preempt.proofs.ShelvesLemmas.{all_more_one, may_is}
use Rattle.preempt.proofs.UsedByHolders.{used_by_holder}

module _ (t : TableRecord) (n : Need) (units : List Entry) (k : ℕ) (d : Entry) (lt : k < length units) where
  -- one of which none may be taken
  pub shut_more : (groups : List GroupUse) → AreGroups t groups → IsEntry t (get_or units k d) → HoldsSome t (get_or units k d) → may_take n groups (get_or units k d) ≡ false
      → (rows : List (Bor (List ℕ))) → AreOpen t n (take k units) rows → AreOpen t n (take (k + 1) units) rows
  shut_more groups are entry some kept rows opened = record {
    wide = opened.wide;
    shut = λ s like nothing. all_more_one (IsShut t s) units k d lt (opened.shut s like nothing)
        (record { none = λ _. sym (may_is t groups are s n (get_or units k d) like entry (used_by_holder t groups are (get_or units k d) entry some)) ∙ kept });
  }

  -- and one of which some may be
  pub open_more : (row : Bor (List ℕ)) → IsRow t (get_or units k d) row.now → (rows : List (Bor (List ℕ))) → AreOpen t n (take k units) rows → AreOpen t n (take (k + 1) units) (rows ++ row ∷ [])
  open_more row is rows opened = record {
    wide = all_push (λ (r : Bor (List ℕ)). length r.now ≡ length t.cluster.machines) rows row opened.wide is.wide;
    shut = λ s like nothing. all_more_one (IsShut t s) units k d lt (opened.shut s like (all_front (HasNothingOn s.machine) rows (row ∷ []) nothing))
        (record {
          none = λ some.
              let none : get_or row.now s.machine 0 ≡ 0 = (all_back (HasNothingOn s.machine) rows (row ∷ []) nothing).0 in
              let held = is.is s.machine in
              absurd (let x : ⊥ = omega (arith, none, held, some) in x);
        });
  }
