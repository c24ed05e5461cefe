-- What an agent joins an epoch with: the epoch and a table.
use Rattle.std.specs.Prelude.{◌≡◌, ℕ, ◌<◌, ◌^◌, List, [], ◌++◌, drop, take}
use Rattle.std.proofs.Common.{ap}
use Rattle.fuxi_terms.specs.Keys.{RowKey}
use Rattle.ledger_law.specs.Forms.{headed}
use Rattle.ledger_law.specs.OneForm.{same_number}
use Rattle.fuxi_terms.specs.Rows.{IsRow}
use Rattle.party_ledgers.specs.RowForms.{row_entry}
use Rattle.party_ledgers.specs.RowOneForm.{row_form_one}

pub record JoinRecord : Type 0 where
  pub epoch : ℕ
  pub table : List (RowKey × ℕ)

abbrev pub no_join : JoinRecord
no_join = record { epoch = 0; table = [] }

pub record IsJoin (j : JoinRecord) : Type 0 where
  pub epoch : j.epoch < 2 ^ 64
  pub table : IsRow j.table

abbrev pub join_form : JoinRecord → List ℕ
join_form j = headed row_entry j.epoch j.table

pub join_form_one : (a b : JoinRecord) (x y : List ℕ) → IsJoin a → IsJoin b → join_form a ++ x ≡ join_form b ++ y → a ≡ b
join_form_one a b x y ha hb e =
    let epoch = same_number a.epoch b.epoch ha.epoch hb.epoch (ap (take 8) e) in
    let table = row_form_one a.table b.table x y ha.table hb.table (ap (drop 8) e) in
    λ i. record { epoch = epoch i; table = table i }
