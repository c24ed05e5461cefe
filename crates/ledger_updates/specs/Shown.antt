-- What a peer is shown: numbers of the ledger that is sent are set by one change.
use Rattle.std.specs.Prelude.{◌≡◌, ℕ, ◌+◌, ◌≤◌, Bool, List, Result}
use Rattle.fuxi_terms.specs.declared.answers.LedgerFault.{LedgerFault}
use Rattle.fuxi_terms.specs.Keys.{RowKey, key_cmp}
use Rattle.fuxi_terms.specs.Rows.{row_key}
use Rattle.fuxi_terms.specs.Tallies.{TallyRecord, staying}
use Rattle.fuxi_terms.specs.TallyKeys.{credited_what}
use Rattle.fuxi_terms.specs.declared.Key.{Key}
use Rattle.full_sync.specs.Turns.{Endpoint}
use Rattle.spec_net.specs.Ledgers.{Ledger}
use Rattle.spec_net.specs.Sides.{Side, appended}
use Rattle.peer_channel.specs.CoreSides.{IsSide}
use Rattle.ledger_updates.specs.declared.machine_row.RowNumber.{RowNumber}
use Rattle.fuxi_terms.specs.NumbersSet.{numbers_set}

abbrev pub number_of : RowNumber → RowKey × ℕ
number_of n = (row_key n.app.0 n.unit.0 n.size.q, n.count)

-- that stands with the number of its machine
abbrev pub numbered : ℕ × RowNumber → RowKey × ℕ
numbered e = number_of e.1

-- grants under a head with these numbers: a new head drops what was credited first
abbrev pub grants_set : TallyRecord → ℕ → List (Key × ℕ) → TallyRecord
grants_set t boot ns = record { head = boot; entries = numbers_set key_cmp (staying credited_what t boot) ns }

-- the peer is shown this ledger: it is appended where it is due, and nothing else changes
module _ {V D W : Type 0} (nothing : V) (patched : V → D → Result V LedgerFault) (valid : V → Type 0) (out : V → Ledger) (inward : W → Ledger) where
  pub record Shows (even_if_equal : Bool) (ledger : V) (old new : Endpoint V D W) : Type 0 where
    pub present : new.outgoing.present ≡ ledger
    pub side : (inc : ℕ) (e : Side) → IsSide nothing patched valid out inward old inc e → IsSide nothing patched valid out inward new inc (appended even_if_equal (out ledger) e)
    pub last : new.outgoing.last ≤ old.outgoing.last + 1
    pub own : new.outgoing.own ≡ old.outgoing.own
    pub rest : new ≡ record old { outgoing = new.outgoing }
