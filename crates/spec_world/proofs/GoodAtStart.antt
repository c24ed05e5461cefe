-- The silent net and its empty histories.
use Rattle.std.proofs.Common.{◌≡◌, ℕ, zero, suc, Bool, [], refl, sym, ap, subst, arith}
use Rattle.fuxi_terms.specs.Cluster.{ClusterRecord}
use Rattle.spec_net.specs.Net.{silent, at_index}
use Rattle.spec_net.specs.Ledgers.{Ledger, nothing}
use Rattle.spec_world.specs.Safe.{RowsFit}
use Rattle.spec_net.specs.Sound.{Sound, Names}
use Rattle.spec_net.specs.Channels.{shape}

-- an empty history
pub empty_at : (n : ℕ) → at_index nothing [] n ≡ nothing
empty_at zero = refl
empty_at (suc n) = refl

-- no rows
pub no_rows : (c : ClusterRecord) (m n : ℕ) → RowsFit c m (at_index nothing [] n).rows
no_rows c m n = subst (λ (l : Ledger). RowsFit c m l.rows) (sym (empty_at n)) (λ i lt. omega arith)

no_entry : (has : Bool) (own : ℕ) → Names shape has [] 0 own
no_entry has own = record { there = omega arith; head = λ _ first. absurd (omega (arith, first)) }

no_head : (n : ℕ) → (at_index nothing [] n).head ≡ 0
no_head n = ap (λ (l : Ledger). l.head) (empty_at n)

-- the silent net is sound
pub sound_at_start : Sound shape silent
sound_at_start = record {
  links = λ p q. record { place = no_entry _ _; acked = no_entry _ _ };
  packets = tt;
  heads = λ p q h. record { rises = λ i j le within. let a = no_head i in let b = no_head j in omega (arith, a, b); under = λ i within. let a = no_head i in omega (arith, a) };
}
