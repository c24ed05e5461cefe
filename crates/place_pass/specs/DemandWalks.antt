-- A walk along the entries of a demand, from key to key.
use Rattle.std.specs.Prelude.{◌≡◌, ℕ, ◌<◌, ◌≤◌, false, List, drop}
use Rattle.std.specs.Ordering.{is_lt}
use Rattle.fuxi_terms.specs.Counts.{count}
use Rattle.fuxi_terms.specs.declared.Key.{Key}
use Rattle.fuxi_terms.specs.Keys.{key_cmp}
use Rattle.fuxi_terms.specs.TallyKeys.{key}

-- nothing before the place is at a key from this one on
abbrev pub IsPast : List (Key × ℕ) → ℕ → Key → Type 0
IsPast es at k = (q : Key) → is_lt (key_cmp q k) ≡ false → count key_cmp es q ≡ count key_cmp (drop at es) q

-- from a key's number on the first at which something is asked of its kind and unit, and how much; where there is none before the end, the last one. Nothing before the
-- place is at a key from there on
pub record IsNextAsked (es : List (Key × ℕ)) (k : Key) (end next number at : ℕ) : Type 0 where
  pub least : k.number ≤ next
  pub inside : next < end
  pub asked : number ≡ count key_cmp es (key k.what k.unit next)
  pub between : (n : ℕ) → k.number ≤ n → n < next → count key_cmp es (key k.what k.unit n) ≡ 0
  pub past : IsPast es at (key k.what k.unit next)
