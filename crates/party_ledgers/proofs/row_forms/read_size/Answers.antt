use Rattle.std.proofs.Common.{◌≡◌, ◌<◌, ℕ, get_or, arith, rules}
use Rattle.std.specs.Int.{to_be_bytes, w64}
use Rattle.std.proofs.lemmas.Nat.{be_bytes_8}
use Rattle.party_ledgers.proofs.Sizes.{size_more}
use Rattle.party_ledgers.proofs.row_forms.read_size.Goals as goal

pub loop-i-preserved : goal.loop-i-preserved
loop-i-preserved c =
    let fits : (k : ℕ) → get_or c.split_at.result.0.now k 0 < 256 = search rules in
    let bytes : to_be_bytes w64 c.from_be_bytes.result ≡ c.split_at.result.0.now = be_bytes_8 c.split_at.result.0.now c.from_be_bytes.result c.split_at.ensures.front_len fits c.from_be_bytes.ensures in
    record {
      places = search rules;
      quantities = search rules;
      long = omega (arith, c.split_at.ensures.back_len);
      read = size_more c.loop-i.size c.loop-i.i c.from_be_bytes.result c.loop-i.left.now c.split_at.result.0.now c.split_at.result.1.now c.args.bytes.now (omega arith) bytes c.split_at.ensures.by_index.0 c.loop-i.invariant.read;
    }
