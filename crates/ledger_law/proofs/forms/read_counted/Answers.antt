use Rattle.std.proofs.Common.{◌≡◌, ◌*◌, length, sym, ◌∙◌, ap, take}
use Rattle.std.specs.Int.{from_be_bytes, w32}
use Rattle.ledger_law.proofs.FormsLemmas.{not_counted}
use Rattle.ledger_law.proofs.forms.read_counted.Goals as goal

pub returns-then-rest-n-clause-none : goal.returns-then-rest-n-clause-none
returns-then-rest-n-clause-none g c _ es all few e =
    let n_is : c.from_be_bytes-n.result ≡ from_be_bytes w32 (take 4 c.args.bytes.now) = c.from_be_bytes-n.ensures ∙ ap (from_be_bytes w32) c.split_at.ensures.front in
    not_counted g.F.EntryForm.form g.F.EntryForm.is_entry g.F.EntryForm.WIDTH g.met.F.EntryForm.wide c.args.bytes.now c.from_be_bytes-n.result n_is
    (λ long. c.if-rest-n.true (ap length c.split_at.ensures.back ∙ long ∙ ap (λ w. c.from_be_bytes-n.result * w) (sym c.WIDTH.ensures))) es all few e
