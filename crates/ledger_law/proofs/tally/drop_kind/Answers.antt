use Rattle.std.proofs.Common.{◌≡◌, false, rules, not, nat_eq, subst, sym}
use Rattle.fuxi_terms.specs.Keys.{key_cmp}
use Rattle.fuxi_terms.specs.Counts.{AreCounts}
use Rattle.ledger_law.specs.Shapes.{kept_under}
use Rattle.ledger_law.proofs.KeptUnder.{kept_counts}
use Rattle.std.proofs.lemmas.Fn.{filter_same}
use Rattle.ledger_law.proofs.tally.drop_kind.Goals as goal

kept : (c : goal.After-retain) → c.retain.new.self.items ≡ kept_under false c.args.dropped c.args.entries.now.items
kept c = filter_same _ (λ e. not (nat_eq e.0.what c.args.dropped)) _ (λ x b f' k. search rules) c.args.entries.now.items _ c.retain.ensures.filtered

pub returns-clause-counts : goal.returns-clause-counts
returns-clause-counts c greatest h = subst (λ es. AreCounts key_cmp greatest es) (sym (kept c)) (kept_counts greatest false c.args.dropped c.args.entries.now.items h)

pub returns-clause-items : goal.returns-clause-items
returns-clause-items c = kept c
