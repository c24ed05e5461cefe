use Rattle.std.proofs.Common.{rules, sym, ◌∙◌, ap, subst}
use Rattle.std.specs.Prelude.{T}
use Rattle.std.specs.Option.{option_copied}
use Rattle.std.proofs.lemmas.Fn.{always_returns_same}
use Rattle.fuxi_terms.proofs.CountsLemmas.{lesser}
use Rattle.ledger_law.proofs.SearchFinds.{searched, behind_last}
use Rattle.ledger_law.proofs.entries.place_of.Goals as goal

pub returns-in-Some : goal.returns-in-Some
returns-in-Some g c =
    let at = sym c.last.ensures.value ∙ ap option_copied c.in-Some.is in
    let less = sym c.order.ensures ∙ lesser c.order.result (subst T (sym (sym c.is_lt.ensures ∙ c.if-is_lt.true)) tt) in
    behind_last g.met.K.Ord.total c.args.key.now c.args.entries.now c.in-Some.last.now c.requires at less

pub returns-in_default : goal.returns-in_default
returns-in_default g c =
    let facts = c.binary_search_by.ensures in
    let by_key = facts.position (λ entry. g.K.Ord.cmp entry.0 c.args.key.now) (always_returns_same _ _ _ (λ a r f' k. search rules)) in
    searched g.met.K.Ord.total c.args.key.now c.args.entries.now c.requires _ facts.bound by_key
