use Rattle.std.proofs.Common.{◌<◌, Bool, nat_lt, [], length, get_or, sym, ◌∙◌, ap, subst}
use Rattle.fuxi_terms.specs.Keys.{Pair}
use Rattle.fuxi_terms.proofs.Alls.{all_filter}
use Rattle.fuxi_terms.proofs.Booleans.{and_true}
use Rattle.spec_roles.specs.Masters.{out_of}
use Rattle.spec_roles.specs.Placing.{has_pair}
use Rattle.place_pass.specs.Best.{AreAdmitted}
use Rattle.place_pass.specs.Cells.{asks_in}
use Rattle.place_pass.proofs.StillLemmas.{filter_all}
use Rattle.place_pass.proofs.WaitingLinesLemmas.{has_filter}
use Rattle.place_pass.proofs.line.waiting.leave.Goals as goal

pub returns-then-turnover-clause-admitted : goal.returns-then-turnover-clause-admitted
returns-then-turnover-clause-admitted c =
    subst (AreAdmitted c.args.wishes.now.cells) (sym c.keep_waiting.ensures.pairs) (all_filter (λ (p : Pair). p.1 < length (get_or c.args.wishes.now.cells p.0 [])) _ c.args.line.now.pairs c.requires.admitted)

pub returns-then-turnover-clause-none : goal.returns-then-turnover-clause-none
returns-then-turnover-clause-none c e a u f lt t =
    let old = c.args.line.now.pairs in
    let w : Pair → Bool = λ p. nat_lt 0 (out_of (asks_in c.args.wishes.now.cells) c.args.table.now.entries p.0 p.1) in
    ap (has_pair (a, u)) c.keep_waiting.ensures.pairs ∙ has_filter w (a, u) old ∙ and_true (has_pair (a, u) old) (w (a, u)) (c.turnover_of_all-turnover.ensures.begins e a u f lt t) t

pub returns-else-turnover-clause-pairs : goal.returns-else-turnover-clause-pairs
returns-else-turnover-clause-pairs c =
    let w : Pair → Bool = λ p. nat_lt 0 (out_of (asks_in c.args.wishes.now.cells) c.args.table.now.entries p.0 p.1) in
    sym (filter_all w c.args.line.now.pairs (λ p has. c.turnover_of_all-turnover.ensures.ends c.if-turnover.false p has))
