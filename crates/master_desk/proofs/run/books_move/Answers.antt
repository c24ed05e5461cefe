use Rattle.std.proofs.Common.{rules}
use Rattle.master_desk.proofs.run.books_move.Goals as goal

pub may_move-requires-5-send-T : goal.may_move-requires-5-send-T
may_move-requires-5-send-T c κs = record {
  owned = λ x ks y. (λ vs. (tt, (search rules, (search rules, (search rules, (search (c.may_move-2.ensures.owned), (search (c.may_move-3.ensures.owned), (search (c.may_move-4.ensures.owned), tt))))))), tt);
  leaving = λ k x w. search rules;
}
