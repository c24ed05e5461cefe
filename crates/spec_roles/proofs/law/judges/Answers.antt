use Rattle.std.proofs.Common.{◌≡◌, ◌≢◌, ◌<◌, ◌≤◌, false, length, suc, ◌-◌, sym, ap, take}
use Rattle.std.proofs.lemmas.List.Elements.{All-from_recursion}
use Rattle.fuxi_terms.proofs.Alls.{all_more}
use Rattle.spec_roles.specs.Votes.{GoesBefore, cap, is_shut, judged, most_votes, number_shut, votes_of}
use Rattle.spec_roles.proofs.ServedInOrderLemmas.{ordered_more}
use Rattle.spec_roles.proofs.VotesInOrder.{marked_sorted}
use Rattle.spec_roles.proofs.VotesLemmas.{HasBetween, apart, judged_all, judged_between, judged_none, judged_order, pairs_ordered}
use Rattle.spec_roles.proofs.law.judges.Goals as goal

pub returns-clause-distinct : goal.returns-clause-distinct
returns-clause-distinct c = λ v least percent.
    pairs_ordered (λ m n. m ≢ n) (judged v least percent) (ordered_more (GoesBefore v) (λ m n. m ≢ n) (apart v) (judged v least percent) (judged_order v least percent))

pub returns-clause-there : goal.returns-clause-there
returns-clause-there c = λ v least percent.
    All-from_recursion (λ m. m < length v.votes) (judged v least percent)
    (all_more (HasBetween v least (suc most_votes - least)) (λ m. m < length v.votes) (λ m h. h.0) (judged v least percent) (judged_between v least percent))

pub returns-clause-sound : goal.returns-clause-sound
returns-clause-sound c = λ v least percent.
    All-from_recursion (λ m. (least ≤ votes_of v m) × (is_shut v m ≡ false)) (judged v least percent)
    (all_more (HasBetween v least (suc most_votes - least)) (λ m. (least ≤ votes_of v m) × (is_shut v m ≡ false)) (λ m h. (h.2, h.1)) (judged v least percent) (judged_between v least percent))

pub returns-clause-ordered : goal.returns-clause-ordered
returns-clause-ordered c = λ v least percent. pairs_ordered (GoesBefore v) (judged v least percent) (judged_order v least percent)

pub returns-clause-complete : goal.returns-clause-complete
returns-clause-complete c = judged_all

pub returns-clause-none : goal.returns-clause-none
returns-clause-none c = judged_none

pub returns-clause-sorted : goal.returns-clause-sorted
returns-clause-sorted c = λ v least percent ms within moved order. ap (take (cap v percent - number_shut v)) (sym (marked_sorted v least ms within moved order))
