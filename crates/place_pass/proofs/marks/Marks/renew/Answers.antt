use Rattle.std.proofs.Common.{ℕ, List, map, sym, subst, arith}
use Rattle.place_pass.specs.Bounds.{mark_of}
use Rattle.place_pass.specs.NotedMarks.{AreNoted}
use Rattle.place_pass.proofs.NotedMarksLemmas.{noted_renewed}
use Rattle.place_pass.proofs.marks.Marks.renew.Goals as goal

pub invariant_of-self : goal.invariant_of-self
invariant_of-self c = (subst (λ (ks : List ℕ). AreNoted (map mark_of c.self.inside.marks.items) ks c.self.inside.until) (sym c.raise.ensures) c.self.invariant.0, c.self.invariant.1)

pub invariant_of-self-2 : goal.invariant_of-self-2
invariant_of-self-2 c = (noted_renewed (map mark_of c.self.inside.marks.items) c.self.inside.keys c.renew.new.self c.self.inside.until c.args.turns (omega arith) c.renew.ensures.long c.renew.ensures.all c.self.invariant.0, c.self.invariant.1)
