-- Rounds at a door, and then more.
use Rattle.std.proofs.Common.{◌≡◌, ℕ, ◌+◌, ◌≤◌, List, [], ◌∷◌, ◌++◌, refl, sym, ◌∙◌, ap, subst, arith}
use Rattle.fuxi_io.specs.Doors.{Told}
use Rattle.node_core.specs.Rounds.{visited}
use Rattle.node_core.specs.PartyEvents.{accepts}
use Rattle.fuxi_node.specs.NodeRuns.{Round, Played}
use Rattle.fuxi_node.specs.Visits.{Visit, round_in, played_in, rounds_of, played_of, walked, AreVisits, marks, RoseBy, WasAt}

walked_both : (addr : List ℕ) (vs us : List Visit) (t : Told) → walked addr us (walked addr vs t) ≡ walked addr (vs ++ us) t
walked_both addr [] us t = refl
walked_both addr (v ∷ vs) us t = walked_both addr vs us (visited (accepts v.played.role) addr v.talk t)

are_both : (most : ℕ) (vs us : List Visit) → AreVisits most vs → AreVisits most us → AreVisits most (vs ++ us)
are_both most [] us h k = k
are_both most (v ∷ vs) us h k = (h.0, are_both most vs us h.1 k)

marks_both : (vs us : List Visit) → marks (vs ++ us) ≡ marks vs + marks us
marks_both [] us = omega arith
marks_both (v ∷ vs) us = omega (arith, marks_both vs us)

rose_both : (m n a b c : ℕ) → RoseBy m a b → RoseBy n b c → RoseBy (m + n) a c
rose_both m n a b c x y = omega (arith, x, y)

pub was_both : (most : ℕ) (addr : List ℕ) (vs us : List Visit) (f g h : ℕ) (old mid new : Told) → WasAt most addr vs f g old mid → WasAt most addr us g h mid new → WasAt most addr (vs ++ us) f h old new
was_both most addr vs us f g h old mid new x y = record {
  door = y.door ∙ ap (walked addr us) x.door ∙ walked_both addr vs us old;
  are = are_both most vs us x.are y.are;
  faults = subst (λ n. RoseBy n f h) (sym (marks_both vs us)) (rose_both (marks vs) (marks us) f g h x.faults y.faults);
}

-- the count may rise further
pub was_later : (most : ℕ) (addr : List ℕ) (vs : List Visit) (f g h : ℕ) (old new : Told) → WasAt most addr vs f g old new → g ≤ h → WasAt most addr vs f h old new
was_later most addr vs f g h old new x later = record { door = x.door; are = x.are; faults = omega (arith, x.faults, later) }

pub rounds_both : (vs us : List Visit) (rounds : List Round) → rounds_of (vs ++ us) ++ rounds ≡ rounds_of vs ++ (rounds_of us ++ rounds)
rounds_both [] us rounds = refl
rounds_both (v ∷ vs) us rounds = ap (λ l. round_in v ∷ l) (rounds_both vs us rounds)

pub played_both : (vs us : List Visit) (rest : List Played) → played_of vs ++ (played_of us ++ rest) ≡ played_of (vs ++ us) ++ rest
played_both [] us rest = refl
played_both (v ∷ vs) us rest = ap (λ l. played_in v ∷ l) (played_both vs us rest)
