use Rattle.std.proofs.Common.{◌≡◌, ℕ, Bool, true, false, not, nat_lt, List, [], ◌∷◌, ◌++◌, filter, sym, ◌∙◌, ap, arith}
use Rattle.std.specs.Prelude.{◌&&◌, ◌||◌}
use Rattle.std.proofs.lemmas.Bool.Decides.{nat_tests}
use Rattle.fuxi_terms.proofs.Booleans.{and_false, or_false}
use Rattle.fuxi_terms.specs.Keys.{Pair}
use Rattle.spec_roles.specs.Masters.{out_of}
use Rattle.spec_roles.specs.Placing.{has_pair}
use Rattle.place_pass.specs.Cells.{asks_in}
use Rattle.place_pass.specs.WaitingLines.{same_pair, waiting_of}
use Rattle.place_pass.proofs.WaitingLinesLemmas.{any_append, none_filter, append_nil, joined_more, none_yet}
use Rattle.place_pass.proofs.line.waiting.join_units.Goals as goal

-- a unit whose turn comes is in the line only where it was
was_there : (old line : List Pair) (r : Pair → Bool) (a n : ℕ) (joined : List Pair) → line ≡ old ++ filter r joined → has_pair (a, n) joined ≡ false → has_pair (a, n) line ≡ has_pair (a, n) old
was_there old line r a n joined is none =
    ap (has_pair (a, n)) is ∙ any_append (same_pair (a, n)) old (filter r joined) ∙ ap (λ b. has_pair (a, n) old || b) (none_filter (same_pair (a, n)) r joined none) ∙ or_false (has_pair (a, n) old)

pub loop-number-preserved-then-outstanding-eq0 : goal.loop-number-preserved-then-outstanding-eq0
loop-number-preserved-then-outstanding-eq0 c =
    let old = c.args.line.now.pairs in
    let r : Pair → Bool = λ p. not (has_pair p old) in
    let a = c.args.app.0 in
    let n = c.loop-number.number in
    let w : ℕ → Bool = λ u. nat_lt 0 (out_of (asks_in c.args.wishes.now.cells) c.args.table.now.entries a u) in
    let test : nat_lt 0 (out_of (asks_in c.args.wishes.now.cells) c.args.table.now.entries c.args.app.0 c.loop-number.number) ≡ false = let e = c.outstanding.ensures in let z = c.if-outstanding-eq0.true in grind (arith, nat_tests, e, z) in
    record {
      pairs = c.loop-number.invariant.pairs ∙ sym (append_nil _) ∙ joined_more old r w a n false (ap (λ b. b && r (a, n)) test);
      admitted = c.loop-number.invariant.admitted;
      units = c.loop-number.invariant.units;
    }

pub loop-number-preserved-then-has : goal.loop-number-preserved-then-has
loop-number-preserved-then-has c =
    let old = c.args.line.now.pairs in
    let r : Pair → Bool = λ p. not (has_pair p old) in
    let a = c.args.app.0 in
    let n = c.loop-number.number in
    let w : ℕ → Bool = λ u. nat_lt 0 (out_of (asks_in c.args.wishes.now.cells) c.args.table.now.entries a u) in
    let was = was_there old c.loop-number.line.pairs r a n (waiting_of (asks_in c.args.wishes.now.cells) c.args.table.now.entries a n) c.loop-number.invariant.pairs (none_yet a n w) in
    let test : r (a, n) ≡ false = ap not (sym was ∙ sym c.has.ensures ∙ c.if-has.true) in
    record {
      pairs = c.loop-number.invariant.pairs ∙ sym (append_nil _) ∙ joined_more old r w a n false (ap (λ b. w n && b) test ∙ and_false (w n));
      admitted = c.loop-number.invariant.admitted;
      units = c.loop-number.invariant.units;
    }

pub add_unit-requires-clause-new : goal.add_unit-requires-clause-new
add_unit-requires-clause-new c = sym c.has.ensures ∙ c.if-has.false

pub loop-number-preserved : goal.loop-number-preserved
loop-number-preserved c =
    let old = c.args.line.now.pairs in
    let r : Pair → Bool = λ p. not (has_pair p old) in
    let a = c.args.app.0 in
    let n = c.loop-number.number in
    let w : ℕ → Bool = λ u. nat_lt 0 (out_of (asks_in c.args.wishes.now.cells) c.args.table.now.entries a u) in
    let some : nat_lt 0 (out_of (asks_in c.args.wishes.now.cells) c.args.table.now.entries c.args.app.0 c.loop-number.number) ≡ true = let e = c.outstanding.ensures in let z = c.if-outstanding-eq0.false in grind (arith, nat_tests, e, z) in
    let was = was_there old c.loop-number.line.pairs r a n (waiting_of (asks_in c.args.wishes.now.cells) c.args.table.now.entries a n) c.loop-number.invariant.pairs (none_yet a n w) in
    let test : r (a, n) ≡ true = ap not (sym was ∙ sym c.has.ensures ∙ c.if-has.false) in
    record {
      pairs = c.add_unit.ensures.pairs ∙ ap (λ ks. ks ++ (a, n) ∷ []) c.loop-number.invariant.pairs ∙ joined_more old r w a n true (ap (λ b. b && r (a, n)) some ∙ test);
      admitted = c.add_unit.ensures.admitted;
      units = λ p. c.add_unit.ensures.units p ∙ c.loop-number.invariant.units p;
    }
