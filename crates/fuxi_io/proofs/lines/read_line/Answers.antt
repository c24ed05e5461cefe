use Rattle.std.proofs.Common.{subst, refl, ◌++◌}
use Rattle.fuxi_io.specs.Pieces.{Moved}
use Rattle.fuxi_io.proofs.Known.{gives_cut, gives_last}
use Rattle.fuxi_io.proofs.lines.read_line.Goals as goal

pub returns-then-branch-clause-gives : goal.returns-then-branch-clause-gives
returns-then-branch-clause-gives g c =
    let e = c.in_ok-move_line.ensures in
    let before = c.loop-piece in
    let after = c.move_line.new in
    let moved = subst (λ b. Moved b (before.line.items ++ before.piece) after.line.items after.self) c.if-branch.true e.moved in
    gives_cut _ (g.S.Source.left before.source) before.line.items before.piece after.line.items after.self before.invariant.read moved e.plain e.short

pub returns-clause-gives : goal.returns-clause-gives
returns-clause-gives g c =
    let last = c.loop-piece in
    let empty = c.loop-piece-test.ensures.0 refl in
    let end = last.invariant.end empty in
    gives_last _ (g.S.Source.left last.source) last.line.items last.piece last.invariant.read empty end.0 last.invariant.plain end.1 last.invariant.short
