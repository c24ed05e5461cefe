use Rattle.std.proofs.Common.{◌≡◌, ◌<◌, ◌++◌, ap, sym, subst, arith, ◌∙◌, Result, Ok, Err, OnErr, slice_range}
use Rattle.fuxi_io.specs.Lines.{FirstLonger, lines_of}
use Rattle.fuxi_io.specs.Pieces.{NoNewline}
use Rattle.fuxi_io.proofs.LinesLemmas.{moved_line, FirstLonger-slice}
use Rattle.fuxi_io.proofs.piece.Piece.move_line.Goals as goal
use Rattle.fuxi_terms.specs.Limits.{most_line_bytes}

on_err : {T E P : Type 0} (r : Result T E) → P → OnErr r P
on_err (Ok v) p = tt
on_err (Err e) p = p

pub returns-in_err-append-clause-long : goal.returns-in_err-append-clause-long
returns-in_err-append-clause-long c more =
    let p = c.self.inside in
    let line = c.args.line.now.items in
    let seen = c.deref.result.now in
    let is : slice_range seen p.from p.to ≡ c.args.self.now = ap (λ l. slice_range l p.from p.to) c.deref.ensures.value ∙ c.self.view_is in
    let none = subst (λ l. NoNewline (slice_range l p.from p.end)) (sym c.deref.ensures.value) c.self.invariant.4.0 in
    on_err c.from_residual.result (subst (λ l. FirstLonger most_line_bytes (lines_of (line ++ l ++ more))) is
    (FirstLonger-slice most_line_bytes line seen more p.from p.end p.to c.self.invariant.0 c.self.invariant.1 c.requires.plain none c.in_err-append.ensures.long))

pub returns-clause-moved : goal.returns-clause-moved
returns-clause-moved c =
    let p = c.self.inside in
    let is = c.self.invariant in
    let more : p.end < p.to = grind (arith, is, c.if-self.false) in
    moved_line c.deref.result.now p.bytes.items c.args.line.now.items c.append.new.line.items c.args.self.now p.from p.end p.to
    c.deref.ensures.value c.self.view_is is.0 more is.2 (is.4.1 more) c.in_ok-append.ensures.ok
