use Rattle.std.proofs.Common.{ap, sym, subst, ◌∙◌}
use Rattle.std.proofs.lemmas.Bool.{false≢true}
use Rattle.fuxi_io.specs.Lines.{MoreKnown}
use Rattle.fuxi_io.specs.Reading.{rest_of}
use Rattle.fuxi_io.proofs.Known.{MoreKnown-pending, MoreKnown-read}
use Rattle.fuxi_io.proofs.lines.LineReader.advance.Goals as goal
use Rattle.fuxi_io.proofs.lines.LineReader.advance.Goals.{then-is_empty+in_ok-fill+else-is_empty-2, else-is_empty}

pub returns-then-self-eq-MOST_LINES-clause-many : goal.returns-then-self-eq-MOST_LINES-clause-many
returns-then-self-eq-MOST_LINES-clause-many g c =
    let left = g.S.Source.left c.args.source.now in
    elim c.if-is_empty.branch [
      | then-is_empty+in_ok-fill+else-is_empty-2 w ↦ λ stop. (
        ap (λ v. v.number) (sym c.self.view_is) ∙ ap (λ i. i.number) (sym w.self-inside-is) ∙ c.if-self-eq-MOST_LINES.true,
        subst (λ v. MoreKnown (rest_of v left)) c.self.view_is
            (MoreKnown-read left (g.S.Source.left w.fill.new.source) c.self.inside.piece w.fill.new.self w.in_ok-fill.ensures.bytes (λ e. absurd (false≢true (w.if-is_empty-2.ensures.1 e)))),
      )
      | else-is_empty w ↦ λ stop. (
        ap (λ v. v.number) (sym c.self.view_is) ∙ ap (λ i. i.number) (sym w.self-inside-is) ∙ c.if-self-eq-MOST_LINES.true,
        subst (λ v. MoreKnown (rest_of v left)) c.self.view_is (MoreKnown-pending c.self.inside.piece left (λ e. absurd (false≢true (w.if-is_empty.ensures.1 e)))),
      )
    ]
