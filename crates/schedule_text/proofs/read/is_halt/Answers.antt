use Rattle.std.proofs.Common.{ℕ, ◌≤◌, List, Bor, length, map, sym, arith}
use Rattle.std.proofs.lemmas.List.{length-map}
use Rattle.schedule_text.specs.LineForms.{halt_shape}
use Rattle.schedule_text.proofs.Heads.{other_words}
use Rattle.schedule_text.proofs.read.is_halt.Goals as goal

pub returns-then-is_other : goal.returns-then-is_other
returns-then-is_other c =
    let other = c.is_other.ensures c.if-is_other.true in
    let some : 1 ≤ length (map (λ (w : Bor (List ℕ)). w.now) c.args.words.now) = omega (arith, other.0, length-map c.args.words.now (λ (w : Bor (List ℕ)). w.now)) in
    sym (other_words halt_shape.words (map (λ (w : Bor (List ℕ)). w.now) c.args.words.now) (omega arith) some other.1)
