use Rattle.std.proofs.Common.{ℕ, ◌≤◌, List, Bor, length, map, ◌∙◌, arith}
use Rattle.std.proofs.lemmas.List.{length-map}
use Rattle.schedule_text.proofs.Heads.{head_among, first_letter}
use Rattle.schedule_text.proofs.read.head_in.Goals as goal

pub returns-in-len1-up-clause-value : goal.returns-in-len1-up-clause-value
returns-in-len1-up-clause-value c =
    let there : 1 ≤ length c.args.words.now = omega (arith, c.in-len1-up.len_at_least) in
    let some : 1 ≤ length (map (λ (w : Bor (List ℕ)). w.now) c.args.words.now) = omega (arith, there, length-map c.args.words.now (λ (w : Bor (List ℕ)). w.now)) in
    c.head_of.ensures.value ∙ head_among _ (map (λ (w : Bor (List ℕ)). w.now) c.args.words.now) some (first_letter c.args.words.now _ there) c.heads_with.result.now c.heads_with.ensures
