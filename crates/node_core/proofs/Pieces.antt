-- The pieces of a round's line make that line.
use Rattle.std.proofs.Common.{◌≡◌, ℕ, List, [], ◌++◌, sym, ◌∙◌, ap, append_assoc}
use Rattle.std.specs.Prelude.{codes, decimal}
use Rattle.wire_frames.specs.declared.fault.FrameFault.{FrameFault}
use Rattle.wire_frames.specs.Names.{name_of, found_of}
use Rattle.node_core.specs.declared.rounds.RoundLine.TheVariants.{Done, Bad}
use Rattle.node_core.specs.NodeTexts.{found_text, round_text}

pub done_line : (a b : List ℕ) (heard sent : ℕ) → a ≡ decimal heard → b ≡ decimal sent → codes "round done " ++ (a ++ (codes " " ++ (b ++ (codes "\n" ++ [])))) ≡ round_text (Done heard sent)
done_line a b heard sent is_a is_b =
    ap (λ l. codes "round done " ++ (l ++ (codes " " ++ (b ++ codes "\n")))) is_a
    ∙ ap (λ l. codes "round done " ++ (decimal heard ++ (codes " " ++ (l ++ codes "\n")))) is_b
    ∙ sym (simp append_assoc)

pub bad_line : (a name blank value : List ℕ) (at : ℕ) (fault : FrameFault) → a ≡ decimal at → name ≡ name_of fault → blank ++ value ≡ found_text (found_of fault)
    → codes "round bad " ++ (a ++ (codes " " ++ (name ++ (blank ++ (value ++ (codes "\n" ++ [])))))) ≡ round_text (Bad at fault)
bad_line a name blank value at fault is_a is_name is_value =
    ap (λ l. codes "round bad " ++ (a ++ (codes " " ++ (name ++ l)))) (sym (append_assoc blank value (codes "\n")))
    ∙ ap (λ l. codes "round bad " ++ (a ++ (codes " " ++ (name ++ (l ++ codes "\n"))))) is_value
    ∙ ap (λ l. codes "round bad " ++ (l ++ (codes " " ++ (name ++ (found_text (found_of fault) ++ codes "\n"))))) is_a
    ∙ ap (λ l. codes "round bad " ++ (decimal at ++ (codes " " ++ (l ++ (found_text (found_of fault) ++ codes "\n"))))) is_name
    ∙ sym (simp append_assoc)
