-- The line that tells of a bad input.
use Rattle.std.proofs.Common.{◌≡◌, ℕ, List, [], ◌++◌, sym, ◌∙◌, ap, append_assoc}
use Rattle.std.specs.Prelude.{codes, decimal}
use Rattle.fuxi_io.specs.declared.status.InputFault.{InputFault}
use Rattle.fuxi_io.specs.declared.status.Status.TheVariants.{BadInput}
use Rattle.fuxi_io.specs.Reports.{fault_name, fault_value, status_line}

-- the pieces of the line of a bad input make that line
pub bad_input_line : (usage n name blank value : List ℕ) (line : ℕ) (fault : InputFault) → n ≡ decimal line → name ≡ fault_name fault → blank ++ value ≡ fault_value fault
    → codes "line " ++ (n ++ (codes ": " ++ (name ++ (blank ++ (value ++ (codes "\n" ++ [])))))) ≡ status_line usage (BadInput line fault)
bad_input_line usage n name blank value line fault is_n is_name is_value =
    ap (λ l. codes "line " ++ (n ++ (codes ": " ++ (name ++ l)))) (sym (append_assoc blank value (codes "\n")))
    ∙ ap (λ l. codes "line " ++ (n ++ (codes ": " ++ (name ++ (l ++ codes "\n"))))) is_value
    ∙ ap (λ l. codes "line " ++ (l ++ (codes ": " ++ (name ++ (fault_value fault ++ codes "\n"))))) is_n
    ∙ ap (λ l. codes "line " ++ (decimal line ++ (codes ": " ++ (l ++ (fault_value fault ++ codes "\n"))))) is_name
    ∙ sym (simp append_assoc)
