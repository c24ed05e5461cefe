use Rattle.std.proofs.Common.{◌≡◌, ℕ, Bool, true, false, cond, nat_eq, List, refl, get_or, sym, ◌∙◌, ap}
use Rattle.std.specs.Prelude.{◌&&◌}
use Rattle.fuxi_terms.specs.Cluster.{ClusterRecord, rack_of}
use Rattle.fuxi_terms.proofs.Booleans.{both_false, number_is, eq_turned}
use Rattle.place_pass.specs.Bounds.{MarkRecord, mark_at, reset_mark, lowered_mark, taken_mark, after_taking}
use Rattle.place_pass.proofs.marks.told.told_taking.Goals as goal

-- where a mark does not note the group and the unit is not nearer, it changes at the machine alone
alone : (c : ClusterRecord) (marks : List MarkRecord) (group n m : ℕ) (nearer : Bool) → nearer ≡ false → get_or (mark_at marks m).groups group false ≡ false
    → cond (nat_eq n m) (reset_mark (mark_at marks n).until) (mark_at marks m) ≡ after_taking c group n nearer m (mark_at marks m)
alone c marks group n m nearer far clear = elim (nat_eq n m) as (λ t. nat_eq n m ≡ t → cond t (reset_mark (mark_at marks n).until) k ≡ after_taking c group n nearer m k) [
  | true ↦ λ e. ap (λ z. reset_mark (mark_at marks z).until) (number_is n m e) ∙ sym (ap (λ h. taken_mark h group near k) (eq_turned m n ∙ e))
  | false ↦ λ e. sym (ap (λ h. taken_mark h group near k) (eq_turned m n ∙ e) ∙ ap (λ h. cond h (reset_mark k.until) (cond near (lowered_mark k) k)) clear ∙ ap (λ b. cond (b && nat_eq (rack_of c m) (rack_of c n)) (lowered_mark k) k) far)
] refl
  where
    k : MarkRecord
    k = mark_at marks m

    near : Bool
    near = nearer && nat_eq (rack_of c m) (rack_of c n)

pub returns-clause-marks : goal.returns-clause-marks
returns-clause-marks c m lt =
    let no = both_false c.args.nearer c.may_note.result c.if-nearer-may_note.false in
    c.take.ensures.marks m ∙ alone c.args.cluster.now c.args.marks.now c.args.group.0 c.args.machine.0 m c.args.nearer no.0 (c.may_note.ensures no.1 m c.args.group.0 lt)
