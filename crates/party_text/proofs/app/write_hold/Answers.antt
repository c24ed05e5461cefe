use Rattle.std.proofs.Common.{◌≡◌, ℕ, Bool, true, false, cond, [], ◌∷◌, sym, ◌∙◌, ap}
use Rattle.fuxi_terms.proofs.Booleans.{not_false, not_true}
use Rattle.spec_roles.specs.Apps.{AppRole, names, held_by}
use Rattle.spec_world.specs.Outputs.{Hold, Carry}
use Rattle.spec_refinement.specs.States.{hold_line}
use Rattle.schedule_text.specs.PrintedLines.{line_text}
use Rattle.spec_refinement.proofs.ShowsLemmas.{shows_same}
use Rattle.party_text.proofs.app.write_hold.Goals as goal

-- what is held is one line, by whether the master names the machine
held_line : (r : AppRole) (a u m n : ℕ) (b : Bool) → a ≡ r.job → n ≡ held_by r u m → names r.up.got m ≡ b → cond b (Hold a u m n) (Carry a u m n) ∷ [] ≡ hold_line r u m ∷ []
held_line r a u m n b number held named =
    (λ i. cond b (Hold (number i) u m (held i)) (Carry (number i) u m (held i)) ∷ [])
    ∙ sym (ap (λ t. cond t (Hold r.job u m (held_by r u m)) (Carry r.job u m (held_by r u m)) ∷ []) named)

pub returns-in-Ok-clause-ok : goal.returns-in-Ok-clause-ok
returns-in-Ok-clause-ok c r stands =
    let named : names r.up.got c.args.machine.0 ≡ false = not_true _ (sym (c.carried.ensures.alone r stands) ∙ c.if-carried.true) in
    shows_same line_text (Carry c.args.job.0 c.args.unit.0 c.args.machine.0 c.args.count ∷ []) (hold_line r c.args.unit.0 c.args.machine.0 ∷ []) c.args.out.now.items c.write_line.new.out.items
    (held_line r c.args.job.0 c.args.unit.0 c.args.machine.0 c.args.count false (c.requires.number ∙ stands.job) (c.requires.held r stands) named) c.in-Ok.ensures.ok

pub returns-in-Ok-write_line-clause-ok : goal.returns-in-Ok-write_line-clause-ok
returns-in-Ok-write_line-clause-ok c r stands =
    let named : names r.up.got c.args.machine.0 ≡ true = not_false _ (sym (c.carried.ensures.alone r stands) ∙ c.if-carried.false) in
    shows_same line_text (Hold c.args.job.0 c.args.unit.0 c.args.machine.0 c.args.count ∷ []) (hold_line r c.args.unit.0 c.args.machine.0 ∷ []) c.args.out.now.items c.write_line-2.new.out.items
    (held_line r c.args.job.0 c.args.unit.0 c.args.machine.0 c.args.count true (c.requires.number ∙ stands.job) (c.requires.held r stands) named) c.in-Ok-write_line.ensures.ok
