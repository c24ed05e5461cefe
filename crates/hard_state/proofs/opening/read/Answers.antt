use Rattle.std.proofs.Common.{◌≡◌, Ok, Err, refl, sym, ap, ◌∙◌, ◌-◌, ◌<◌, arith, length, length-drop, rules}
use Rattle.fuxi_terms.specs.Limits.{most_records}
use Rattle.spec_roles.specs.HardState.{HardState}
use Rattle.hard_state.proofs.OpensAsTheFile.{empty_piece, walk_starts, ends_closed, ends_damaged, goes_on}
use Rattle.hard_state.proofs.opening.read.Goals as goal

pub loop-number-init : goal.loop-number-init
loop-number-init g c = record {
  told = refl;
  size = refl;
  later = omega arith;
  served = refl;
  holds = λ t is. empty_piece c.in-Ok-new.window t.now.bytes c.in-Ok-new.ensures;
  from = search rules;
  to = omega arith;
  inside = search rules;
  within = c.requires.some;
  count = search rules;
  few = search rules;
  short = omega arith;
  walked = λ t is. walk_starts t.now.bytes c.in-Ok.state c.in-Ok.ensures;
}

pub returns-in-Closed-clause-opened : goal.returns-in-Closed-clause-opened
returns-in-Closed-clause-opened g c t is =
    let inv = c.loop-number.invariant in
    ends_closed c.written_is_read.ensures.only (g.D.Disk.told c.args.disk.now) _ (g.met.D.Disk.measured c.args.disk.now) c.loop-number.number c.loop-number.at c.args.len c.loop-number.state c.reach.new.self c.rest.result.now
    c.requires.size c.in-Ok-reach.ensures.reaches c.rest.ensures (λ u at. c.in-Ok-reach.ensures.holds u (inv.told ∙ at) (inv.holds u at)) inv.walked t is c.in-Closed.ensures.found.0
    ∙ ap (λ (h : HardState). Ok (record { value = h; gate = c.loop-number.at })) (sym c.in-Closed.ensures.found.1)

pub returns-in-Damaged-clause-damaged : goal.returns-in-Damaged-clause-damaged
returns-in-Damaged-clause-damaged g c t offset is at_offset =
    let inv = c.loop-number.invariant in
    let same : c.loop-number.at ≡ offset = cc in
    ends_damaged c.written_is_read.ensures.only (g.D.Disk.told c.args.disk.now) _ (g.met.D.Disk.measured c.args.disk.now) c.loop-number.number c.loop-number.at c.args.len c.loop-number.state c.reach.new.self c.rest.result.now
    c.requires.size c.in-Ok-reach.ensures.reaches c.rest.ensures (λ u at. c.in-Ok-reach.ensures.holds u (inv.told ∙ at) (inv.holds u at)) inv.walked t is c.in-Damaged.ensures.found
    ∙ ap (λ n. Err n) same

pub loop-number-preserved : goal.loop-number-preserved
loop-number-preserved g c =
    let inv = c.loop-number.invariant in
    let reaches = c.in-Ok-reach.ensures.reaches in
    let size = c.in-Whole.size in
    let fits = c.in-Whole.ensures.within size refl in
    let seen = ap length c.rest.ensures in
    let dropped = length-drop (c.loop-number.at - c.reach.new.self.begin) c.reach.new.self.bytes in
    let more = c.in-Whole.ensures.more size refl in
    let few = c.in-Whole.ensures.few size refl in
    let below : c.loop-number.number < most_records = omega (arith, more, few, inv.count) in
    record {
      told = c.reach.ensures.told ∙ inv.told;
      size = c.reach.ensures.size ∙ inv.size;
      later = omega (arith, c.reach.ensures.cause.later, inv.later);
      served = c.in-Ok-reach.ensures.served ∙ inv.served;
      holds = λ u at. c.in-Ok-reach.ensures.holds u (inv.told ∙ at) (inv.holds u at);
      from = omega (arith, reaches.from);
      to = omega (arith, fits, seen, dropped, reaches.to, reaches.from);
      inside = reaches.inside;
      within = omega (arith, fits, seen, dropped, reaches.to, reaches.from, reaches.inside);
      count = omega (arith, more, inv.count);
      few = few;
      short = omega (arith, c.in-Whole.ensures.short size refl, inv.short);
      walked =
          goes_on c.written_is_read.ensures.only (g.D.Disk.told c.args.disk.now) _ (g.met.D.Disk.measured c.args.disk.now) c.loop-number.number c.loop-number.at c.args.len c.loop-number.state c.reach.new.self c.rest.result.now
          c.requires.size reaches c.rest.ensures (λ u at. c.in-Ok-reach.ensures.holds u (inv.told ∙ at) (inv.holds u at)) inv.walked c.look.new.self size below c.in-Whole.ensures.found;
    }
