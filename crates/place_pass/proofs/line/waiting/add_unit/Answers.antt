use Rattle.place_pass.proofs.line.waiting.add_unit.Goals as goal

pub push-requires-clause-admitted : goal.push-requires-clause-admitted
push-requires-clause-admitted c = c.requires.units c.args.app.0 c.args.unit.0 c.requires.unit
