use Rattle.master_desk.proofs.hear.turn_to.Goals as goal

pub returns-in-Ok-sent_in-clause-stands : goal.returns-in-Ok-sent_in-clause-stands
returns-in-Ok-sent_in-clause-stands c r s = (c.in-Ok.ensures.answers r s).role

pub returns-in-Ok-sent_in-clause-sends : goal.returns-in-Ok-sent_in-clause-sends
returns-in-Ok-sent_in-clause-sends c r s = c.in-Ok-sent_in.ensures _ (c.in-Ok.ensures.answers r s).says
