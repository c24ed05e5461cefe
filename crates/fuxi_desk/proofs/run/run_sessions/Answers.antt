use Rattle.std.proofs.Common.{List, ℕ, ◌≡◌, ◌++◌, subst}
use Rattle.std.specs.Io.KnownBytes.{Appends}
use Rattle.fuxi_io.specs.Causes.{TakesPart}
use Rattle.fuxi_desk.specs.DeskTexts.{desk_text}
use Rattle.fuxi_desk.proofs.DeskTextsLemmas.{desk_says}
use Rattle.fuxi_desk.proofs.run.run_sessions.Goals as goal

pub returns-in-Ok-write_all_of-clause-writes : goal.returns-in-Ok-write_all_of-clause-writes
returns-in-Ok-write_all_of-clause-writes g c w s = record {
  text = c.write_desk.new.out.items;
  final = desk_says c.args.prepared c.into_parts-master.result.0 c.into_parts-master.result.1 c.in-Ok.book c.write_desk.new.out.items w s c.into_parts-master.ensures.sessions c.in-Ok.ensures.sessions c.in-Ok.ensures.opening c.in-Ok.ensures.whole c.into_parts-master.ensures.stands c.in-Ok.ensures.runs
      (λ r t h. subst (λ (xs : List ℕ). c.write_desk.new.out.items ≡ xs ++ desk_text h.desk) c.new-text.ensures.items (c.in-Ok-write_desk.ensures r t h));
  writes = subst (λ xs. Appends (g.O.Sink.took c.args.out.now) (g.O.Sink.took c.write_all_of.new.out) xs) c.deref.ensures.value c.in-Ok-write_all_of.ensures.ok;
}

pub returns-clause-writes : goal.returns-clause-writes
returns-clause-writes g c w s = record {
  text = c.write_desk.new.out.items;
  final = desk_says c.args.prepared c.into_parts-master.result.0 c.into_parts-master.result.1 c.in-Ok.book c.write_desk.new.out.items w s c.into_parts-master.ensures.sessions c.in-Ok.ensures.sessions c.in-Ok.ensures.opening c.in-Ok.ensures.whole c.into_parts-master.ensures.stands c.in-Ok.ensures.runs
      (λ r t h. subst (λ (xs : List ℕ). c.write_desk.new.out.items ≡ xs ++ desk_text h.desk) c.new-text.ensures.items (c.in-Ok-write_desk.ensures r t h));
  writes = subst (λ xs. TakesPart (g.O.Sink.took c.args.out.now) (g.O.Sink.took c.write_all_of.new.out) xs) c.deref.ensures.value c.in-Err-write_all_of.ensures.err;
}
