use Rattle.std.proofs.Common.{rules}
use Rattle.std.proofs.lemmas.List.Elements.{recursion_from_All}
use Rattle.party_ledgers.proofs.row_forms.read_key.Goals as goal

pub returns-clause-whole : goal.returns-clause-whole
returns-clause-whole c = record {
  job = search rules;
  places = c.read_size.ensures.places;
  quantities = recursion_from_All _ c.read_size.result c.read_size.ensures.quantities;
}
