use Rattle.std.proofs.Common.{◌≡◌, ◌<◌, ◌≤◌, true, false, nat_lt, [], length, get_or, refl, sym, ◌∙◌, arith, inl, inr}
use Rattle.std.proofs.lemmas.Bool.{cases_lt}
use Rattle.fuxi_terms.specs.Keys.{Pair}
use Rattle.fuxi_terms.proofs.Lists.{all_at}
use Rattle.spec_roles.specs.Masters.{out_of}
use Rattle.place_pass.specs.Cells.{asks_in}
use Rattle.place_pass.proofs.NumberedLemmas.{app_small}
use Rattle.place_pass.proofs.CandidatesLemmas.{place_of}
use Rattle.place_pass.proofs.StillLemmas.{calm_out}
use Rattle.place_pass.proofs.line.waiting.turnover_of_all.Goals as goal

-- of a calm job each waits that stands in the line, and of another one who was asked
pub returns-clause-ends : goal.returns-clause-ends
returns-clause-ends c e p has =
    let cells = c.args.wishes.now.cells in
    let line = c.args.line.now.pairs in
    let place = place_of p line has in
    let here : p.1 < length (get_or cells p.0 []) = all_at (λ (p : Pair). p.1 < length (get_or cells p.0 [])) line place.place p c.requires.admitted place.at in
    let small = app_small cells line place.place p c.requires.admitted place.at c.are_sound.ensures.places in
    let end = c.loop-number-test.false in
    elim (get_or c.args.calm.now p.0 false) as (λ b. get_or c.args.calm.now p.0 false ≡ b → nat_lt 0 (out_of (asks_in cells) c.args.table.now.entries p.0 p.1) ≡ true) [
      | true ↦ λ calm. calm_out cells line c.args.calm.now c.args.table.now c.requires.still p calm has
      | false ↦ λ told. elim (cases_lt p.0 c.loop-number.number) [
        | inl lt ↦ c.loop-number.invariant.ends e p.0 p.1 lt told here has
        | inr ge ↦ let past : c.high-high.result ≤ p.0 = omega (arith, ge, end) in let no : true ≡ false = sym (c.high-high.ensures p.0 past small) ∙ told in cc
      ]
    ] refl
