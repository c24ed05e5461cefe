use Rattle.std.proofs.Common.{◌-◌, ℕ, List, get_or, sym, subst, ◌∙◌, arith}
use Rattle.fuxi_terms.specs.declared.Key.{Key}
use Rattle.fuxi_terms.specs.Counts.{AreCounts}
use Rattle.fuxi_terms.specs.Keys.{key_cmp}
use Rattle.fuxi_terms.specs.TallyKeys.{greatest_demand}
use Rattle.place_pass.specs.DemandWalks.{IsNextAsked}
use Rattle.place_pass.proofs.CellsLemmas.{asked_small}
use Rattle.place_pass.proofs.NextOfKind.{next_past_end, next_other, next_beyond, next_here}
use Rattle.place_pass.proofs.demand.reading.next_asked.Goals as goal

abbrev no_entry : Key × ℕ
no_entry = (record { what = 0; unit = 0; number = 0 }, 0)

pub place_of-place-requires-clause-sorted : goal.place_of-place-requires-clause-sorted
place_of-place-requires-clause-sorted c = (subst (λ (x : List (Key × ℕ)). AreCounts key_cmp greatest_demand x) (sym c.entries-entries.ensures.entries) c.entries-entries.ensures.counts).sorted

pub returns-then-place-entries : goal.returns-then-place-entries
returns-then-place-entries c =
    let es = c.entries-entries.result.now in
    let place = c.place_of-place.result in
    subst (λ (x : List (Key × ℕ)). IsNextAsked x c.args.sought.now c.args.end (c.args.end - 1) 0 place) c.entries-entries.ensures.entries
    (next_past_end es c.args.sought.now c.args.end place c.requires.inside c.place_of-place.ensures.past c.if-place-entries.true)

pub returns-then-not-is_of : goal.returns-then-not-is_of
returns-then-not-is_of c =
    let es = c.entries-entries.result.now in
    let place = c.place_of-place.result in
    let lt = c.if-place-entries.false in
    let counts = subst (λ (x : List (Key × ℕ)). AreCounts key_cmp greatest_demand x) (sym c.entries-entries.ensures.entries) c.entries-entries.ensures.counts in
    subst (λ (x : List (Key × ℕ)). IsNextAsked x c.args.sought.now c.args.end (c.args.end - 1) 0 place) c.entries-entries.ensures.entries
    (next_other es c.args.sought.now c.args.end place no_entry c.requires.inside c.place_of-place.ensures.past counts.sorted lt (sym c.is_of.ensures ∙ c.if-not-is_of.true) (c.place_of-place.ensures.there lt))

pub returns-then-found-end : goal.returns-then-found-end
returns-then-found-end c =
    let es = c.entries-entries.result.now in
    let place = c.place_of-place.result in
    let lt = c.if-place-entries.false in
    let counts = subst (λ (x : List (Key × ℕ)). AreCounts key_cmp greatest_demand x) (sym c.entries-entries.ensures.entries) c.entries-entries.ensures.counts in
    subst (λ (x : List (Key × ℕ)). IsNextAsked x c.args.sought.now c.args.end (c.args.end - 1) 0 place) c.entries-entries.ensures.entries
    (next_beyond es c.args.sought.now c.args.end place no_entry c.requires.inside c.place_of-place.ensures.past counts.sorted lt (sym c.is_of.ensures ∙ c.if-not-is_of.false) c.if-found-end.true)

pub overflow_cast-result : goal.overflow_cast-result
overflow_cast-result c =
    let es = c.entries-entries.result.now in
    let place = c.place_of-place.result in
    let k = c.args.sought.now in
    let lt = c.if-place-entries.false in
    let counts = subst (λ (x : List (Key × ℕ)). AreCounts key_cmp greatest_demand x) (sym c.entries-entries.ensures.entries) c.entries-entries.ensures.counts in
    let below = c.if-found-end.false in
    let next = next_here es k c.args.end place no_entry c.requires.inside c.place_of-place.ensures.past counts.sorted lt (sym c.is_of.ensures ∙ c.if-not-is_of.false) (c.place_of-place.ensures.there lt) (omega (arith, below)) in
    let asked = next.asked in
    let small = asked_small es k.what k.unit (get_or es place no_entry).0.number c.requires.kind counts in
    omega (arith, asked, small)

pub returns : goal.returns
returns c =
    let es = c.entries-entries.result.now in
    let place = c.place_of-place.result in
    let lt = c.if-place-entries.false in
    let counts = subst (λ (x : List (Key × ℕ)). AreCounts key_cmp greatest_demand x) (sym c.entries-entries.ensures.entries) c.entries-entries.ensures.counts in
    let below = c.if-found-end.false in
    subst (λ (x : List (Key × ℕ)). IsNextAsked x c.args.sought.now c.args.end (get_or es place no_entry).0.number (get_or es place no_entry).1 place) c.entries-entries.ensures.entries
    (next_here es c.args.sought.now c.args.end place no_entry c.requires.inside c.place_of-place.ensures.past counts.sorted lt (sym c.is_of.ensures ∙ c.if-not-is_of.false) (c.place_of-place.ensures.there lt) (omega (arith, below)))
