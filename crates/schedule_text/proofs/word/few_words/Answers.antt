use Rattle.std.proofs.Common.{◌≤◌, ◌<◌, ◌==◌, ◌++◌, ◌-◌, [], ◌∷◌, not, List, ℕ, Bor, length, map, filter, take, drop, sym, ap, ◌∙◌, append_assoc}
use Rattle.std.proofs.lemmas.List.Sums.{prefix_len-le-length}
use Rattle.schedule_text.specs.Words.{is_word, words_of}
use Rattle.schedule_text.proofs.WordsLemmas.{width, part_before, part_last}
use Rattle.schedule_text.proofs.word.few_words.Goals as goal

pub split_at-requires : goal.split_at-requires
split_at-requires c = rw c.part_length.ensures (prefix_len-le-length (λ b. not (b == 32)) c.loop-more.rest.now)

pub returns-in-empty-clause-words : goal.returns-in-empty-clause-words
returns-in-empty-clause-words c =
    let bs = c.loop-more.rest.now in
    let before = map (λ (w : Bor (List ℕ)). w.now) (take c.loop-more.count c.loop-more.few) in
    let put = rw (c.split_at.ensures.front, c.part_length.ensures) at c.in-Some.ensures.words.1 in
    let none : length (drop (width bs) bs) < 1 = rw (c.split_at.ensures.back, c.part_length.ensures) at c.in-empty.len_below in
    (c.in-Some.ensures.words.0, put ∙ ap (λ ws. before ++ ws) (sym (part_last bs none)) ∙ c.loop-more.invariant.words)

pub loop-more-preserved : goal.loop-more-preserved
loop-more-preserved c =
    let bs = c.loop-more.rest.now in
    let before = map (λ (w : Bor (List ℕ)). w.now) (take c.loop-more.count c.loop-more.few) in
    let put = rw (c.split_at.ensures.front, c.part_length.ensures) at c.in-Some.ensures.words.1 in
    let rest = drop (width bs) bs in
    let some : 1 ≤ length rest = rw (c.split_at.ensures.back, c.part_length.ensures) at c.in-len1-up.len_at_least in
    let left = words_of (take (length rest - 1) (drop 1 rest)) in
    record {
      room = c.put_part.ensures.places;
      within = c.in-Some.ensures.words.0;
      words = rw (c.split_at.ensures.back, c.part_length.ensures) (ap (λ ws. ws ++ left) put ∙ append_assoc before (filter is_word (take (width bs) bs ∷ [])) left ∙ ap (λ ws. before ++ ws) (sym (part_before bs some)) ∙ c.loop-more.invariant.words);
    }
