use Rattle.std.proofs.Common.{◌≡◌, ◌+◌, ℕ, length, replicate}
use Rattle.locality_tree.specs.Layouts.{rows_of, numbers_of, sets_of, with_places}
use Rattle.locality_tree.proofs.layout.put_numbers.Given as goal

abbrev pub invariant-loop-index : goal.invariant-loop-index
invariant-loop-index l = record {
  count : length l.left.items + l.index ≡ length l.fn.rows.items;
  long : length l.slots.items ≡ length l.fn.slots.items;
  put : (places : ℕ) → rows_of l.fn.rows.items ≡ replicate (length l.fn.rows.items) (replicate places 0) → (rows_of l.left.items ≡ replicate (length l.left.items) (replicate places 0)) × (numbers_of l.slots.items ≡ with_places 0 (numbers_of l.fn.slots.items) l.first places l.index);
  sets : sets_of l.slots.items ≡ sets_of l.fn.slots.items;
}
