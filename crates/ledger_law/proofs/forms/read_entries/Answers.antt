use Rattle.std.proofs.Common.{◌≡◌, ◌+◌, ◌≤◌, ◌++◌, length, sym, ◌∙◌, ap, subst, arith}
use Rattle.std.specs.List.{All, flat_map}
use Rattle.std.proofs.lemmas.List.Elements.{All-nil, All-push}
use Rattle.std.proofs.lemmas.List.{length_push}
use Rattle.ledger_law.proofs.FormsLemmas.{read_more, shorter_by, one_left}
use Rattle.ledger_law.proofs.forms.read_entries.Goals as goal

pub loop-init : goal.loop-init
loop-init g c =
    let none = c.in_ok-reserve.ensures.items ∙ c.new-entries.ensures.items in
    record {
      read = ap (λ es. flat_map g.F.EntryForm.form es ++ c.args.bytes.now) none;
      long = omega (arith, c.requires);
      count = ap length none;
      entries = subst (λ es. All g.F.EntryForm.is_entry es) (sym none) (All-nil g.F.EntryForm.is_entry);
    }

pub split_at-requires : goal.split_at-requires
split_at-requires g c = subst (λ w. w ≤ length c.loop.left.now) (sym c.WIDTH.ensures) (one_left g.F.EntryForm.form g.F.EntryForm.is_entry g.F.EntryForm.WIDTH g.met.F.EntryForm.wide _ _ _ c.loop-test.true c.loop.invariant.long)

pub loop-preserved : goal.loop-preserved
loop-preserved g c =
    let pushed = c.in_ok-push.ensures.items in
    let left_is : c.loop.left.now ≡ g.F.EntryForm.form c.read.result ++ c.split_at.result.1.now = c.split_at.ensures.by_index.0 ∙ ap (λ bs. bs ++ c.split_at.result.1.now) (sym c.read.ensures.form) in
    let back : length c.split_at.result.1.now + g.F.EntryForm.WIDTH ≡ length c.loop.left.now = ap (λ w. length c.split_at.result.1.now + w) (sym c.WIDTH.ensures) ∙ c.split_at.ensures.back_len in
    record {
      read = subst (λ es. flat_map g.F.EntryForm.form es ++ c.split_at.result.1.now ≡ c.args.bytes.now) (sym pushed) (read_more g.F.EntryForm.form g.F.EntryForm.is_entry g.F.EntryForm.WIDTH g.met.F.EntryForm.wide c.loop.entries.items c.read.result c.loop.left.now c.split_at.result.1.now c.args.bytes.now left_is c.loop.invariant.read);
      long = shorter_by g.F.EntryForm.form g.F.EntryForm.is_entry g.F.EntryForm.WIDTH g.met.F.EntryForm.wide (length c.loop.left.now) (length c.split_at.result.1.now) c.loop.counter c.args.n back c.loop.invariant.long;
      count = ap length pushed ∙ length_push c.loop.entries.items c.read.result ∙ ap (λ n. n + 1) c.loop.invariant.count;
      entries = subst (λ es. All g.F.EntryForm.is_entry es) (sym pushed) (All-push g.F.EntryForm.is_entry c.loop.entries.items c.read.result c.loop.invariant.entries c.read.ensures.entry);
    }
