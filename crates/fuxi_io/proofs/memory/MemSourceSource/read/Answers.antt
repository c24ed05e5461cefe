use Rattle.std.proofs.Common.{◌≡◌, min, length, take, drop, sym, ap, ◌∙◌}
use Rattle.std.proofs.lemmas.List.{take_rest}
use Rattle.fuxi_io.proofs.AppendsLemmas.{read_at}
use Rattle.fuxi_io.proofs.memory.MemSourceSource.read.Goals as goal

pub returns-clause-bytes : goal.returns-clause-bytes
returns-clause-bytes c =
    let bytes = c.self.inside.bytes.items in
    let at = c.self.inside.at in
    let n = c.min-n.result in
    let left : c.args.self.now.left ≡ drop at bytes = sym (ap (λ v. v.left) c.self.view_is) in
    let rest = take_rest c.deref-2.result.now at ∙ ap (λ l. drop at l) c.deref-2.ensures.value ∙ sym left in
    read_at bytes c.args.self.now.left c.args.buf.now c.copy_from_slice.new.self at n left
    (c.min-n.ensures ∙ ap (λ l. min (length c.args.buf.now) (length l)) rest) (c.copy_from_slice.ensures.after ∙ ap (λ l. take n l) rest)
