use Rattle.std.proofs.Common.{◌∙◌, sym, ap, drop, arith}
use Rattle.inv_outside.specs.Outside.{Reading}
use Rattle.inv_outside.proofs.Told.{drop-copied}
use Rattle.inv_outside.proofs.memory.MemSourceSource.read.Goals as goal

pub returns-clause-gave : goal.returns-clause-gave
returns-clause-gave c =
    let bytes = c.self.inside.bytes.items in
    let copied = rw c.deref.ensures.value at c.copy_from_slice.ensures.after in
    sym (ap (λ (s : Reading). s.left) c.self.view_is) ∙ drop-copied bytes c.copy_from_slice.new.self (drop c.min-count.result c.args.buf.now) c.self.inside.at c.min-count.result (omega arith) copied
