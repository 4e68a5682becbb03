use Rattle.std.proofs.Common.{◌≡◌, List, ℕ, length, take, get_or, All, IsTrue, sym, ap, subst, ◌∙◌, arith}
use Rattle.std.proofs.lemmas.List.{take_more}
use Rattle.std.proofs.lemmas.List.Elements.{All-push}
use Rattle.std.proofs.Math.Seq.{take-length}
use Rattle.alg_core.specs.Names.{is_name}
use Rattle.poly_text.proofs.names.Names.tell.Goals as goal

pub loop-i-preserved : goal.loop-i-preserved
loop-i-preserved c =
    let names = c.args.self.now.vars in
    let i = c.loop-i.i in
    let same : c.self.inside.vars.items ≡ names = cc in
    let count : length c.self.inside.vars.items ≡ length names = ap length same in
    let name : List ℕ = c.index-name.result.now in
    subst (All (λ w. IsTrue (is_name w))) (sym (take_more names i name (omega (arith, c.loop-i-test.true, c.len-i-end.ensures))))
    (All-push (λ w. IsTrue (is_name w)) (take i names) (get_or names i name) c.loop-i.invariant (subst (λ (w : List ℕ). IsTrue (is_name w)) (c.index-name.ensures ∙ ap (λ l. get_or l i name) same) c.bytes.ensures.name))

pub returns : goal.returns
returns c =
    let names = c.args.self.now.vars in
    let same : c.self.inside.vars.items ≡ names = cc in
    let count : length c.self.inside.vars.items ≡ length names = ap length same in
    record { names = subst (All (λ w. IsTrue (is_name w))) (ap (λ (n : ℕ). take n names) (omega (arith, c.loop-i-test.false, c.loop-i.auto.i-end, c.len-i-end.ensures)) ∙ take-length names) c.loop-i.invariant }
