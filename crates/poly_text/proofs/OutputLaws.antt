-- Outputs and the bytes that were put on them.
use Rattle.std.proofs.Common.{◌≡◌, ℕ, ◌+◌, List, ◌++◌, length, length-append, sym, ap, subst, ◌∙◌, arith}
use Rattle.std.specs.Prelude.{min, Option, Result, IfOk}
use Rattle.std.specs.Global.{Vec}
use Rattle.poly_text.specs.Outputs.{OutputState, IsPut, Says, length_limit}

told_more : (a b : ℕ) → min (min a length_limit + b) length_limit ≡ min (a + b) length_limit
told_more a b = omega arith

-- more bytes after those that were put
pub says_put : (s t : OutputState) (o : Option (List ℕ)) (w x : List ℕ) → o ≡ s.kept → IsPut o x t.kept → t.length ≡ min (s.length + length x) length_limit → Says s w → Says t (w ++ x)
says_put s t o w x own put count says = record {
  kept = λ u is. let p = put u is in p.2 ∙ ap (λ l. l ++ x) (says.kept p.0 (sym own ∙ p.1));
  told = count ∙ ap (λ n. min (n + length x) length_limit) says.told ∙ told_more (length w) (length x) ∙ ap (λ n. min n length_limit) (sym (length-append w x));
}

-- the same output, and the same bytes
pub says_same : (s t : OutputState) (w x : List ℕ) → s ≡ t → w ≡ x → Says s w → Says t x
says_same s t w x state bytes says = subst (λ o. Says o x) state (subst (Says s) bytes says)

-- the bytes that were put, told in another way
pub printed_at : {E : Type 0} (r : Result (Vec ℕ) E) (w x : List ℕ) → w ≡ x → IfOk r (λ t. t.items ≡ w) → IfOk r (λ t. t.items ≡ x)
printed_at r w x same is = subst (λ l. IfOk r (λ t. t.items ≡ l)) same is
