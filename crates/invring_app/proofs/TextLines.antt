-- Lines of text, one after another.
use Rattle.std.proofs.Common.{◌≡◌, ℕ, zero, suc, ◌+◌, ◌<◌, ◌≤◌, List, [], ◌∷◌, ◌++◌, length, map, take, get_or, sym, ap, ap₂, ◌∙◌, refl, append-nil, arith}
use Rattle.std.proofs.lemmas.List.{append_assoc, take_more, map-append}
use Rattle.std.proofs.Math.Seq.{take-length}
use Rattle.alg_core.specs.Spaces.{SpaceOver}
use Rattle.alg_core.specs.Vectors.{Entry}
use Rattle.poly_text.specs.declared.names.Names.{Names}
use Rattle.poly_text.specs.Texts.{polynomial_text}
use Rattle.invring_app.specs.Lines.{polynomial_lines, power_line, power_lines}

module _ (title : List ℕ) (S : SpaceOver ℕ) (names : Names) where
  abbrev line : List (Entry ℕ) → List ℕ
  line e = title ++ (polynomial_text S names e ++ 10 ∷ [])

  -- one line more
  polynomials_more : (es : List (List (Entry ℕ))) (e : List (Entry ℕ)) → polynomial_lines title S names (es ++ e ∷ []) ≡ polynomial_lines title S names es ++ (title ++ (polynomial_text S names e ++ 10 ∷ []))
  polynomials_more [] e = append-nil (line e)
  polynomials_more (f ∷ es) e = ap (λ (l : List ℕ). line f ++ l) (polynomials_more es e) ∙ sym (append_assoc (line f) (polynomial_lines title S names es) (line e))

  -- a loop over the members adds one line a turn
  module _ {X : Type 0} (view : X → List (Entry ℕ)) (members : List X) where
    pub polynomials_next : (i : ℕ) (p : X) (old text seen first slice second new : List ℕ) → i < length members → p ≡ get_or members i p → old ≡ polynomial_lines title S names (map view (take i members)) → text ≡ polynomial_text S names (view p)
        → seen ≡ title → first ≡ old ++ seen → slice ≡ text → second ≡ first ++ slice → new ≡ second ++ 10 ∷ [] → new ≡ polynomial_lines title S names (map view (take (i + 1) members))
    polynomials_next i p old text seen first slice second new l is before printed named titles same extends pushed =
        pushed ∙ ap (λ (t : List ℕ). t ++ 10 ∷ []) (extends ∙ ap₂ ◌++◌ (titles ∙ ap₂ ◌++◌ before named) (same ∙ printed))
        ∙ append_assoc (done ++ title) (polynomial_text S names (view p)) (10 ∷ []) ∙ append_assoc done title (polynomial_text S names (view p) ++ 10 ∷ [])
        ∙ sym (polynomials_more (map view (take i members)) (view p))
        ∙ ap (polynomial_lines title S names) (sym (ap (map view) (take_more members i p l ∙ ap (λ (x : X). take i members ++ x ∷ []) (sym is)) ∙ map-append view (take i members) (p ∷ [])))
      where
        done : List ℕ
        done = polynomial_lines title S names (map view (take i members))

    pub polynomials_all : (i : ℕ) → i ≤ length members → length members ≤ i → polynomial_lines title S names (map view (take i members)) ≡ polynomial_lines title S names (map view members)
    polynomials_all i l m = ap (λ (t : List X). polynomial_lines title S names (map view t)) (ap (λ (n : ℕ). take n members) (omega arith) ∙ take-length members)

-- one power more
powers_more : (ws : List (List ℕ)) (es : List ℕ) (w : List ℕ) (e : ℕ) → length es ≡ length ws → power_lines (ws ++ w ∷ []) (es ++ e ∷ []) ≡ power_lines ws es ++ power_line w e
powers_more [] [] w e same = append-nil (power_line w e)
powers_more [] (d ∷ es) w e same = absurd (omega arith)
powers_more (v ∷ ws) [] w e same = absurd (omega arith)
powers_more (v ∷ ws) (d ∷ es) w e same = ap (λ (l : List ℕ). power_line v d ++ l) (powers_more ws es w e (omega arith)) ∙ sym (append_assoc (power_line v d) (power_lines ws es) (power_line w e))

module _ (ws : List (List ℕ)) (es : List ℕ) (same : length es ≡ length ws) where
  pub powers_next : (i : ℕ) (w : List ℕ) (e : ℕ) (old text slice new : List ℕ) → i < length ws → w ≡ get_or ws i w → e ≡ get_or es i 0 → old ≡ power_lines (take i ws) (take i es) → text ≡ power_line w e → slice ≡ text → new ≡ old ++ slice
      → new ≡ power_lines (take (i + 1) ws) (take (i + 1) es)
  powers_next i w e old text slice new l word exponent before is seen extends =
      let short : i < length es = omega arith in
      extends ∙ ap₂ ◌++◌ before (seen ∙ is) ∙ sym (powers_more (take i ws) (take i es) w e (length_take es i short ∙ sym (length_take ws i l)))
      ∙ ap₂ power_lines (ap (λ (x : List ℕ). take i ws ++ x ∷ []) word ∙ sym (take_more ws i w l)) (ap (λ (x : ℕ). take i es ++ x ∷ []) exponent ∙ sym (take_more es i 0 short))
    where
      length_take : {X : Type 0} (xs : List X) (n : ℕ) → n < length xs → length (take n xs) ≡ n
      length_take xs zero h = refl
      length_take [] (suc n) h = absurd (omega arith)
      length_take (x ∷ xs) (suc n) h = ap suc (length_take xs n (omega arith))

  pub powers_all : (i : ℕ) → i ≤ length ws → length ws ≤ i → power_lines (take i ws) (take i es) ≡ power_lines ws es
  powers_all i l m = ap₂ power_lines (ap (λ (n : ℕ). take n ws) (omega arith) ∙ take-length ws) (ap (λ (n : ℕ). take n es) (omega arith) ∙ take-length es)
