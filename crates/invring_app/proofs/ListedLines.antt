-- Texts with commas between them, one text more.
use Rattle.std.proofs.Common.{◌≡◌, ◌∙◌, ℕ, zero, suc, ◌+◌, ◌<◌, List, [], ◌∷◌, ◌++◌, length, get_or, take, map, refl, sym, ap, append_assoc, arith}
use Rattle.std.proofs.lemmas.List.{take_all, take_more, map-append}
use Rattle.invring_app.specs.Lines.{with_commas}

-- what one text more adds
added : List (List ℕ) → List ℕ → List ℕ
added [] t = t
added (x ∷ ts) t = 44 ∷ t

commas-push : (ts : List (List ℕ)) (t : List ℕ) → with_commas (ts ++ t ∷ []) ≡ with_commas ts ++ added ts t
unfolding added
commas-push [] t = refl
commas-push (x ∷ []) t = append_assoc x (44 ∷ []) t
commas-push (x ∷ y ∷ ts) t =
    ap (λ (u : List ℕ). (x ++ 44 ∷ []) ++ u) (commas-push (y ∷ ts) t)
    ∙ sym (append_assoc (x ++ 44 ∷ []) (with_commas (y ∷ ts)) (44 ∷ t))

module _ {X : Type 0} (f : X → List ℕ) (ps : List X) (i : ℕ) (x : X) (within : i < length ps) (is : x ≡ get_or ps i x) (title line : List ℕ)
    (before : line ≡ title ++ with_commas (map f (take i ps))) where
  more : map f (take (i + 1) ps) ≡ map f (take i ps) ++ f x ∷ []
  more = ap (map f) (take_more ps i x within) ∙ map-append f (take i ps) (get_or ps i x ∷ []) ∙ ap (λ (y : X). map f (take i ps) ++ f y ∷ []) (sym is)

  -- the line with what is added
  line-more : line ++ added (map f (take i ps)) (f x) ≡ title ++ with_commas (map f (take (i + 1) ps))
  line-more =
      ap (λ (t : List ℕ). t ++ added (map f (take i ps)) (f x)) before
      ∙ append_assoc title (with_commas (map f (take i ps))) (added (map f (take i ps)) (f x))
      ∙ ap (λ (t : List ℕ). title ++ t) (sym (commas-push (map f (take i ps)) (f x)))
      ∙ ap (λ (ts : List (List ℕ)). title ++ with_commas ts) (sym more)

  pub first_text : (line' : List ℕ) → i ≡ 0 → line' ≡ line ++ f x → line' ≡ title ++ with_commas (map f (take (i + 1) ps))
  unfolding added
  first_text line' none e =
      let nothing : map f (take i ps) ≡ [] = ap (λ (n : ℕ). map f (take n ps)) none in
      e ∙ ap (λ (ts : List (List ℕ)). line ++ added ts (f x)) (sym nothing) ∙ line-more

  pub next_text : (line' : List ℕ) → 0 < i → line' ≡ (line ++ 44 ∷ []) ++ f x → line' ≡ title ++ with_commas (map f (take (i + 1) ps))
  unfolding added
  next_text line' some e = e ∙ append_assoc line (44 ∷ []) (f x) ∙ ap (λ (t : List ℕ). line ++ t) (sym (some-added i some ps within)) ∙ line-more
    where
      some-added : (j : ℕ) → 0 < j → (qs : List X) → j < length qs → added (map f (take j qs)) (f x) ≡ 44 ∷ f x
      some-added zero h qs b = absurd (omega (arith, h))
      some-added (suc j) h [] b = absurd (omega (arith, b))
      some-added (suc j) h (q ∷ qs) b = refl

-- all texts
pub all_texts : {X : Type 0} (f : X → List ℕ) (ps : List X) (i : ℕ) (title line line' : List ℕ) → length ps ≡ i → line ≡ title ++ with_commas (map f (take i ps)) → line' ≡ line ++ 10 ∷ []
    → line' ≡ title ++ with_commas (map f ps) ++ 10 ∷ []
all_texts f ps i title line line' end is e =
    e ∙ ap (λ (t : List ℕ). t ++ 10 ∷ []) (is ∙ ap (λ qs. title ++ with_commas (map f qs)) (take_all i ps (omega (arith, end))))

pub map_twice : {X Y Z : Type 0} (g : Y → Z) (f : X → Y) (xs : List X) → map (λ x. g (f x)) xs ≡ map g (map f xs)
map_twice g f [] = refl
map_twice g f (x ∷ xs) = ap (λ zs. g (f x) ∷ zs) (map_twice g f xs)
