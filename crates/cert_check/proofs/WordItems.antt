-- Irreducible generators among the secondary invariants, and values of words: the loops that look for the first that is none.
use Rattle.std.proofs.Common.{◌≡◌, ◌∙◌, ℕ, Bool, ◌+◌, ◌<◌, ◌≤◌, List, length, get_or, refl, sym, ap, subst}
use Rattle.std.specs.Prelude.{◌↔◌, All, IsTrue, Some, false}
use Rattle.alg_core.specs.Lists.{In}
use Rattle.alg_core.specs.Spaces.{SpaceOver}
use Rattle.alg_core.specs.declared.term.Term.{Term}
use Rattle.poly_module.specs.SpaceVectors.{IsPoly, ArePolys, IsPolyOf, vector_of, vectors_of}
use Rattle.poly_module.specs.Substitutions.{substitute}
use Rattle.module_groebner.proofs.Families.{all_in}
use Rattle.secondary_gens.specs.Forms.{IsSmallForm}
use Rattle.cert_check.specs.Endings.{IsFirstFailing}
use Rattle.cert_check.specs.Parts.{At}
use Rattle.cert_check.proofs.Items.{HoldsTo, holds_first, holds_more, holds_all, first_failing, at_zero, at_past, at_read, at_same, at_in}
use Rattle.cert_check.proofs.MadeLists.{one_terms}
use Rattle.cert_check.proofs.MadePlaces.{place_in}

pub contrary : (b : Bool) → b ≡ false → ¬ IsTrue b
contrary b f t = cc

-- what each item says of its member
module _ {A : Type 0} (P : A → Type 0) (xs : List A) where
  abbrev pub Item : ℕ → Type 0
  Item i = (x : A) → At xs i x → P x

  pub none_yet : HoldsTo Item 0
  none_yet = holds_first Item (λ x at. absurd (at_zero xs x at))

  pub one_more : (j : ℕ) (x : A) → j < length xs → x ≡ get_or xs j x → P x → HoldsTo Item j → HoldsTo Item (j + 1)
  one_more j x l e h before = holds_more Item j before (λ y at. subst P (at_same xs (j + 1) x y (at_read xs j x l e) at) h)

  pub all_items : (j : ℕ) → length xs ≤ j → HoldsTo Item j → (i : ℕ) → Item i
  all_items j l before = holds_all Item j before (λ i past x at. absurd (at_past xs j i x l past at))

  pub failing_item : (j : ℕ) (x : A) → j < length xs → x ≡ get_or xs j x → ¬ P x → HoldsTo Item j → IsFirstFailing Item (Some (j + 1))
  failing_item j x l e h before = first_failing Item j before (λ item. h (item x (at_read xs j x l e)))

-- the member at a place
pub member_has : {A : Type 0} (P : A → Type 0) (xs : List A) (j : ℕ) (x : A) → j < length xs → x ≡ get_or xs j x → All P xs → P x
member_has P xs j x l e h = subst P (sym e) (h j x l)

module _ {E : Type 0} (S : SpaceOver E) where
  abbrev pub Terms : Type 0
  Terms = List (Term E (List ℕ))

  -- a member that is equal
  pub found_among : (f m : Terms) (list : List Terms) (j : ℕ) (b : Bool) → j < length list → m ≡ get_or list j m → IsPoly S (λ m. m) f → ArePolys S (λ m. m) list
      → IsTrue b ↔ (vector_of S (λ m. m) f ≡ vector_of S (λ m. m) m) → IsTrue b → In f list
  found_among f m list j b l e poly polys exact is =
      let at = at_read list j m l e in
      let here = place_in list at.0 m at.2 in
      let same = one_terms S m f (all_in (IsPoly S (λ m. m)) list polys m here).fits poly.fits (sym (exact.0 is)) in
      subst (λ g. In g list) same here

  pub other_member : (f m : Terms) (b : Bool) → IsTrue b ↔ (vector_of S (λ m. m) f ≡ vector_of S (λ m. m) m) → b ≡ false → ¬ (f ≡ m)
  other_member f m b exact not e = contrary b not (exact.1 (ap (vector_of S (λ m. m)) e))

  pub none_among : (f : Terms) (list : List Terms) → ((i : ℕ) → Item (λ m. ¬ (f ≡ m)) list i) → ¬ In f list
  none_among f list none i = let r = at_in list f i in none r.0 f r.1 refl

  pub member_form : (f : Terms) (forms : List Terms) → All (IsSmallForm S) forms → In f forms → IsSmallForm S f
  member_form f forms h i = all_in (IsSmallForm S) forms h f i

  -- the value of a word
  module _ (words images forms : List Terms) where
    abbrev pub HasValue : ℕ → Type 0
    HasValue j = (u s : Terms) → At words j u → At forms j s → substitute S.field (vectors_of S (λ m. m) images) (vector_of S (λ m. m) u) ≡ vector_of S (λ m. m) s

    pub no_word_yet : HoldsTo HasValue 0
    no_word_yet = holds_first HasValue (λ u s at. absurd (at_zero words u at))

    module _ (j : ℕ) (u s value : Terms) (b : Bool) (inside : j < length words) (within : j < length forms) (word : u ≡ get_or words j u) (form : s ≡ get_or forms j s)
        (is : IsPolyOf S (λ m. m) (substitute S.field (vectors_of S (λ m. m) images) (vector_of S (λ m. m) u)) value)
        (exact : IsTrue b ↔ (vector_of S (λ m. m) value ≡ vector_of S (λ m. m) s)) (before : HoldsTo HasValue j) where
      pub next_word : IsTrue b → HoldsTo HasValue (j + 1)
      next_word h = holds_more HasValue j before
          (λ v t at by. subst (λ w. substitute S.field (vectors_of S (λ m. m) images) (vector_of S (λ m. m) w) ≡ vector_of S (λ m. m) t) (at_same words (j + 1) u v (at_read words j u inside word) at)
          (sym is.is ∙ exact.0 h ∙ ap (vector_of S (λ m. m)) (at_same forms (j + 1) s t (at_read forms j s within form) by)))

      pub wrong_word : b ≡ false → IsFirstFailing HasValue (Some (j + 1))
      wrong_word h = first_failing HasValue j before
          (λ item. contrary b h (exact.1 (is.is ∙ item u s (at_read words j u inside word) (at_read forms j s within form))))

    pub all_words : (j : ℕ) → length words ≤ j → HoldsTo HasValue j → (i : ℕ) → HasValue i
    all_words j l before = holds_all HasValue j before (λ i past u s at. absurd (at_past words j i u l past at))
