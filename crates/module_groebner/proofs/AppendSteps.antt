-- A new member with the pairs that it makes.
use Rattle.std.proofs.Common.{◌≡◌, ◌<◌, ◌+◌, ℕ, List, [], ◌∷◌, ◌++◌, length, get_or, sym, ap, ◌∙◌, refl, subst, arith, length-append, append-nil}
use Rattle.std.specs.Prelude.{Contains}
use Rattle.alg_core.specs.Lists.{In}
use Rattle.alg_core.specs.Vectors.{Entry}
use Rattle.module_groebner.specs.Progress.{Progress, lead_place}
use Rattle.module_groebner.specs.Completions.{IsPair, member_place}
use Rattle.module_groebner.specs.Items.{ArePairsWith, IsAppended, new_members}
use Rattle.module_groebner.proofs.Families.{all_in, in_all, get_front, get_last}

module _ {E : Type 0} where
  pub appended_nothing : (c : Progress E) (r : List (Entry E)) → r ≡ [] → IsAppended c c r
  appended_nothing c r e = record {
    weights = refl;
    shifts = refl;
    cap = refl;
    members = sym (append-nil c.members) ∙ ap (λ l. c.members ++ new_members l) (sym e);
    generators = refl;
    new_pairs = [];
    pairs = sym (append-nil c.pairs);
    are_pairs = in_all (IsPair c) [] (λ p i. absurd i);
    ends = in_all (λ p. p.1 ≡ length c.members) [] (λ p i. absurd i);
    every = λ p h e. absurd (let w = h.within in omega arith);
    few = omega arith;
  }

  new_is : (r : List (Entry E)) → ¬ (r ≡ []) → new_members r ≡ r ∷ []
  new_is [] n = absurd (n refl)
  new_is (e ∷ r) n = refl

  module _ (c d : Progress E) (r : List (Entry E)) (ps : List (ℕ × ℕ)) (made : ArePairsWith c r ps) (members : d.members ≡ c.members ++ (r ∷ [])) where
    before : (i : ℕ) → i < length c.members → member_place d i ≡ lead_place (get_or c.members i [])
    before i h = ap lead_place (ap (λ l. get_or l i []) members ∙ get_front [] c.members (r ∷ []) i h)

    last : member_place d (length c.members) ≡ lead_place r
    last = ap lead_place (ap (λ l. get_or l (length c.members) []) members ∙ get_last [] c.members r)

    many : length d.members ≡ length c.members + 1
    many = ap length members ∙ length-append c.members (r ∷ [])

    is_pair : (p : ℕ × ℕ) → In p made.new → IsPair d p
    is_pair p i =
        let low = all_in (λ q. q.0 < length c.members) made.new made.within p i in
        let end : p.1 ≡ length c.members = all_in (λ q. q.1 ≡ length c.members) made.new made.ends p i in
        let at = all_in (λ q. (lead_place (get_or c.members q.0 [])).0 ≡ (lead_place r).0) made.new made.positions p i in
        record {
          rising = omega arith;
          within = let m = many in omega arith;
          position = ap (λ z. z.0) (before p.0 low) ∙ at ∙ sym (ap (λ z. z.0) (ap (member_place d) end ∙ last));
        }

    every : (p : ℕ × ℕ) → IsPair d p → p.1 ≡ length c.members → Contains made.new p
    every p h e =
        let low : p.0 < length c.members = let x = h.rising in omega arith in
        subst (λ n. Contains made.new (p.0, n)) (sym e)
        (made.every p.0 low (sym (ap (λ z. z.0) (before p.0 low)) ∙ h.position ∙ ap (λ z. z.0) (ap (member_place d) e ∙ last)))

    pub appended_new : ¬ (r ≡ []) → d.weights ≡ c.weights → d.shifts ≡ c.shifts → d.cap ≡ c.cap → d.generators ≡ c.generators → d.pairs ≡ ps → IsAppended c d r
    appended_new n w s cap generators pairs = record {
      weights = w;
      shifts = s;
      cap = cap;
      members = members ∙ ap (λ l. c.members ++ l) (sym (new_is r n));
      generators = generators;
      new_pairs = made.new;
      pairs = pairs ∙ made.is;
      are_pairs = in_all (IsPair d) made.new is_pair;
      ends = made.ends;
      every = every;
      few = made.few;
    }
