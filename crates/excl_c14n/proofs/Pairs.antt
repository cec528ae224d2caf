-- Prefixes with their places, as the lists that they are kept in.
use Rattle.std.proofs.Common.{◌≡◌, ℕ, zero, suc, ◌<◌, ◌≤◌, List, [], ◌∷◌, length, get_or, map, Bor, refl, sym, ap, ◌∙◌, subst, arith}
use Rattle.std.specs.List.{insert}
use Rattle.std.proofs.lemmas.List.{get_or-map, length-map}
use Rattle.xml_spec.specs.Tree.{Nodes}
use Rattle.xml_spec.specs.Names.{Scope}
use Rattle.xml_spec.specs.Laws.{IsAscending}
use Rattle.xml_spec.specs.Canonical.{byte_order}
use Rattle.saml_tree.specs.NodeNames.{IsNameAt}
use Rattle.saml_tree.specs.declared.node.NameAt.{NameAt}
use Rattle.saml_tree.proofs.Lists.{all_at}
use Rattle.excl_c14n.specs.Texts.{texts}
use Rattle.excl_c14n.specs.Levels.{binding_in}
use Rattle.excl_c14n.specs.Pairs.{Pair, pairs_of, prefixes_in, binding_placed, IsPlaced, ArePlaced, AreThere, IsSorted}

pub pairs_length : (ps : List (Bor (List ℕ))) (places : List NameAt) → length places ≡ length ps → length (pairs_of ps places) ≡ length ps
pairs_length [] places e = refl
pairs_length (p ∷ ps) [] e = absurd (omega arith)
pairs_length (p ∷ ps) (x ∷ places) e = omega (arith, pairs_length ps places (omega arith))

pub pair_at : (ps : List (Bor (List ℕ))) (places : List NameAt) (i : ℕ) (d : Bor (List ℕ)) (x : NameAt) (e : Pair) → length places ≡ length ps →
    i < length ps → get_or (pairs_of ps places) i e ≡ ((get_or ps i d).now, get_or places i x)
pair_at [] places i d x e even h = absurd (omega arith)
pair_at (p ∷ ps) [] i d x e even h = absurd (omega arith)
pair_at (p ∷ ps) (y ∷ places) zero d x e even h = refl
pair_at (p ∷ ps) (y ∷ places) (suc i) d x e even h = pair_at ps places i d x e (omega arith) (omega arith)

-- the same where no prefix is at hand
place_at : (ps : List (Bor (List ℕ))) (places : List NameAt) (i : ℕ) (x : NameAt) (e : Pair) → length places ≡ length ps →
    i < length ps → get_or places i x ≡ (get_or (pairs_of ps places) i e).1
place_at [] places i x e even h = absurd (omega arith)
place_at (p ∷ ps) [] i x e even h = absurd (omega arith)
place_at (p ∷ ps) (y ∷ places) zero x e even h = refl
place_at (p ∷ ps) (y ∷ places) (suc i) x e even h = place_at ps places i x e (omega arith) (omega arith)

pub prefixes_are : (ps : List (Bor (List ℕ))) (places : List NameAt) → length places ≡ length ps → prefixes_in (pairs_of ps places) ≡ texts ps
prefixes_are [] places e = refl
prefixes_are (p ∷ ps) [] e = absurd (omega arith)
prefixes_are (p ∷ ps) (x ∷ places) e = ap (λ qs. p.now ∷ qs) (prefixes_are ps places (omega arith))

placed_insert : (tree : Nodes) (scope : Scope) (ps : List (Bor (List ℕ))) (places : List NameAt) (k : ℕ) (p : Bor (List ℕ)) (x : NameAt) →
    length places ≡ length ps → k ≤ length ps → ArePlaced tree scope (pairs_of ps places) → IsPlaced tree scope (p.now, x) →
    ArePlaced tree scope (pairs_of (insert ps k p) (insert places k x))
placed_insert tree scope ps places zero p x even h all one = (one, all)
placed_insert tree scope [] places (suc k) p x even h all one = absurd (omega arith)
placed_insert tree scope (q ∷ ps) [] (suc k) p x even h all one = absurd (omega arith)
placed_insert tree scope (q ∷ ps) (y ∷ places) (suc k) p x even h all one =
    (all.0, placed_insert tree scope ps places k p x (omega arith) (omega arith) all.1 one)

-- one more of each
pub still_sorted : (ps : List (Bor (List ℕ))) (places : List NameAt) (others : List (Bor (List ℕ))) (more : List NameAt) → IsSorted ps places →
    length more ≡ suc (length places) → length others ≡ suc (length ps) → IsAscending byte_order (texts others) → IsSorted others more
still_sorted ps places others more sorted one other up = let even = sorted.even in record { even = omega arith; ascending = up }

-- seen as pairs
module _ (ps : List (Bor (List ℕ))) (places : List NameAt) (pairs : List Pair) (sorted : IsSorted ps places) (view : pairs_of ps places ≡ pairs) where
  pub pairs_count : length ps ≡ length pairs
  pairs_count = sym (pairs_length ps places sorted.even) ∙ ap length view

  pub pairs_prefixes : texts ps ≡ prefixes_in pairs
  pairs_prefixes = sym (prefixes_are ps places sorted.even) ∙ ap prefixes_in view

  pub pair_found : (i : ℕ) (d : Bor (List ℕ)) (x : NameAt) (e : Pair) → i < length pairs → ((get_or ps i d).now, get_or places i x) ≡ get_or pairs i e
  pair_found i d x e h =
      sym (pair_at ps places i d x e sorted.even (omega (arith, pairs_count))) ∙ ap (λ (list : List Pair). get_or list i e) view

  pub place_found : (i : ℕ) (place : NameAt) (e : Pair) → i < length pairs → get_or places i place ≡ (get_or pairs i e).1
  place_found i place e h =
      place_at ps places i place e sorted.even (omega (arith, pairs_count)) ∙ ap (λ (list : List Pair). (get_or list i e).1) view

  pub placed_more : (tree : Nodes) (scope : Scope) (k : ℕ) (p : Bor (List ℕ)) (x : NameAt) (others : List (Bor (List ℕ))) (more : List NameAt) →
      others ≡ insert ps k p → more ≡ insert places k x → k ≤ length ps → ArePlaced tree scope pairs → IsPlaced tree scope (p.now, x) →
      ArePlaced tree scope (pairs_of others more)
  placed_more tree scope k p x others more put kept h all one =
      subst (ArePlaced tree scope) (λ i. pairs_of (sym put i) (sym kept i))
      (placed_insert tree scope ps places k p x sorted.even h (subst (ArePlaced tree scope) (sym view) all) one)

-- what is placed, as bindings of a scope
pub bindings_are : (tree : Nodes) (scope : Scope) (pairs : List Pair) → ArePlaced tree scope pairs →
    map (binding_placed tree) pairs ≡ map (binding_in scope) (prefixes_in pairs)
bindings_are tree scope [] all = refl
bindings_are tree scope (pair ∷ pairs) all =
    λ i. record { prefix = pair.0; namespace = all.0.is i } ∷ bindings_are tree scope pairs all.1 i

pub there_are : (tree : Nodes) (scope : Scope) (pairs : List Pair) → ArePlaced tree scope pairs → AreThere tree pairs
there_are tree scope [] all = tt
there_are tree scope (pair ∷ pairs) all = (all.0.there, there_are tree scope pairs all.1)

pub placed_at : (tree : Nodes) (scope : Scope) (pairs : List Pair) (i : ℕ) (prefix : List ℕ) (place : NameAt) → ArePlaced tree scope pairs → i < length pairs →
    ((d : Pair) → prefix ≡ (get_or pairs i d).0) → ((d : Pair) → place ≡ (get_or pairs i d).1) → IsPlaced tree scope (prefix, place)
placed_at tree scope pairs i prefix place all h is at =
    let d : Pair = (prefix, place) in
    subst (IsPlaced tree scope) (λ j. (sym (is d) j, sym (at d) j)) (all_at (IsPlaced tree scope) pairs i d all h)

pub there_at : (tree : Nodes) (pairs : List Pair) (i : ℕ) (prefix : List ℕ) (place : NameAt) → AreThere tree pairs → i < length pairs →
    ((d : Pair) → place ≡ (get_or pairs i d).1) → IsNameAt tree place
there_at tree pairs i prefix place all h at =
    let d : Pair = (prefix, place) in
    subst (IsNameAt tree) (sym (at d)) (all_at (λ (pair : Pair). IsNameAt tree pair.1) pairs i d all h)

pub prefix_at : (pairs : List Pair) (i : ℕ) (prefix : List ℕ) (place : NameAt) → i < length pairs → ((d : Pair) → prefix ≡ (get_or pairs i d).0) →
    prefix ≡ get_or (prefixes_in pairs) i []
prefix_at pairs i prefix place h is =
    let d : Pair = (prefix, place) in is d ∙ sym (get_or-map (λ (pair : Pair). pair.0) pairs i d [] h)

pub prefixes_count : (pairs : List Pair) → length (prefixes_in pairs) ≡ length pairs
prefixes_count pairs = length-map pairs (λ (pair : Pair). pair.0)
